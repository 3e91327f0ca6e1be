-- What a rule's laws say of its shares: d is the rule's step, and ss are its shares of a pool p by units us.
use Rattle.std.proofs.Common.{◌≡◌, ℕ, ◌+◌, ◌≤◌, true, false, List, length, get_or, take, ℤ, pos, ◌-ℤ◌, nat_abs, sum, ap, ◌∙◌, subst, ⊎_elim, arith}
use borrow.Author.Differences.{ints}
use Rattle.std.proofs.lemmas.List.{take_all}
use Rattle.std.proofs.lemmas.List.Sums.{sum_by-take-le}
use Rattle.std.proofs.lemmas.Bool.{cases_Bool}
use Rattle.cents.specs.Cutting.{sum_z}
use Rattle.sharing.specs.Domain.{shareable}
use Rattle.sharing.specs.Shares.{no_shares}
use Rattle.sharing.specs.Tolerance.{EachNear, NearTogether, slack}
use Rattle.sharing.specs.LawsOfRules.{in_domain_lem, none_at}
use Rattle.sharing.proofs.Members.{unit_le, none_sum}
use Rattle.sharing.proofs.Tolerances.{near_front, near_small, near_whole}
use Rattle.limits.specs.declared.TheConstants.{MOST_SHARED}

-- what the laws `idle` and `fair` say at one pool and one list of units
abbrev pub Idle : ℤ → List ℕ → List ℤ → Type 0
Idle p us ss = shareable p us ≡ false → ss ≡ no_shares us

abbrev pub Fair : ℕ → ℤ → List ℕ → List ℤ → Type 0
Fair d p us ss = shareable p us ≡ true → EachNear d p us ss

-- the first k shares lie near the part of the first k members
pub front_near : (d : ℕ) (p : ℤ) (us : List ℕ) (ss : List ℤ) → length ss ≡ length us → Fair d p us ss → shareable p us ≡ true
    → (k : ℕ) → NearTogether k d p (sum us) (sum (take k us)) (sum_z (take k ss))
front_near d p us ss l h e k = near_front d p (sum us) us ss l (h e) k

share_in : (d : ℕ) (p : ℤ) (us : List ℕ) (ss : List ℤ) → d ≤ 100 → Fair d p us ss → (m : ℕ) → shareable p us ≡ true → nat_abs (get_or ss m (pos 0)) ≤ MOST_SHARED + 1
share_in d p us ss hd h m e =
    let i = in_domain_lem p (sum us) e in
    near_small 1 d p (sum us) (get_or us m 0) (get_or ss m (pos 0)) hd i.0 i.1 i.2 (unit_le us m) (h e m)

share_out : (p : ℤ) (us : List ℕ) (ss : List ℤ) → Idle p us ss → (m : ℕ) → shareable p us ≡ false → nat_abs (get_or ss m (pos 0)) ≤ MOST_SHARED + 1
share_out p us ss z m e = omega (arith, ints, ap (λ (xs : List ℤ). get_or xs m (pos 0)) (z e) ∙ none_at us m)

-- what a member bears
pub share_small : (d : ℕ) (p : ℤ) (us : List ℕ) (ss : List ℤ) → d ≤ 100 → Idle p us ss → Fair d p us ss → (m : ℕ) → nat_abs (get_or ss m (pos 0)) ≤ MOST_SHARED + 1
share_small d p us ss hd z h m = ⊎_elim (share_in d p us ss hd h m) (share_out p us ss z m) (cases_Bool (shareable p us))

front_in : (d : ℕ) (p : ℤ) (us : List ℕ) (ss : List ℤ) → d ≤ 100 → length ss ≡ length us → Fair d p us ss → (k : ℕ) → shareable p us ≡ true
    → nat_abs (sum_z (take k ss)) ≤ MOST_SHARED + k
front_in d p us ss hd l h k e =
    let i = in_domain_lem p (sum us) e in
    near_small k d p (sum us) (sum (take k us)) (sum_z (take k ss)) hd i.0 i.1 i.2 (sum_by-take-le (λ x. x) us k) (front_near d p us ss l h e k)

front_out : (p : ℤ) (us : List ℕ) (ss : List ℤ) → Idle p us ss → (k : ℕ) → shareable p us ≡ false → nat_abs (sum_z (take k ss)) ≤ MOST_SHARED + k
front_out p us ss z k e = omega (arith, ints, ap (λ (xs : List ℤ). sum_z (take k xs)) (z e) ∙ none_sum us k)

-- what the first k members bear together
pub front_small : (d : ℕ) (p : ℤ) (us : List ℕ) (ss : List ℤ) → d ≤ 100 → length ss ≡ length us → Idle p us ss → Fair d p us ss
    → (k : ℕ) → nat_abs (sum_z (take k ss)) ≤ MOST_SHARED + k
front_small d p us ss hd l z h k = ⊎_elim (front_in d p us ss hd l h k) (front_out p us ss z k) (cases_Bool (shareable p us))

-- what all members bear together
pub whole_near : (d : ℕ) (p : ℤ) (us : List ℕ) (ss : List ℤ) → length ss ≡ length us → Fair d p us ss → shareable p us ≡ true
    → nat_abs (p -ℤ sum_z ss) ≤ slack (length us) d (sum us)
whole_near d p us ss l h e =
    let f = front_near d p us ss l h e (length us) in
    let u = ap sum (take_all (length us) us (omega arith)) in
    let s = ap sum_z (take_all (length us) ss (omega arith)) in
    let a = subst (λ (n : ℕ). NearTogether (length us) d p (sum us) n (sum_z (take (length us) ss))) u f in
    let b = subst (NearTogether (length us) d p (sum us) (sum us)) s a in
    near_whole (length us) d p (sum us) (sum_z ss) (in_domain_lem p (sum us) e).1 b
