-- What a bill leaves of the pools.
use Rattle.std.proofs.Common.{◌≡◌, ℕ, zero, suc, ◌-◌, ◌*◌, ◌%◌, ◌<◌, ◌≤◌, true, false, ltb, List, [], ◌∷◌, length, get_or, ℤ, pos, ◌-ℤ◌, nat_abs, sum, sym, refl, ap, ◌∙◌, subst, ⊎_elim, mul-le-mul, arith}
use borrow.Author.Differences.{ints}
use Rattle.std.proofs.lemmas.List.{length-append, length-set, get_or_append_left, get_or_at, get_or_past, take_all}
use Rattle.std.proofs.lemmas.Bool.{cases_Bool, cases_lt, cases_eq, cond_both, ltb-true}
use Rattle.cents.specs.Cutting.{sum_z}
use Rattle.sharing.specs.Domain.{shareable}
use Rattle.sharing.specs.Shares.{Shares, no_shares}
use Rattle.sharing.proofs.Members.{none_sum}
use Rattle.sharing.proofs.Lawful.{Idle, Fair, whole_near}
use Rattle.statement.specs.declared.charge.ComponentCharge.{ComponentCharge}
use Rattle.statement.specs.Columns.{kind_of, column}
use Rattle.statement.specs.Charges.{charged, component_charges}
use Rattle.ledger.specs.declared.account.Account.{Account}
use Rattle.ledger.specs.declared.accounts.Accounts.{Accounts}
use Rattle.ledger.specs.States.{account_at}
use Rattle.ledger.specs.Billing.{billed_account, closed}
use Rattle.ledger.proofs.Closed.{no_account, no_charge, billed_at, billed_length}
use Rattle.ledger.proofs.ByComponent.{column_length}
use Rattle.limits.specs.declared.TheConstants.{MONTHS_ON_FILE, MOST_CENTS, MOST_MEMBERS, MOST_UNITS}

-- what is left of a pool stays in the range of a balance
rest_in : (d : ℕ) (p : ℤ) (us : List ℕ) (ss : List ℤ) → d ≤ 100 → length ss ≡ length us → Fair d p us ss → sum us ≤ MOST_UNITS → length us ≤ MOST_MEMBERS → shareable p us ≡ true
    → nat_abs (p -ℤ sum_z ss) ≤ MOST_CENTS
rest_in d p us ss hd l h hu hn e =
    let w = whole_near d p us ss l h e in
    let m : d * sum us ≤ 100 * MOST_UNITS = mul-le-mul {n₂ = 100} {m₂ = MOST_UNITS} hd hu in
    omega (arith, w, m)

rest_out : (p : ℤ) (us : List ℕ) (ss : List ℤ) → Idle p us ss → nat_abs p ≤ MOST_CENTS → shareable p us ≡ false → nat_abs (p -ℤ sum_z ss) ≤ MOST_CENTS
rest_out p us ss z hp e =
    let n = ap sum_z (z e) in
    let t = ap sum_z (take_all (length (no_shares us)) (no_shares us) (omega arith)) in
    omega (arith, ints, n, t, none_sum us (length (no_shares us)))

pub rest_small : (d : ℕ) (p : ℤ) (us : List ℕ) (ss : List ℤ) → d ≤ 100 → length ss ≡ length us → Idle p us ss → Fair d p us ss → nat_abs p ≤ MOST_CENTS → sum us ≤ MOST_UNITS → length us ≤ MOST_MEMBERS
    → nat_abs (p -ℤ sum_z ss) ≤ MOST_CENTS
rest_small d p us ss hd l z h hp hu hn = ⊎_elim (rest_in d p us ss hd l h hu hn) (rest_out p us ss z hp) (cases_Bool (shareable p us))

module _ (shares : Shares) (pools : List ℤ) (rows : List (List ℕ)) where
  pub components_length : (n : ℕ) → length (component_charges shares pools rows n) ≡ n
  unfolding component_charges
  components_length zero = refl
  components_length (suc n) = length-append (component_charges shares pools rows n) (charged shares pools rows n ∷ []) ∙ omega (arith, components_length n)

  pub components_at : (n c : ℕ) → c < n → get_or (component_charges shares pools rows n) c no_charge ≡ charged shares pools rows c
  unfolding component_charges
  components_at zero c l = absurd (omega arith)
  components_at (suc n) c l =
      let last = charged shares pools rows n ∷ [] in
      ⊎_elim
      (λ (e : c ≡ n). rw e (get_or_at (component_charges shares pools rows n) (charged shares pools rows n) [] no_charge n (components_length n)))
      (λ (e : c ≡ n → ⊥). get_or_append_left (component_charges shares pools rows n) last no_charge c (omega (arith, components_length n)) ∙ components_at n c (omega arith))
      (cases_eq c n)

module _ (charges : List ComponentCharge) (a : Accounts) (lc : length charges ≡ 13) (la : length a.rows ≡ 13) where
  pub closed_long : length (closed charges a).rows ≡ 13
  closed_long = billed_length (a.month % MONTHS_ON_FILE) charges a.rows (omega arith) ∙ la

  pub closed_at : (c : ℕ) → c < 13 → account_at (closed charges a) c ≡ billed_account (a.month % MONTHS_ON_FILE) (get_or charges c no_charge) (account_at a c)
  closed_at c l = billed_at (a.month % MONTHS_ON_FILE) charges a.rows c (omega arith) (omega arith)

  pub closed_slots : ((c : ℕ) → c < 13 → length (account_at a c).pools ≡ MONTHS_ON_FILE) → (c : ℕ) → c < 13 → length (account_at (closed charges a) c).pools ≡ MONTHS_ON_FILE
  closed_slots h c l = ap (λ (x : Account). length x.pools) (closed_at c l) ∙ length-set (account_at a c).pools _ _ ∙ h c l

  pub closed_small : (n : ℕ) → ((c : ℕ) → c < 13 → nat_abs (get_or charges c no_charge).balance ≤ n) → (c : ℕ) → nat_abs (account_at (closed charges a) c).balance ≤ n
  closed_small n h c =
      ⊎_elim
      (λ (l : c < 13). subst (λ (x : Account). nat_abs x.balance ≤ n) (sym (closed_at c l)) (h c l))
      (λ (l : 13 ≤ c). subst (λ (x : Account). nat_abs x.balance ≤ n) (sym (get_or_past (closed charges a).rows c no_account (omega (arith, closed_long)))) (omega arith))
      (cases_lt c 13)

pub kind_below : (c : ℕ) → c < 13 → kind_of c < 7
kind_below c l = cond_both (ltb c 7) c (c - 7) (λ k. k < 7) (λ e. ltb-true c 7 e) (λ e. omega arith)

-- every component's rest, by any rule
pub rests_small : (shares : Shares) (step : ℕ) → step ≤ 100 → ((p : ℤ) (us : List ℕ) → length (shares p us) ≡ length us) → ((p : ℤ) (us : List ℕ) → Idle p us (shares p us)) → ((p : ℤ) (us : List ℕ) → Fair step p us (shares p us))
    → (pools : List ℤ) (rows : List (List ℕ)) → length rows ≤ MOST_MEMBERS → ((c : ℕ) → nat_abs (get_or pools c (pos 0)) ≤ MOST_CENTS) → ((k : ℕ) → k < 7 → sum (column rows k) ≤ MOST_UNITS)
    → (c : ℕ) → c < 13 → nat_abs (get_or (component_charges shares pools rows 13) c no_charge).balance ≤ MOST_CENTS
rests_small shares step hd long idle fair pools rows few hp hu c l =
    let p = get_or pools c (pos 0) in
    let us = column rows (kind_of c) in
    subst (λ (x : ComponentCharge). nat_abs x.balance ≤ MOST_CENTS) (sym (components_at shares pools rows 13 c l))
    (rest_small step p us (shares p us) hd (long p us) (idle p us) (fair p us) (hp c) (hu (kind_of c) (kind_below c l)) (omega (arith, column_length rows (kind_of c))))
