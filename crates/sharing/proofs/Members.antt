-- The members' units and shares, one member after the other.
use Rattle.std.proofs.Common.{◌≡◌, ℕ, zero, suc, ◌<◌, ◌≤◌, List, [], ◌∷◌, map, length, get_or, take, ℤ, pos, sum, sym, refl, ◌∙◌, ⊎_elim, arith}
use borrow.Author.Differences.{ints}
use Rattle.std.proofs.lemmas.Bool.{cases_lt}
use Rattle.std.proofs.lemmas.List.{ext_get_or, length-map, get_or-map, get_or_past}
use Rattle.std.proofs.lemmas.List.Sums.{get_or-le-sum_by}
use Rattle.cents.specs.Cutting.{sum_z}
use Rattle.sharing.specs.Shares.{no_shares}

-- a member's units are at most those of all
pub unit_le : (us : List ℕ) (m : ℕ) → get_or us m 0 ≤ sum us
unit_le us m =
    ⊎_elim
    (λ (l : m < length us). get_or-le-sum_by (λ x. x) us m 0 l)
    (λ (l : length us ≤ m). omega (arith, get_or_past us m 0 l))
    (cases_lt m (length us))

-- where nothing is shared, the first k members bear nothing together
pub none_sum : (us : List ℕ) (k : ℕ) → sum_z (take k (no_shares us)) ≡ pos 0
none_sum us zero = refl
none_sum [] (suc k) = refl
none_sum (u ∷ us) (suc k) = omega (arith, ints, none_sum us k)

-- shares that are at each place what a function makes of the units there
pub map_from_places : (f : ℕ → ℤ) (us : List ℕ) (ss : List ℤ) → length ss ≡ length us
    → ((m : ℕ) → m < length us → get_or ss m (pos 0) ≡ f (get_or us m 0)) → ss ≡ map f us
map_from_places f us ss e h =
    ext_get_or (pos 0) ss (map f us) (e ∙ sym (length-map us f))
    (λ m l. let k : m < length us = omega arith in h m k ∙ sym (get_or-map f us m 0 (pos 0) k))
