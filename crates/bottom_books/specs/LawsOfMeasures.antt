-- No definitions: what the law `small` of each Measure needs: a row makes at most 2,000,000,000 units of a kind.
use Rattle.std.specs.Prelude.{◌≡◌, ℕ, ◌*◌, ◌<◌, ◌≤◌, true, leb, List, [], ◌∷◌, length, Some, slice_index}
use Rattle.std.specs.List.{All}
use Rattle.std.proofs.Common.{mul-le-mul, arith, get_or, ⊎_elim}
use Rattle.std.proofs.lemmas.Bool.{leb-true, cases_lt}
use Rattle.std.proofs.lemmas.Grind.{common_steps}
use Rattle.std.proofs.lemmas.List.{get_or_past}
use Rattle.std.proofs.lemmas.List.Elements.{All-from_recursion}
use Rattle.std.proofs.lemmas.Option.{cond_some}
use Rattle.cents.specs.Passes.{all_pass}
use Rattle.cents.proofs.Passes.{pass_at}
use Rattle.units.specs.declared.facts.Facts.{Facts}
use Rattle.units.specs.Kinds.{lawful, kinds, units_of}
use Rattle.bottom_books.specs.declared.standing.Standing.{Standing}
use Rattle.bottom_books.specs.Standings.{standing_lawful, standing_kinds, standing_units}
use Rattle.bottom_books.specs.Given.{given_units}
use Rattle.limits.specs.declared.TheConstants.{MOST_DAYS, MOST_HOURS, MOST_MEGAWATTS, MOST_UNITS}

-- numbers that are all up to a bound are so at any place
at_most : (n : ℕ) (xs : List ℕ) → All (λ x. x ≤ n) xs → (k : ℕ) → slice_index xs k ≤ n
at_most n xs a k =
    ⊎_elim (λ (l : k < length xs). a k 0 l) (λ (l : length xs ≤ k). rw (get_or_past xs k 0 l) (omega arith)) (cases_lt k (length xs))

seven : (n a b c d e f g : ℕ) → a ≤ n → b ≤ n → c ≤ n → d ≤ n → e ≤ n → f ≤ n → g ≤ n
    → (k : ℕ) → slice_index (a ∷ b ∷ c ∷ d ∷ e ∷ f ∷ g ∷ []) k ≤ n
seven n a b c d e f g ha hb hc hd he hf hg =
    let row : List ℕ = a ∷ b ∷ c ∷ d ∷ e ∷ f ∷ g ∷ [] in
    at_most n row (All-from_recursion (λ x. x ≤ n) row (ha, (hb, (hc, (hd, (he, (hf, (hg, tt))))))))

pub facts_small : (f : Facts) (units : List ℕ) → units_of f ≡ Some units → (k : ℕ) → slice_index units k ≤ MOST_UNITS
facts_small f units e k =
    let c = cond_some (lawful f) (kinds f) units e in
    let l : lawful f ≡ true = c.0 in
    rw (← c.1)
    (seven MOST_UNITS _ _ _ _ _ _ _ (grind (arith, common_steps, l)) (grind (arith, common_steps, l)) (grind (arith, common_steps, l))
    (grind (arith, common_steps, l)) (grind (arith, common_steps, l)) (grind (arith, common_steps, l)) (grind (arith, common_steps, l)) k)

-- standing megawatts over a period, and the units that are given
pub standing_each : (hours days : ℕ) (s : Standing) → hours ≤ MOST_HOURS → days ≤ MOST_DAYS → standing_lawful s ≡ true
    → (s.transmission * hours ≤ MOST_HOURS * MOST_MEGAWATTS)
    × (s.ftr * hours ≤ MOST_HOURS * MOST_MEGAWATTS)
    × (s.bids ≤ MOST_UNITS)
    × (s.energy * hours ≤ MOST_HOURS * MOST_MEGAWATTS)
    × (s.segments ≤ MOST_UNITS)
    × (s.capacity * days ≤ MOST_DAYS * MOST_MEGAWATTS)
    × (s.invoices ≤ MOST_UNITS)
standing_each hours days s hh hd c = (
  mul-le-mul {n₂ = MOST_MEGAWATTS} {m₂ = MOST_HOURS} (grind (arith, common_steps, c)) hh,
  mul-le-mul {n₂ = MOST_MEGAWATTS} {m₂ = MOST_HOURS} (grind (arith, common_steps, c)) hh,
  grind (arith, common_steps, c),
  mul-le-mul {n₂ = MOST_MEGAWATTS} {m₂ = MOST_HOURS} (grind (arith, common_steps, c)) hh,
  grind (arith, common_steps, c),
  mul-le-mul {n₂ = MOST_MEGAWATTS} {m₂ = MOST_DAYS} (grind (arith, common_steps, c)) hd,
  grind (arith, common_steps, c),
)

pub standing_small : (hours days : ℕ) (s : Standing) (units : List ℕ) → hours ≤ MOST_HOURS → days ≤ MOST_DAYS
    → standing_units hours days s ≡ Some units → (k : ℕ) → slice_index units k ≤ MOST_UNITS
standing_small hours days s units hh hd e k =
    let c = cond_some (standing_lawful s) (standing_kinds hours days s) units e in
    let b = standing_each hours days s hh hd c.0 in
    rw (← c.1) (seven MOST_UNITS _ _ _ _ _ _ _ (omega (arith, b.0)) (omega (arith, b.1)) b.2 (omega (arith, b.3)) b.4 (omega (arith, b.5)) b.6 k)

pub given_small : (row units : List ℕ) → given_units row ≡ Some units → (k : ℕ) → slice_index units k ≤ MOST_UNITS
given_small row units e k =
    let c = cond_some (all_pass (λ n. leb n MOST_UNITS) row) row units e in
    rw (← c.1) (at_most MOST_UNITS row (λ i d l. leb-true (get_or row i d) MOST_UNITS (pass_at (λ n. leb n MOST_UNITS) row i d l c.0)) k)
