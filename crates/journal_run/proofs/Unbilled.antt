-- The cents that are unbilled yet, and the lines of the account.
use mir.Syntax.{w128}
use Rattle.std.proofs.Common.{◌≡◌, ℕ, ◌*◌, ◌^◌, ◌≤◌, ℤ, ◌+ℤ◌, nat_abs, to_z, of_z, SFits, refl, ◌∙◌, List, ◌++◌, codes, append_assoc, ap, arith, pos, negsuc}
use Rattle.std.specs.Fmt.{signed_decimal}
use borrow.Author.Differences.{ints}
use lib.Signed.{mag}
use Rattle.std.proofs.lemmas.Int.{to_z-of_z}

mag_abs : (z : ℤ) → mag z ≤ nat_abs z
mag_abs (pos n) = omega arith
mag_abs (negsuc n) = omega arith

-- thirteen balances and six heads add up within 128 bits
pub unbilled_sum : (b w x y : ℤ) → SFits w128 b → SFits w128 w → b ≡ x → w ≡ y → nat_abs b ≤ (2 ^ 63) * 13 → nat_abs w ≤ (2 ^ 63) * 6
    → to_z w128 (of_z w128 (to_z w128 (of_z w128 b) +ℤ to_z w128 (of_z w128 w))) ≡ x +ℤ y
unbilled_sum b w x y fb fw eb ew nb nw =
    let n : nat_abs (b +ℤ w) ≤ (2 ^ 63) * 19 = omega (arith, ints, nb, nw) in
    let fs : SFits w128 (b +ℤ w) = record { sfits = omega (arith, n, mag_abs (b +ℤ w)) } in
    rw (to_z-of_z w128 b fb, to_z-of_z w128 w fw) (to_z-of_z w128 (b +ℤ w) fs ∙ rw (eb, ew) refl)

-- the lines are written in two parts
pub joined : (a b p q n rest : List ℕ) → (a ++ (b ++ (p ++ (q ++ n)))) ++ rest ≡ a ++ (b ++ (p ++ (q ++ (n ++ rest))))
joined a b p q n rest =
    append_assoc a _ rest ∙ ap (λ (t : List ℕ). a ++ t) (append_assoc b _ rest ∙ ap (λ (t : List ℕ). b ++ t) (append_assoc p _ rest ∙ ap (λ (t : List ℕ). p ++ t) (append_assoc q n rest)))

abbrev pub account_rest : ℤ → ℤ → List ℕ → List ℕ
account_rest balances waiting agree =
    codes "balances=" ++ (signed_decimal balances ++ (codes "\nwaiting=" ++ (signed_decimal waiting ++ (codes "\nagree=" ++ (agree ++ codes "\n")))))
