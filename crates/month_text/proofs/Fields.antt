-- One number more of a line, and a line that breaks off.
use Rattle.std.proofs.Common.{◌≡◌, ℕ, suc, Bool, List, [], ◌∷◌, ◌++◌, ℤ, Some, None, Option, refl, append_assoc}
use Rattle.month_text.specs.Numbers.{bind, integer_at}
use Rattle.month_text.specs.Lines.{past, stop, fields_at}

-- numbers already read, put before those that the rest gives
abbrev pub onto : {X Y : Type 0} → List X → Option (List X × Y) → Option (List X × Y)
onto xs None = None
onto xs (Some q) = Some (xs ++ q.0, q.1)

onto_more : {X Y : Type 0} (xs : List X) (x : X) (o : Option (List X × Y)) → onto xs (bind o (λ q. Some (x ∷ q.0, q.1))) ≡ onto (xs ++ x ∷ []) o
onto_more xs x None = refl
onto_more xs x (Some q) = rw append_assoc refl

pub fields_more : (signs : Bool) (k left : ℕ) (s : List ℕ) (z : ℤ) (t u : List ℕ) (xs : List ℤ) → k ≡ suc left → integer_at signs s ≡ Some (z, t) → past (stop left ∷ []) t ≡ Some u → onto xs (fields_at signs k s) ≡ onto (xs ++ z ∷ []) (fields_at signs left u)
fields_more signs k left s z t u xs e i p = rw (e, i, p) (onto_more xs z (fields_at signs left u))

pub fields_no_stop : (signs : Bool) (k left : ℕ) (s : List ℕ) (z : ℤ) (t : List ℕ) (xs : List ℤ) → k ≡ suc left → integer_at signs s ≡ Some (z, t) → past (stop left ∷ []) t ≡ None → onto xs (fields_at signs k s) ≡ None
fields_no_stop signs k left s z t xs e i p = rw (e, i, p) refl
