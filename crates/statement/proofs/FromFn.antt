-- An array that a closure made place by place, where each call leaves the closure as it was.
use denote.Param.Members.{Mut, Called}
use Rattle.std.proofs.Common.{◌≡◌, ℕ, zero, suc, ◌+◌, ◌<◌, ◌≤◌, List, get_or, subst, ◌∙◌, ⊎_elim, arith}
use Rattle.std.proofs.lemmas.Bool.{cases_eq}
use Rattle.std.specs.Array.{IsFromFnResultFrom}

pub made_from : {F B : Type 0} (m : Mut F (ℕ × Unit {0}) B) (f : F) (ys : List B) (h : ℕ → B) (d : B) → ((j : ℕ) (y : B) (q : F) → Called m f (j, tt) y q → (q ≡ f) × (y ≡ h j))
    → (n i : ℕ) → IsFromFnResultFrom m f ys i n → (j : ℕ) → i ≤ j → j < i + n → get_or ys j d ≡ h j
made_from m f ys h d pure zero i e j low high = absurd (omega arith)
made_from {F} m f ys h d pure (suc n) i e j low high =
    let s = pure i e.1 e.0 e.3 in
    ⊎_elim
    (λ (same : j ≡ i). rw same (e.2.1 d ∙ s.1))
    (λ (other : j ≡ i → ⊥). made_from m f ys h d pure n (i + 1) (subst (λ (q : F). IsFromFnResultFrom m q ys (i + 1) n) s.0 e.4) j (omega arith) (omega arith))
    (cases_eq j i)
