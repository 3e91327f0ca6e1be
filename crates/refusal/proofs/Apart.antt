-- An accepted answer is never a refused one.
use Rattle.std.proofs.Common.{◌≡◌, ℕ}
use Rattle.refusal.specs.Answers.{done, refused}
use Rattle.refusal.specs.declared.Layer.{Layer}

pub refused_done : {T : Type 0} (n : ℕ) (l : Layer) (p : ℕ) (v : T) → refused n l p ≡ done v → ⊥
refused_done n l p v e = cc

pub done_refused : {T : Type 0} (v : T) (n : ℕ) (l : Layer) (p : ℕ) → done v ≡ refused n l p → ⊥
done_refused v n l p e = cc
