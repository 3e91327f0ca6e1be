-- A test that gives a value or nothing: what it gave says how the test came out.
use Rattle.std.proofs.Common.{◌≡◌, Bool, true, false, cond, Some, None, sym, ◌∙◌}
use Rattle.std.proofs.lemmas.Bool.{cond-true, false_from_ne_true}
use Rattle.std.proofs.lemmas.Option.{none-some, cond_some as cond_some_turned}

pub cond_none : {X : Type 0} (b : Bool) (x : X) → None ≡ cond b (Some x) None → b ≡ false
cond_none b x e = false_from_ne_true b (λ t. none-some x (e ∙ cond-true b (Some x) None t))

pub cond_some : {X : Type 0} (b : Bool) (x y : X) → Some y ≡ cond b (Some x) None → (b ≡ true) × (y ≡ x)
cond_some b x y e = let p = cond_some_turned b x y (sym e) in (p.0, sym p.1)
