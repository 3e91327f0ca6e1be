-- One component's line more.
use Rattle.std.proofs.Common.{◌≡◌, ℕ, ◌+◌, ◌<◌, List, [], ◌∷◌, ◌++◌, length, get_or, take, arith}
use Rattle.std.proofs.lemmas.Grind.{common_steps}
use Rattle.std.proofs.lemmas.List.{take_more, length-take}
use Rattle.statement.specs.declared.charge.ComponentCharge.{ComponentCharge}
use Rattle.charges_text.specs.Printed.{component_line, component_lines}

lines_push : (number : ℕ) (cs : List ComponentCharge) (c : ComponentCharge) → component_lines number (cs ++ c ∷ []) ≡ component_lines number cs ++ component_line (number + length cs) c
lines_push number [] c = grind (arith, common_steps)
lines_push number (d ∷ cs) c = grind (arith, common_steps, lines_push (number + 1) cs c)

pub lines_more : (cs : List ComponentCharge) (i : ℕ) (d : ComponentCharge) → i < length cs → component_lines 1 (take i cs) ++ component_line (i + 1) (get_or cs i d) ≡ component_lines 1 (take (i + 1) cs)
lines_more cs i d h = grind (arith, common_steps, lines_push 1 (take i cs) (get_or cs i d), take_more cs i d h, length-take i cs)
