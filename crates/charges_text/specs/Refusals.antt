-- The line that is printed of a refusal.
use Rattle.std.specs.Prelude.{ℕ, cond, List, ◌++◌, codes, decimal, ◌==◌}
use Rattle.refusal.specs.declared.Layer.{Layer}
use Rattle.refusal.specs.declared.Layer.TheVariants as layer

-- the text's line, where its reader refused: by any refusal of the text, or by a sheet's weights
abbrev pub line_of : Layer → ℕ → ℕ → ℕ
line_of layer.Text number place = place
line_of layer.Sheet number place = cond (number == 3) place 0
line_of layer.Voucher number place = 0
line_of layer.Book number place = 0
line_of layer.Ledger number place = 0
line_of layer.Ferc number place = 0

abbrev pub refusal_line : ℕ → Layer → ℕ → List ℕ
refusal_line number l place =
    codes "refused=" ++ (decimal number ++ (codes "," ++ (decimal (line_of l number place) ++ codes "\n")))
