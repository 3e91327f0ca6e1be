-- A journal cut into pieces: each line that begins an entry, with the month's text after it.
use Rattle.std.specs.Prelude.{ℕ, ◌+◌, min, Bool, cond, ◌&&◌, ◌||◌, List, [], ◌∷◌, ◌++◌, Some, None, codes, Option, ◌==◌, nat_eq, nat_lt, bytes_eq}
use Rattle.std.specs.List.{starts_with}
use Rattle.month_text.specs.Numbers.{bind, number_at}
use Rattle.month_text.specs.Lines.{past}
use Rattle.journal_text.specs.declared.entry.Action.{Action}
use Rattle.journal_text.specs.declared.entry.Action.TheVariants.{Bill, Resettle}

-- one byte more in front of the first line
abbrev pub line_grown : ℕ → List (List ℕ) → List (List ℕ)
line_grown c [] = (c ∷ []) ∷ []
line_grown c (l ∷ ls) = (c ∷ l) ∷ ls

-- a text cut after each byte 10
abbrev pub lines : List ℕ → List (List ℕ)
lines [] = []
lines (c ∷ cs) = cond (c == 10) ((c ∷ []) ∷ lines cs) (line_grown c (lines cs))

-- a line that is meant to begin an entry
abbrev pub begins : List ℕ → Bool
begins l = starts_with nat_eq l (codes "bill") || starts_with nat_eq l (codes "resettle=")

-- a number of one to three digits, and byte 10
abbrev pub component_of : List ℕ → Option ℕ
component_of s = bind (number_at s) (λ p. cond (nat_lt p.0 1000 && bytes_eq p.1 (10 ∷ [])) (Some p.0) None)

-- what an entry's line asks for: it is `bill`, or `resettle=` and a component
abbrev pub action_of : List ℕ → Option Action
action_of l =
    cond (bytes_eq l (codes "bill\n"))
    (Some Bill)
    (bind (past (codes "resettle=") l) (λ s. bind (component_of s) (λ n. Some (Resettle n))))

-- what the first line asks for
abbrev pub first_action : List (List ℕ) → Option Action
first_action [] = None
first_action (l ∷ ls) = action_of l

-- the text of the lines before the next entry, and the lines from that entry on
abbrev pub month_of : List (List ℕ) → List ℕ
month_of [] = []
month_of (l ∷ ls) = cond (begins l) [] (l ++ month_of ls)

abbrev pub from_entry : List (List ℕ) → List (List ℕ)
from_entry [] = []
from_entry (l ∷ ls) = cond (begins l) (l ∷ ls) (from_entry ls)

-- lines are counted up to this
abbrev pub most_lines : ℕ
most_lines = 4294967295

-- the line some lines on
abbrev pub lines_on : ℕ → ℕ → ℕ
lines_on line count = min (line + count) most_lines

-- a piece: its line's number, its line, and its month's text
pub record Piece : Type 0 where
  pub number : ℕ
  pub line : List ℕ
  pub month : List ℕ

-- the pieces of lines, the first of which has the given number
abbrev pub pieces : ℕ → List (List ℕ) → List Piece
pieces n [] = []
pieces n (l ∷ ls) =
    cond (begins l)
    (record { number = n; line = l; month = month_of ls } ∷ pieces (lines_on n 1) ls)
    (pieces (lines_on n 1) ls)
