-- What a journal says: its entries in their order, or the first line that is refused.
use Rattle.std.specs.Prelude.{ℕ, Bool, true, cond, List, [], ◌∷◌, Some, None, Option}
use Rattle.refusal.specs.Answers.{Answer, next}
use Rattle.month_text.specs.declared.month.Month.{Month}
use Rattle.month_text.specs.Numbers.{bind}
use Rattle.month_text.specs.Ranges.{off_layout, out_of_range, or_else}
use Rattle.month_text.specs.Months.{read_month}
use Rattle.journal_text.specs.declared.entry.Action.{Action}
use Rattle.journal_text.specs.declared.entry.Action.TheVariants.{Bill, Resettle}
use Rattle.journal_text.specs.declared.entry.Entry.{Entry}
use Rattle.journal_text.specs.Pieces.{Piece, lines, action_of, month_of, lines_on, pieces}
use Rattle.journal_text.specs.Terms.{same_terms}

-- a month's refusal is at that line of the whole journal
abbrev pub at_line : {T : Type 0} → ℕ → Answer T → Answer T
at_line line (Answer.done v) = Answer.done v
at_line line (Answer.refused n l p) = Answer.refused n l (lines_on line p)

-- nothing was billed before the first entry: a resettlement cannot be that one
abbrev pub after_first : Option Entry → Action → Option Action
after_first (Some first) a = Some a
after_first None Bill = Some Bill
after_first None (Resettle n) = None

-- the first entry's terms bind the later ones
abbrev pub terms_hold : Option Entry → Month → Bool
terms_hold None m = true
terms_hold (Some first) m = same_terms first.month m

-- the entry at a line: what it asks for, and its month
abbrev pub line_entry : ℕ → Action → Month → Entry
line_entry line action month = record { action = action; line = line; month = month }

-- the entry of a piece: its own line, then its month's text, then its terms
abbrev pub entry_of : Option Entry → Piece → Answer Entry
entry_of first p =
    or_else (bind (action_of p.line) (after_first first)) (off_layout p.number) (λ a.
    next (at_line p.number (read_month p.month)) (λ m.
    cond (terms_hold first m) (Answer.done (line_entry p.number a m)) (out_of_range p.number)))

abbrev pub or_first : Option Entry → Entry → Entry
or_first None e = e
or_first (Some first) e = first

-- the entries of all pieces, where one before them may be the first
abbrev pub entries_of : Option Entry → List Piece → Answer (List Entry)
entries_of first [] = Answer.done []
entries_of first (p ∷ ps) =
    next (entry_of first p) (λ e. next (entries_of (Some (or_first first e)) ps) (λ es. Answer.done (e ∷ es)))

-- a journal has an entry, and nothing stands before the first one
abbrev pub journal_of : List ℕ → List Piece → Answer (List Entry)
journal_of [] (p ∷ ps) = entries_of None (p ∷ ps)
journal_of [] [] = off_layout 1
journal_of (c ∷ cs) ps = off_layout 1

abbrev pub read_journal : List ℕ → Answer (List Entry)
read_journal text = journal_of (month_of (lines text)) (pieces 1 (lines text))
