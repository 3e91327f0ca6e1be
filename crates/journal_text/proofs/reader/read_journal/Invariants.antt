use Rattle.std.proofs.Common.{◌≡◌, length, slice_get}
use Rattle.std.specs.List.{All}
use Rattle.month_text.specs.Accepted.{InRange}
use Rattle.journal_text.specs.declared.entry.Entry.{Entry}
use Rattle.journal_text.specs.Journals.{read_journal}
use Rattle.journal_text.proofs.Reading.{ahead, read_rest}
use Rattle.journal_text.proofs.reader.read_journal.Given as goal

-- what the journal says: the entries so far, and those of the rest
abbrev pub invariant-loop-piece : goal.invariant-loop-piece
invariant-loop-piece l = record {
  answered : read_journal l.text ≡ ahead l.entries.items (read_rest (slice_get l.entries.items 0) l.line l.rest);
  range : All (λ (e : Entry). InRange e.month) l.entries.items;
}

abbrev pub decreases-loop-piece : goal.decreases-loop-piece
decreases-loop-piece l = length l.rest
