use Rattle.std.proofs.Common.{◌≡◌, drop}
use Rattle.month_text.specs.Lines.{past}
use Rattle.month_text.proofs.lines.after_word.Given as goal

-- the rest of the word, asked of the rest of the text
abbrev pub invariant-loop-letter : goal.invariant-loop-letter
invariant-loop-letter l = past l.word l.s ≡ past (drop l.letter-index l.word) l.rest
