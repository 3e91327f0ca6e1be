-- What the reader of a journal answers: there may be no memory for the entries, whatever the text says.
use Rattle.std.specs.Prelude.{◌≡◌, Ok, Err, Result}
use Rattle.refusal.specs.Answers.{Answer, number}
use Rattle.journal_text.specs.declared.unread.Unread.{Unread}
use Rattle.journal_text.specs.declared.unread.Unread.TheVariants as unread

-- the value that the text gives, or the refusal that it gets, or no memory
abbrev pub Answered : {V S : Type 0} → (V → S) → Result V Unread → Answer S → Type 0
Answered value (Ok v) answered = Answer.done (value v) ≡ answered
Answered value (Err (unread.Line f)) answered = Answer.refused (number f.refusal) f.layer f.place ≡ answered
Answered value (Err unread.Memory) answered = Unit {0}
