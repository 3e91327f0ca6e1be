-- A fault that the reader hands on.
use Rattle.std.proofs.Common.{◌≡◌, Ok, Err, Result, sym, subst}
use Rattle.std.specs.Prelude.{IsErr, IsErrAnd}
use Rattle.refusal.specs.declared.Fault.{Fault}
use Rattle.refusal.specs.Answers.{Answer, number}
use Rattle.journal_text.specs.declared.unread.Unread.{Unread}
use Rattle.journal_text.specs.declared.unread.Unread.TheVariants as unread
use Rattle.journal_text.specs.Answered.{Answered}

pub answered_line : {V S : Type 0} (value : V → S) (r : Result V Unread) (f : Fault) (answered : Answer S) → IsErr r × IsErrAnd r (λ e. e ≡ unread.Line f) → Answer.refused (number f.refusal) f.layer f.place ≡ answered → Answered value r answered
answered_line value (Ok v) f answered h e = let k = h.0 in absurd cc
answered_line value (Err u) f answered h e = subst (λ (w : Unread). Answered value (Err w) answered) (sym h.1) e
