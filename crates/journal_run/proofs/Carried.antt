-- Outcome and cells of an order that was carried out: its text, and the cents that it booked and billed.
use Rattle.std.proofs.Common.{◌≡◌, ℕ, ◌+◌, ◌*◌, List, [], ◌∷◌, ◌++◌, length, take, drop, ℤ, ◌+ℤ◌, Ok, Err, Result, sym, refl, ap, ◌∙◌, arith}
use borrow.Author.Differences.{ints}
use Rattle.std.proofs.lemmas.List.{length-take, take_at}
use Rattle.refusal.specs.Answers.{Answer, done, refused, answer, next, after}
use Rattle.refusal.specs.declared.Fault.{Fault}
use Rattle.cents.specs.Cutting.{sum_z}
use Rattle.charges_text.specs.Printed.{printed}
use Rattle.charges_text.specs.Refusals.{refusal_line}
use Rattle.journal_text.specs.declared.entry.Action.{Action}
use Rattle.journal_text.specs.declared.entry.Entry.{Entry}
use Rattle.ledger.specs.Files.{put}
use Rattle.ledger.specs.States.{LedgerState}
use Rattle.ledger.specs.Histories.{History, cents_booked, cents_billed}
use Rattle.ledger.specs.Kept.{Terms}
use Rattle.runs.specs.declared.done.Done.{Done}
use Rattle.runs.specs.Orders.{Deed, book, bill, resettle, Carried, carried, ended_of, answer_of, cells_after}
use Rattle.month_bill.specs.Members.{member_rows}
use Rattle.journal_run.specs.Printed.{resettled_line, difference_lines, order_text}
use Rattle.journal_run.specs.Outcomes.{members_of, change_text, outcome_text, booked_by, billed_by}
use Rattle.journal_run.specs.JournalRuns.{FromEntry}
use Rattle.journal_run.proofs.Differences.{lines_front}
use Rattle.journal_run.proofs.Accepted.{booking, bill_accepted, resettlement, put_all}

-- the text of an order, and what its call adds to the cents of a history
pub record OrderPrinted (e : Entry) (d : Deed) (x : Answer Carried) (o : Result Done Fault) (cells : List ℤ) : Type 0 where
  pub text : outcome_text e o cells ≡ order_text e d x
  pub cents_in : (h : History) → cents_booked (after x (λ c. c.event ∷ h) h) ≡ booked_by e o +ℤ cents_booked h
  pub cents_out : (h : History) → cents_billed (after x (λ c. c.event ∷ h) h) ≡ billed_by e o cells +ℤ cents_billed h

answer_done : (o : Result Done Fault) (v : Done) → answer o ≡ done v → o ≡ Ok v
answer_done (Ok u) v e = cc
answer_done (Err f) v e = cc

abbrev refused_line : Answer Done → List ℕ
refused_line (done v) = []
refused_line (refused n l p) = refusal_line n l p

module _ (t : Terms) (long : (p : ℤ) (us : List ℕ) → length (t.shares p us) ≡ length us) (s : LedgerState) (e : Entry) (memory cells : List ℤ) (wide : length cells ≡ 13 * t.members) where
  accepted : (d : Deed) (c : Carried) → FromEntry e d → done c ≡ carried t s d → cells ≡ put 0 c.left.cells memory → OrderPrinted e d (done c) (Ok (ended_of d c)) cells
  accepted (book control amounts) c gives q z =
      let p = booking t s c control amounts q in
      let total : sum_z p.0 ≡ sum_z e.month.cost = p.2 ∙ ap sum_z gives in
      record {
        text = refl;
        cents_in = λ h. rw (p.1, total) refl;
        cents_out = λ h. rw (p.1) (omega (arith, ints));
      }
  accepted (bill b) c gives q z =
      let p = bill_accepted t s c long b q in
      let same : cells ≡ c.left.cells = z ∙ put_all c.left.cells memory (sym (ap length z) ∙ wide ∙ sym p.1) in
      record {
        text = ap (λ (zs : List ℤ). printed e.month.month c.left.components (member_rows zs 0 (members_of e.month))) same;
        cents_in = λ h. rw (p.0) (omega (arith, ints));
        cents_out = λ h. rw (p.0, same) refl;
      }
  accepted (resettle component b) c gives q z =
      let p = resettlement t s c long component b q in
      let rest = drop (0 + length c.left.cells) memory in
      let count : length c.left.cells ≡ e.month.count = p.1 ∙ sym p.2 ∙ gives.1 in
      let front : take e.month.count cells ≡ c.left.cells = ap (take e.month.count) z ∙ take_at c.left.cells rest e.month.count count in
      let few = length-take e.month.count e.month.members in
      let lines : difference_lines (members_of e.month) cells ≡ difference_lines (members_of e.month) c.left.cells =
      ap (difference_lines (members_of e.month)) z ∙ lines_front (members_of e.month) c.left.cells rest (omega (arith, count, few)) in
      let text : change_text e.action e.month cells ≡ resettled_line e.month.month component ++ difference_lines (members_of e.month) c.left.cells =
      ap (λ (a : Action). change_text a e.month cells) gives.0 ∙ ap (λ (ls : List ℕ). resettled_line e.month.month component ++ ls) lines in
      record {
        text = text;
        cents_in = λ h. rw (p.0) (omega (arith, ints));
        cents_out = λ h. rw (p.0, front) refl;
      }

  by_answer : (d : Deed) (x : Answer Carried) (o : Result Done Fault) → FromEntry e d → x ≡ carried t s d → answer o ≡ next x (λ c. done (ended_of d c)) → cells ≡ after x (λ c. put 0 c.left.cells memory) memory → OrderPrinted e d x o cells
  by_answer d (done c) o gives q a z = rw (answer_done o (ended_of d c) a) (accepted d c gives q z)
  by_answer d (refused n l p) (Ok v) gives q a z = cc a
  by_answer d (refused n l p) (Err f) gives q a z =
      record { text = ap refused_line a; cents_in = λ h. omega (arith, ints); cents_out = λ h. omega (arith, ints) }

  pub order_printed : (d : Deed) (o : Result Done Fault) → FromEntry e d → answer o ≡ answer_of t s d → cells ≡ cells_after t s d memory → OrderPrinted e d (carried t s d) o cells
  order_printed d o gives a z = by_answer d (carried t s d) o gives refl a z
