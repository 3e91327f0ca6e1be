use Rattle.std.proofs.Common.{◌≡◌, List, refl, arith, rules}
use Rattle.refusal.specs.Answers.{bare, after}
use Rattle.tariff.specs.Heads.{book_rule}
use Rattle.ledger.specs.declared.line.Line.{Line}
use Rattle.ledger.specs.States.{ledger_state}
use Rattle.ledger.specs.Booking.{booking_answer}
use Rattle.ledger.specs.Histories.{History, booked, history_with}
use Rattle.ledger.specs.Kept.{Kept}
use Rattle.ledger.specs.Ledgers.{state_of, terms_of}
use Rattle.ledger.proofs.BookingKeeps.{booking_keeps}
use Rattle.ledger.proofs.ledger.Ledger.book.Goals as goal

pub returns : goal.returns
returns g c =
    let self = c.args.self.now in
    let v = c.args.voucher in
    let answered : booking_answer c.map_err.result ≡ bare (book_rule self.heads.amounts v.amounts) = search rules in
    let heads : c.book.new.self.amounts ≡ after (book_rule self.heads.amounts v.amounts) (λ sums. sums) self.heads.amounts = search rules in
    let kept : (file : List Line) (h : History) → Kept (terms_of self) h (state_of self file) → Kept (terms_of self) (history_with c.map_err.result (booked v.amounts) h) (ledger_state c.book.new.self.amounts self.accounts file) = λ file h k. booking_keeps (terms_of self) h (state_of self file) v.amounts c.book.new.self.amounts c.map_err.result (omega (arith, self.heads.long)) answered heads k in
    record {
      answered = answered;
      amounts = search rules;
      heads = heads;
      same = (refl, refl, refl);
      promise = λ file h k. (kept file h k).promise;
      invariant = λ file h k. (kept file h k).invariant;
    }
