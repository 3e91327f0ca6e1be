-- Booking, as an order.
use Rattle.std.proofs.Common.{◌≡◌, List, [], ℤ, Ok, Err, Result, refl, ap}
use Rattle.refusal.specs.Answers.{Answer, done, refused, next, bare, after}
use Rattle.tariff.specs.Heads.{book_rule}
use Rattle.month_voucher.specs.Costs.{cost_rule}
use Rattle.ledger.specs.declared.unbooked.Unbooked.{Unbooked}
use Rattle.ledger.specs.Files.{put}
use Rattle.ledger.specs.States.{LedgerState, ledger_state}
use Rattle.ledger.specs.Booking.{booking_answer}
use Rattle.ledger.specs.Histories.{History, booked, history_with}
use Rattle.ledger.specs.Kept.{Terms, Promise, Invariant, Kept}
use Rattle.runs.specs.declared.done.Done.TheVariants as ended
use Rattle.runs.specs.Orders.{book, Carried, carried, CarriedOut, cells_after}

module _ (t : Terms) (s : LedgerState) (control : ℤ) (amounts : List ℤ) where
  abbrev leaves : List ℤ → List ℤ → Carried
  leaves costs heads = record { left = record { state = ledger_state heads s.accounts s.file; cells = []; components = [] }; event = booked costs }

  -- a balanced voucher that was booked or refused
  pub vouched : (costs : List ℤ) (s' : LedgerState) (r : Result (Unit {0}) Unbooked) → done costs ≡ cost_rule control amounts
      → booking_answer r ≡ bare (book_rule s.heads costs) → s' ≡ ledger_state (after (book_rule s.heads costs) (λ sums. sums) s.heads) s.accounts s.file
      → ((h : History) → Kept t h s → Promise t (history_with r (booked costs) h) s') → ((h : History) → Kept t h s → Invariant t (history_with r (booked costs) h) s')
      → CarriedOut t (book control amounts) s s' (next (booking_answer r) (λ _. done ended.Booked))
  vouched costs s' r e answered es promise invariant = go (book_rule s.heads costs) r (rw (← e) refl) answered es (λ h k. record { promise = promise h k; invariant = invariant h k })
    where
      go : (y : Answer (List ℤ)) (r : Result (Unit {0}) Unbooked) → carried t s (book control amounts) ≡ next y (λ sums. done (leaves costs sums)) → booking_answer r ≡ bare y → s' ≡ ledger_state (after y (λ sums. sums) s.heads) s.accounts s.file
          → ((h : History) → Kept t h s → Kept t (history_with r (booked costs) h) s') → CarriedOut t (book control amounts) s s' (next (booking_answer r) (λ _. done ended.Booked))
      go (done sums) (Ok v) e answered es kept = record { answered = rw e refl; state = rw e es; kept = λ h k. rw e (kept h k) }
      go (done sums) (Err u) e answered es kept = cc answered
      go (refused n l p) (Ok v) e answered es kept = cc answered
      go (refused n l p) (Err u) e answered es kept =
          record { answered = rw e (ap (λ (x : Answer (Unit {0})). next x (λ _. done ended.Booked)) answered); state = rw e es; kept = λ h k. rw e (kept h k) }

-- a booking writes no cells
pub none_written : (t : Terms) (s : LedgerState) (control : ℤ) (amounts memory : List ℤ) → memory ≡ cells_after t s (book control amounts) memory
none_written t s control amounts memory = outer (cost_rule control amounts)
  where
    inner : (costs : List ℤ) (y : Answer (List ℤ)) → memory ≡ after (next y (λ heads. done (leaves t s control amounts costs heads))) (λ c. put 0 c.left.cells memory) memory
    inner costs (done heads) = refl
    inner costs (refused n l p) = refl

    outer : (x : Answer (List ℤ)) → memory ≡ after (next x (λ costs. next (book_rule s.heads costs) (λ heads. done (leaves t s control amounts costs heads)))) (λ c. put 0 c.left.cells memory) memory
    outer (done costs) = inner costs (book_rule s.heads costs)
    outer (refused n l p) = refl
