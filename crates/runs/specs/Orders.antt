-- What an order means, and what it comes to in the world that is reached.
use Rattle.std.specs.Prelude.{◌≡◌, ℕ, ◌-◌, ◌*◌, List, [], ◌∷◌, ℤ}
use Rattle.refusal.specs.Answers.{Answer, done, next, after}
use Rattle.tariff.specs.Heads.{book_rule}
use Rattle.month_voucher.specs.Costs.{cost_rule}
use Rattle.book.specs.declared.book.Book.{Ghosts}
use Rattle.ledger.specs.Readings.{Reading, reading_of}
use Rattle.ledger.specs.Files.{put}
use Rattle.ledger.specs.States.{LedgerState, ledger_state}
use Rattle.ledger.specs.Billing.{Left, bill_rule}
use Rattle.ledger.specs.Resettling.{resettle_rule}
use Rattle.ledger.specs.Histories.{Event, History, booked, billed, resettled}
use Rattle.ledger.specs.Kept.{Terms, Kept}
use Rattle.runs.specs.declared.done.Done.{Done}
use Rattle.runs.specs.declared.done.Done.TheVariants as ended
use Rattle.runs.specs.declared.order.Order.{Order}
use Rattle.runs.specs.declared.order.Order.TheVariants as order

-- an order, by what its book means
pub data Deed : Type 0 where
  book : ℤ → List ℤ → Deed
  bill : Reading → Deed
  resettle : ℕ → Reading → Deed

abbrev pub deed_of : {B : Type 0} → Ghosts B → Order B → Deed
deed_of g (order.Book costs) = book costs.control costs.amounts
deed_of g (order.Bill b) = bill (reading_of g b)
deed_of g (order.Resettle component b) = resettle component (reading_of g b)

-- what an accepted order leaves, and how it is remembered
pub record Carried : Type 0 where
  pub left : Left
  pub event : Event

-- the answer of the call that is ordered, by ledger and file as they are
abbrev pub carried : Terms → LedgerState → Deed → Answer Carried
carried t s (book control amounts) =
    next (cost_rule control amounts) (λ costs.
    next (book_rule s.heads costs) (λ heads.
    done (record { left = record { state = ledger_state heads s.accounts s.file; cells = []; components = [] }; event = booked costs })))
carried t s (bill b) =
    next (bill_rule t.shares t.cut s b (13 * t.members)) (λ left. done (record { left = left; event = billed b left.cells }))
carried t s (resettle component b) =
    next (resettle_rule t.shares s b component t.members)
    (λ left. done (record { left = left; event = resettled (component - 1) b left.cells }))

-- a refused order changes nothing: neither ledger and file,
abbrev pub state_after : Terms → LedgerState → Deed → LedgerState
state_after t s d = after (carried t s d) (λ c. c.left.state) s

-- nor the accepted calls,
abbrev pub history_after : Terms → LedgerState → Deed → History → History
history_after t s d h = after (carried t s d) (λ c. c.event ∷ h) h

-- nor its statement, which else has the cells in front and the rest as it was
abbrev pub cells_after : Terms → LedgerState → Deed → List ℤ → List ℤ
cells_after t s d memory = after (carried t s d) (λ c. put 0 c.left.cells memory) memory

-- how an accepted order ended
abbrev pub ended_of : Deed → Carried → Done
ended_of (book control amounts) c = ended.Booked
ended_of (bill b) c = ended.Billed c.left.components
ended_of (resettle component b) c = ended.Resettled

abbrev pub answer_of : Terms → LedgerState → Deed → Answer Done
answer_of t s d = next (carried t s d) (λ c. done (ended_of d c))

-- an order carried out: it ended with its call's answer, left what that leaves, and kept the accounts
pub record CarriedOut (t : Terms) (d : Deed) (s s' : LedgerState) (answer : Answer Done) : Type 0 where
  pub answered : answer ≡ answer_of t s d
  pub state : s' ≡ state_after t s d
  pub kept : (h : History) → Kept t h s → Kept t (history_after t s d h) s'

-- ledger, file and accepted calls after a list of orders
pub record World : Type 0 where
  pub state : LedgerState
  pub history : History

abbrev pub reached : Terms → World → Deed → World
reached t w d = record { state = state_after t w.state d; history = history_after t w.state d w.history }

abbrev pub run_through : Terms → World → List Deed → World
run_through t w [] = w
run_through t w (d ∷ deeds) = run_through t (reached t w d) deeds
