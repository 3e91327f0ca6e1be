-- What is known of a journal's run whose text is to be printed.
use Rattle.std.specs.Prelude.{◌≡◌, ℕ, ◌*◌, ◌<◌, ◌≤◌, List, [], ◌∷◌, length, ℤ, ◌+ℤ◌, Ok, slice_index_or}
use Rattle.refusal.specs.Answers.{Answer, answer}
use Rattle.cents.specs.Cutting.{sum_z}
use Rattle.journal_text.specs.declared.entry.Action.TheVariants as action
use Rattle.journal_text.specs.declared.entry.Entry.{Entry}
use Rattle.ledger.specs.States.{balances}
use Rattle.ledger.specs.Histories.{cents_booked, cents_billed}
use Rattle.ledger.specs.Kept.{Terms}
use Rattle.runs.specs.declared.done.Done.{Done}
use Rattle.runs.specs.declared.done.Done.TheVariants as ended
use Rattle.runs.specs.Orders.{Deed, World, book, bill, resettle, answer_of, cells_after}
use Rattle.runs.specs.Runs.{no_deed, before, statement_at}
use Rattle.journal_run.specs.Deeds.{EntryOrder, order_entries, deeds_of}
use Rattle.journal_run.specs.Printed.{last_world, run_text}
use Rattle.journal_run.specs.declared.run_result.RunResult.{RunResult}
use Rattle.limits.specs.declared.TheConstants.{MOST_TEXT_MEMBERS}

-- a fact of each in a list
abbrev pub Each : {X : Type 0} → (X → Type 0) → List X → Type 0
Each fact [] = Unit {0}
Each fact (x ∷ xs) = fact x × Each fact xs

-- no month has more members than a text may have
abbrev pub CountsInRange : List Entry → Type 0
CountsInRange entries = Each (λ e. e.month.count ≤ MOST_TEXT_MEMBERS) entries

-- what a deed has from the entry that gives it
abbrev pub FromEntry : Entry → Deed → Type 0
FromEntry e (book control amounts) = amounts ≡ e.month.cost
FromEntry e (bill b) = b.count ≡ e.month.count
FromEntry e (resettle component b) = (e.action ≡ action.Resettle component) × (b.count ≡ e.month.count)

abbrev pub EachFromEntry : List EntryOrder → Type 0
EachFromEntry orders = Each (λ o. FromEntry o.0 o.1) orders

-- what an order's call answers, on the ledger and the file that the orders before it left
abbrev pub order_answer : Terms → World → List EntryOrder → ℕ → Answer Done
order_answer t w orders i = answer_of t (before t w (deeds_of orders) i) (slice_index_or (deeds_of orders) i no_deed)

-- the cells of its statement, whose memory was `cells`
abbrev pub order_cells : Terms → World → List EntryOrder → ℕ → List ℤ → List ℤ
order_cells t w orders i cells = cells_after t (before t w (deeds_of orders) i) (slice_index_or (deeds_of orders) i no_deed) cells

-- orders that some entries gave and that ran on a new ledger, and what the run left
pub record JournalRun (t : Terms) (w : World) (orders : List EntryOrder) (entries : List Entry) (ran : RunResult) : Type 0 where
  -- a rule gives each member a share
  pub long : (p : ℤ) (us : List ℕ) → length (t.shares p us) ≡ length us
  pub from_entries : EachFromEntry orders
  pub entries_are : entries ≡ order_entries orders
  pub wide : ran.width ≡ 13 * t.members
  pub new : w.history ≡ []
  -- each order has the answer of its call
  pub outcome : (i : ℕ) → i < length orders → answer (slice_index_or ran.outcomes.items i (Ok ended.Booked)) ≡ order_answer t w orders i
  -- and its statement, which had a memory of its own, has the cells of that call
  pub memories : ℕ → List ℤ
  pub cell : (i : ℕ) → i < length orders → statement_at t i ran.statements.items ≡ order_cells t w orders i (memories i)
  -- balances and heads are those that the orders lead to
  pub balances_are : ran.balances ≡ balances (last_world t w orders).state.accounts
  pub waiting_is : ran.waiting ≡ (last_world t w orders).state.heads
  -- and with the cents billed they add up to the cents booked
  pub adds_up : cents_booked (last_world t w orders).history
      ≡ cents_billed (last_world t w orders).history +ℤ sum_z ran.balances +ℤ sum_z ran.waiting

-- the text of such a run
abbrev pub IsRunText : List Entry → RunResult → List ℕ → Type 0
IsRunText entries ran bytes = (t : Terms) (w : World) (orders : List EntryOrder) → JournalRun t w orders entries ran → bytes ≡ run_text t w orders
