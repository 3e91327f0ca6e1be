-- A run: a list of orders carried out on a new ledger and its file.
use Rattle.std.specs.Prelude.{◌≡◌, ℕ, ◌*◌, ◌<◌, cond, ◌&&◌, List, [], Ok, Result, length, take, ℤ, pos, ◌==◌, slice_index_or}
use Rattle.refusal.specs.Answers.{Answer, refused, answer, bare}
use Rattle.refusal.specs.declared.Fault.{Fault}
use Rattle.refusal.specs.declared.Layer.TheVariants as layer
use Rattle.ledger.specs.declared.line.Line.{Line}
use Rattle.ledger.specs.Files.{part}
use Rattle.ledger.specs.States.{LedgerState, ledger_state, no_heads, opened, opening_rule}
use Rattle.ledger.specs.Kept.{Terms, Promise, Invariant}
use Rattle.runs.specs.declared.done.Done.{Done}
use Rattle.runs.specs.declared.done.Done.TheVariants as ended
use Rattle.runs.specs.Orders.{Deed, book, World, run_through, cells_after, answer_of}

-- 11 where there is not an outcome and a statement of 13 cells a member for each order; then what opening refuses
abbrev pub run_rule : ℕ → ℕ → ℕ → ℕ → ℕ → Answer (Unit {0})
run_rule orders outcomes cells members first =
    cond (outcomes == orders && cells == orders * (13 * members)) (bare (opening_rule members first)) (refused 11 layer.Ledger 0)

-- ledger and file before the first call
abbrev pub world_at : LedgerState → World
world_at s = record { state = s; history = [] }

-- a new ledger with a file of any content
abbrev pub new_world : ℕ → ℕ → List Line → World
new_world members first file = world_at (ledger_state no_heads (opened members first) file)

abbrev pub no_deed : Deed
no_deed = book (pos 0) []

-- ledger and file before the order at a place
abbrev pub before : Terms → World → List Deed → ℕ → LedgerState
before t w deeds i = (run_through t w (take i deeds)).state

-- the statement of the order at a place, among those of all orders
abbrev pub statement_at : Terms → ℕ → List ℤ → List ℤ
statement_at t i cells = part (i * (13 * t.members)) (13 * t.members) cells

-- the orders carried out: what they came to, the statements' cells, and the ledger and file that they led to
pub record Ran (t : Terms) (w : World) (deeds : List Deed) (outcomes : List (Result Done Fault)) (memory cells : List ℤ)
    (s : LedgerState) : Type 0 where
  -- ledger and file are those that the orders lead to
  pub state : s ≡ (run_through t w deeds).state
  -- the promise holds of all accepted orders
  pub promise : Promise t (run_through t w deeds).history s
  -- and a call after the run will find what it needs to keep it too
  pub invariant : Invariant t (run_through t w deeds).history s
  -- each order has the answer of its call, by ledger and file before it
  pub outcome : (i : ℕ) → i < length deeds
      → answer (slice_index_or outcomes i (Ok ended.Booked)) ≡ answer_of t (before t w deeds i) (slice_index_or deeds i no_deed)
  -- and its statement has the cells of that call
  pub cell : (i : ℕ) → i < length deeds
      → statement_at t i cells ≡ cells_after t (before t w deeds i) (slice_index_or deeds i no_deed) (statement_at t i memory)
