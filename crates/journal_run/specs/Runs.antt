-- What is known of a run once it is over.
use Rattle.std.specs.Prelude.{◌≡◌, ◌*◌, List, Result, length, replicate, ℤ, pos}
use Rattle.refusal.specs.declared.Fault.{Fault}
use Rattle.ledger.specs.States.{balances}
use Rattle.ledger.specs.Kept.{Terms}
use Rattle.runs.specs.declared.done.Done.{Done}
use Rattle.runs.specs.Orders.{Deed, World, run_through}
use Rattle.runs.specs.Runs.{Ran}
use Rattle.journal_run.specs.declared.run_result.RunResult.{RunResult}

-- statements that nothing is written in, of thirteen cells a member for each order
abbrev pub blank_cells : Terms → List Deed → List ℤ
blank_cells t deeds = replicate (length deeds * (13 * t.members)) (pos 0)

pub record RunOf (t : Terms) (w : World) (deeds : List Deed) (outcomes : List (Result Done Fault))
    (statements last_balances waiting : List ℤ) : Type 0 where
  pub outcomes_long : length outcomes ≡ length deeds
  pub statements_long : length statements ≡ length deeds * (13 * t.members)
  -- the orders were carried out, with these outcomes and statements
  pub ran : Ran t w deeds outcomes (blank_cells t deeds) statements (run_through t w deeds).state
  -- balances and heads are those that the orders lead to
  pub balances_are : last_balances ≡ balances (run_through t w deeds).state.accounts
  pub waiting_is : waiting ≡ (run_through t w deeds).state.heads

-- a run of these deeds left this
abbrev pub IsRunOf : Terms → World → List Deed → RunResult → Type 0
IsRunOf t w deeds ran = RunOf t w deeds ran.outcomes.items ran.statements.items ran.balances ran.waiting
