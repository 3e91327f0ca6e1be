-- A bill, from its parts.
use Rattle.std.proofs.Common.{◌≡◌, ℕ, List, length, ℤ, refl, ap, ◌∙◌}
use Rattle.refusal.specs.Answers.{Answer, done, next}
use Rattle.tariff.specs.Heads.{sums}
use Rattle.statement.specs.declared.charge.ComponentCharge.{ComponentCharge}
use Rattle.sharing.specs.Shares.{Shares}
use Rattle.statement.specs.Charges.{component_charges, cells}
use Rattle.ledger.specs.declared.line.Line.{Line}
use Rattle.ledger.specs.declared.accounts.Accounts.{Accounts}
use Rattle.ledger.specs.Readings.{Reading, rows_read}
use Rattle.ledger.specs.States.{LedgerState, ledger_state, balances, no_heads}
use Rattle.ledger.specs.Billing.{Cut, bill_check, bill_rule, bill_leaves, slot_written, closed}

module _ (shares : Shares) (cut : Cut) (s : LedgerState) (b : Reading) (costs : List ℤ) (e : costs ≡ cut s.heads) where
  -- every test passed: the bill is what it leaves
  pub bill_done : (n : ℕ) → done tt ≡ bill_check s.accounts (sums costs (balances s.accounts)) b (length s.file) n → done (bill_leaves shares cut s b) ≡ bill_rule shares cut s b n
  bill_done n d =
      ap (λ (t : Answer (Unit {0})). next t (λ _. done (bill_leaves shares cut s b)))
      (d ∙ ap (λ (zs : List ℤ). bill_check s.accounts (sums zs (balances s.accounts)) b (length s.file) n) e)

  pub bill_charges : (charges : List ComponentCharge) → charges ≡ component_charges shares (sums costs (balances s.accounts)) (rows_read b) 13 → charges ≡ (bill_leaves shares cut s b).components
  bill_charges charges h = h ∙ ap (λ (zs : List ℤ). component_charges shares (sums zs (balances s.accounts)) (rows_read b) 13) e

  pub bill_cells : (written : List ℤ) → written ≡ cells shares (sums costs (balances s.accounts)) (rows_read b) 13 → written ≡ (bill_leaves shares cut s b).cells
  bill_cells written h = h ∙ ap (λ (zs : List ℤ). cells shares (sums zs (balances s.accounts)) (rows_read b) 13) e

  pub bill_state : (heads written : List ℤ) (accounts : Accounts) (file : List Line) (charges : List ComponentCharge) → heads ≡ no_heads → accounts ≡ closed charges s.accounts → file ≡ slot_written s.accounts b written s.file
      → charges ≡ (bill_leaves shares cut s b).components → written ≡ (bill_leaves shares cut s b).cells → ledger_state heads accounts file ≡ (bill_leaves shares cut s b).state
  bill_state heads written accounts file charges eh ea ef ec ew = rw (eh, ea, ef, ec, ew) refl
