-- A ledger by its parts.
use Rattle.std.specs.Prelude.{◌≡◌, ℕ, List, length, ℤ}
use Rattle.refusal.specs.Answers.{Answer}
use Rattle.tariff.specs.declared.sheet.Sheet.{Sheet}
use Rattle.tariff.specs.Costs.{costs}
use Rattle.sharing.specs.declared.rule.Rule.{Ghosts}
use Rattle.ledger.specs.declared.line.Line.{Line}
use Rattle.ledger.specs.declared.ledger.Ledger.{Ledger}
use Rattle.ledger.specs.States.{LedgerState, ledger_state, no_heads, opened}
use Rattle.ledger.specs.Readings.{Reading}
use Rattle.ledger.specs.Billing.{Cut, Left, bill_rule}
use Rattle.ledger.specs.Resettling.{resettle_rule}
use Rattle.ledger.specs.Histories.{History}
use Rattle.ledger.specs.Kept.{Terms, terms, Kept}

-- how a sheet cuts six heads
abbrev pub cut_by : Sheet → Cut
cut_by sheet = costs sheet.division sheet.management sheet.split

abbrev pub state_of : {R : Type 0} → {G : Ghosts R} → Ledger R G → List Line → LedgerState
state_of l file = ledger_state l.heads.amounts l.accounts file

-- a rule, a sheet, members and a first month as the terms of a ledger
abbrev pub terms_with : {R : Type 0} → Ghosts R → R → Sheet → ℕ → ℕ → Terms
terms_with g rule sheet members first = terms (g.shares rule) g.STEP (cut_by sheet) members first

-- what a ledger was opened with
abbrev pub terms_of : {R : Type 0} → {G : Ghosts R} → Ledger R G → Terms
terms_of {R} {G} l = terms_with G l.rule l.sheet l.accounts.members l.accounts.first

-- a new ledger: it has these terms, nothing waits in its heads, and its accounts are empty
abbrev pub IsNew : {R : Type 0} → {G : Ghosts R} → Ledger R G → R → Sheet → ℕ → ℕ → Type 0
IsNew l rule sheet members first =
    (l.rule ≡ rule) × (l.sheet ≡ sheet) × (l.heads.amounts ≡ no_heads) × (l.accounts ≡ opened members first)

-- its bill of the open month by a reading, and its resettlement of a component by one, with a statement
abbrev pub bill_of : {R : Type 0} → {G : Ghosts R} → Ledger R G → List Line → Reading → List ℤ → Answer Left
bill_of {R} {G} l file b statement = bill_rule (G.shares l.rule) (cut_by l.sheet) (state_of l file) b (length statement)

abbrev pub resettling_of : {R : Type 0} → {G : Ghosts R} → Ledger R G → List Line → Reading → ℕ → List ℤ → Answer Left
resettling_of {R} {G} l file b component statement = resettle_rule (G.shares l.rule) (state_of l file) b component (length statement)

-- what holds after a call of the history with it, from every history whose accounts were kept before it
abbrev pub HoldsAfter : {R : Type 0} → {G : Ghosts R} → (Terms → History → LedgerState → Type 0)
    → Ledger R G → List Line → Ledger R G → List Line → (History → History) → Type 0
HoldsAfter Holds l file l' file' with_call =
    (h : History) → Kept (terms_of l) h (state_of l file) → Holds (terms_of l) (with_call h) (state_of l' file')
