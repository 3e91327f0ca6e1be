-- What a voucher's calls answer, and what they leave.
use Rattle.std.specs.Prelude.{ℕ, ◌-◌, cond, ◌||◌, List, [], ◌∷◌, ℤ, pos, ◌+ℤ◌, ◌-ℤ◌, ◌==◌, nat_le, nat_lt, slice_set, unsigned_abs}
use Rattle.refusal.specs.Answers.{Answer, done, refused}
use Rattle.refusal.specs.declared.Layer.TheVariants as layer
use Rattle.cents.specs.Cutting.{sum_z}
use Rattle.tariff.specs.Heads.{at, within}
use Rattle.voucher.specs.declared.voucher.State.{State}
use Rattle.voucher.specs.declared.voucher.State.TheVariants.{Open}
use Rattle.limits.specs.declared.TheConstants.{MOST_CONTROL}

-- 2 where the control total lies beyond ±24,000,000,000
abbrev pub open_rule : ℤ → Answer (ℤ × List ℤ × State)
open_rule control =
    cond (nat_le (unsigned_abs control) MOST_CONTROL)
    (done (control, pos 0 ∷ pos 0 ∷ pos 0 ∷ pos 0 ∷ pos 0 ∷ pos 0 ∷ [], Open))
    (refused 2 layer.Voucher 0)

-- the amounts with a line more: 12 where the head is not 1 to 6 or its sum lies beyond ±4,000,000,000
abbrev pub line_rule : List ℤ → ℕ → ℤ → Answer (List ℤ)
line_rule amounts head amount =
    cond (nat_lt head 1 || nat_lt 6 head) (refused 12 layer.Voucher 0)
    (cond (within (at amounts (head - 1) +ℤ amount))
    (done (slice_set amounts (head - 1) (at amounts (head - 1) +ℤ amount)))
    (refused 12 layer.Voucher 0))

-- a line opens a balanced voucher again; a refused one does not
abbrev pub line_state : Answer (List ℤ) → State → State
line_state (done amounts) state = Open
line_state (refused n l p) state = state

-- by how much the amounts miss the control total
abbrev pub missed : ℤ → List ℤ → ℕ
missed control amounts = unsigned_abs (sum_z amounts -ℤ control)

-- 13 where they miss it
abbrev pub balance_rule : ℤ → List ℤ → Answer (Unit {0})
balance_rule control amounts = cond (missed control amounts == 0) (done tt) (refused 13 layer.Voucher 0)
