-- A month's text, line by line: what it says, or the first line that is refused.
use Rattle.std.specs.Prelude.{ℕ, ◌+◌, cond, List, length, pos, Some, None, codes, ◌==◌, nat_lt, slice_index_or}
use Rattle.refusal.specs.Answers.{Answer, next}
use Rattle.sharing.specs.declared.name.RuleName.{RuleName}
use Rattle.sharing.specs.declared.name.RuleName.TheVariants.{Posted, Ratio}
use Rattle.month_text.specs.declared.month.Month.{Month}
use Rattle.month_text.specs.declared.month.SheetLines.{SheetLines}
use Rattle.month_text.specs.Lines.{past}
use Rattle.month_text.specs.Ranges.{off_layout, or_else, number_at_line, naturals_at, amounts_at, weights_at}
use Rattle.month_text.specs.Members.{places_at}
use Rattle.limits.specs.declared.TheConstants.{FIRST_MONTH, LAST_MONTH, MOST_CENTS, MOST_CONTROL, MOST_TEXT_BYTES, MOST_TEXT_MEMBERS}

abbrev pub rule_at : List ℕ → Answer (RuleName × List ℕ)
rule_at s =
    elim (past (codes "rule=posted\n") s) [
      | Some t ↦ Answer.done (Posted, t)
      | None ↦ or_else (past (codes "rule=ratio\n") s) (off_layout 2) (λ t. Answer.done (Ratio, t))
    ]

-- the three lines of the sheet
abbrev pub sheet_at : List ℕ → Answer (SheetLines × List ℕ)
sheet_at s =
    next (weights_at (codes "division") 6 3 s) (λ division.
    next (weights_at (codes "management") 4 4 division.1) (λ management.
    next (naturals_at (codes "split") 2 0 1000 5 management.1) (λ split.
    Answer.done (record { division = division.0; management = management.0; split = split.0 }, split.1))))

-- all lines in their order, and nothing after the last
abbrev pub month_at : List ℕ → Answer Month
month_at s =
    next (number_at_line (codes "month") FIRST_MONTH LAST_MONTH 1 s) (λ month.
    next (rule_at month.1) (λ rule.
    next (sheet_at rule.1) (λ sheet.
    next (amounts_at (codes "cost") 6 MOST_CENTS 6 sheet.1) (λ cost.
    next (amounts_at (codes "control") 1 MOST_CONTROL 7 cost.1) (λ control.
    next (number_at_line (codes "users") 1 MOST_TEXT_MEMBERS 8 control.1) (λ users.
    next (places_at users.0 users.1) (λ members.
    cond (length members.1 == 0)
    (Answer.done (record {
      month = month.0;
      rule = rule.0;
      sheet = sheet.0;
      cost = cost.0;
      control = slice_index_or control.0 0 (pos 0);
      count = users.0;
      members = members.0;
    }))
    (off_layout (9 + users.0)))))))))

-- a text of at most 16,384 bytes
abbrev pub read_month : List ℕ → Answer Month
read_month text = cond (nat_lt MOST_TEXT_BYTES (length text)) (off_layout 0) (month_at text)
