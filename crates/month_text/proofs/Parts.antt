-- A text that is read, taken apart: what each of its lines gave, and the text after it.
use Rattle.std.proofs.Common.{◌≡◌, ℕ, ◌+◌, Bool, true, false, cond, eqb, ltb, List, length, get_or, ℤ, pos, codes}
use Rattle.std.proofs.lemmas.Bool.{eqb-true}
use Rattle.refusal.specs.declared.Layer.{Layer}
use Rattle.refusal.specs.Answers.{Answer}
use Rattle.month_text.specs.declared.month.Member.{Member}
use Rattle.month_text.specs.declared.month.Month.{Month}
use Rattle.sharing.specs.declared.name.RuleName.{RuleName}
use Rattle.month_text.specs.declared.month.SheetLines.{SheetLines}
use Rattle.month_text.specs.Ranges.{number_at_line, naturals_at, amounts_at, weights_at}
use Rattle.month_text.specs.Members.{places_at}
use Rattle.month_text.specs.Months.{rule_at, sheet_at, month_at, read_month}
use Rattle.month_text.proofs.Accepted.{next_done, test_done}
use Rattle.limits.specs.declared.TheConstants.{FIRST_MONTH, LAST_MONTH, MOST_CENTS, MOST_CONTROL, MOST_TEXT_BYTES, MOST_TEXT_MEMBERS}

pub record SheetParts (s : List ℕ) (v : SheetLines × List ℕ) : Type 0 where
  pub division : List ℕ × List ℕ
  pub division_read : weights_at (codes "division") 6 3 s ≡ Answer.done division
  pub management : List ℕ × List ℕ
  pub management_read : weights_at (codes "management") 4 4 division.1 ≡ Answer.done management
  pub split : List ℕ × List ℕ
  pub split_read : naturals_at (codes "split") 2 0 1000 5 management.1 ≡ Answer.done split
  pub whole : (record { division = division.0; management = management.0; split = split.0 }, split.1) ≡ v

pub sheet_parts : (s : List ℕ) (v : SheetLines × List ℕ) → sheet_at s ≡ Answer.done v → SheetParts s v
sheet_parts s v e =
    let division = next_done (weights_at (codes "division") 6 3 s) _ v e in
    let management = next_done (weights_at (codes "management") 4 4 division.0.1) _ v division.2 in
    let split = next_done (naturals_at (codes "split") 2 0 1000 5 management.0.1) _ v management.2 in
    record {
      division = division.0;
      division_read = division.1;
      management = management.0;
      management_read = management.1;
      split = split.0;
      split_read = split.1;
      whole = cc split.2;
    }

pub record MonthParts (s : List ℕ) (m : Month) : Type 0 where
  pub month : ℕ × List ℕ
  pub month_read : number_at_line (codes "month") FIRST_MONTH LAST_MONTH 1 s ≡ Answer.done month
  pub rule : RuleName × List ℕ
  pub rule_read : rule_at month.1 ≡ Answer.done rule
  pub sheet : SheetLines × List ℕ
  pub sheet_read : sheet_at rule.1 ≡ Answer.done sheet
  pub cost : List ℤ × List ℕ
  pub cost_read : amounts_at (codes "cost") 6 MOST_CENTS 6 sheet.1 ≡ Answer.done cost
  pub control : List ℤ × List ℕ
  pub control_read : amounts_at (codes "control") 1 MOST_CONTROL 7 cost.1 ≡ Answer.done control
  pub users : ℕ × List ℕ
  pub users_read : number_at_line (codes "users") 1 MOST_TEXT_MEMBERS 8 control.1 ≡ Answer.done users
  pub members : List Member × List ℕ
  pub members_read : places_at users.0 users.1 ≡ Answer.done members
  pub end : length members.1 ≡ 0
  pub whole :
      record {
        month = month.0;
        rule = rule.0;
        sheet = sheet.0;
        cost = cost.0;
        control = get_or control.0 0 (pos 0);
        count = users.0;
        members = members.0;
      } ≡ m

lines_apart : (s : List ℕ) (m : Month) → month_at s ≡ Answer.done m → MonthParts s m
lines_apart s m e =
    let month = next_done (number_at_line (codes "month") FIRST_MONTH LAST_MONTH 1 s) _ m e in
    let rule = next_done (rule_at month.0.1) _ m month.2 in
    let sheet = next_done (sheet_at rule.0.1) _ m rule.2 in
    let cost = next_done (amounts_at (codes "cost") 6 MOST_CENTS 6 sheet.0.1) _ m sheet.2 in
    let control = next_done (amounts_at (codes "control") 1 MOST_CONTROL 7 cost.0.1) _ m cost.2 in
    let users = next_done (number_at_line (codes "users") 1 MOST_TEXT_MEMBERS 8 control.0.1) _ m control.2 in
    let members = next_done (places_at users.0.0 users.0.1) _ m users.2 in
    let last = test_done (eqb (length members.0.1) 0) _ m 1 Layer.Text (9 + users.0.0) members.2 in
    record {
      month = month.0;
      month_read = month.1;
      rule = rule.0;
      rule_read = rule.1;
      sheet = sheet.0;
      sheet_read = sheet.1;
      cost = cost.0;
      cost_read = cost.1;
      control = control.0;
      control_read = control.1;
      users = users.0;
      users_read = users.1;
      members = members.0;
      members_read = members.1;
      end = eqb-true (length members.0.1) 0 last.0;
      whole = last.1;
    }

pub month_parts : (s : List ℕ) (m : Month) → read_month s ≡ Answer.done m → MonthParts s m
month_parts s m e = lines_apart s m (not_refused (ltb MOST_TEXT_BYTES (length s)) (month_at s) e)
  where
    not_refused : (b : Bool) (t : Answer Month) → cond b (Answer.refused 1 Layer.Text 0) t ≡ Answer.done m → t ≡ Answer.done m
    not_refused true t h = absurd cc
    not_refused false t h = h
