-- A month that a text is read as is in range.
use Rattle.std.proofs.Common.{◌≡◌, ℕ, ◌≤◌, true, false, eqb, List, get_or, sum, ℤ, pos, codes, subst}
use Rattle.std.specs.List.{list_all}
use Rattle.std.proofs.lemmas.Bool.{eqb-true}
use Rattle.refusal.specs.declared.Layer.{Layer}
use Rattle.refusal.specs.Answers.{Answer}
use Rattle.month_text.specs.declared.month.Month.{Month}
use Rattle.month_text.specs.declared.month.SheetLines.{SheetLines}
use Rattle.month_text.specs.Lines.{line_at}
use Rattle.month_text.specs.Ranges.{each, natural_in, amount_in, number_at_line, naturals_at, amounts_at, weights_at}
use Rattle.month_text.specs.Months.{sheet_at, read_month}
use Rattle.month_text.specs.Accepted.{EachTo, EachWithin, Weighed, InRange}
use Rattle.month_text.proofs.Accepted.{natural_within, next_done, test_done, each_range, all_within, places_kept}
use Rattle.month_text.proofs.Parts.{sheet_parts, month_parts}
use Rattle.month_text.proofs.TakenRows.{or_done}
use Rattle.limits.specs.declared.TheConstants.{FIRST_MONTH, LAST_MONTH, MOST_CENTS, MOST_CONTROL, MOST_TEXT_MEMBERS}

number_ranged : (key : List ℕ) (low high line : ℕ) (s : List ℕ) (v : ℕ × List ℕ) → number_at_line key low high line s ≡ Answer.done v → (low ≤ v.0) × (v.0 ≤ high)
number_ranged key low high line s v e =
    let a = or_done (line_at key false 1 s) 1 Layer.Text line _ v e in
    let b = or_done (natural_in low high (get_or a.0.0 0 (pos 0))) 2 Layer.Text line _ v a.2 in
    let n : (b.0, a.0.1) ≡ v = cc b.2 in
    subst (λ (w : ℕ × List ℕ). (low ≤ w.0) × (w.0 ≤ high)) n (natural_within low high (get_or a.0.0 0 (pos 0)) b.0 b.1)

naturals_ranged : (key : List ℕ) (count low high line : ℕ) (s : List ℕ) (v : List ℕ × List ℕ) → naturals_at key count low high line s ≡ Answer.done v → EachTo high v.0
naturals_ranged key count low high line s v e =
    let a = or_done (line_at key false count s) 1 Layer.Text line _ v e in
    let b = or_done (each (natural_in low high) a.0.0) 2 Layer.Text line _ v a.2 in
    let n : (b.0, a.0.1) ≡ v = cc b.2 in
    subst (λ (w : List ℕ × List ℕ). EachTo high w.0) n (each_range low high a.0.0 b.0 b.1)

weights_ranged : (key : List ℕ) (count line : ℕ) (s : List ℕ) (v : List ℕ × List ℕ) → weights_at key count line s ≡ Answer.done v → EachTo 1000 v.0 × (sum v.0 ≡ 1000)
weights_ranged key count line s v e =
    let a = next_done (naturals_at key count 0 1000 line s) _ v e in
    let b = test_done (eqb (sum a.0.0) 1000) a.0 v 3 Layer.Sheet line a.2 in
    subst (λ (w : List ℕ × List ℕ). EachTo 1000 w.0 × (sum w.0 ≡ 1000)) b.1 (naturals_ranged key count 0 1000 line s a.0 a.1, eqb-true (sum a.0.0) 1000 b.0)

amounts_ranged : (key : List ℕ) (count most line : ℕ) (s : List ℕ) (v : List ℤ × List ℕ) → amounts_at key count most line s ≡ Answer.done v → EachWithin most v.0
amounts_ranged key count most line s v e =
    let a = or_done (line_at key true count s) 1 Layer.Text line _ v e in
    let b = test_done (list_all (amount_in most) a.0.0) a.0 v 2 Layer.Text line a.2 in
    subst (λ (w : List ℤ × List ℕ). EachWithin most w.0) b.1 (all_within most a.0.0 b.0)

sheet_ranged : (s : List ℕ) (v : SheetLines × List ℕ) → sheet_at s ≡ Answer.done v → Weighed v.0.division v.0.management v.0.split
sheet_ranged s v e =
    let p = sheet_parts s v e in
    let division = weights_ranged (codes "division") 6 3 s p.division p.division_read in
    let management = weights_ranged (codes "management") 4 4 p.division.1 p.management p.management_read in
    let split = naturals_ranged (codes "split") 2 0 1000 5 p.management.1 p.split p.split_read in
    subst (λ (w : SheetLines × List ℕ). Weighed w.0.division w.0.management w.0.split) p.whole
    (record { division_each = division.0; division_whole = division.1; management_each = management.0; management_whole = management.1; split_each = split })

pub month_in_range : (s : List ℕ) (m : Month) → read_month s ≡ Answer.done m → InRange m
month_in_range s m e =
    let p = month_parts s m e in
    let month = number_ranged (codes "month") FIRST_MONTH LAST_MONTH 1 s p.month p.month_read in
    let count = number_ranged (codes "users") 1 MOST_TEXT_MEMBERS 8 p.control.1 p.users p.users_read in
    subst InRange p.whole
    (record {
      month_low = month.0;
      month_high = month.1;
      weighed = sheet_ranged p.rule.1 p.sheet p.sheet_read;
      cost_each = amounts_ranged (codes "cost") 6 MOST_CENTS 6 p.sheet.1 p.cost p.cost_read;
      control_within = amounts_ranged (codes "control") 1 MOST_CONTROL 7 p.cost.1 p.control p.control_read 0;
      count_low = count.0;
      count_high = count.1;
      placed = places_kept p.users.0 p.users.1 p.members count.1 p.members_read;
    })
