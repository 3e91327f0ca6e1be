-- A text that is read is the spelling of its month, and so the only one.
use Rattle.std.proofs.Common.{◌≡◌, ℕ, ◌+◌, List, [], ◌∷◌, ◌++◌, get_or, take, ℤ, pos, Some, None, codes, Option, sym, refl, ap, ◌∙◌, subst, append-nil, arith}
use Rattle.std.proofs.lemmas.List.{nil_from_length}
use Rattle.cents.proofs.Tabulated.{tabulated}
use Rattle.refusal.specs.declared.Layer.{Layer}
use Rattle.refusal.specs.Answers.{Answer}
use Rattle.month_text.specs.declared.month.Month.{Month}
use Rattle.sharing.specs.declared.name.RuleName.{RuleName}
use Rattle.sharing.specs.declared.name.RuleName.TheVariants.{Posted, Ratio}
use Rattle.month_text.specs.declared.month.SheetLines.{SheetLines}
use Rattle.month_text.specs.Lines.{past}
use Rattle.month_text.specs.Ranges.{off_layout, or_else}
use Rattle.month_text.specs.Months.{rule_at, sheet_at, read_month}
use Rattle.month_text.specs.OneSpelling.{spelled_line, spelled_rule, spelled_sheet, spelled_members, spelled, breaks, AsSpelled, OneSpelling, LineCount}
use Rattle.month_text.proofs.Parts.{sheet_parts, month_parts}
use Rattle.month_text.proofs.Taken.{Takes, both, past_front}
use Rattle.month_text.proofs.TakenRows.{or_done, number_line_takes, naturals_takes, weights_takes, amounts_takes, places_takes}
use Rattle.limits.specs.declared.TheConstants.{FIRST_MONTH, LAST_MONTH, MOST_CENTS, MOST_CONTROL, MOST_TEXT_MEMBERS}

abbrev RuleTaken : List ℕ → RuleName × List ℕ → Type 0
RuleTaken s v = Takes s (spelled_rule v.0) 1 v.1

rule_cases : (s : List ℕ) (v : RuleName × List ℕ) (o : Option (List ℕ)) → past (codes "rule=posted\n") s ≡ o → elim o [ Some t ↦ Answer.done (Posted, t) | None ↦ or_else (past (codes "rule=ratio\n") s) (off_layout 2) (λ t. Answer.done (Ratio, t)) ] ≡ Answer.done v → RuleTaken s v
rule_cases s v (Some t) h e =
    let d : (Posted, t) ≡ v = cc in
    subst (RuleTaken s) d (record { front = past_front (codes "rule=posted\n") s t h; count = refl })
rule_cases s v None h e =
    let a = or_done (past (codes "rule=ratio\n") s) 1 Layer.Text 2 (λ t. Answer.done (Ratio, t)) v e in
    let d : (Ratio, a.0) ≡ v = cc a.2 in
    subst (RuleTaken s) d (record { front = past_front (codes "rule=ratio\n") s a.0 a.1; count = refl })

rule_takes : (s : List ℕ) (v : RuleName × List ℕ) → rule_at s ≡ Answer.done v → RuleTaken s v
rule_takes s v e = rule_cases s v (past (codes "rule=posted\n") s) refl e

abbrev SheetTaken : List ℕ → SheetLines × List ℕ → Type 0
SheetTaken s v = Takes s (spelled_sheet v.0.division v.0.management v.0.split) 3 v.1

sheet_takes : (s : List ℕ) (v : SheetLines × List ℕ) → sheet_at s ≡ Answer.done v → SheetTaken s v
sheet_takes s v e =
    let p = sheet_parts s v e in
    let division = weights_takes (codes "division") 5 3 s p.division refl p.division_read in
    let management = weights_takes (codes "management") 3 4 p.division.1 p.management refl p.management_read in
    let split = naturals_takes (codes "split") 1 0 1000 5 p.management.1 p.split refl p.split_read in
    subst (SheetTaken s) p.whole (both division.taken (both management.taken split.taken))

-- the text is the spelling, and has so many lines
record Whole (s : List ℕ) (m : Month) : Type 0 where
  text : s ≡ spelled m
  lines : breaks s ≡ 8 + m.count

whole : {t1 t2 t3 t4 t5 t6 t7 : List ℕ} (s : List ℕ) (m : Month) → Takes s (spelled_line (codes "month") (pos m.month ∷ [])) 1 t1 → Takes t1 (spelled_rule m.rule) 1 t2 → Takes t2 (spelled_sheet m.sheet.division m.sheet.management m.sheet.split) 3 t3 → Takes t3 (spelled_line (codes "cost") m.cost) 1 t4 → Takes t4 (spelled_line (codes "control") (m.control ∷ [])) 1 t5 → Takes t5 (spelled_line (codes "users") (pos m.count ∷ [])) 1 t6 → Takes t6 (spelled_members (take m.count m.members)) m.count t7 → t7 ≡ [] → Whole s m
unfolding spelled
whole s m month rule sheet cost control users members end =
    let all = both month (both rule (both sheet (both cost (both control (both users members))))) in
    let e : s ≡ spelled m = all.front ∙ ap (λ (t : List ℕ). spelled m ++ t) end ∙ append-nil (spelled m) in
    record { text = e; lines = ap breaks e ∙ all.count ∙ omega arith }

text_takes : (s : List ℕ) (m : Month) → read_month s ≡ Answer.done m → Whole s m
text_takes s m e =
    let p = month_parts s m e in
    let single = amounts_takes (codes "control") 0 MOST_CONTROL 7 p.cost.1 p.control refl p.control_read in
    let one : p.control.0 ≡ get_or p.control.0 0 (pos 0) ∷ [] = tabulated (pos 0) 1 p.control.0 single.many in
    subst (Whole s) p.whole
    (whole s _
    (number_line_takes (codes "month") FIRST_MONTH LAST_MONTH 1 s p.month refl p.month_read)
    (rule_takes p.month.1 p.rule p.rule_read)
    (sheet_takes p.rule.1 p.sheet p.sheet_read)
    (amounts_takes (codes "cost") 5 MOST_CENTS 6 p.sheet.1 p.cost refl p.cost_read).taken
    (subst (λ (zs : List ℤ). Takes p.cost.1 (spelled_line (codes "control") zs) 1 p.control.1) one single.taken)
    (number_line_takes (codes "users") 1 MOST_TEXT_MEMBERS 8 p.control.1 p.users refl p.users_read)
    (places_takes p.users.0 p.users.1 p.members p.members_read)
    (nil_from_length p.members.1 p.end))

pub as_spelled : (s : List ℕ) → AsSpelled s
as_spelled s m e = (text_takes s m e).text

pub one_spelling : (s : List ℕ) → OneSpelling s
one_spelling s t m a b = (text_takes s m a).text ∙ sym (text_takes t m b).text

pub line_count : (s : List ℕ) → LineCount s
line_count s m e = (text_takes s m e).lines
