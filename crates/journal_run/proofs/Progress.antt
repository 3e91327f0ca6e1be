-- Text and sums of all orders, and of one order more.
use Rattle.std.proofs.Common.{◌≡◌, ℕ, zero, suc, ◌+◌, ◌*◌, ◌<◌, ◌≤◌, List, [], ◌∷◌, ◌++◌, length, get_or, take, drop, ℤ, pos, ◌+ℤ◌, Result, append_assoc, append-nil, sym, refl, ap, ◌∙◌, arith}
use borrow.Author.Differences.{ints}
use Rattle.std.specs.Borrow.{Bor}
use Rattle.std.proofs.lemmas.List.{drop-drop, get_or-map}
use Rattle.refusal.specs.declared.Fault.{Fault}
use Rattle.sharing.specs.declared.name.RuleName.TheVariants as rule
use Rattle.journal_text.specs.declared.entry.Action.TheVariants as action
use Rattle.journal_text.specs.declared.entry.Entry.{Entry}
use Rattle.ledger.specs.Files.{part}
use Rattle.runs.specs.declared.done.Done.{Done}
use Rattle.journal_run.specs.Outcomes.{outcome_text, booked_by, billed_by}
use Rattle.journal_run.specs.JournalRuns.{CountsInRange}
use Rattle.journal_run.specs.Meanings.{entries_at}
use Rattle.limits.specs.declared.TheConstants.{MOST_TEXT_MEMBERS}

-- what is printed of all orders, each with the next `width` cells for its statement
abbrev pub outcomes_text : ℕ → List Entry → List (Result Done Fault) → List ℤ → List ℕ
outcomes_text width [] outcomes cells = []
outcomes_text width (e ∷ entries) [] cells = []
outcomes_text width (e ∷ entries) (o ∷ outcomes) cells =
    outcome_text e o (take width cells) ++ outcomes_text width entries outcomes (drop width cells)

abbrev pub outcomes_booked : List Entry → List (Result Done Fault) → ℤ
outcomes_booked [] outcomes = pos 0
outcomes_booked (e ∷ entries) [] = pos 0
outcomes_booked (e ∷ entries) (o ∷ outcomes) = booked_by e o +ℤ outcomes_booked entries outcomes

abbrev pub outcomes_billed : ℕ → List Entry → List (Result Done Fault) → List ℤ → ℤ
outcomes_billed width [] outcomes cells = pos 0
outcomes_billed width (e ∷ entries) [] cells = pos 0
outcomes_billed width (e ∷ entries) (o ∷ outcomes) cells =
    billed_by e o (take width cells) +ℤ outcomes_billed width entries outcomes (drop width cells)

-- an entry of no month
abbrev pub no_entry : Entry
no_entry = record { action = action.Bill; line = 0; month = record { month = 0; rule = rule.Posted; sheet = record { division = []; management = []; split = [] }; cost = []; control = pos 0; count = 0; members = [] } }

abbrev pub no_entry_at : Bor Entry
no_entry_at = record { ref_ptr = (0, 0); now = no_entry }

pub entry_at : (entries : List (Bor Entry)) (i : ℕ) → i < length entries → get_or (entries_at entries) i no_entry ≡ (get_or entries i no_entry_at).now
entry_at entries i h = get_or-map (λ (e : Bor Entry). e.now) entries i no_entry_at no_entry h

-- the cells of an order stand behind those of the first one
pub part_behind : (w i : ℕ) (cells : List ℤ) → part (i * w) w (drop w cells) ≡ part (suc i * w) w cells
part_behind w i cells =
    let n : w + i * w ≡ suc i * w = omega arith in
    ap (take w) (drop-drop (i * w) w cells ∙ ap (λ (k : ℕ). drop k cells) n)

pub part_first : (w : ℕ) (cells : List ℤ) → take w cells ≡ part (0 * w) w cells
part_first w cells = let n : 0 * w ≡ 0 = omega arith in rw n refl

module _ (w : ℕ) (e₀ : Entry) (o₀ : Result Done Fault) where
  pub text_more : (es : List Entry) (os : List (Result Done Fault)) (cells : List ℤ) (i : ℕ) → i < length es → i < length os
      → outcomes_text w (take i es) (take i os) cells ++ outcome_text (get_or es i e₀) (get_or os i o₀) (part (i * w) w cells) ≡ outcomes_text w (take (i + 1) es) (take (i + 1) os) cells
  text_more [] os cells i h k = absurd (omega arith)
  text_more (e ∷ es) [] cells i h k = absurd (omega arith)
  text_more (e ∷ es) (o ∷ os) cells zero h k = rw (← part_first w cells) (sym (append-nil (outcome_text e o (take w cells))))
  text_more (e ∷ es) (o ∷ os) cells (suc i) h k =
      let n : suc i + 1 ≡ suc (i + 1) = omega arith in
      let r = text_more es os (drop w cells) i (omega arith) (omega arith) in
      rw (n, ← part_behind w i cells) (append_assoc (outcome_text e o (take w cells)) _ _ ∙ ap (λ (t : List ℕ). outcome_text e o (take w cells) ++ t) r)

  pub booked_more : (es : List Entry) (os : List (Result Done Fault)) (i : ℕ) → i < length es → i < length os
      → outcomes_booked (take (i + 1) es) (take (i + 1) os) ≡ outcomes_booked (take i es) (take i os) +ℤ booked_by (get_or es i e₀) (get_or os i o₀)
  booked_more [] os i h k = absurd (omega arith)
  booked_more (e ∷ es) [] i h k = absurd (omega arith)
  booked_more (e ∷ es) (o ∷ os) zero h k = omega (arith, ints)
  booked_more (e ∷ es) (o ∷ os) (suc i) h k =
      let n : suc i + 1 ≡ suc (i + 1) = omega arith in
      let r = booked_more es os i (omega arith) (omega arith) in
      rw n (omega (arith, ints, r))

  pub billed_more : (es : List Entry) (os : List (Result Done Fault)) (cells : List ℤ) (i : ℕ) → i < length es → i < length os
      → outcomes_billed w (take (i + 1) es) (take (i + 1) os) cells ≡ outcomes_billed w (take i es) (take i os) cells +ℤ billed_by (get_or es i e₀) (get_or os i o₀) (part (i * w) w cells)
  billed_more [] os cells i h k = absurd (omega arith)
  billed_more (e ∷ es) [] cells i h k = absurd (omega arith)
  billed_more (e ∷ es) (o ∷ os) cells zero h k = rw (← part_first w cells) (omega (arith, ints))
  billed_more (e ∷ es) (o ∷ os) cells (suc i) h k =
      let n : suc i + 1 ≡ suc (i + 1) = omega arith in
      let r = billed_more es os (drop w cells) i (omega arith) (omega arith) in
      rw (n, ← part_behind w i cells) (omega (arith, ints, r))

pub count_at : (es : List Entry) (i : ℕ) (d : Entry) → CountsInRange es → i < length es → (get_or es i d).month.count ≤ MOST_TEXT_MEMBERS
count_at [] i d f h = absurd (omega arith)
count_at (e ∷ es) zero d f h = f.0
count_at (e ∷ es) (suc i) d f h = count_at es i d f.1 (omega arith)
