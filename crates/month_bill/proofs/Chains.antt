-- A month's steps on a new ledger, joined.
use Rattle.std.proofs.Common.{◌≡◌, ℕ, ◌-◌, ◌*◌, ◌≤◌, cond, eqb, List, [], ◌∷◌, ◌++◌, length, get_or, take, replicate, ℤ, pos, ◌+ℤ◌, sym, refl, ap, ◌∙◌, arith}
use borrow.Author.Differences.{ints}
use Rattle.std.proofs.lemmas.Bool.{cond-true, eq-eqb}
use Rattle.std.proofs.lemmas.List.{length-append, take-replicate}
use Rattle.refusal.specs.Answers.{Answer, done, refused, next, after}
use Rattle.refusal.specs.declared.Layer.{Layer}
use Rattle.refusal.specs.declared.Layer.TheVariants as layer
use Rattle.refusal.proofs.Apart.{done_refused, refused_done}
use Rattle.cents.specs.Cutting.{cut}
use Rattle.cents.proofs.Parts.{cut_length}
use Rattle.tariff.specs.Heads.{at, sums}
use Rattle.tariff.specs.Costs.{halves, settlement_weights, service_costs, costs}
use Rattle.month_text.specs.declared.month.Month.{Month}
use Rattle.month_text.specs.declared.month.Member.{Member}
use Rattle.statement.specs.declared.charge.ComponentCharge.{ComponentCharge}
use Rattle.charges_text.specs.declared.charges.MemberCharge.{MemberCharge}
use Rattle.statement.specs.Checks.{charge_rule}
use Rattle.sharing.specs.Shares.{Shares}
use Rattle.statement.specs.Charges.{component_charges, cells}
use Rattle.statement.proofs.Statements.{cells_length}
use Rattle.sharing.specs.declared.rule.Rule.{Ghosts}
use Rattle.ledger.specs.declared.line.Line.{Line}
use Rattle.ledger.specs.declared.ledger.Ledger.{Ledger}
use Rattle.ledger.specs.Files.{file_length, no_line}
use Rattle.ledger.specs.Ledgers.{bill_of}
use Rattle.ledger.specs.declared.accounts.Accounts.{Accounts}
use Rattle.ledger.specs.Readings.{Reading, rows_read}
use Rattle.ledger.specs.States.{LedgerState, ledger_state, opened, opening_rule, balances}
use Rattle.ledger.specs.Billing.{Cut, Left, ranges_rule, bill_check, bill_rule, bill_leaves, pools_for}
use Rattle.ledger.proofs.Passed.{ranges_left, rows_length}
use Rattle.month_bill.specs.Members.{month_units, member_rows, place_rows}
use Rattle.month_bill.proofs.Listed.{rows_of_places}
use Rattle.month_bill.specs.Bills.{Charges, month_sheet, month_heads, charge_places, bill_by}
use Rattle.limits.specs.declared.TheConstants.{MOST_MEMBERS, MOST_TEXT_MEMBERS}
use Rattle.ledger.specs.declared.line.TheConstants.{MEMBER_LINES}

-- a step that was done gives way to the next one
goes : {S T : Type 0} {t : Answer S} {v : S} (k : S → Answer T) → done v ≡ t → k v ≡ next t k
goes k e = ap (λ t. next t k) e

-- two steps, one after the other
then_done : {S T U : Type 0} (t : Answer S) (v : T) (k : T → Answer U) → next (next t (λ _. done v)) k ≡ next t (λ _. k v)
then_done (done s) v k = refl
then_done (refused n l p) v k = refl

-- a sheet makes thirteen costs
costs_long : (d g s : List ℕ) (heads : List ℤ) → length (costs d g s heads) ≡ 13
costs_long d g s heads =
    let five = service_costs d g heads in
    let two = cut (at five 1) (halves (get_or s 0 0)) in
    let three = cut (at five 2) (halves (get_or s 1 0)) in
    let rest = at five 3 ∷ cut (at five 4) settlement_weights in
    omega (arith, length-append two (three ++ rest), length-append three rest, cut_length (at five 1) (halves (get_or s 0 0)), cut_length (at five 2) (halves (get_or s 1 0)), cut_length (at five 4) settlement_weights)

-- the balances of a new ledger add nothing
sums_none : (zs : List ℤ) → sums zs (replicate (length zs) (pos 0)) ≡ zs
sums_none [] = refl
sums_none (z ∷ zs) =
    let e : z +ℤ pos 0 ≡ z = omega (arith, ints) in
    rw (e, sums_none zs) refl

new_pools : (zs : List ℤ) (n first : ℕ) → length zs ≡ 13 → sums zs (balances (opened n first)) ≡ zs
new_pools zs n first e = ap (λ (k : ℕ). sums zs (replicate k (pos 0))) (sym e) ∙ sums_none zs

-- a bill of a month's places by a new ledger, with a file, a statement and a book that fit
module _ (shares : Shares) (long : (p : ℤ) (us : List ℕ) → length (shares p us) ≡ length us) (cut : Cut) (heads : List ℤ) (a : Accounts) (file : List Line) (b : Reading) (width : ℕ) (m : Month)
    (new : a ≡ opened b.count m.month) (thirteen : length (cut heads) ≡ 13) (lines : length file ≡ file_length b.count) (wide : width ≡ 13 * b.count) (month : b.month ≡ m.month) (count : b.count ≡ m.count)
    (low : 1 ≤ b.count) (high : b.count ≤ MOST_MEMBERS) where
  abbrev s : LedgerState
  s = ledger_state heads a file

  abbrev paid : Left → Answer Charges
  paid left = done (left.components, member_rows left.cells 0 m.members)

  pools : pools_for cut s ≡ cut heads
  pools = ap (λ (x : Accounts). sums (cut heads) (balances x)) new ∙ new_pools (cut heads) b.count m.month thirteen

  -- it tests the ranges
  checked : bill_check a (pools_for cut s) b (length file) width ≡ charge_rule (cut heads) (rows_read b) (13 * length (rows_read b))
  checked =
      let l = rows_length b.units 0 b.count in
      rw (new, wide)
      (ap (λ (t : Answer (Unit {0})). next t (λ _. cond (eqb b.month m.month) (ranges_rule (sums (cut heads) (balances (opened b.count m.month))) (rows_read b)) (refused 5 layer.Ledger 0)))
      (cond-true (eqb (length file) (file_length b.count)) _ _ (eq-eqb (length file) (file_length b.count) lines) ∙ cond-true (eqb (13 * b.count) (13 * b.count)) _ _ (eq-eqb (13 * b.count) (13 * b.count) refl) ∙ cond-true (eqb b.count b.count) _ _ (eq-eqb b.count b.count refl))
      ∙ cond-true (eqb b.month m.month) _ _ (eq-eqb b.month m.month month)
      ∙ ap (λ (ps : List ℤ). ranges_rule ps (rows_read b)) (new_pools (cut heads) b.count m.month thirteen)
      ∙ sym (ranges_left (cut heads) (rows_read b) (13 * length (rows_read b)) (charge_rule (cut heads) (rows_read b) (13 * length (rows_read b))) refl (omega (arith, l)) (omega (arith, l)) refl))

  -- its statement has cells for the month's members
  places : member_rows (cells shares (cut heads) (rows_read b) 13) 0 m.members ≡ place_rows (cells shares (cut heads) (rows_read b) 13) m
  places =
      rows_of_places (cells shares (cut heads) (rows_read b) 13) m
      (cells_length shares long (cut heads) (rows_read b) 13 ∙ ap (λ (n : ℕ). 13 * n) (rows_length b.units 0 b.count ∙ count))

  -- and charges the costs
  new_bill : next (bill_rule shares cut s b width) paid ≡ charge_places shares (cut heads) (rows_read b) m
  new_bill =
      then_done (bill_check a (pools_for cut s) b (length file) width) (bill_leaves shares cut s b) paid
      ∙ ap (λ (t : Answer (Unit {0})). next t (λ _. paid (bill_leaves shares cut s b))) checked
      ∙ ap (λ (ps : List ℤ). next (charge_rule (cut heads) (rows_read b) (13 * length (rows_read b))) (λ _. done (component_charges shares ps (rows_read b) 13, member_rows (cells shares ps (rows_read b) 13) 0 m.members))) pools
      ∙ ap (λ (rows : List MemberCharge). next (charge_rule (cut heads) (rows_read b) (13 * length (rows_read b))) (λ _. done (component_charges shares (cut heads) (rows_read b) 13, rows))) places

-- the same, where the sheet, the units of a month's book and its heads were accepted before
module _ (shares : Shares) (long : (p : ℤ) (us : List ℕ) → length (shares p us) ≡ length us) (m : Month) (d g s : List ℕ) (heads : List ℤ) (a : Accounts) (file : List Line) (b : Reading) (width members : ℕ)
    (sheet : done (d, g, s) ≡ month_sheet m) (units : done (rows_read b) ≡ month_units m) (booked : done heads ≡ next (opening_rule members m.month) (λ _. month_heads m)) (new : a ≡ opened members m.month)
    (asked : members ≡ b.count) (lines : length file ≡ file_length b.count) (wide : width ≡ 13 * b.count) (month : b.month ≡ m.month) (count : b.count ≡ m.count) (low : 1 ≤ b.count) (high : b.count ≤ MOST_MEMBERS) where
  opened_for : a ≡ opened b.count m.month
  opened_for = new ∙ ap (λ (n : ℕ). opened n m.month) asked

  chained : charge_places shares (costs d g s heads) (rows_read b) m ≡ bill_by shares m
  chained =
      goes (λ heads. charge_places shares (costs d g s heads) (rows_read b) m) (last (opening_rule members m.month) booked)
      ∙ goes (λ rows. next (month_heads m) (λ heads. charge_places shares (costs d g s heads) rows m)) units
      ∙ goes (λ sheet. next (month_units m) (λ rows. next (month_heads m) (λ heads. charge_places shares (costs sheet.0 sheet.1 sheet.2 heads) rows m))) sheet
    where
      last : {T : Type 0} (t : Answer T) → done heads ≡ next t (λ _. month_heads m) → done heads ≡ month_heads m
      last (done _) e = e
      last (refused n l p) e = absurd (done_refused heads n l p e)

  -- what a bill on that ledger charges is the month's bill
  pub month_billed : next (bill_rule shares (costs d g s) (ledger_state heads a file) b width) (λ left. done (left.components, member_rows left.cells 0 m.members)) ≡ bill_by shares m
  month_billed = new_bill shares long (costs d g s) heads a file b width m opened_for (costs_long d g s heads) lines wide month count low high ∙ chained

-- a bill that was accepted, and one that was refused
pub left_charged : (x y : Answer Left) (charges : List ComponentCharge) (memory written : List ℤ) (members : List Member) → x ≡ y → done charges ≡ next x (λ left. done left.components)
    → written ≡ after x (λ left. left.cells) memory → ◌≡◌ {A = Answer Charges} (done (charges, member_rows written 0 members)) (next y (λ left. done (left.components, member_rows left.cells 0 members)))
left_charged (done left) y charges memory written members same e w = let d : charges ≡ left.components = cc in rw (← same, d, w) refl
left_charged (refused k l p) y charges memory written members same e w = absurd (done_refused charges k l p e)

pub left_refused : {T : Type 0} (x y : Answer Left) (g : Left → Answer T) (k : ℕ) (l : Layer) (p : ℕ) → x ≡ y → refused k l p ≡ next x (λ left. done left.components) → refused k l p ≡ next y g
left_refused (done left) y g k l p same e = absurd (refused_done k l p left.components e)
left_refused (refused i j q) y g k l p same e = rw (← same) cc

-- the front of a memory that holds one value
front_of : {X : Type 0} (x : X) (most width count n : ℕ) → count ≡ n → width * n ≤ most → take (width * count - 0) (replicate most x) ≡ replicate (width * n) x
front_of x most width count n e l =
    ap (λ (k : ℕ). take (width * k - 0) (replicate most x)) e
    ∙ ap (λ (k : ℕ). take k (replicate most x)) {x = width * n - 0} {y = width * n} (omega arith)
    ∙ take-replicate (width * n) most x l

-- memory with a place for each member of a text serves fewer of them too
pub in_front : {R : Type 0} {G : Ghosts R} (l : Ledger R G) (b : Reading) (count : ℕ) → count ≡ b.count → b.count ≤ MOST_TEXT_MEMBERS
    → bill_of l (take (MEMBER_LINES * count - 0) (replicate (MEMBER_LINES * MOST_TEXT_MEMBERS) no_line)) b (take (13 * count - 0) (replicate (13 * MOST_TEXT_MEMBERS) (pos 0))) ≡ bill_of l (replicate (file_length b.count) no_line) b (replicate (13 * b.count) (pos 0))
in_front l b count e h =
    rw (front_of no_line (MEMBER_LINES * MOST_TEXT_MEMBERS) MEMBER_LINES count b.count e (omega (arith, h)), front_of (pos 0) (13 * MOST_TEXT_MEMBERS) 13 count b.count e (omega (arith, h))) refl
