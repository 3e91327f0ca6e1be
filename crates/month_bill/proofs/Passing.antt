-- What a month that was accepted passes on the way to its bill.
use Rattle.std.proofs.Common.{◌≡◌, ℕ, zero, suc, ◌+◌, ◌-◌, ◌*◌, ◌≤◌, Bool, true, false, cond, eqb, leb, ltb, List, [], ◌∷◌, ◌++◌, map, length, set, take, replicate, sum, ℤ, pos, ◌+ℤ◌, nat_abs, Ok, Err, Result, sym, refl, ap, subst, ◌∙◌, arith}
use borrow.Author.Differences.{ints}
use Rattle.std.proofs.lemmas.Bool.{cond-true, le-leb, le-ltb, eq-eqb}
use Rattle.std.proofs.lemmas.List.{get_or_at, set_at, append_assoc, length_push, length-take-le}
use Rattle.refusal.specs.Answers.{Answer, done, refused, next, answer, answer_by}
use Rattle.refusal.specs.declared.Fault.{Fault}
use Rattle.refusal.specs.declared.Layer.{Layer}
use Rattle.refusal.specs.declared.Layer.TheVariants as layer
use Rattle.tariff.specs.Sheets.{thousandths, sheet_rule}
use Rattle.tariff.specs.Heads.{at, within, sums, book_rule}
use Rattle.cents.specs.Passes.{all_pass}
use Rattle.voucher.specs.Calls.{open_rule, line_rule, missed, balance_rule}
use Rattle.month_voucher.specs.Costs.{lines_rule}
use Rattle.units.specs.Kinds.{kinds, units_of}
use Rattle.bottom_books.specs.Tables.{rows_rule}
use Rattle.statement.specs.Columns.{column}
use Rattle.statement.specs.Checks.{totals_rule, pools_rule, charge_rule}
use Rattle.sharing.specs.Shares.{Shares}
use Rattle.ledger.specs.States.{no_heads}
use Rattle.tariff.specs.Costs.{costs}
use Rattle.month_text.specs.declared.month.Month.{Month}
use Rattle.month_text.specs.declared.month.Member.{Member}
use Rattle.month_text.specs.Accepted.{EachTo, EachWithin, EachLawful, Weighed, InRange}
use Rattle.month_bill.specs.Members.{facts_of_all, month_units}
use Rattle.month_bill.specs.Bills.{month_sheet, month_heads, charge_places, bill_by}
use Rattle.month_bill.specs.Late.{late_refusal, OnlyLate}
use Rattle.limits.specs.declared.TheConstants.{FIRST_MONTH, LAST_MONTH, MOST_CENTS, MOST_CONTROL, MOST_MEMBERS, MOST_TEXT_MEMBERS, MOST_UNITS}

-- one step, and a test in front
late_next : {S T : Type 0} (t : Answer S) (k : S → Answer T) → OnlyLate t → ((s : S) → OnlyLate (k s)) → OnlyLate (next t k)
late_next (done s) k h f = f s
late_next (refused n l p) k h f = h

late_test : {T : Type 0} (b : Bool) (t : Answer T) (n : ℕ) (l : Layer) (p : ℕ) → late_refusal n l ≡ true → OnlyLate t → OnlyLate (cond b t (refused n l p))
late_test true t n l p e h = h
late_test false t n l p e h = e

late_same : {T : Type 0} (t u : Answer T) → t ≡ u → OnlyLate u → OnlyLate t
late_same t u e h = subst OnlyLate (sym e) h

-- the sheet is laid
each_thousandth : (ns : List ℕ) → EachTo 1000 ns → thousandths ns ≡ true
each_thousandth [] e = refl
each_thousandth (n ∷ ns) e = rw (le-leb n 1000 (e 0), each_thousandth ns (λ k. e (suc k))) refl

sheet_passes : (d g s : List ℕ) → Weighed d g s → sheet_rule d g s ≡ done tt
sheet_passes d g s w =
    rw (each_thousandth d w.division_each, each_thousandth g w.management_each, each_thousandth s w.split_each, eq-eqb (sum d) 1000 w.division_whole, eq-eqb (sum g) 1000 w.management_whole) refl

-- the facts have units
lawful_take : (n : ℕ) (ms : List Member) → EachLawful ms → EachLawful (take n ms)
lawful_take zero ms e k = refl
lawful_take (suc n) [] e k = refl
lawful_take (suc n) (m ∷ ms) e zero = e 0
lawful_take (suc n) (m ∷ ms) e (suc k) = lawful_take n ms (λ j. e (suc j)) k

abbrev rows_of : List Member → List (List ℕ)
rows_of ms = map kinds (facts_of_all ms)

rows_done : (ms : List Member) → EachLawful ms → rows_rule units_of (facts_of_all ms) ≡ done (rows_of ms)
rows_done [] e = refl
rows_done (m ∷ ms) e = rw (e 0, rows_done ms (λ k. e (suc k))) refl

facts_length : (ms : List Member) → length (facts_of_all ms) ≡ length ms
facts_length [] = refl
facts_length (m ∷ ms) = ap suc (facts_length ms)

rows_long : (ms : List Member) → length (rows_of ms) ≡ length ms
rows_long [] = refl
rows_long (m ∷ ms) = ap suc (rows_long ms)

-- lines on empty heads are all taken
lines_done : (pre cost : List ℤ) → length pre + length cost ≤ 6 → EachWithin MOST_CENTS cost → lines_rule (pre ++ replicate (length cost) (pos 0)) (length pre + 1) cost ≡ done (pre ++ cost)
lines_done pre [] l e = refl
lines_done pre (c ∷ cost) l e =
    let units = pre ++ (pos 0 ∷ replicate (length cost) (pos 0)) in
    let n : length pre + 1 - 1 ≡ length pre = omega arith in
    let sum : at units (length pre + 1 - 1) +ℤ c ≡ c = rw (n, get_or_at pre (pos 0) (replicate (length cost) (pos 0)) (pos 0) (length pre) refl) (omega (arith, ints)) in
    let written : set units (length pre + 1 - 1) (at units (length pre + 1 - 1) +ℤ c) ≡ (pre ++ (c ∷ [])) ++ replicate (length cost) (pos 0) =
    ap (λ z. set units (length pre + 1 - 1) z) sum ∙ rw (n, set_at pre (pos 0) (replicate (length cost) (pos 0)) c (length pre) refl, append_assoc) in
    let ok : within (at units (length pre + 1 - 1) +ℤ c) ≡ true = ap within sum ∙ le-leb (nat_abs c) MOST_CENTS (e 0) in
    let count : length (pre ++ (c ∷ [])) + 1 ≡ length pre + 1 + 1 = omega (arith, length_push pre c) in
    ap (λ t. next t (λ rest. lines_rule rest (length pre + 1 + 1) cost)) (line_done units (length pre + 1) c _ (omega arith) (omega arith) ok written)
    ∙ ap (λ (k : ℕ). lines_rule ((pre ++ (c ∷ [])) ++ replicate (length cost) (pos 0)) k cost) (sym count)
    ∙ lines_done (pre ++ (c ∷ [])) cost (omega (arith, length_push pre c)) (λ k. e (suc k))
    ∙ ap done (append_assoc pre (c ∷ []) cost)
  where
    line_done : (units : List ℤ) (head : ℕ) (c : ℤ) (new : List ℤ) → 1 ≤ head → head ≤ 6 → within (at units (head - 1) +ℤ c) ≡ true → set units (head - 1) (at units (head - 1) +ℤ c) ≡ new → line_rule units head c ≡ done new
    line_done units head c new low high ok e =
        let a : ltb head 1 ≡ false = le-ltb head 1 low in
        let b : ltb 6 head ≡ false = le-ltb 6 head high in
        rw (a, b, ok, e) refl

-- booked on empty heads, six costs are the heads
sums_zero : (zs : List ℤ) → sums (replicate (length zs) (pos 0)) zs ≡ zs
sums_zero [] = refl
sums_zero (z ∷ zs) =
    let e : pos 0 +ℤ z ≡ z = omega (arith, ints) in
    rw (e, sums_zero zs) refl

all_within : (zs : List ℤ) → EachWithin MOST_CENTS zs → all_pass within zs ≡ true
all_within [] e = refl
all_within (z ∷ zs) e = rw (le-leb (nat_abs z) MOST_CENTS (e 0), all_within zs (λ k. e (suc k))) refl

-- the totals and the pools refuse by 8 and 9
totals_late : (rows : List (List ℕ)) (k n : ℕ) → OnlyLate (totals_rule rows k n)
totals_late rows k zero = tt
totals_late rows k (suc n) = late_test (leb (sum (column rows k)) MOST_UNITS) (totals_rule rows (k + 1) n) 8 layer.Ledger (k + 1) refl (totals_late rows (k + 1) n)

pools_late : (pools : List ℤ) (c : ℕ) → OnlyLate (pools_rule pools c)
pools_late [] c = tt
pools_late (p ∷ pools) c = late_test (leb (nat_abs p) MOST_CENTS) (pools_rule pools (c + 1)) 9 layer.Ledger (c + 1) refl (pools_late pools (c + 1))

charge_late : (pools : List ℤ) (rows : List (List ℕ)) → 1 ≤ length rows → length rows ≤ MOST_MEMBERS → OnlyLate (charge_rule pools rows (13 * length rows))
charge_late pools rows low high =
    let a = eq-eqb (13 * length rows) (13 * length rows) refl in
    let b = le-leb 1 (length rows) low in
    let c = le-leb (length rows) MOST_MEMBERS high in
    rw (a, b, c) (late_next (totals_rule rows 0 7) (λ _. pools_rule pools 0) (totals_late rows 0 7) (λ _. pools_late pools 0))

balance_late : (control : ℤ) (amounts : List ℤ) → OnlyLate (balance_rule control amounts)
balance_late control amounts = late_test (eqb (missed control amounts) 0) (done tt) 13 layer.Voucher 0 refl tt

module _ (m : Month) (r : InRange m) where
  abbrev paying : List Member
  paying = take m.count m.members

  paying_long : length paying ≡ m.count
  paying_long = length-take-le m.count m.members (omega (arith, r.placed.places, r.count_high))

  pub sheet_done : month_sheet m ≡ done (m.sheet.division, m.sheet.management, m.sheet.split)
  sheet_done = rw (sheet_passes m.sheet.division m.sheet.management m.sheet.split r.weighed) refl

  pub units_done : month_units m ≡ done (rows_of paying)
  units_done =
      let few = le-leb m.count MOST_TEXT_MEMBERS r.count_high in
      let low = le-leb FIRST_MONTH m.month r.month_low in
      let high = le-leb m.month LAST_MONTH r.month_high in
      let n = facts_length paying ∙ paying_long in
      let some = le-leb 1 m.count r.count_low in
      let most = le-leb m.count MOST_MEMBERS (omega (arith, r.count_high)) in
      rw (few, low, high, n, some, most) (rows_done paying (lawful_take m.count m.members r.placed.facts_lawful))

  -- the voucher takes the costs, where they add up to the control total, and so do the heads
  pub heads_balanced : length m.cost ≡ 6 → month_heads m ≡ next (balance_rule m.control m.cost) (λ _. done m.cost)
  heads_balanced six =
      let opened : open_rule m.control ≡ done (m.control, no_heads, _) = cond-true (leb (nat_abs m.control) MOST_CONTROL) _ _ (le-leb (nat_abs m.control) MOST_CONTROL r.control_within) in
      let empty : replicate (length m.cost) (pos 0) ≡ no_heads = ap (λ (n : ℕ). replicate n (pos 0)) six in
      let lines : lines_rule no_heads 1 m.cost ≡ done m.cost = ap (λ (h : List ℤ). lines_rule h 1 m.cost) (sym empty) ∙ lines_done [] m.cost (omega (arith, six)) r.cost_each in
      let left : sums no_heads m.cost ≡ m.cost = ap (λ (h : List ℤ). sums h m.cost) (sym empty) ∙ sums_zero m.cost in
      let within' = all_within m.cost r.cost_each in
      let booked : book_rule no_heads m.cost ≡ done m.cost = rw (left, within') refl in
      rw (opened, lines) (through (balance_rule m.control m.cost) m.cost (λ a. book_rule no_heads a) (done m.cost) booked)
    where
      through : {S A B : Type 0} (t : Answer S) (v : A) (k : A → Answer B) (u : Answer B) → k v ≡ u → next (next t (λ _. done v)) k ≡ next t (λ _. u)
      through (done s) v k u e = e
      through (refused n l p) v k u e = refl

  -- so nothing but the control total, the totals and the pools refuses the bill
  pub bill_late : (shares : Shares) → length m.cost ≡ 6 → OnlyLate (bill_by shares m)
  bill_late shares six =
      let n = rows_long paying ∙ paying_long in
      let pools = λ (heads : List ℤ). costs m.sheet.division m.sheet.management m.sheet.split heads in
      let charged = λ (heads : List ℤ). charge_places shares (pools heads) (rows_of paying) m in
      let tested : (heads : List ℤ) → OnlyLate (charge_rule (pools heads) (rows_of paying) (13 * length (rows_of paying))) =
      λ heads. charge_late (pools heads) (rows_of paying) (omega (arith, n, r.count_low)) (omega (arith, n, r.count_high)) in
      let late : (heads : List ℤ) → OnlyLate (charged heads) =
      λ heads. late_next (charge_rule (pools heads) (rows_of paying) (13 * length (rows_of paying))) _ (tested heads) (λ _. tt) in
      let booked = late_next (balance_rule m.control m.cost) (λ _. done m.cost) (balance_late m.control m.cost) (λ _. tt) in
      let heads = late_same (month_heads m) _ (heads_balanced six) booked in
      rw (sheet_done, units_done) (late_next (month_heads m) charged heads late)

-- where only a late test refuses by the definition, so it is with the answer
pub late_answer : {T U : Type 0} (f : T → U) (x : Result T Fault) (t : Answer U) → answer_by f x ≡ t → OnlyLate t → OnlyLate (answer x)
late_answer f (Ok v) t e h = tt
late_answer f (Err v) t e h = subst OnlyLate (sym e) h
