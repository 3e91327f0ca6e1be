-- Lists made member by member.
use Rattle.std.proofs.Common.{◌≡◌, ℕ, zero, suc, ◌+◌, ◌*◌, ◌<◌, ◌≤◌, Bool, true, false, cond, leb, ltb, List, [], ◌∷◌, ◌++◌, map, length, get_or, take, drop, replicate, ℤ, pos, Option, sym, refl, ap, ◌∙◌, arith}
use Rattle.std.proofs.lemmas.List.{drop_more, take-map, get_or-take, length-take-le}
use Rattle.std.proofs.lemmas.Bool.{cond-true, le-leb, le-ltb}
use Rattle.refusal.specs.Answers.{Answer, done, refused}
use Rattle.refusal.proofs.Apart.{refused_done}
use Rattle.cents.proofs.Tabulated.{tabulated}
use Rattle.refusal.specs.declared.Layer.TheVariants as layer
use Rattle.units.specs.declared.facts.Facts.{Facts}
use Rattle.units.specs.Kinds.{lawful, kinds, units_of}
use Rattle.cents.proofs.Options.{cond_some}
use Rattle.bottom_books.specs.Tables.{cell, rows_rule, table_rule}
use Rattle.limits.specs.Ranges.{month_lawful, count_lawful}
use Rattle.bottom_books.proofs.UnitsInRange.{parted}
use Rattle.statement.specs.Readings.{book_row, book_rows}
use Rattle.month_text.specs.declared.month.Member.{Member}
use Rattle.month_text.specs.declared.month.Month.{Month}
use Rattle.charges_text.specs.declared.charges.MemberCharge.{MemberCharge}
use Rattle.statement.specs.Charges.{members_in, member_charges}
use Rattle.month_bill.specs.Members.{facts_of_all, units_rule, month_units, member_rows, idle_row, place_rows}
use Rattle.limits.specs.declared.TheConstants.{MOST_TEXT_MEMBERS}

-- a month's units are those of the table of its facts
pub units_of_facts : (m : Month) (facts : List Facts) → m.count ≤ MOST_TEXT_MEMBERS → facts ≡ facts_of_all m.members → table_rule units_of m.month (take m.count facts) ≡ month_units m
units_of_facts m facts l e =
    rw (e, take-map (λ (w : Member). w.facts) m.count m.members) (sym (cond-true (leb m.count MOST_TEXT_MEMBERS) _ _ (le-leb m.count MOST_TEXT_MEMBERS l)))

-- facts make rows of seven
seven_rows : (facts : List Facts) (out : List (List ℕ)) → rows_rule units_of facts ≡ done out → (i : ℕ) → i < length out → length (get_or out i []) ≡ 7
seven_rows [] out e i l = let n : out ≡ [] = cc in absurd (omega (arith, ap length n))
seven_rows (f ∷ facts) out e i l =
    let p = parted (units_of f) (rows_rule units_of facts) out e in
    let k = cond_some (lawful f) (kinds f) p.0 (sym p.2) in
    let n = ap length p.4 in
    rw p.4 (elim i as (λ (j : ℕ). j < suc (length p.1) → length (get_or (p.0 ∷ p.1) j []) ≡ 7) [ zero ↦ λ q. ap length k.1 | suc j ↦ λ q. seven_rows facts p.1 p.3 j (omega arith) ] (omega (arith, n)))

-- a table's rows are what its cells read as
rows_read : (rows : List (List ℕ)) (m n : ℕ) → m + n ≤ length rows → ((i : ℕ) → i < m + n → length (get_or rows i []) ≡ 7) → book_rows (cell rows) m n ≡ take n (drop m rows)
rows_read rows m zero l h = refl
rows_read rows m (suc n) l h =
    let r : book_row (cell rows) m ≡ get_or rows m [] = sym (tabulated 0 7 (get_or rows m []) (h m (omega arith))) in
    let t = rows_read rows (m + 1) n (omega arith) (λ i q. h i (omega arith)) in
    rw (r, t) (sym (ap (take (suc n)) (drop_more rows m [] (omega arith))))

passed_rows : {R : Type 0} (reads : R → Option (List ℕ)) (month : ℕ) (rows : List R) (out : List (List ℕ)) → table_rule reads month rows ≡ done out → rows_rule reads rows ≡ done out
passed_rows reads month rows out e = twice (month_lawful month) (count_lawful (length rows)) (rows_rule reads rows) out e
  where
    twice : (a b : Bool) (t : Answer (List (List ℕ))) (v : List (List ℕ)) → cond a (cond b t (refused 4 layer.Book 0)) (refused 2 layer.Book 0) ≡ done v → t ≡ done v
    twice true true t v q = q
    twice true false t v q = absurd (refused_done 4 layer.Book 0 v q)
    twice false b t v q = absurd (refused_done 2 layer.Book 0 v q)

-- the units that are read off a fact book are those of its facts
book_read : (month n : ℕ) (facts : List Facts) (rows : List (List ℕ)) → n ≤ length rows → table_rule units_of month facts ≡ done (take n rows) → table_rule units_of month facts ≡ done (book_rows (cell rows) 0 n)
book_read month n facts rows l e =
    let p = passed_rows units_of month facts (take n rows) e in
    let s = seven_rows facts (take n rows) p in
    let f : (i : ℕ) → i < 0 + n → length (get_or rows i []) ≡ 7 = λ i q. ap length (sym (get_or-take n rows i [] (omega arith))) ∙ s i (omega (arith, length-take-le n rows l)) in
    e ∙ ap done (sym (rows_read rows 0 n (omega arith) f))

-- the same of a month's book
pub units_read : (m : Month) (rows : List (List ℕ)) (n : ℕ) → n ≡ m.count → m.count ≤ MOST_TEXT_MEMBERS → m.count ≤ length rows → done (take m.count rows) ≡ month_units m → done (book_rows (cell rows) 0 n) ≡ month_units m
units_read m rows n k l h e =
    let u = cond-true (leb m.count MOST_TEXT_MEMBERS) (units_rule m.month (take m.count m.members)) (refused 4 layer.Ledger 0) (le-leb m.count MOST_TEXT_MEMBERS l) in
    ap (λ (c : ℕ). done (book_rows (cell rows) 0 c)) k ∙ sym (book_read m.month m.count (facts_of_all (take m.count m.members)) rows h (sym u ∙ sym e)) ∙ sym u

-- the rows of the first members
pub rows_take : (statement : List ℤ) (i n : ℕ) (members : List Member) → take n (member_rows statement i members) ≡ member_rows statement i (take n members)
rows_take statement i zero members = refl
rows_take statement i (suc n) [] = refl
rows_take statement i (suc n) (m ∷ members) = rw (rows_take statement (i + 1) n members)

-- as many rows as members
pub rows_length : (statement : List ℤ) (i : ℕ) (members : List Member) → length (member_rows statement i members) ≡ length members
rows_length statement i [] = refl
rows_length statement i (m ∷ members) = rw (rows_length statement (i + 1) members)

-- the row at a place
pub row_at : (statement : List ℤ) (i j : ℕ) (members : List Member) (d : MemberCharge) (b : Member) → j < length members
    → get_or (member_rows statement i members) j d ≡ record { account = (get_or members j b).account; charges = member_charges statement (i + j) }
row_at statement i j [] d b l = absurd (omega arith)
row_at statement i zero (m ∷ members) d b l = let e : i + 0 ≡ i = omega arith in rw e refl
row_at statement i (suc j) (m ∷ members) d b l = let e : i + suc j ≡ i + 1 + j = omega arith in rw e (row_at statement (i + 1) j members d b (omega arith))

-- a place that a statement has no member for pays nothing
none_paid : (statement : List ℤ) (i : ℕ) → members_in statement ≤ i → member_charges statement i ≡ replicate 13 (pos 0)
unfolding member_charges
none_paid statement i l = let e : ltb i (members_in statement) ≡ false = le-ltb i (members_in statement) l in rw e refl

-- so the rows of all places are those of the members, and then the idle ones
rows_split : (statement : List ℤ) (i n : ℕ) (members : List Member) → members_in statement ≤ i + n → member_rows statement i members ≡ member_rows statement i (take n members) ++ map idle_row (drop n members)
rows_split statement i zero [] l = refl
rows_split statement i (suc n) [] l = refl
rows_split statement i zero (m ∷ members) l = rw (none_paid statement i (omega arith), rows_split statement (i + 1) zero members (omega arith)) refl
rows_split statement i (suc n) (m ∷ members) l = rw (rows_split statement (i + 1) n members (omega arith)) refl

pub rows_of_places : (statement : List ℤ) (m : Month) → length statement ≡ 13 * m.count → member_rows statement 0 m.members ≡ place_rows statement m
rows_of_places statement m e = rows_split statement 0 m.count m.members (omega (arith, e))
