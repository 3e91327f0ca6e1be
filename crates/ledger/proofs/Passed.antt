-- What a bill that passed its tests is known to keep.
use Rattle.std.proofs.Common.{◌≡◌, ℕ, zero, suc, ◌+◌, ◌*◌, ◌<◌, ◌≤◌, Bool, true, false, cond, ◌&&◌, eqb, leb, List, length, get_or, ℤ, pos, nat_abs, sum, sym, refl, ap, ◌∙◌, arith}
use Rattle.std.proofs.lemmas.Bool.{cond-true, eq-eqb, eqb-true, le-leb, and_from}
use Rattle.refusal.specs.Answers.{Answer, done, refused, next}
use Rattle.refusal.specs.declared.Layer.{Layer}
use Rattle.refusal.specs.declared.Layer.TheVariants as layer
use Rattle.refusal.proofs.Apart.{done_refused}
use Rattle.statement.specs.Columns.{column}
use Rattle.statement.specs.Readings.{book_rows}
use Rattle.statement.specs.Checks.{charge_rule}
use Rattle.statement.proofs.Passed.{passed}
use Rattle.ledger.specs.declared.accounts.Accounts.{Accounts}
use Rattle.ledger.specs.Readings.{Reading, rows_read}
use Rattle.ledger.specs.Files.{file_length}
use Rattle.ledger.specs.Billing.{ranges_rule, memory_rule, bill_check}
use Rattle.limits.specs.declared.TheConstants.{MOST_CENTS, MOST_MEMBERS, MOST_UNITS}

-- with a statement and members that fit, only the ranges are left to test
pub ranges_left : (pools : List ℤ) (rows : List (List ℕ)) (cells : ℕ) (answered : Answer (Unit {0})) → cells ≡ 13 * length rows → 1 ≤ length rows → length rows ≤ MOST_MEMBERS
    → answered ≡ charge_rule pools rows cells → answered ≡ ranges_rule pools rows
unfolding ranges_rule
ranges_left pools rows cells answered e l h t =
    t ∙ cond-true (eqb cells (13 * length rows)) _ _ (eq-eqb cells (13 * length rows) e)
    ∙ cond-true (leb 1 (length rows) && leb (length rows) MOST_MEMBERS) _ _ (and_from (leb 1 (length rows)) (leb (length rows) MOST_MEMBERS) (le-leb 1 (length rows) l) (le-leb (length rows) MOST_MEMBERS h))

pub kept : {T : Type 0} (b : Bool) (v : T) (x : Answer T) (n : ℕ) (l : Layer) (p : ℕ) → done v ≡ cond b x (refused n l p) → (b ≡ true) × (done v ≡ x)
kept true v x n l p e = (refl, e)
kept false v x n l p e = absurd (done_refused v n l p e)

-- memory and book fit the ledger
pub memory_passed : (members lines cells wanted count : ℕ) → done tt ≡ memory_rule members lines cells wanted count → (lines ≡ file_length members) × (cells ≡ wanted) × (count ≡ members)
memory_passed members lines cells wanted count e =
    let third = cond (eqb count members) (done tt) (refused 4 layer.Ledger 0) in
    let second = cond (eqb cells wanted) third (refused 11 layer.Ledger 0) in
    let a = kept (eqb lines (file_length members)) tt second 11 layer.Ledger 0 e in
    let b = kept (eqb cells wanted) tt third 11 layer.Ledger 0 a.1 in
    let d = kept (eqb count members) tt (done tt) 4 layer.Ledger 0 b.1 in
    (eqb-true lines (file_length members) a.0, eqb-true cells wanted b.0, eqb-true count members d.0)

-- a bill that is not refused: memory and book fit, the book is of the open month, pools and totals are in range
pub record BillPassed (a : Accounts) (pools : List ℤ) (b : Reading) (lines cells : ℕ) : Type 0 where
  pub file : lines ≡ file_length a.members
  pub statement : cells ≡ 13 * a.members
  pub count : b.count ≡ a.members
  pub month : b.month ≡ a.month
  pub pools_in : (c : ℕ) → nat_abs (get_or pools c (pos 0)) ≤ MOST_CENTS
  pub units_in : (k : ℕ) → k < 7 → sum (column (rows_read b) k) ≤ MOST_UNITS

pub rows_length : (units : ℕ → ℕ → ℕ) (m n : ℕ) → length (book_rows units m n) ≡ n
rows_length units m zero = refl
rows_length units m (suc n) = ap suc (rows_length units (m + 1) n)

pub both : {S T : Type 0} (t : Answer S) (k : S → Answer T) (v : T) → done v ≡ next t k → (s : S) × (done s ≡ t) × (done v ≡ k s)
both (done s) k v e = (s, refl, e)
both (refused n l p) k v e = absurd (done_refused v n l p e)

-- with memory and month tested, the month's charge decides
pub bill_answered : (a : Accounts) (pools pools' : List ℤ) (b : Reading) (rows : List (List ℕ)) (lines cells month : ℕ) (t : Answer (Unit {0})) → done tt ≡ memory_rule a.members lines cells (13 * a.members) b.count
    → month ≡ b.month → month ≡ a.month → rows ≡ rows_read b → 1 ≤ b.count → b.count ≤ MOST_MEMBERS → pools ≡ pools' → t ≡ charge_rule pools rows cells → t ≡ bill_check a pools' b lines cells
bill_answered a pools pools' b rows lines cells month t m em o e low high ep h =
    let ranges = cond (eqb b.month a.month) (ranges_rule pools' (rows_read b)) (refused 5 layer.Ledger 0) in
    let n : length rows ≡ b.count = ap length e ∙ rows_length b.units 0 b.count in
    let k = memory_passed a.members lines cells (13 * a.members) b.count m in
    ranges_left pools rows cells t (omega (arith, n, k.1, k.2)) (omega (arith, n)) (omega (arith, n)) h
    ∙ ap (ranges_rule pools) e
    ∙ ap (λ (zs : List ℤ). ranges_rule zs (rows_read b)) ep
    ∙ sym (cond-true (eqb b.month a.month) (ranges_rule pools' (rows_read b)) (refused 5 layer.Ledger 0) (eq-eqb b.month a.month (sym em ∙ o)))
    ∙ ap (λ (x : Answer (Unit {0})). next x (λ _. ranges)) m

pub bill_passed : (a : Accounts) (pools : List ℤ) (b : Reading) (lines cells : ℕ) → 1 ≤ b.count → b.count ≤ MOST_MEMBERS
    → done tt ≡ bill_check a pools b lines cells → BillPassed a pools b lines cells
bill_passed a pools b lines cells low high e =
    let ranges = cond (eqb b.month a.month) (ranges_rule pools (rows_read b)) (refused 5 layer.Ledger 0) in
    let p = both (memory_rule a.members lines cells (13 * a.members) b.count) (λ _. ranges) tt e in
    let m = memory_passed a.members lines cells (13 * a.members) b.count p.1 in
    let q = kept (eqb b.month a.month) tt (ranges_rule pools (rows_read b)) 5 layer.Ledger 0 p.2 in
    let n = rows_length b.units 0 b.count in
    let c = ranges_left pools (rows_read b) (13 * b.count) (charge_rule pools (rows_read b) (13 * b.count)) (omega (arith, n)) (omega (arith, n)) (omega (arith, n)) refl in
    let r = passed pools (rows_read b) (13 * b.count) (q.1 ∙ sym c) in
    record {
      file = m.0;
      statement = m.1;
      count = m.2;
      month = eqb-true b.month a.month q.0;
      pools_in = r.2;
      units_in = r.3;
    }
