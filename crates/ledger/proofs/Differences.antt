-- Units of one kind, and new shares less the cents billed to date.
use Rattle.std.proofs.Common.{◌≡◌, ℕ, zero, suc, ◌+◌, ◌-◌, ◌*◌, ◌<◌, ◌≤◌, Bool, true, false, cond, ◌&&◌, ◌||◌, ltb, leb, List, [], ◌∷◌, length, get_or, ℤ, pos, ◌-ℤ◌, nat_abs, sum, sym, refl, ap, ◌∙◌, arith}
use borrow.Author.Differences.{ints}
use Rattle.std.proofs.lemmas.Bool.{lt-ltb, le-ltb, leb-true, and_parts, or_from, cond-true}
use Rattle.cents.specs.Cutting.{sum_z}
use Rattle.std.specs.List.{list_all}
use Rattle.refusal.specs.Answers.{Answer, done, refused, next}
use Rattle.refusal.specs.declared.Layer.TheVariants as layer
use Rattle.tariff.specs.Heads.{within}
use Rattle.book.specs.Asking.{ask_rule}
use Rattle.statement.specs.Columns.{kind_of, column}
use Rattle.statement.specs.Readings.{book_row, book_rows}
use Rattle.ledger.specs.declared.line.Line.{Line}
use Rattle.ledger.specs.Files.{no_line}
use Rattle.ledger.specs.Resettling.{differences, cents_within, balance_left, change_rule}
use Rattle.ledger.proofs.ByComponent.{column_at}
use Rattle.ledger.proofs.Passed.{kept}
use Rattle.limits.specs.declared.TheConstants.{MOST_LINE_CENTS, MOST_SHARED, MOST_UNITS}

kind_in_row : (units : ℕ → ℕ → ℕ) (m k : ℕ) → k < 7 → get_or (book_row units m) k 0 ≡ units (k + 1) m
kind_in_row units m zero l = refl
kind_in_row units m (suc zero) l = refl
kind_in_row units m (suc (suc zero)) l = refl
kind_in_row units m (suc (suc (suc zero))) l = refl
kind_in_row units m (suc (suc (suc (suc zero)))) l = refl
kind_in_row units m (suc (suc (suc (suc (suc zero))))) l = refl
kind_in_row units m (suc (suc (suc (suc (suc (suc zero)))))) l = refl
kind_in_row units m (suc (suc (suc (suc (suc (suc (suc k))))))) l = absurd (omega arith)

rows_at : (units : ℕ → ℕ → ℕ) (m n i : ℕ) → i < n → get_or (book_rows units m n) i [] ≡ book_row units (m + i)
rows_at units m zero i l = absurd (omega arith)
rows_at units m (suc n) zero l = ap (book_row units) {x = m} {y = m + 0} (omega arith)
rows_at units m (suc n) (suc i) l = rows_at units (m + 1) n i (omega arith) ∙ ap (book_row units) {x = m + 1 + i} {y = m + suc i} (omega arith)

pub kind_at : (units : ℕ → ℕ → ℕ) (n k i : ℕ) → k < 7 → i < n → get_or (column (book_rows units 0 n) k) i 0 ≡ units (k + 1) i
kind_at units n k i lk li =
    sym (column_at (book_rows units 0 n) k i) ∙ ap (λ (row : List ℕ). get_or row k 0) (rows_at units 0 n i li)
    ∙ kind_in_row units (0 + i) k lk ∙ ap (units (k + 1)) {x = 0 + i} {y = i} (omega arith)

-- what the book answers of a member and a kind are its units
pub ask_is : (count units kind member u : ℕ) → 1 ≤ kind → kind ≤ 7 → member < count → done u ≡ ask_rule count units kind member → u ≡ units
ask_is count units kind member u low high h e =
    let k : (ltb kind 1 || ltb 7 kind) ≡ false = or_from (ltb kind 1) (ltb 7 kind) (le-ltb kind 1 low) (le-ltb 7 kind high) in
    let a = ap (λ (b : Bool). next (cond b (refused 6 layer.Book 0) (cond (ltb member count) (done tt) (refused 7 layer.Book 0))) (λ _. done units)) k in
    let d : done u ≡ done units = e ∙ a ∙ ap (λ (b : Bool). next (cond b (done tt) (refused 7 layer.Book 0)) (λ _. done units)) (lt-ltb member count h) in cc

pub differences_length : (ss : List ℤ) (ls : List Line) → length ls ≡ length ss → length (differences ss ls) ≡ length ss
differences_length [] ls e = refl
differences_length (s ∷ ss) [] e = absurd (omega arith)
differences_length (s ∷ ss) (l ∷ ls) e = ap suc (differences_length ss ls (omega arith))

pub differences_at : (ss : List ℤ) (ls : List Line) (i : ℕ) → length ls ≡ length ss → get_or (differences ss ls) i (pos 0) ≡ get_or ss i (pos 0) -ℤ (get_or ls i no_line).cents
differences_at [] [] i e = refl
differences_at [] (l ∷ ls) i e = absurd (omega arith)
differences_at (s ∷ ss) [] i e = absurd (omega arith)
differences_at (s ∷ ss) (l ∷ ls) zero e = refl
differences_at (s ∷ ss) (l ∷ ls) (suc i) e = differences_at ss ls i (omega arith)

pub differences_small : (ss : List ℤ) (ls : List Line) → length ls ≡ length ss → ((m : ℕ) → nat_abs (get_or ss m (pos 0)) ≤ (MOST_SHARED + 1)) → list_all cents_within ls ≡ true
    → nat_abs (sum_z (differences ss ls)) ≤ (MOST_SHARED + 1 + MOST_LINE_CENTS) * length ss
differences_small [] ls e hs hc = omega arith
differences_small (s ∷ ss) [] e hs hc = absurd (omega arith)
differences_small (s ∷ ss) (l ∷ ls) e hs hc =
    let p = and_parts (cents_within l) (list_all cents_within ls) hc in
    let c = leb-true (nat_abs l.cents) MOST_LINE_CENTS p.0 in
    let i = differences_small ss ls (omega arith) (λ m. hs (suc m)) p.1 in
    omega (arith, ints, c, hs 0, i)

-- with units in range, the change decides
pub change_answered : (component kind : ℕ) (rows : List (List ℕ)) (shares : List ℤ) (balance : ℤ) (lines : List Line) (t : Answer ℤ) → kind ≡ kind_of component
    → ◌≡◌ {A = Answer (Unit {0})} (done tt) (cond (leb (sum (column rows kind)) MOST_UNITS) (done tt) (refused 8 layer.Ledger (kind + 1)))
    → t ≡ cond (list_all cents_within lines && within (balance_left balance shares lines)) (done (balance_left balance shares lines)) (refused 10 layer.Ledger (component + 1))
    → t ≡ change_rule (component + 1) (column rows (kind_of component)) shares balance lines
change_answered component kind rows shares balance lines t ek d h =
    let k = kept (leb (sum (column rows kind)) MOST_UNITS) tt (done tt) 8 layer.Ledger (kind + 1) d in
    h ∙ sym (cond-true (leb (sum (column rows (kind_of component))) MOST_UNITS) _ (refused 8 layer.Ledger (kind_of (component + 1 - 1) + 1)) (ap (λ (i : ℕ). leb (sum (column rows i)) MOST_UNITS) (sym ek) ∙ k.0))
