-- A run, order by order.
use Rattle.std.proofs.Common.{◌≡◌, ℕ, ◌+◌, ◌*◌, ◌<◌, ◌≤◌, List, [], ◌∷◌, ◌++◌, length, get_or, take, drop, set, ℤ, Ok, Result, sym, refl, ap, ◌∙◌, subst, ⊎_elim, mul-le-mul_right, arith}
use borrow.Rule.Slice.PartMut.{put_mid}
use Rattle.std.proofs.lemmas.List.{take_more, take_at, drop_at, drop-take, length-take-le, get_or-set_same, get_or-set_other}
use Rattle.std.proofs.lemmas.Slice.{take-put_mid_below, drop-put_mid}
use Rattle.std.proofs.lemmas.Bool.{cases_eq}
use Rattle.refusal.specs.Answers.{answer}
use Rattle.refusal.specs.declared.Fault.{Fault}
use Rattle.ledger.specs.Files.{part}
use Rattle.ledger.specs.States.{LedgerState}
use Rattle.ledger.specs.Kept.{Terms, Kept}
use Rattle.runs.specs.declared.done.Done.{Done}
use Rattle.runs.specs.declared.done.Done.TheVariants as ended
use Rattle.runs.specs.Orders.{Deed, World, reached, run_through, cells_after, answer_of, state_after, history_after, CarriedOut}
use Rattle.runs.specs.Runs.{no_deed, before, statement_at}

pub run_more : (t : Terms) (w : World) (deeds : List Deed) (d : Deed) → run_through t w (deeds ++ d ∷ []) ≡ reached t (run_through t w deeds) d
run_more t w [] d = refl
run_more t w (e ∷ deeds) d = run_more t (reached t w e) deeds d

-- rows of one width: the one that is written, those before it, and those after it
module _ {X : Type 0} (w : ℕ) (xs row : List X) (i : ℕ) (fits : i * w + w ≤ length xs) (long : length row ≡ w) where
  pub row_same : part (i * w) w (put_mid (i * w) w xs row) ≡ row
  row_same =
      ap (take w) (drop_at (take (i * w) xs) _ (i * w) (length-take-le (i * w) xs (omega (arith, fits)))) ∙ take_at row _ w long

  pub row_below : (j : ℕ) → j < i → part (j * w) w (put_mid (i * w) w xs row) ≡ part (j * w) w xs
  row_below j l =
      let v : j + 1 ≤ i = omega arith in
      let m = mul-le-mul_right w v in
      sym (drop-take (j * w) w (put_mid (i * w) w xs row)) ∙ ap (drop (j * w)) (take-put_mid_below (i * w) w xs row (j * w + w) (omega (arith, m)) (omega (arith, fits))) ∙ drop-take (j * w) w xs

  pub row_above : (j : ℕ) → i < j → part (j * w) w (put_mid (i * w) w xs row) ≡ part (j * w) w xs
  row_above j l =
      let v : i + 1 ≤ j = omega arith in
      let m = mul-le-mul_right w v in
      ap (take w) (drop-put_mid (i * w) w xs row (j * w) (omega (arith, m)) (omega (arith, fits)) long)

pub record Running (t : Terms) (w : World) (deeds : List Deed) (i : ℕ) (outcomes : List (Result Done Fault)) (memory cells : List ℤ) (s : LedgerState) : Type 0 where
  pub state : s ≡ before t w deeds i
  pub kept : Kept t (run_through t w (take i deeds)).history s
  pub outcome : (j : ℕ) → j < i → answer (get_or outcomes j (Ok ended.Booked)) ≡ answer_of t (before t w deeds j) (get_or deeds j no_deed)
  pub cell : (j : ℕ) → j < i → statement_at t j cells ≡ cells_after t (before t w deeds j) (get_or deeds j no_deed) (statement_at t j memory)
  pub rest : (j : ℕ) → i ≤ j → statement_at t j cells ≡ statement_at t j memory

-- one order more
pub running_more : (t : Terms) (w : World) (deeds : List Deed) (i : ℕ) (outcomes : List (Result Done Fault)) (memory cells row : List ℤ) (s s' : LedgerState) (d : Deed) (o : Result Done Fault)
    → Running t w deeds i outcomes memory cells s → i < length deeds → i < length outcomes → i * (13 * t.members) + 13 * t.members ≤ length cells → length row ≡ 13 * t.members
    → get_or deeds i no_deed ≡ d → CarriedOut t d s s' (answer o) → row ≡ cells_after t s d (statement_at t i cells)
    → Running t w deeds (i + 1) (set outcomes i o) memory (put_mid (i * (13 * t.members)) (13 * t.members) cells row) s'
running_more t w deeds i outcomes memory cells row s s' d o r ld lo fits long ed out er =
    let width = 13 * t.members in
    let here = before t w deeds i in
    let next : run_through t w (take (i + 1) deeds) ≡ reached t (run_through t w (take i deeds)) (get_or deeds i no_deed) = ap (run_through t w) (take_more deeds i no_deed ld) ∙ run_more t w (take i deeds) (get_or deeds i no_deed) in
    let answered : answer o ≡ answer_of t here (get_or deeds i no_deed) = out.answered ∙ rw (r.state, ed) refl in
    let state : s' ≡ state_after t here (get_or deeds i no_deed) = out.state ∙ rw (r.state, ed) refl in
    let written : row ≡ cells_after t here (get_or deeds i no_deed) (part (i * width) width memory) = er ∙ ap (cells_after t s d) (r.rest i (omega arith)) ∙ rw (r.state, ed) refl in
    let k : Kept t (history_after t s d (run_through t w (take i deeds)).history) s' = out.kept (run_through t w (take i deeds)).history r.kept in
    let k' : Kept t (history_after t here (get_or deeds i no_deed) (run_through t w (take i deeds)).history) s' = subst (λ (u : LedgerState). Kept t (history_after t u (get_or deeds i no_deed) (run_through t w (take i deeds)).history) s') r.state (subst (λ (e : Deed). Kept t (history_after t s e (run_through t w (take i deeds)).history) s') (sym ed) k) in
    record {
      state = state ∙ ap (λ (v : World). v.state) (sym next);
      kept = subst (λ (v : World). Kept t v.history s') (sym next) k';
      outcome = λ j l.
          ⊎_elim
          (λ (e : j ≡ i). rw e (ap answer (get_or-set_same outcomes i o (Ok ended.Booked) lo) ∙ answered))
          (λ (ne : j ≡ i → ⊥). ap answer (get_or-set_other outcomes i j o (Ok ended.Booked) ne) ∙ r.outcome j (omega arith))
          (cases_eq j i);
      cell = λ j l.
          ⊎_elim
          (λ (e : j ≡ i). rw e (row_same width cells row i fits long ∙ written))
          (λ (ne : j ≡ i → ⊥). row_below width cells row i fits long j (omega arith) ∙ r.cell j (omega arith))
          (cases_eq j i);
      rest = λ j l. row_above width cells row i fits long j (omega arith) ∙ r.rest j (omega arith);
    }

-- the same, where start and width are given by other numbers
pub running_step : (t : Terms) (w : World) (deeds : List Deed) (i start k : ℕ) (outcomes : List (Result Done Fault)) (memory cells row : List ℤ) (s s' : LedgerState) (d : Deed) (o : Result Done Fault)
    → start ≡ i * (13 * t.members) → k ≡ 13 * t.members
    → Running t w deeds i outcomes memory cells s → i < length deeds → i < length outcomes → i * (13 * t.members) + 13 * t.members ≤ length cells → length row ≡ 13 * t.members
    → get_or deeds i no_deed ≡ d → CarriedOut t d s s' (answer o) → row ≡ cells_after t s d (take k (drop start cells))
    → Running t w deeds (i + 1) (set outcomes i o) memory (put_mid start k cells row) s'
running_step t w deeds i start k outcomes memory cells row s s' d o es ek r ld lo fits long ed out =
    subst (λ (a : ℕ). row ≡ cells_after t s d (take k (drop a cells)) → Running t w deeds (i + 1) (set outcomes i o) memory (put_mid a k cells row) s') (sym es)
    (subst (λ (n : ℕ). row ≡ cells_after t s d (take n (drop (i * (13 * t.members)) cells)) → Running t w deeds (i + 1) (set outcomes i o) memory (put_mid (i * (13 * t.members)) n cells row) s') (sym ek)
    (running_more t w deeds i outcomes memory cells row s s' d o r ld lo fits long ed out))

pub row_fits : (i n r m cells : ℕ) → i < n → cells ≡ n * (13 * m) → r ≡ m → i * (13 * r) + 13 * r ≤ cells
row_fits i n r m cells l e f =
    let v : i + 1 ≤ n = omega arith in
    rw (f, e) (omega (arith, mul-le-mul_right (13 * m) v))
