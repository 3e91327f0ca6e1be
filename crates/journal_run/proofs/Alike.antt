-- An order comes to the same by a book as by its members' rows.
use Rattle.std.proofs.Common.{◌≡◌, ℕ, ◌-◌, ◌*◌, List, [], ◌∷◌, take, map, get_or, ℤ, Result, refl, ap, sym, subst, ◌∙◌, arith}
use Rattle.std.proofs.lemmas.List.{length-map, take-map}
use Rattle.std.proofs.Math.ListN.{get_or-map}
use Rattle.refusal.specs.Answers.{Answer, done, refused, next, after}
use Rattle.refusal.specs.declared.Fault.{Fault}
use Rattle.tariff.specs.Heads.{book_rule}
use Rattle.month_voucher.specs.Costs.{cost_rule}
use Rattle.sharing.specs.Shares.{Shares}
use Rattle.ledger.specs.Readings.{Reading}
use Rattle.ledger.specs.Files.{part}
use Rattle.ledger.specs.States.{LedgerState, ledger_state}
use Rattle.ledger.specs.Billing.{Cut, Left, bill_rule}
use Rattle.ledger.specs.Resettling.{resettle_rule}
use Rattle.ledger.specs.Histories.{Event, History, booked, billed, resettled}
use Rattle.ledger.specs.Kept.{Terms}
use Rattle.runs.specs.declared.done.Done.{Done}
use Rattle.runs.specs.Orders.{Deed, World, Carried, book, bill, resettle, carried, ended_of, answer_of, state_after, history_after, cells_after, reached, run_through}
use Rattle.runs.specs.Runs.{no_deed, before, Ran}
use Rattle.journal_run.specs.Meanings.{by_rows, deed_by_rows}
use Rattle.journal_run.proofs.Figures.{Figures, no_calls, booked_more, billed_more, resettled_more, promise_same, invariant_same}
use Rattle.journal_run.proofs.Rows.{rows_again}

bill_alike : (shares : Shares) (cut : Cut) (s : LedgerState) (b : Reading) (cells : ℕ) → bill_rule shares cut s b cells ≡ bill_rule shares cut s (by_rows b) cells
bill_alike shares cut s b cells = rw (rows_again b.units b.count) refl

resettle_alike : (shares : Shares) (s : LedgerState) (b : Reading) (component cells : ℕ) → resettle_rule shares s b component cells ≡ resettle_rule shares s (by_rows b) component cells
resettle_alike shares s b component cells = rw (rows_again b.units b.count) refl

-- what two orders leave alike: all but their books
pub record Same (t : Terms) (s : LedgerState) (d e : Deed) : Type 0 where
  pub answer : answer_of t s d ≡ answer_of t s e
  pub state : state_after t s d ≡ state_after t s e
  pub cells : (memory : List ℤ) → cells_after t s d memory ≡ cells_after t s e memory
  pub figures : (g h : History) → Figures g h → Figures (history_after t s e g) (history_after t s d h)

abbrev carried_by : Answer Left → (Left → Event) → Answer Carried
carried_by x event = next x (λ left. done (record { left = left; event = event left }))

-- one call, remembered with two books
module _ (t : Terms) (s : LedgerState) (d e : Deed) (one other : Left → Event) where
  called : (x : Answer Left) → carried t s d ≡ carried_by x one → carried t s e ≡ carried_by x other
      → ((left : Left) → ended_of d (record { left = left; event = one left }) ≡ ended_of e (record { left = left; event = other left }))
      → ((left : Left) (g h : History) → Figures g h → Figures (other left ∷ g) (one left ∷ h)) → Same t s d e
  called (done left) p q ends more = record { answer = rw (p, q) (ap done (ends left)); state = rw (p, q) refl; cells = λ memory. rw (p, q) refl; figures = λ g h f. rw (p, q) (more left g h f) }
  called (refused n l r) p q ends more = record { answer = rw (p, q) refl; state = rw (p, q) refl; cells = λ memory. rw (p, q) refl; figures = λ g h f. rw (p, q) f }

-- a booking reads no book
module _ (leaves : List ℤ → List ℤ → Left) (g h : History) (f : Figures g h) where
  abbrev booking : Answer (List ℤ) → (List ℤ → Answer (List ℤ)) → Answer Carried
  booking x y = next x (λ costs. next (y costs) (λ heads. done (record { left = leaves costs heads; event = booked costs })))

  booking_remembered : (x : Answer (List ℤ)) (y : List ℤ → Answer (List ℤ)) → Figures (after (booking x y) (λ c. c.event ∷ g) g) (after (booking x y) (λ c. c.event ∷ h) h)
  booking_remembered (refused n l p) y = f
  booking_remembered (done costs) y = heads_remembered (y costs)
    where
      heads_remembered : (z : Answer (List ℤ)) → Figures (after (booking (done costs) (λ _. z)) (λ c. c.event ∷ g) g) (after (booking (done costs) (λ _. z)) (λ c. c.event ∷ h) h)
      heads_remembered (done heads) = booked_more g h f costs
      heads_remembered (refused n l p) = f

pub same : (t : Terms) (s : LedgerState) (d : Deed) → Same t s d (deed_by_rows d)
same t s (book control amounts) = record {
  answer = refl;
  state = refl;
  cells = λ memory. refl;
  figures = λ g h f. booking_remembered (λ costs heads. record { state = ledger_state heads s.accounts s.file; cells = []; components = [] }) g h f (cost_rule control amounts) (λ costs. book_rule s.heads costs);
}
same t s (bill b) =
    called t s (bill b) (bill (by_rows b)) (λ left. billed b left.cells) (λ left. billed (by_rows b) left.cells) (bill_rule t.shares t.cut s b (13 * t.members)) refl
    (ap (λ (x : Answer Left). carried_by x (λ left. billed (by_rows b) left.cells)) (sym (bill_alike t.shares t.cut s b (13 * t.members))))
    (λ left. refl) (λ left g h f. billed_more g h f b left.cells)
same t s (resettle component b) =
    called t s (resettle component b) (resettle component (by_rows b)) (λ left. resettled (component - 1) b left.cells) (λ left. resettled (component - 1) (by_rows b) left.cells) (resettle_rule t.shares s b component t.members) refl
    (ap (λ (x : Answer Left). carried_by x (λ left. resettled (component - 1) (by_rows b) left.cells)) (sym (resettle_alike t.shares s b component t.members)))
    (λ left. refl) (λ left g h f. resettled_more g h f (component - 1) b left.cells)

-- two worlds that agree in all but the books that their calls are remembered with
pub record Agree (v w : World) : Type 0 where
  pub state : v.state ≡ w.state
  pub figures : Figures w.history v.history

reached_alike : (t : Terms) (v w : World) (d : Deed) → Agree v w → Agree (reached t v d) (reached t w (deed_by_rows d))
reached_alike t v w d a =
    let m = same t v.state d in
    record {
      state = m.state ∙ ap (λ (s : LedgerState). state_after t s (deed_by_rows d)) a.state;
      figures = subst (λ (s : LedgerState). Figures (history_after t s (deed_by_rows d) w.history) (history_after t v.state d v.history)) a.state (m.figures w.history v.history a.figures);
    }

pub run_alike : (t : Terms) (v w : World) (deeds : List Deed) → Agree v w → Agree (run_through t v deeds) (run_through t w (map deed_by_rows deeds))
run_alike t v w [] a = a
run_alike t v w (d ∷ deeds) a = run_alike t (reached t v d) (reached t w (deed_by_rows d)) deeds (reached_alike t v w d a)

-- a run from no calls on keeps its accounts with either book
module _ (t : Terms) (w : World) (new : w.history ≡ []) (deeds : List Deed) where
  abbrev own : Agree w w
  own = record { state = refl; figures = rw new no_calls }

  before_alike : (i : ℕ) → before t w deeds i ≡ before t w (map deed_by_rows deeds) i
  before_alike i = (run_alike t w w (take i deeds) own).state ∙ ap (λ (ds : List Deed). (run_through t w ds).state) (sym (take-map deed_by_rows i deeds))

  pub ran_alike : (outcomes : List (Result Done Fault)) (memory cells : List ℤ) (s : LedgerState) → Ran t w deeds outcomes memory cells s → Ran t w (map deed_by_rows deeds) outcomes memory cells s
  ran_alike outcomes memory cells s r =
      let n = length-map deeds deed_by_rows in
      let a = run_alike t w w deeds own in
      let at : (i : ℕ) → get_or (map deed_by_rows deeds) i no_deed ≡ deed_by_rows (get_or deeds i no_deed) = λ i. get_or-map deed_by_rows deeds i no_deed in
      let width = 13 * t.members in
      record {
        state = r.state ∙ a.state;
        promise = promise_same (run_through t w (map deed_by_rows deeds)).history (run_through t w deeds).history a.figures t s r.promise;
        invariant = invariant_same (run_through t w (map deed_by_rows deeds)).history (run_through t w deeds).history a.figures t s r.invariant;
        outcome = λ i l.
            let d = get_or deeds i no_deed in
            r.outcome i (omega (arith, n, l)) ∙ (same t (before t w deeds i) d).answer ∙ ap (λ (u : LedgerState). answer_of t u (deed_by_rows d)) (before_alike i)
            ∙ ap (answer_of t (before t w (map deed_by_rows deeds) i)) (sym (at i));
        cell = λ i l.
            let d = get_or deeds i no_deed in
            let row = part (i * width) width memory in
            r.cell i (omega (arith, n, l)) ∙ (same t (before t w deeds i) d).cells row ∙ ap (λ (u : LedgerState). cells_after t u (deed_by_rows d) row) (before_alike i)
            ∙ ap (λ (e : Deed). cells_after t (before t w (map deed_by_rows deeds) i) e row) (sym (at i));
      }
