-- A journal's orders, their run and its text, joined.
use Rattle.std.proofs.Common.{◌≡◌, ℕ, ◌*◌, ◌≤◌, List, [], ◌∷◌, length, map, Bor, Some, refl, ap, sym, subst, ◌∙◌, arith}
use Rattle.std.specs.List.{slice_get}
use Rattle.std.proofs.lemmas.List.{length-map}
use Rattle.refusal.specs.Answers.{Answer, done, next}
use Rattle.bottom_books.specs.declared.measured_book.MeasuredBook.{MeasuredBook}
use Rattle.month_text.specs.declared.month.Month.{Month}
use Rattle.journal_text.specs.declared.entry.Entry.{Entry}
use Rattle.ledger.specs.Files.{part}
use Rattle.ledger.specs.Kept.{Terms}
use Rattle.runs.specs.declared.order.Order.{Order}
use Rattle.runs.specs.Orders.{Deed}
use Rattle.journal_run.specs.Deeds.{EntryOrder, order_entries, deeds_of, orders_of, opening, month_terms, first_world}
use Rattle.journal_run.specs.Meanings.{order_deed, entries_at, entry_orders}
use Rattle.journal_run.specs.Runs.{blank_cells, IsRunOf}
use Rattle.journal_run.specs.Printed.{run_text}
use Rattle.journal_run.specs.Journals.{entries_text}
use Rattle.journal_run.specs.JournalRuns.{Each, CountsInRange, FromEntry, JournalRun}
use Rattle.journal_run.specs.declared.run_result.RunResult.{RunResult}
use Rattle.journal_run.proofs.Ended.{shares_long}
use Rattle.journal_run.proofs.Entries.{each_given, entries_of_orders, deeds_of_orders}
use Rattle.limits.specs.declared.TheConstants.{MOST_TEXT_MEMBERS}

counts_of : (orders : List EntryOrder) → Each (λ (o : EntryOrder). o.0.month.count ≤ MOST_TEXT_MEMBERS) orders → CountsInRange (order_entries orders)
counts_of [] f = tt
counts_of (o ∷ orders) f = (f.0, counts_of orders f.1)

module _ {M : Type 0} (entries : List Entry) (es : List (Bor Entry)) (os : List (Order (MeasuredBook M))) (answered : done (entry_orders es os) ≡ orders_of entries) (n : length es ≡ length os) where
  pub counts : CountsInRange (entries_at es)
  counts =
      subst CountsInRange (entries_of_orders es os n) (counts_of (entry_orders es os) (each_given (λ e d. e.month.count ≤ MOST_TEXT_MEMBERS) (λ e few. few) (λ e rows few. few) (λ e component rows is few. few) entries (entry_orders es os) answered))

  pub run_is : (m : Month) (ran : RunResult) → IsRunOf (month_terms m) (first_world m) (map order_deed os) ran → ran.width ≡ 13 * m.count → JournalRun (month_terms m) (first_world m) (entry_orders es os) (entries_at es) ran
  run_is m ran run wide =
      let t = month_terms m in
      let w = first_world m in
      let orders = entry_orders es os in
      let r = subst (λ (ds : List Deed). IsRunOf t w ds ran) (sym (deeds_of_orders es os n)) run in
      let k : length (deeds_of orders) ≡ length orders = length-map orders (λ (o : EntryOrder). o.1) in
      record {
        long = shares_long m.rule;
        from_entries = each_given FromEntry (λ e few. refl) (λ e rows few. refl) (λ e component rows is few. (is, refl)) entries orders answered;
        entries_are = sym (entries_of_orders es os n);
        wide = wide;
        new = refl;
        outcome = λ i l. r.ran.outcome i (omega (arith, k, l));
        memories = λ i. part (i * (13 * m.count)) (13 * m.count) (blank_cells t (deeds_of orders));
        cell = λ i l. r.ran.cell i (omega (arith, k, l));
        balances_are = r.balances_are;
        waiting_is = r.waiting_is;
        adds_up = rw (r.balances_are, r.waiting_is) r.ran.promise.adds_up;
      }

-- the text of a journal that has a first entry
pub text_is : (entries : List Entry) (first : Entry) (orders : List EntryOrder) (text : List ℕ) → Some first ≡ slice_get entries 0 → done orders ≡ orders_of entries → done (month_terms first.month) ≡ opening first.month
    → text ≡ run_text (month_terms first.month) (first_world first.month) orders → done text ≡ entries_text entries
text_is [] first orders text is answered opens same = cc is
text_is (e ∷ entries) first orders text is answered opens same =
    let f : first ≡ e = cc in
    let k : Entry → List EntryOrder → Answer (List ℕ) = λ d os. next (opening d.month) (λ t. done (run_text t (first_world d.month) os)) in
    ap (λ (bytes : List ℕ). done bytes) same
    ∙ ap (λ (x : Answer Terms). next x (λ t. done (run_text t (first_world first.month) orders))) opens
    ∙ ap (λ (d : Entry). k d orders) f ∙ ap (λ (x : Answer (List EntryOrder)). next x (k e)) answered
