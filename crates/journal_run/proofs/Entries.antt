-- What the orders of a journal have from the entries that give them.
use Rattle.std.proofs.Common.{◌≡◌, ℕ, ◌≤◌, Bool, true, false, cond, leb, List, [], ◌∷◌, ◌++◌, length, map, take, Bor, refl, sym, ◌∙◌}
use Rattle.std.proofs.lemmas.Bool.{leb-true}
use Rattle.std.proofs.lemmas.List.{length-map}
use Rattle.std.proofs.lemmas.Slice.Zip.{firsts-zip, seconds-zip}
use Rattle.refusal.specs.Answers.{Answer, done, refused, next}
use Rattle.refusal.specs.declared.Layer.TheVariants as layer
use Rattle.bottom_books.specs.declared.measured_book.MeasuredBook.{MeasuredBook}
use Rattle.month_text.specs.declared.month.Month.{Month}
use Rattle.month_bill.specs.Members.{units_rule, month_units}
use Rattle.journal_text.specs.declared.entry.Action.{Action}
use Rattle.journal_text.specs.declared.entry.Action.TheVariants as action
use Rattle.journal_text.specs.declared.entry.Entry.{Entry}
use Rattle.runs.specs.declared.order.Order.{Order}
use Rattle.runs.specs.Orders.{Deed, book, bill, resettle}
use Rattle.journal_run.specs.Deeds.{month_reading, deeds_for, EntryOrder, order_entries, deeds_of, given_by, orders_of}
use Rattle.journal_run.specs.JournalRuns.{Each}
use Rattle.journal_run.specs.Meanings.{order_deed, entries_at, entry_orders}
use Rattle.limits.specs.declared.TheConstants.{MOST_TEXT_MEMBERS}

-- entries and orders side by side
module _ {M : Type 0} (es : List (Bor Entry)) (os : List (Order (MeasuredBook M))) (n : length es ≡ length os) where
  abbrev long : length (map order_deed os) ≡ length (entries_at es)
  long = length-map os order_deed ∙ sym n ∙ sym (length-map es (λ (e : Bor Entry). e.now))

  pub entries_of_orders : order_entries (entry_orders es os) ≡ entries_at es
  entries_of_orders = firsts-zip (entries_at es) (map order_deed os) long

  pub deeds_of_orders : deeds_of (entry_orders es os) ≡ map order_deed os
  deeds_of_orders = seconds-zip (entries_at es) (map order_deed os) long

each_append : {X : Type 0} (P : X → Type 0) (xs ys : List X) → Each P xs → Each P ys → Each P (xs ++ ys)
each_append P [] ys p q = q
each_append P (x ∷ xs) ys p q = (p.0, each_append P xs ys p.1 q)

pub count_of : (m : Month) (rows : List (List ℕ)) → done rows ≡ month_units m → m.count ≤ MOST_TEXT_MEMBERS
count_of m rows e = leb-true m.count MOST_TEXT_MEMBERS (passes (leb m.count MOST_TEXT_MEMBERS) (units_rule m.month (take m.count m.members)) e)
  where
    passes : (b : Bool) (t : Answer (List (List ℕ))) → done rows ≡ cond b t (refused 4 layer.Ledger 0) → b ≡ true
    passes true t q = refl
    passes false t q = cc q

-- a fact of a journal's orders, where it is one of the orders that a lawful entry gives
module _ (P : Entry → Deed → Type 0)
    (booking : (e : Entry) → e.month.count ≤ MOST_TEXT_MEMBERS → P e (book e.month.control e.month.cost))
    (billing : (e : Entry) (rows : List (List ℕ)) → e.month.count ≤ MOST_TEXT_MEMBERS → P e (bill (month_reading e.month rows)))
    (resettling : (e : Entry) (component : ℕ) (rows : List (List ℕ)) → e.action ≡ action.Resettle component → e.month.count ≤ MOST_TEXT_MEMBERS → P e (resettle component (month_reading e.month rows))) where
  abbrev fact : EntryOrder → Type 0
  fact o = P o.0 o.1

  each_by : (e : Entry) (rows : List (List ℕ)) (a : Action) → e.action ≡ a → e.month.count ≤ MOST_TEXT_MEMBERS → Each fact (map (λ d. (e, d)) (deeds_for a e.month (month_reading e.month rows)))
  each_by e rows action.Bill is few = (booking e few, (billing e rows few, tt))
  each_by e rows (action.Resettle component) is few = (resettling e component rows is few, tt)

  pub each_given : (entries : List Entry) (orders : List EntryOrder) → done orders ≡ orders_of entries → Each fact orders
  each_given [] orders answered = let n : orders ≡ [] = cc in rw n tt
  each_given (e ∷ entries) orders answered = first (each_given entries) (month_units e.month) refl answered
    where
      rest : ((more : List EntryOrder) → done more ≡ orders_of entries → Each fact more) → (rows : List (List ℕ)) → done rows ≡ month_units e.month → (t : Answer (List EntryOrder)) → t ≡ orders_of entries → done orders ≡ next t (λ more. done (given_by e rows ++ more)) → Each fact orders
      rest each rows u (done more) v q =
          let n : orders ≡ given_by e rows ++ more = cc in
          rw n (each_append fact (given_by e rows) more (each_by e rows e.action refl (count_of e.month rows u)) (each more v))
      rest each rows u (refused n l p) v q = cc q

      first : ((more : List EntryOrder) → done more ≡ orders_of entries → Each fact more) → (t : Answer (List (List ℕ))) → t ≡ month_units e.month → done orders ≡ next t (λ rows. next (orders_of entries) (λ more. done (given_by e rows ++ more))) → Each fact orders
      first each (done rows) u q = rest each rows u (orders_of entries) refl q
      first each (refused n l p) u q = cc q
