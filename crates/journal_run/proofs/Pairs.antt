-- Orders, each behind the entry that gives it.
use Rattle.std.proofs.Common.{◌≡◌, List, [], ◌∷◌, ◌++◌, length, Bor, refl, ap, arith}
use Rattle.bottom_books.specs.declared.measured_book.MeasuredBook.{MeasuredBook}
use Rattle.journal_text.specs.declared.entry.Entry.{Entry}
use Rattle.runs.specs.declared.order.Order.{Order}
use Rattle.journal_run.specs.Deeds.{EntryOrder}
use Rattle.journal_run.specs.Meanings.{order_deed, entry_orders}

pub entry_orders_more : {M : Type 0} (es : List (Bor Entry)) (os : List (Order (MeasuredBook M))) (e : Bor Entry) (o : Order (MeasuredBook M)) → length es ≡ length os → entry_orders (es ++ e ∷ []) (os ++ o ∷ []) ≡ entry_orders es os ++ (e.now, order_deed o) ∷ []
entry_orders_more [] [] e o n = refl
entry_orders_more [] (p ∷ os) e o n = absurd (omega arith)
entry_orders_more (d ∷ es) [] e o n = absurd (omega arith)
entry_orders_more (d ∷ es) (p ∷ os) e o n = ap (λ (ps : List EntryOrder). (d.now, order_deed p) ∷ ps) (entry_orders_more es os e o (omega arith))
