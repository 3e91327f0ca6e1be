-- The orders that one entry gives.
use Rattle.std.proofs.Common.{◌≡◌, ℕ, ◌+◌, ◌<◌, ◌≤◌, List, [], ◌∷◌, ◌++◌, length, get_or, take, drop, map, Ok, Err, Result, refl, ap, sym, ◌∙◌, append_assoc, OnOk, IfErr}
use Rattle.std.proofs.lemmas.List.{append-nil, drop_more, drop_all}
use Rattle.refusal.specs.declared.Layer.{Layer}
use Rattle.refusal.specs.Answers.{Answer, done, refused, next, number}
use Rattle.bottom_books.specs.Tables.{cell}
use Rattle.statement.specs.Readings.{book_rows}
use Rattle.month_bill.specs.Members.{month_units}
use Rattle.month_bill.proofs.Listed.{units_read}
use Rattle.month_text.specs.declared.month.Month.{Month}
use Rattle.journal_text.specs.declared.entry.Action.{Action}
use Rattle.journal_text.specs.declared.entry.Action.TheVariants as action
use Rattle.journal_text.specs.declared.entry.Entry.{Entry}
use Rattle.journal_text.specs.declared.unread.Unread.{Unread}
use Rattle.journal_text.specs.declared.unread.Unread.TheVariants as unread
use Rattle.ledger.specs.Readings.{Reading, reading}
use Rattle.runs.specs.Orders.{book, bill, resettle}
use Rattle.journal_text.specs.Answered.{Answered}
use Rattle.journal_run.specs.Deeds.{month_reading, deeds_for, EntryOrder, given_by, orders_of}
use Rattle.journal_run.specs.Meanings.{by_rows}
use Rattle.limits.specs.declared.TheConstants.{MOST_TEXT_MEMBERS}

-- where only memory can fail
pub answered_done : {V S : Type 0} (value last : S) (r : Result V Unread) (answered : Answer S) → OnOk r (value ≡ last) → IfErr r (λ e. e ≡ unread.Memory) → done last ≡ answered → Answered (λ _. value) r answered
answered_done value last (Ok v) answered e memory d = ap done e ∙ d
answered_done value last (Err (unread.Line f)) answered e memory d = cc memory
answered_done value last (Err unread.Memory) answered e memory d = tt

-- a book that is made of a month's facts is read as the definition has it
pub month_read : (m : Month) (month count : ℕ) (rows : List (List ℕ)) (S : Reading → Answer (List EntryOrder)) → m.count ≤ MOST_TEXT_MEMBERS → m.count ≤ length rows → month ≡ m.month → count ≡ m.count → done (take m.count rows) ≡ month_units m
    → S (by_rows (reading month count (cell rows))) ≡ next (month_units m) (λ rows. S (month_reading m rows))
month_read m month count rows S few long em ec answered =
    let u : done (book_rows (cell rows) 0 m.count) ≡ month_units m = units_read m rows m.count refl few long answered in
    ap (λ (k : ℕ). S (by_rows (reading k count (cell rows)))) em ∙ ap (λ (n : ℕ). S (by_rows (reading m.month n (cell rows)))) ec
    ∙ ap (λ (t : Answer (List (List ℕ))). next t (λ rows. S (month_reading m rows))) u

pub bill_given : (e : Entry) (month count : ℕ) (rows : List (List ℕ)) (old front : List EntryOrder) → e.action ≡ action.Bill → e.month.count ≤ MOST_TEXT_MEMBERS → e.month.count ≤ length rows → month ≡ e.month.month → count ≡ e.month.count → done (take e.month.count rows) ≡ month_units e.month
    → front ≡ old ++ (e, book e.month.control e.month.cost) ∷ [] → done (front ++ (e, bill (by_rows (reading month count (cell rows)))) ∷ []) ≡ next (month_units e.month) (λ rows. done (old ++ given_by e rows))
bill_given e month count rows old front is few long em ec answered ef =
    ap (λ (f : List EntryOrder). done (f ++ (e, bill (by_rows (reading month count (cell rows)))) ∷ [])) ef
    ∙ ap (λ (all : List EntryOrder). done all) (append_assoc old ((e, book e.month.control e.month.cost) ∷ []) ((e, bill (by_rows (reading month count (cell rows)))) ∷ []))
    ∙ month_read e.month month count rows (λ b. done (old ++ map (λ d. (e, d)) (deeds_for action.Bill e.month b))) few long em ec answered
    ∙ ap (λ (a : Action). next (month_units e.month) (λ rows. done (old ++ map (λ d. (e, d)) (deeds_for a e.month (month_reading e.month rows))))) (sym is)

pub resettlement_given : (e : Entry) (component month count : ℕ) (rows : List (List ℕ)) (old : List EntryOrder) → e.action ≡ action.Resettle component → e.month.count ≤ MOST_TEXT_MEMBERS → e.month.count ≤ length rows → month ≡ e.month.month → count ≡ e.month.count
    → done (take e.month.count rows) ≡ month_units e.month → done (old ++ (e, resettle component (by_rows (reading month count (cell rows)))) ∷ []) ≡ next (month_units e.month) (λ rows. done (old ++ given_by e rows))
resettlement_given e component month count rows old is few long em ec answered =
    month_read e.month month count rows (λ b. done (old ++ map (λ d. (e, d)) (deeds_for (action.Resettle component) e.month b))) few long em ec answered
    ∙ ap (λ (a : Action). next (month_units e.month) (λ rows. done (old ++ map (λ d. (e, d)) (deeds_for a e.month (month_reading e.month rows))))) (sym is)

-- orders, before those of the entries that are left
abbrev pub GivenSoFar : List Entry → ℕ → List EntryOrder → Type 0
GivenSoFar entries i old = orders_of entries ≡ next (orders_of (drop i entries)) (λ more. done (old ++ more))

none_before : (t : Answer (List EntryOrder)) → t ≡ next t (λ more. done ([] ++ more))
none_before (done more) = refl
none_before (refused n l p) = refl

pub given_first : (entries : List Entry) (old : List EntryOrder) → old ≡ [] → GivenSoFar entries 0 old
given_first entries old e = none_before (orders_of entries) ∙ ap (λ (front : List EntryOrder). next (orders_of entries) (λ more. done (front ++ more))) (sym e)

-- what is left, with the entry at the place in front
left_at : (entries : List Entry) (i : ℕ) (d : Entry) (old : List EntryOrder) → i < length entries → GivenSoFar entries i old
    → orders_of entries ≡ next (next (month_units (get_or entries i d).month) (λ rows. next (orders_of (drop (i + 1) entries)) (λ more. done (given_by (get_or entries i d) rows ++ more)))) (λ more. done (old ++ more))
left_at entries i d old l so = so ∙ ap (λ (es : List Entry). next (orders_of es) (λ more. done (old ++ more))) (drop_more entries i d l)

joined : (t : Answer (List (List ℕ))) (k : List (List ℕ) → List EntryOrder) (rest : Answer (List EntryOrder)) (old new : List EntryOrder) → done new ≡ next t (λ rows. done (old ++ k rows))
    → next (next t (λ rows. next rest (λ more. done (k rows ++ more)))) (λ more. done (old ++ more)) ≡ next rest (λ more. done (new ++ more))
joined (done rows) k (done more) old new e = let n : new ≡ old ++ k rows = cc in rw (n, append_assoc) refl
joined (done rows) k (refused n l p) old new e = refl
joined (refused n l p) k rest old new e = cc e

stopped : (t : Answer (List (List ℕ))) (k : List (List ℕ) → List EntryOrder) (rest : Answer (List EntryOrder)) (old : List EntryOrder) (n : ℕ) (l : Layer) (p : ℕ) → refused n l p ≡ next t (λ rows. done (old ++ k rows))
    → refused n l p ≡ next (next t (λ rows. next rest (λ more. done (k rows ++ more)))) (λ more. done (old ++ more))
stopped (done rows) k rest old n l p e = cc e
stopped (refused m j q) k rest old n l p e = cc

-- those of one entry more
pub given_more : (entries : List Entry) (i : ℕ) (d : Entry) (old new : List EntryOrder) → i < length entries → GivenSoFar entries i old → done new ≡ next (month_units (get_or entries i d).month) (λ rows. done (old ++ given_by (get_or entries i d) rows)) → GivenSoFar entries (i + 1) new
given_more entries i d old new l so answered =
    let e = get_or entries i d in
    left_at entries i d old l so ∙ joined (month_units e.month) (given_by e) (orders_of (drop (i + 1) entries)) old new answered

-- what is answered in place of a value
abbrev pub Unread_as : {S : Type 0} → Unread → Answer S → Type 0
Unread_as {S} u answered = Answered {V = S} {S = S} (λ x. x) (Err u) answered

-- the first refusal
pub giving_refused : (entries : List Entry) (i : ℕ) (d : Entry) (old : List EntryOrder) (u : Unread) → i < length entries → GivenSoFar entries i old
    → Unread_as u (next (month_units (get_or entries i d).month) (λ rows. done (old ++ given_by (get_or entries i d) rows))) → Unread_as u (orders_of entries)
giving_refused entries i d old (unread.Line f) l so answered =
    let e = get_or entries i d in
    stopped (month_units e.month) (given_by e) (orders_of (drop (i + 1) entries)) old (number f.refusal) f.layer f.place answered ∙ sym (left_at entries i d old l so)
giving_refused entries i d old unread.Memory l so answered = tt

pub given_all : (entries : List Entry) (i : ℕ) (old : List EntryOrder) → length entries ≤ i → GivenSoFar entries i old → done old ≡ orders_of entries
given_all entries i old l so =
    ap (λ (all : List EntryOrder). done all) (sym (append-nil old)) ∙ ap (λ (es : List Entry). next (orders_of es) (λ more. done (old ++ more))) (sym (drop_all i entries l)) ∙ sym so
