-- The entries of a journal that was read are run to the end.
use Rattle.std.proofs.Common.{◌≡◌, ℕ, suc, List, [], ◌∷◌, refl, arith}
use Rattle.std.specs.List.{All}
use Rattle.std.proofs.lemmas.Bool.{le-leb}
use Rattle.refusal.specs.Answers.{Answer, done, refused, next, bare}
use Rattle.month_text.specs.declared.month.Month.{Month}
use Rattle.month_text.specs.Accepted.{InRange}
use Rattle.month_bill.proofs.Passing.{sheet_done, units_done}
use Rattle.journal_text.specs.declared.entry.Entry.{Entry}
use Rattle.journal_text.proofs.Ranged.{journal_in_range}
use Rattle.journal_run.specs.Deeds.{orders_of, opening}
use Rattle.journal_run.specs.Journals.{entries_text, RunOnceRead}
use Rattle.limits.specs.declared.TheConstants.{FIRST_MONTH, LAST_MONTH, MOST_MEMBERS, MOST_TEXT_MEMBERS}

abbrev EachInRange : List Entry → Type 0
EachInRange entries = All (λ (e : Entry). InRange e.month) entries

done_next : {S T : Type 0} (t : Answer S) (k : S → Answer T) → bare t ≡ done tt → ((s : S) → bare (k s) ≡ done tt) → bare (next t k) ≡ done tt
done_next (done s) k h f = f s
done_next (refused n l p) k h f = absurd cc

orders_done : (entries : List Entry) → EachInRange entries → bare (orders_of entries) ≡ done tt
orders_done [] r = refl
orders_done (e ∷ entries) r =
    let more = orders_done entries (λ k d l. r (suc k) d (omega (arith, l))) in
    rw (units_done e.month (r 0 e (omega arith))) (done_next (orders_of entries) _ more (λ orders. refl))

opening_done : (m : Month) → InRange m → bare (opening m) ≡ done tt
opening_done m r =
    let some = le-leb 1 m.count r.count_low in
    let few = le-leb m.count MOST_TEXT_MEMBERS r.count_high in
    let fewer = le-leb m.count MOST_MEMBERS (omega (arith, r.count_high)) in
    let low = le-leb FIRST_MONTH m.month r.month_low in
    let high = le-leb m.month LAST_MONTH r.month_high in
    rw (some, few, sheet_done m r, fewer, low, high) refl

pub entries_done : (entries : List Entry) → EachInRange entries → bare (entries_text entries) ≡ done tt
entries_done [] r = refl
entries_done (e ∷ entries) r =
    done_next (orders_of (e ∷ entries)) _ (orders_done (e ∷ entries) r) (λ orders. done_next (opening e.month) _ (opening_done e.month (r 0 e (omega arith))) (λ t. refl))

pub run_once_read : (text : List ℕ) → RunOnceRead text
run_once_read text entries e = entries_done entries (journal_in_range text entries e)
