use Rattle.std.proofs.Common.{◌≡◌, ℕ, ◌+◌, ◌-◌, ◌*◌, string_bytes, drop, ◌++◌, refl, ◌<◌, ◌≤◌, sym, Ok, length, get_or, take, ap, ◌∙◌, arith}
use Rattle.std.specs.Borrow.{Bor}
use Rattle.journal_text.specs.declared.entry.Entry.{Entry}
use Rattle.std.proofs.lemmas.List.{length-map, length-take, take_all}
use Rattle.ledger.specs.Files.{part}
use Rattle.runs.specs.declared.done.Done.TheVariants as ended
use Rattle.journal_run.specs.Meanings.{entries_at}
use Rattle.journal_run.specs.Outcomes.{outcome_text}
use Rattle.journal_run.proofs.Progress.{outcomes_text, outcomes_booked, outcomes_billed, no_entry, entry_at, count_at, text_more, booked_more, billed_more}
use Rattle.journal_run.proofs.Whole.{text_printed}
use Rattle.journal_run.proofs.text.ran_text.Goals as goal

pub order_text-requires : goal.order_text-requires
order_text-requires c =
    let xs = c.args.entries.now in
    let i = c.loop-i.i in
    let n = length-map xs (λ (e : Bor Entry). e.now) in
    let count = count_at (entries_at xs) i no_entry c.requires.counts (omega (arith, n)) in
    rw (entry_at xs i (omega arith)) at count

pub loop-i-preserved : goal.loop-i-preserved
loop-i-preserved c =
    let xs = c.args.entries.now in
    let entries = entries_at xs in
    let n = length-map xs (λ (e : Bor Entry). e.now) in
    let outcomes = c.args.ran.now.outcomes.items in
    let answered = c.deref-outcome-items.ensures.value in
    let written = c.deref.ensures.value in
    let inv = c.loop-i.invariant in
    let i = c.loop-i.i in
    let w = c.args.ran.now.width in
    let cells = c.args.ran.now.statements.items in
    let entry = entry_at xs i (omega arith) in
    let a : string_bytes c.in_ok-part.part ≡ outcome_text (get_or entries i no_entry) (get_or outcomes i (Ok ended.Booked)) (take ((i + 1) * w - i * w) (drop (i * w) cells)) =
    rw (answered, written) at c.in_ok-part.ensures ∙ ap (λ (e : Entry). outcome_text e (get_or outcomes i (Ok ended.Booked)) (take ((i + 1) * w - i * w) (drop (i * w) cells))) (sym entry) in
    let row : take ((i + 1) * w - i * w) (drop (i * w) cells) ≡ part (i * w) w cells = ap (λ (n : ℕ). take n (drop (i * w) cells)) {x = (i + 1) * w - i * w} {y = w} (omega arith) in
    let t : string_bytes c.push_str.new.self ≡ string_bytes c.loop-i.text ++ string_bytes c.in_ok-part.part = c.in_ok-push_str.ensures.bytes ∙ ap (λ bytes. string_bytes c.loop-i.text ++ bytes) c.as_str.ensures.value in
    let h : i < length entries = omega (arith, n) in
    let k : i < length outcomes = omega arith in
    let row_long : length (take ((i + 1) * w - i * w) (drop (i * w) cells)) ≤ w = omega (arith, length-take ((i + 1) * w - i * w) (drop (i * w) cells)) in
    let p = c.add.ensures in (
      t ∙ rw (inv.0, a, row) (text_more w no_entry (Ok ended.Booked) entries outcomes cells i h k),
      (rw answered at p.booked) ∙ rw (inv.1, ← entry) (sym (booked_more w no_entry (Ok ended.Booked) entries outcomes i h k)),
      (rw (answered, written) at p.billed) ∙ rw (inv.2, row, ← entry) (sym (billed_more w no_entry (Ok ended.Booked) entries outcomes cells i h k)),
      omega (arith, p.booked_small, inv.3, c.requires.wide),
      omega (arith, p.billed_small, inv.4, row_long),
    )

pub returns : goal.returns
returns c = λ t w orders a.
    let xs = c.args.entries.now in
    let entries = entries_at xs in
    let n = length-map xs (λ (e : Bor Entry). e.now) in
    let outcomes = c.args.ran.now.outcomes.items in
    let cells = c.args.ran.now.statements.items in
    let i = c.loop-i.i in
    let inv = c.loop-i.invariant in
    let all : take i entries ≡ entries = take_all i entries (omega (arith, n)) in
    let answered : take i outcomes ≡ outcomes = take_all i outcomes (omega arith) in
    let text : string_bytes c.loop-i.text ≡ outcomes_text c.args.ran.now.width entries outcomes cells = inv.0 ∙ rw (all, answered) refl in
    let booked : c.loop-i.sums.booked ≡ outcomes_booked entries outcomes = inv.1 ∙ rw (all, answered) refl in
    let billed : c.loop-i.sums.billed ≡ outcomes_billed c.args.ran.now.width entries outcomes cells = inv.2 ∙ rw (all, answered) refl in
    c.in_ok-write.ensures.bytes ∙ rw (text, booked, billed) refl ∙ text_printed t w orders entries c.args.ran.now (omega (arith, n)) c.requires.cells a
