use Rattle.std.proofs.Common.{rules, ◌≡◌, ◌*◌, map, ℕ, length, List, replicate, ap, sym, ◌∙◌, refl, subst, pos}
use Rattle.std.proofs.lemmas.Simd.{map-map}
use Rattle.std.proofs.lemmas.List.{length-map}
use Rattle.bottom_books.specs.declared.fact_book.FactUnits.{FactUnits}
use Rattle.bottom_books.specs.declared.measured_book.MeasuredBook.{MeasuredBook}
use Rattle.runs.specs.declared.order.Order.{Order}
use Rattle.runs.specs.Orders.{Deed, deed_of}
use Rattle.journal_run.specs.Deeds.{terms_by, first_world}
use Rattle.journal_run.specs.Runs.{RunOf}
use Rattle.ledger.specs.Ledgers.{cut_by, state_of}
use Rattle.ledger.specs.Files.{file_length, no_line}
use Rattle.journal_run.specs.Meanings.{deed_by_rows, measured}
use Rattle.journal_run.proofs.Ended.{month_over, sheet_laid, written_back}
use Rattle.journal_run.proofs.running.run_by.Goals as goal

pub returns-clause-ran : goal.returns-clause-ran
returns-clause-ran g c =
    let m = c.args.first.now in
    let orders = c.args.orders.now in
    let p = c.run.new in
    let deed : Order (MeasuredBook FactUnits) → Deed = deed_of measured in
    let deeds = map deed orders in
    let n : length deeds ≡ length orders = length-map orders deed in
    let written = c.in_ok-outcomes.outcomes in
    let cells = c.in_ok-statements.statements in
    let many : c.in-Some.cells ≡ length orders * (13 * m.count) = search rules in
    let wide : c.in-Some.cells ≡ length deeds * (13 * m.count) = many ∙ ap (λ (k : ℕ). k * (13 * m.count)) (sym n) in
    let file : c.in_ok-file.file.items ≡ replicate (file_length m.count) no_line = c.in_ok-file.ensures.items_if_clones_equal (λ y q. q) in
    let blank : cells.items ≡ replicate (length deeds * (13 * m.count)) (pos 0) = c.in_ok-statements.ensures.items_if_clones_equal (λ y q. q) ∙ ap (λ (k : ℕ). replicate k (pos 0)) wide in
    let lo : length p.outcomes ≡ written.len = search rules in
    let ls : length p.statements ≡ cells.len = search rules in
    rw (written_back written.len p.outcomes written.items lo, written_back cells.len p.statements cells.items ls)
    (subst (λ (ds : List Deed). RunOf (terms_by (g.R.Rule.shares c.args.rule) g.R.Rule.STEP m) (first_world m) ds p.outcomes p.statements c.balances.result c.waiting.result) (map-map deed_by_rows deed orders)
    (month_over (g.R.Rule.shares c.args.rule) g.R.Rule.STEP m (cut_by c.in_ok-sheet.sheet) m.count m.month c.as_mut_slice.result.now deeds p.outcomes c.as_mut_slice-2.result.now p.statements c.balances.result c.waiting.result (state_of p.ledger p.file) c.in_ok-run.ensures.ran refl refl (sheet_laid _ _ _ c.in_ok-sheet.ensures) (c.as_mut_slice.ensures.value ∙ file) (c.as_mut_slice-2.ensures.value ∙ blank) (lo ∙ c.in_ok-outcomes.ensures.len ∙ sym n) (ls ∙ c.in_ok-statements.ensures.len ∙ wide) c.balances.ensures c.waiting.ensures))
