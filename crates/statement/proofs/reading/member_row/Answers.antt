use Rattle.std.proofs.Common.{◌≡◌, ◌+◌, ltb, sym, ap, ◌∙◌, arith}
use Rattle.std.proofs.lemmas.Bool.{cond-true, lt-ltb}
use Rattle.std.proofs.lemmas.List.FromFn.{fill_by_all}
use Rattle.refusal.specs.Answers.{done}
use Rattle.statement.specs.Readings.{book_row}
use Rattle.statement.proofs.reading.member_row.Goals as goal

pub returns : goal.returns
returns g c =
    let count = g.B.Book.count c.args.book.now in
    let units = g.B.Book.units c.args.book.now in
    let row : c.loop-i.units-items ≡ book_row units c.args.member = fill_by_all (λ k. units (k + 1) c.args.member) c.loop-i.units-items 7 0 (omega arith) (λ k h. c.loop-i.invariant.1 k (omega arith)) in
    ap done row ∙ sym (cond-true (ltb c.args.member count) _ _ (lt-ltb c.args.member count (c.loop-i.invariant.0 (omega arith))))
