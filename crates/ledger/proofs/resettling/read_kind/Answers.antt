use Rattle.std.proofs.Common.{ap, sym, ◌∙◌, arith}
use Rattle.statement.specs.Columns.{column}
use Rattle.statement.specs.Readings.{book_rows}
use Rattle.ledger.proofs.Overwritten.{front_more, front_end}
use Rattle.ledger.proofs.ByComponent.{column_length}
use Rattle.ledger.proofs.Passed.{rows_length}
use Rattle.ledger.proofs.Differences.{kind_at, ask_is}
use Rattle.ledger.proofs.resettling.read_kind.Goals as goal

pub loop-member-preserved : goal.loop-member-preserved
loop-member-preserved g c =
    let units = g.B.Book.units c.args.book.now in
    let count = g.B.Book.count c.args.book.now in
    let i = c.loop-member.member in
    let k = c.args.kind.place in
    let n = c.number.result in
    let rows = book_rows units 0 count in
    let u = ask_is count (units n i) n i c.in_ok-units.field-0 (omega (arith, c.number.ensures)) (omega (arith, c.number.ensures, c.args.kind.below)) (omega (arith, c.requires)) c.in_ok-units.ensures in
    front_more 0 (column rows k) c.loop-member.out i _ (omega (arith, column_length rows k, rows_length units 0 count, c.requires)) (omega arith)
    (u ∙ ap (λ j. units j i) c.number.ensures ∙ sym (kind_at units count k i c.args.kind.below (omega (arith, c.requires)))) c.loop-member.invariant

pub returns-clause-units : goal.returns-clause-units
returns-clause-units g c =
    let units = g.B.Book.units c.args.book.now in
    let count = g.B.Book.count c.args.book.now in
    let rows = book_rows units 0 count in
    front_end 0 (column rows c.args.kind.place) c.loop-member.out c.loop-member.member (omega (arith, column_length rows c.args.kind.place, rows_length units 0 count, c.requires)) (omega arith) c.loop-member.invariant
