use Rattle.std.proofs.Common.{◌≡◌, length, arith}
use Rattle.statement.proofs.Readings.{read_more}
use Rattle.statement.proofs.reading.read_book.Goals as goal

pub loop-member-preserved : goal.loop-member-preserved
loop-member-preserved g c =
    let n : length c.args.out.now ≡ g.B.Book.count c.args.book.now = omega (arith, c.members.ensures) in
    read_more (g.B.Book.units c.args.book.now) (g.B.Book.count c.args.book.now) c.loop-member.member c.loop-member.out c.in_ok-row.field-0 (omega (arith, n)) (omega arith) c.loop-member.invariant c.in_ok-row.ensures
