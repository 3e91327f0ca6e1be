use Rattle.std.proofs.Common.{◌-◌, ◌<◌, [], length, get_or, arith, rules}
use borrow.Author.Rules.{Below-row}
use Rattle.bottom_books.proofs.Cells.{set_cell}
use Rattle.bottom_books.proofs.unit_table.UnitTable.put.Goals as goal

pub returns-clause-cells : goal.returns-clause-cells
returns-clause-cells c =
    let t = c.args.self.now in
    let a : c.args.member < length t.rows = omega (arith, t.long, t.count_in_range.1, c.requires.member) in
    let l : c.args.kind - 1 < 7 = omega (arith, c.requires.kind.1) in
    let b : c.args.kind - 1 < length (get_or t.rows c.args.member []) = search (rules, Below-row) in
    set_cell t.rows c.args.kind c.args.member c.args.units a b c.requires.kind.0
