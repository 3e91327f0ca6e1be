use Rattle.std.proofs.Common.{length}
use Rattle.bottom_books.proofs.UnitsInRange.{read_small, padded_small}
use Rattle.bottom_books.proofs.unit_table.calls.fresh_rows.Goals as goal

pub returns-clause-small : goal.returns-clause-small
returns-clause-small g c =
    padded_small c.read_rows.new.out (length c.args.rows.now)
    (read_small (g.M.Measure.reads c.args.measure.now) (g.met.M.Measure.small c.args.measure.now) c.args.rows.now c.read_rows.new.out c.in_ok-read_rows.ensures.rows)
