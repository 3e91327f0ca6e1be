use Rattle.std.proofs.Common.{arith}
use Rattle.bottom_books.proofs.UnitsInRange.{blank_cell}
use Rattle.bottom_books.proofs.unit_table.UnitTable.blank.Goals as goal
use Rattle.limits.specs.declared.TheConstants.{MOST_MEMBERS}

pub invariant_of-result-clause-small : goal.invariant_of-result-clause-small
invariant_of-result-clause-small c kind member = omega (arith, blank_cell MOST_MEMBERS kind member)

pub returns-clause-units : goal.returns-clause-units
returns-clause-units c = blank_cell MOST_MEMBERS
