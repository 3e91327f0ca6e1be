-- The members of a month: their units, and what they pay.
use Rattle.std.specs.Prelude.{ℕ, ◌+◌, cond, List, [], ◌∷◌, ◌++◌, map, take, drop, replicate, ℤ, pos, nat_le}
use Rattle.refusal.specs.Answers.{Answer, refused}
use Rattle.refusal.specs.declared.Layer.TheVariants as layer
use Rattle.bottom_books.specs.declared.measured_book.MeasuredBook.{MeasuredBook}
use Rattle.bottom_books.specs.Tables.{cell, table_rule}
use Rattle.ledger.specs.Readings.{Reading, reading}
use Rattle.units.specs.declared.facts.Facts.{Facts}
use Rattle.units.specs.Kinds.{units_of}
use Rattle.month_text.specs.declared.month.Member.{Member}
use Rattle.month_text.specs.declared.month.Month.{Month}
use Rattle.charges_text.specs.declared.charges.MemberCharge.{MemberCharge}
use Rattle.statement.specs.Charges.{member_charges}
use Rattle.limits.specs.declared.TheConstants.{MOST_TEXT_MEMBERS}

abbrev pub facts_of_all : List Member → List Facts
facts_of_all members = map (λ m. m.facts) members

-- the seven kinds of units, member by member, as the month's fact book makes them
abbrev pub units_rule : ℕ → List Member → Answer (List (List ℕ))
units_rule month members = table_rule units_of month (facts_of_all members)

-- the same of a month's members; 4 where it has more members than a text may have
abbrev pub month_units : Month → Answer (List (List ℕ))
month_units m =
    cond (nat_le m.count MOST_TEXT_MEMBERS)
    (units_rule m.month (take m.count m.members))
    (refused 4 layer.Ledger 0)

-- what the members from a place on pay by a statement
abbrev pub member_rows : List ℤ → ℕ → List Member → List MemberCharge
member_rows statement i [] = []
member_rows statement i (m ∷ members) = record { account = m.account; charges = member_charges statement i } ∷ member_rows statement (i + 1) members

-- a place that no member has keeps its account, and pays nothing
abbrev pub idle_row : Member → MemberCharge
idle_row m = record { account = m.account; charges = replicate 13 (pos 0) }

-- what a book of units is read as
abbrev pub book_reading : {M : Type 0} → MeasuredBook M → Reading
book_reading b = reading b.units.month b.units.count (cell b.units.rows)

-- the rows of a month's places: what its members pay by a statement, and then the places that no member has
abbrev pub place_rows : List ℤ → Month → List MemberCharge
place_rows statement m = member_rows statement 0 (take m.count m.members) ++ map idle_row (drop m.count m.members)
