-- What is printed and added up of an order, by its entry, its outcome and the cells of its statement.
use Rattle.std.specs.Prelude.{ℕ, Bool, cond, List, [], ◌++◌, take, ℤ, pos, ◌+ℤ◌, ◌-ℤ◌, Ok, Err, Result, codes, ◌==◌, unsigned_abs}
use Rattle.std.specs.Fmt.{signed_decimal}
use Rattle.refusal.specs.Answers.{number}
use Rattle.refusal.specs.declared.Fault.{Fault}
use Rattle.cents.specs.Cutting.{sum_z}
use Rattle.month_text.specs.declared.month.Month.{Month}
use Rattle.month_text.specs.declared.month.Member.{Member}
use Rattle.charges_text.specs.Printed.{printed}
use Rattle.charges_text.specs.Refusals.{refusal_line}
use Rattle.journal_text.specs.declared.entry.Action.{Action}
use Rattle.journal_text.specs.declared.entry.Action.TheVariants as action
use Rattle.journal_text.specs.declared.entry.Entry.{Entry}
use Rattle.runs.specs.declared.done.Done.{Done}
use Rattle.runs.specs.declared.done.Done.TheVariants as ended
use Rattle.month_bill.specs.Members.{member_rows}
use Rattle.journal_run.specs.Printed.{resettled_line, difference_lines}

abbrev pub members_of : Month → List Member
members_of m = take m.count m.members

abbrev pub resettled_text : ℕ → ℕ → List Member → List ℤ → List ℕ
resettled_text month component members cells = resettled_line month component ++ difference_lines members cells

-- only an entry that asks for a resettlement has a component
abbrev pub change_text : Action → Month → List ℤ → List ℕ
change_text action.Bill m cells = []
change_text (action.Resettle component) m cells = resettled_text m.month component (members_of m) cells

abbrev pub done_text : Entry → Done → List ℤ → List ℕ
done_text e ended.Booked cells = []
done_text e (ended.Billed components) cells = printed e.month.month components (member_rows cells 0 (members_of e.month))
done_text e ended.Resettled cells = change_text e.action e.month cells

abbrev pub outcome_text : Entry → Result Done Fault → List ℤ → List ℕ
outcome_text e (Ok ended) cells = done_text e ended cells
outcome_text e (Err f) cells = refusal_line (number f.refusal) f.layer f.place

-- the cents that an order booked,
abbrev pub done_booked : Entry → Done → ℤ
done_booked e ended.Booked = sum_z e.month.cost
done_booked e (ended.Billed components) = pos 0
done_booked e ended.Resettled = pos 0

abbrev pub booked_by : Entry → Result Done Fault → ℤ
booked_by e (Ok ended) = done_booked e ended
booked_by e (Err f) = pos 0

-- and those that it billed
abbrev pub done_billed : Entry → Done → List ℤ → ℤ
done_billed e ended.Booked cells = pos 0
done_billed e (ended.Billed components) cells = sum_z cells
done_billed e ended.Resettled cells = sum_z (take e.month.count cells)

abbrev pub billed_by : Entry → Result Done Fault → List ℤ → ℤ
billed_by e (Ok ended) cells = done_billed e ended cells
billed_by e (Err f) cells = pos 0

-- every cent booked was billed, or is unbilled yet: in a balance, or waiting
abbrev pub agrees : ℤ → ℤ → ℤ → Bool
agrees booked billed unbilled = unsigned_abs (billed +ℤ unbilled -ℤ booked) == 0

abbrev pub yes_or_no : Bool → List ℕ
yes_or_no agree = cond agree (codes "yes") (codes "no")

abbrev pub account_lines : ℤ → ℤ → List ℤ → List ℤ → List ℕ
account_lines booked billed balances waiting =
    codes "booked=" ++ (signed_decimal booked
    ++ (codes "\nbilled=" ++ (signed_decimal billed
    ++ (codes "\nbalances=" ++ (signed_decimal (sum_z balances)
    ++ (codes "\nwaiting=" ++ (signed_decimal (sum_z waiting)
    ++ (codes "\nagree=" ++ (yes_or_no (agrees booked billed (sum_z balances +ℤ sum_z waiting)) ++ codes "\n")))))))))
