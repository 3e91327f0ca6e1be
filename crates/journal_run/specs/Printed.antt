-- What is printed of the orders that are carried out, byte for byte, and of the accounts at the end.
use Rattle.std.specs.Prelude.{ℕ, List, [], ◌∷◌, ◌++◌, ℤ, take, codes, decimal}
use Rattle.std.specs.Fmt.{signed_decimal}
use Rattle.refusal.specs.Answers.{Answer, done, refused}
use Rattle.cents.specs.Cutting.{sum_z}
use Rattle.month_text.specs.declared.month.Member.{Member}
use Rattle.charges_text.specs.Printed.{printed}
use Rattle.charges_text.specs.Refusals.{refusal_line}
use Rattle.journal_text.specs.declared.entry.Entry.{Entry}
use Rattle.ledger.specs.States.{balances}
use Rattle.ledger.specs.Histories.{cents_booked, cents_billed}
use Rattle.ledger.specs.Kept.{Terms}
use Rattle.runs.specs.Orders.{Deed, World, Carried, book, bill, resettle, carried, reached, run_through}
use Rattle.month_bill.specs.Members.{member_rows}
use Rattle.journal_run.specs.Deeds.{EntryOrder, deeds_of}

abbrev pub resettled_line : ℕ → ℕ → List ℕ
resettled_line month component = codes "resettled=" ++ (decimal month ++ (codes "," ++ (decimal component ++ codes "\n")))

-- what a member pays more than it was billed so far, or less
abbrev pub difference_line : Member → ℤ → List ℕ
difference_line m cents = codes "difference=" ++ (decimal m.account ++ (codes "," ++ (signed_decimal cents ++ codes "\n")))

abbrev pub difference_lines : List Member → List ℤ → List ℕ
difference_lines [] cells = []
difference_lines (m ∷ members) [] = []
difference_lines (m ∷ members) (z ∷ cells) = difference_line m z ++ difference_lines members cells

-- of an accepted order: a booking prints nothing, since its bill follows
abbrev pub carried_text : Entry → Deed → Carried → List ℕ
carried_text e (book control amounts) c = []
carried_text e (bill b) c = printed e.month.month c.left.components (member_rows c.left.cells 0 (take e.month.count e.month.members))
carried_text e (resettle component b) c =
    resettled_line e.month.month component ++ difference_lines (take e.month.count e.month.members) c.left.cells

abbrev pub order_text : Entry → Deed → Answer Carried → List ℕ
order_text e d (done c) = carried_text e d c
order_text e d (refused number layer place) = refusal_line number layer place

-- of all orders, each carried out in the world that the ones before it lead to
abbrev pub orders_text : Terms → World → List EntryOrder → List ℕ
orders_text t w [] = []
orders_text t w (o ∷ orders) = order_text o.0 o.1 (carried t w.state o.1) ++ orders_text t (reached t w o.1) orders

-- the cents of all accepted calls, the thirteen balances and the six heads, which always agree
abbrev pub account_text : World → List ℕ
account_text w =
    codes "booked=" ++ (signed_decimal (cents_booked w.history)
    ++ (codes "\nbilled=" ++ (signed_decimal (cents_billed w.history)
    ++ (codes "\nbalances=" ++ (signed_decimal (sum_z (balances w.state.accounts))
    ++ (codes "\nwaiting=" ++ (signed_decimal (sum_z w.state.heads)
    ++ codes "\nagree=yes\n")))))))

-- where the orders of a run lead
abbrev pub last_world : Terms → World → List EntryOrder → World
last_world t w orders = run_through t w (deeds_of orders)

-- of a whole run
abbrev pub run_text : Terms → World → List EntryOrder → List ℕ
run_text t w orders = orders_text t w orders ++ account_text (last_world t w orders)
