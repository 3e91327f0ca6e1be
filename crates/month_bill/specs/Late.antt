-- What may still refuse the bill of a month that was read.
use Rattle.std.specs.Prelude.{◌≡◌, ℕ, Bool, true, false, ◌||◌, List, ◌==◌}
use Rattle.refusal.specs.Answers.{Answer, done, refused}
use Rattle.refusal.specs.declared.Layer.{Layer}
use Rattle.refusal.specs.declared.Layer.TheVariants as layer
use Rattle.month_text.specs.declared.month.Month.{Month}
use Rattle.month_text.specs.Months.{read_month}
use Rattle.month_bill.specs.Bills.{bill_month}

-- 13 by the voucher, 8 and 9 by the ledger
abbrev pub late_refusal : ℕ → Layer → Bool
late_refusal n layer.Text = false
late_refusal n layer.Sheet = false
late_refusal n layer.Voucher = n == 13
late_refusal n layer.Book = false
late_refusal n layer.Ledger = n == 8 || n == 9
late_refusal n layer.Ferc = false

-- nothing else refuses
abbrev pub OnlyLate : {T : Type 0} → Answer T → Type 0
OnlyLate (done v) = Unit {0}
OnlyLate (refused n l p) = late_refusal n l ≡ true

-- of a text's month, once it is read
abbrev pub BillOnceRead : List ℕ → Type 0
BillOnceRead text = (m : Month) → read_month text ≡ done m → OnlyLate (bill_month m)
