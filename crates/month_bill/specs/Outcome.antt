-- What is printed in answer to a month's text.
use Rattle.std.specs.Prelude.{ℕ, List, take}
use Rattle.refusal.specs.Answers.{Answer, done, refused, next}
use Rattle.month_text.specs.Months.{read_month}
use Rattle.charges_text.specs.Printed.{printed}
use Rattle.charges_text.specs.Refusals.{refusal_line}
use Rattle.month_bill.specs.Bills.{bill_month}

-- the bytes of the charges, or the line of the refusal
abbrev pub text_of : Answer (List ℕ) → List ℕ
text_of (done bytes) = bytes
text_of (refused number layer place) = refusal_line number layer place

-- the text is read, the month is billed, and the charges of its members are printed
abbrev pub billed_text : List ℕ → Answer (List ℕ)
billed_text text = next (read_month text) (λ m. next (bill_month m) (λ b. done (printed m.month b.0 (take m.count b.1))))

-- the first refusal is printed instead
abbrev pub month_answer : List ℕ → List ℕ
month_answer text = text_of (billed_text text)
