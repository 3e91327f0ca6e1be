use Rattle.std.proofs.Common.{◌≡◌, ℕ, ◌+◌, length, get_or, [], sym, ap, ◌∙◌, arith, rules}
use Rattle.std.proofs.lemmas.List.{ext_get_or}
use Rattle.charges_text.specs.declared.charges.MemberCharge.{MemberCharge}
use Rattle.month_text.specs.Members.{blank}
use Rattle.month_bill.specs.Members.{member_rows}
use Rattle.statement.specs.Charges.{member_charges}
use Rattle.statement.proofs.FromFn.{made_from}
use Rattle.month_bill.proofs.Listed.{rows_length, row_at}
use Rattle.month_bill.proofs.members.member_rows.Goals as goal
use Rattle.limits.specs.declared.TheConstants.{MOST_TEXT_MEMBERS}

pub returns : goal.returns
returns c =
    let s = c.args.statement.now in
    let members = c.args.members in
    let n : length members ≡ MOST_TEXT_MEMBERS = search rules in
    let none : MemberCharge = record { account = 0; charges = [] } in
    let paid : ℕ → ℕ → MemberCharge = λ i k. record { account = (get_or members i blank).account; charges = member_charges s k } in
    ext_get_or none c.from_fn.result (member_rows s 0 members) (c.from_fn.ensures.items.long ∙ sym n ∙ sym (rows_length s 0 members))
    (λ i h. made_from _ _ _ (λ i. paid i i) none (λ j y q called. (search rules, search rules)) MOST_TEXT_MEMBERS 0 c.from_fn.ensures.items.each i (omega arith) (omega (arith, h, c.from_fn.ensures.items.long))
    ∙ ap (paid i) (let z : i ≡ 0 + i = omega arith in z) ∙ sym (row_at s 0 i members none blank (omega (arith, h, n, c.from_fn.ensures.items.long))))
