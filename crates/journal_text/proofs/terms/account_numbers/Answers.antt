use Rattle.std.proofs.Common.{◌≡◌, length, get_or, sym, ◌∙◌, arith, rules}
use Rattle.std.proofs.lemmas.List.{ext_get_or, get_or-map, length-map}
use Rattle.month_text.specs.declared.month.Member.{Member}
use Rattle.month_text.specs.Members.{blank}
use Rattle.journal_text.specs.Terms.{account_numbers}
use Rattle.journal_text.proofs.terms.account_numbers.Goals as goal
use Rattle.limits.specs.declared.TheConstants.{MOST_TEXT_MEMBERS}

pub returns : goal.returns
returns c =
    let items = c.map.ensures.items in
    let n : length c.args.members ≡ MOST_TEXT_MEMBERS = search rules in
    ext_get_or 0 c.map.result (account_numbers c.args.members) (items.long ∙ sym (length-map c.args.members (λ (m : Member). m.account) ∙ n))
    (λ i h. (let a = items.at i blank 0 (omega (arith, h, items.long)) in let v : get_or c.map.result i 0 ≡ (get_or c.args.members i blank).account = search (rules, a.2.met) in v)
    ∙ sym (get_or-map (λ (m : Member). m.account) c.args.members i blank 0 (omega (arith, h, n, items.long))))
