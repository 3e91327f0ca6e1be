use Rattle.std.proofs.Common.{◌≡◌, length, get_or, sym, ◌∙◌, arith, rules}
use Rattle.std.proofs.lemmas.List.{ext_get_or, get_or-map, length-map}
use Rattle.month_text.specs.declared.month.Member.{Member}
use Rattle.month_text.specs.Members.{blank}
use Rattle.month_bill.specs.Members.{facts_of_all}
use Rattle.month_bill.proofs.members.all_facts.Goals as goal
use Rattle.limits.specs.declared.TheConstants.{MOST_TEXT_MEMBERS}

pub returns : goal.returns
returns c =
    let items = c.map.ensures.items in
    let n : length c.args.members ≡ MOST_TEXT_MEMBERS = search rules in
    ext_get_or blank.facts c.map.result (facts_of_all c.args.members) (items.long ∙ sym (length-map c.args.members (λ (m : Member). m.facts) ∙ n))
    (λ i h. (let a = items.at i blank blank.facts (omega (arith, h, items.long)) in let v : get_or c.map.result i blank.facts ≡ (get_or c.args.members i blank).facts = search (rules, a.2.met) in v)
    ∙ sym (get_or-map (λ (m : Member). m.facts) c.args.members i blank blank.facts (omega (arith, h, n, items.long))))
