use Rattle.std.proofs.Common.{sym}
use Rattle.std.proofs.lemmas.List.{length-take-le}
use Rattle.month_text.proofs.Accepted.{places_kept}
use Rattle.month_text.proofs.Rows.{places_filled}
use Rattle.month_text.proofs.members.members.Goals as goal

pub returns : goal.returns
returns c =
    let b = c.blank-members.result in
    let e = places_filled c.args.count _ b c.args.s.now c.in_ok-rest.rest.now c.member_lines.new.places (length-take-le c.args.count _ c.requires) c.blank-members.ensures (sym c.in_ok-rest.ensures) in
    record { value = sym e; range = places_kept c.args.count c.args.s.now _ c.requires e }
