use mir.Syntax.{w128}
use Rattle.std.proofs.Common.{refl, ◌≡◌, ◌∙◌, ◌+ℤ◌, ap, codes, to_z, of_z, SFits, length, arith, rules}
use Rattle.std.specs.Fmt.{signed_decimal}
use Rattle.std.proofs.lemmas.Int.{to_z-of_z}
use Rattle.std.proofs.Output.{has_written_append, has_written_of_eq}
use Rattle.cents.specs.Cutting.{sum_z}
use Rattle.journal_run.specs.Outcomes.{agrees, yes_or_no}
use Rattle.journal_run.proofs.Unbilled.{unbilled_sum, joined, account_rest}
use Rattle.journal_run.proofs.sums.RunAccountDisplay.fmt.Goals as goal

pub returns-clause-writes : goal.returns-clause-writes
returns-clause-writes g c = λ plain ok.
    let a = c.args.self.now in
    let b = c.sum_of-balances.result in
    let w = c.sum_of-waiting.result in
    let fb : SFits w128 b = search rules in
    let fw : SFits w128 w = search rules in
    let fx : SFits w128 a.sums.booked = search rules in
    let fy : SFits w128 a.sums.billed = search rules in
    let nb : length a.balances ≡ 13 = search rules in
    let nw : length a.waiting ≡ 6 = search rules in
    let b13 = c.sum_of-balances.ensures.small in
    let w6 = c.sum_of-waiting.ensures.small in
    let eb : to_z w128 (of_z w128 b) ≡ sum_z a.balances = to_z-of_z w128 b fb ∙ c.sum_of-balances.ensures.sum in
    let ew : to_z w128 (of_z w128 w) ≡ sum_z a.waiting = to_z-of_z w128 w fw ∙ c.sum_of-waiting.ensures.sum in
    let unbilled = unbilled_sum b w (sum_z a.balances) (sum_z a.waiting) fb fw c.sum_of-balances.ensures.sum c.sum_of-waiting.ensures.sum (omega (arith, b13, nb)) (omega (arith, w6, nw)) in
    let agree : c.yes_or_no-agree.result.now ≡ yes_or_no (agrees a.sums.booked a.sums.billed (sum_z a.balances +ℤ sum_z a.waiting)) =
    c.yes_or_no-agree.ensures ∙ ap yes_or_no (c.agrees.ensures ∙ rw (to_z-of_z w128 a.sums.booked fx, to_z-of_z w128 a.sums.billed fy, unbilled) refl) in
    let first = c.in_ok-writeln.ensures.writes plain refl in
    let second = c.writeln-2.ensures.writes first.plain ok in
    has_written_of_eq _ _ _ _ _ (rw (eb, ew, ← agree, to_z-of_z w128 a.sums.booked fx, to_z-of_z w128 a.sums.billed fy) (joined (codes "booked=") (signed_decimal a.sums.booked) (codes "\nbilled=") (signed_decimal a.sums.billed) (codes "\n") (account_rest (sum_z a.balances) (sum_z a.waiting) c.yes_or_no-agree.result.now))) (has_written_append _ _ _ _ _ _ first second)
