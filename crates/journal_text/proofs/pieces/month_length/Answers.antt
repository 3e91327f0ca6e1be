use Rattle.std.proofs.Common.{rules, arith, ◌≡◌, ◌∙◌, false}
use Rattle.journal_text.specs.Pieces.{lines, begins}
use Rattle.journal_text.proofs.Months.{left_line}
use Rattle.journal_text.proofs.FirstLines.{begins_line, done_begun}
use Rattle.journal_text.proofs.pieces.month_length.Goals as goal

pub loop-rest-preserved : goal.loop-rest-preserved
loop-rest-preserved c =
    let l = c.in-Some.line.now in
    let t = c.in-Some.after.now in
    let r = c.loop-rest.rest.now in
    let b : begins r ≡ false = search rules in
    left_line c.args.text.now r l t c.loop-rest.length c.in-Some.ensures.whole c.in-Some.ensures.cut
    (begins_line r l (lines t) (omega (arith, c.in-Some.ensures.shorter)) c.in-Some.ensures.cut ∙ b) c.loop-rest.invariant

pub returns-after-loop-rest-clause-month : goal.returns-after-loop-rest-clause-month
returns-after-loop-rest-clause-month c = (done_begun c.args.text.now c.loop-rest.rest.now c.loop-rest.length (search rules) c.loop-rest.invariant).month

pub returns-after-loop-rest-clause-rest : goal.returns-after-loop-rest-clause-rest
returns-after-loop-rest-clause-rest c = (done_begun c.args.text.now c.loop-rest.rest.now c.loop-rest.length (search rules) c.loop-rest.invariant).rest
