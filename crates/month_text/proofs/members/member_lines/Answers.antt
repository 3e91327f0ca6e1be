use Rattle.std.proofs.Common.{◌≡◌, suc, ◌+◌, ◌-◌, ◌<◌, length, take, sym, ◌∙◌, arith}
use Rattle.std.proofs.lemmas.List.{take_more_set}
use Rattle.std.proofs.lemmas.Result.{err_from_is_err_and}
use Rattle.refusal.specs.Answers.{number}
use Rattle.month_text.proofs.Rows.{rows_more, rows_stop}
use Rattle.month_text.proofs.members.member_lines.Goals as goal

pub returns-in_err-member : goal.returns-in_err-member
returns-in_err-member c =
    let p = err_from_is_err_and c.from_residual.result c.from_residual.ensures.1 in
    let n = length c.args.places.now in
    let k : n - c.loop-i.i ≡ suc (n - (c.loop-i.i + 1)) = omega arith in
    let f = c.in_err-member.field-0.0 in
    let d = rows_stop (n - c.loop-i.i) (n - (c.loop-i.i + 1)) (9 + c.loop-i.i) c.loop-i.last c.loop-i.rest.now (take c.loop-i.i c.loop-i.places) (number f.refusal) f.layer f.place k (sym c.in_err-member.ensures) in
    rw (p.1, p.2) (sym (c.loop-i.invariant ∙ d))

pub loop-i-preserved : goal.loop-i-preserved
loop-i-preserved c =
    let n = length c.args.places.now in
    let k : n - c.loop-i.i ≡ suc (n - (c.loop-i.i + 1)) = omega arith in
    let l : c.loop-i.i < length c.loop-i.places = omega arith in
    let m = c.in_ok-member.member in
    let ms = c.loop-i.places in
    let line : 9 + (c.loop-i.i + 1) ≡ 9 + c.loop-i.i + 1 = omega arith in
    let d = rows_more (n - c.loop-i.i) (n - (c.loop-i.i + 1)) (9 + c.loop-i.i) (9 + (c.loop-i.i + 1)) c.loop-i.last c.loop-i.rest.now m c.in_ok-member.after.now (take c.loop-i.i ms) k line (sym c.in_ok-member.ensures) in
    rw (take_more_set ms c.loop-i.i m l) (c.loop-i.invariant ∙ d)
