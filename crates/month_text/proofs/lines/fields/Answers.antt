use Rattle.std.proofs.Common.{◌≡◌, suc, ◌+◌, ◌-◌, ◌<◌, length, take, sym, ◌∙◌, arith, length-set, w64, SFits, rules}
use Rattle.std.proofs.lemmas.List.{take_more_set}
use Rattle.std.proofs.lemmas.Int.{to_z-of_z}
use Rattle.month_text.proofs.Fields.{fields_more, fields_no_stop}
use Rattle.month_text.proofs.lines.fields.Goals as goal

pub returns-in_err-rest : goal.returns-in_err-rest
returns-in_err-rest g c =
    let k : g.row.K - c.loop-i.i ≡ suc (g.row.K - (c.loop-i.i + 1)) = omega arith in
    let d = fields_no_stop c.args.signs (g.row.K - c.loop-i.i) (g.row.K - (c.loop-i.i + 1)) c.loop-i.rest.now c.in_ok-read.read c.in_ok-read.after.now (take c.loop-i.i c.loop-i.number-items) k (sym c.in_ok-read.ensures) (sym c.in_err-rest.ensures) in
    rw c.from_residual-in_err-rest.ensures (sym (c.loop-i.invariant.1 ∙ d))

pub loop-i-preserved : goal.loop-i-preserved
loop-i-preserved g c =
    let f : SFits w64 c.in_ok-read.read = search rules in
    let k : g.row.K - c.loop-i.i ≡ suc (g.row.K - (c.loop-i.i + 1)) = omega arith in
    let l : c.loop-i.i < length c.loop-i.number-items = omega arith in
    let d = fields_more c.args.signs (g.row.K - c.loop-i.i) (g.row.K - (c.loop-i.i + 1)) c.loop-i.rest.now c.in_ok-read.read c.in_ok-read.after.now c.in_ok-rest.rest.now (take c.loop-i.i c.loop-i.number-items) k (sym c.in_ok-read.ensures) (sym c.in_ok-rest.ensures) in
    let m = take_more_set c.loop-i.number-items c.loop-i.i c.in_ok-read.read l in
    simp to_z-of_z (length-set c.loop-i.number-items c.loop-i.i c.in_ok-read.read ∙ c.loop-i.invariant.0, rw m (c.loop-i.invariant.1 ∙ d))
