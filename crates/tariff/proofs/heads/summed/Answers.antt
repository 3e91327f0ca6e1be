use Rattle.std.proofs.Common.{get_or, pos, ◌∙◌, arith, w64, rules}
use Rattle.std.proofs.lemmas.List.{length-set, get_or-set_other}
use Rattle.std.proofs.lemmas.Int.{to_z-of_z}
use Rattle.tariff.proofs.Sums.{sums_stop, sums_more, sums_end}
use Rattle.tariff.proofs.heads.summed.Goals as goal

pub returns-in_err-heads : goal.returns-in_err-heads
returns-in_err-heads c =
    let i = c.loop-i.i in
    let h = to_z-of_z w64 (get_or c.loop-i.heads i (pos 0)) (search rules) ∙ c.loop-i.invariant.left i (omega arith) in
    let a = to_z-of_z w64 (get_or c.args.amounts i (pos 0)) (search rules) in
    c.from_residual.ensures ∙ sums_stop c.args.heads c.args.amounts i _ _ (omega arith) (omega arith) h a c.in_err-heads.ensures

pub loop-i-preserved : goal.loop-i-preserved
loop-i-preserved c =
    let i = c.loop-i.i in
    let sum = c.in_ok-heads.field-0 in
    let h = to_z-of_z w64 (get_or c.loop-i.heads i (pos 0)) (search rules) ∙ c.loop-i.invariant.left i (omega arith) in
    let a = to_z-of_z w64 (get_or c.args.amounts i (pos 0)) (search rules) in
    let e = to_z-of_z w64 sum (search rules) in
    let m = sums_more c.args.heads c.args.amounts i _ _ (omega arith) (omega arith) h a c.loop-i.heads sum _ (omega arith) e c.in_ok-heads.ensures c.loop-i.invariant.summed c.loop-i.invariant.within in
    record {
      long = simp length-set c.loop-i.invariant.long;
      left = λ k b. get_or-set_other c.loop-i.heads i k _ (pos 0) (λ e. omega arith) ∙ c.loop-i.invariant.left k (omega arith);
      summed = m.0;
      within = m.1;
    }

pub returns : goal.returns
returns c = sums_end c.args.heads c.args.amounts c.loop-i.heads c.loop-i.i (omega arith) (omega arith) (omega arith) c.loop-i.invariant.summed c.loop-i.invariant.within
