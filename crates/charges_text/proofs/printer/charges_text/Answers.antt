use Rattle.std.proofs.Common.{append_assoc, decimal, codes, sym, ◌++◌, ◌∙◌}
use Rattle.std.proofs.lemmas.Result.{IfOk-weaker}
use Rattle.charges_text.proofs.printer.charges_text.Goals as goal

pub returns : goal.returns
returns c = IfOk-weaker c.format.result _ _ (λ t h. h ∙ sym (append_assoc (codes "month=" ++ decimal c.args.month) (codes "\n") _)) c.format.ensures.ok
