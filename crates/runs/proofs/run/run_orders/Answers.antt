use Rattle.std.proofs.Common.{◌≡◌, ℕ, ◌+◌, ◌-◌, ◌*◌, map, length, take, drop, refl, sym, ap, ◌∙◌, subst, arith}
use Rattle.std.proofs.lemmas.List.{length-map, get_or-map}
use Rattle.refusal.specs.Answers.{answer}
use Rattle.ledger.specs.Kept.{Terms}
use Rattle.ledger.specs.Ledgers.{state_of, terms_of}
use Rattle.runs.specs.Orders.{deed_of, CarriedOut, cells_after}
use Rattle.runs.specs.Runs.{no_deed, world_at}
use Rattle.runs.proofs.Running.{running_step, row_fits}
use Rattle.runs.proofs.run.run_orders.Goals as goal

pub loop-i-preserved : goal.loop-i-preserved
loop-i-preserved g c =
    let l = c.args.ledger.now in
    let t = terms_of l in
    let deed = deed_of g.B.Book in
    let orders = c.args.orders.now in
    let i = c.loop-i.i in
    let r = c.members.result in
    let inv = c.loop-i.invariant in
    let p = c.carry_out.ensures in
    let d = deed c.index-orders-i.result in
    let s = state_of c.loop-i.ledger c.loop-i.file in
    let same : terms_of c.loop-i.ledger ≡ t = rw (inv.0, inv.1, inv.2.kept.invariant.members, inv.2.kept.invariant.begun) refl in
    let out = subst (λ (u : Terms). CarriedOut u d s (state_of c.carry_out.new.ledger c.carry_out.new.file) (answer c.carry_out.result)) same p.carried in
    let row = p.cells ∙ ap (λ (u : Terms). cells_after u s d (take (i * (13 * r) + 13 * r - i * (13 * r)) (drop (i * (13 * r)) c.loop-i.statements))) same in
    let n = length-map orders deed in (
      p.same.0 ∙ inv.0,
      p.same.1 ∙ inv.1,
      running_step t (world_at (state_of l c.args.file.now)) (map deed orders) i (i * (13 * r)) (i * (13 * r) + 13 * r - i * (13 * r)) c.loop-i.outcomes c.args.statements.now c.loop-i.statements c.carry_out.new.cells s (state_of c.carry_out.new.ledger c.carry_out.new.file) d c.carry_out.result
          (ap (λ (m : ℕ). i * (13 * m)) c.members.ensures) (omega (arith, c.members.ensures)) inv.2 (omega (arith, n)) (omega (arith, c.requires.outcomes, c.loop-i.auto.outcomes))
          (omega (arith, row_fits i (length orders) l.accounts.members l.accounts.members (length c.args.statements.now) (omega arith) c.requires.cells refl, c.loop-i.auto.statements))
          (omega (arith, c.carry_out.auto.cells, c.members.ensures)) (get_or-map deed orders i c.index-orders-i.result no_deed (omega arith) ∙ ap deed (sym c.index-orders-i.is)) out row,
    )
