use Rattle.std.proofs.Common.{get_or, pos, ◌-ℤ◌, nat_abs, sym, refl, ◌∙◌, arith, w64, to_z, of_z, rules}
use borrow.Author.Differences.{ints}
use Rattle.std.proofs.lemmas.Int.{to_z-of_z}
use Rattle.std.proofs.lemmas.Bool.{leb-true}
use Rattle.std.specs.List.{list_all}
use Rattle.std.proofs.lemmas.List.Recursion.{and_at}
use Rattle.ledger.specs.Files.{no_line}
use Rattle.ledger.specs.Resettling.{differences, cents_within}
use Rattle.ledger.proofs.Overwritten.{front_more, front_end}
use Rattle.ledger.proofs.Differences.{differences_at, differences_length}
use Rattle.ledger.proofs.changes.write_differences.Goals as goal
use Rattle.limits.specs.declared.TheConstants.{MOST_LINE_CENTS}

pub overflow_sub-out : goal.overflow_sub-out
overflow_sub-out c =
    let i = c.loop-i.i in
    let line = get_or c.args.lines.now i no_line in
    let zs = to_z-of_z w64 (get_or c.args.shares.now i (pos 0)) (search rules) in
    let zl = to_z-of_z w64 line.cents (search rules) in
    let h = leb-true (nat_abs line.cents) MOST_LINE_CENTS (and_at (list_all cents_within) cents_within refl (λ _ _. refl) c.args.lines.now i no_line (omega (arith, c.requires.lines)) c.requires.cents) in
    omega (arith, ints, zs, zl, c.requires.shares i, h)

pub loop-i-preserved : goal.loop-i-preserved
loop-i-preserved c =
    let ss = c.args.shares.now in
    let ls = c.args.lines.now in
    let i = c.loop-i.i in
    let line = get_or ls i no_line in
    let zs = to_z-of_z w64 (get_or ss i (pos 0)) (search rules) in
    let zl = to_z-of_z w64 line.cents (search rules) in
    let e = to_z-of_z w64 (to_z w64 (of_z w64 (get_or ss i (pos 0))) -ℤ to_z w64 (of_z w64 line.cents)) (overflow_sub-out c) in
    front_more (pos 0) (differences ss ls) c.loop-i.out i _ (omega (arith, differences_length ss ls c.requires.lines)) (omega (arith, c.requires.out))
    (e ∙ rw (zs, zl) (sym (differences_at ss ls i c.requires.lines))) c.loop-i.invariant

pub returns : goal.returns
returns c = front_end (pos 0) (differences c.args.shares.now c.args.lines.now) c.loop-i.out c.loop-i.i (omega (arith, differences_length c.args.shares.now c.args.lines.now c.requires.lines)) (omega (arith, c.requires.out)) c.loop-i.invariant
