use Rattle.std.proofs.Common.{◌≡◌, ◌+◌, ◌∷◌, [], ◌++◌, length, take, refl, sym, ap, ◌∙◌, rules, ℕ}
use Rattle.std.proofs.lemmas.List.{length_push}
use Rattle.std.proofs.lemmas.Slice.Zip.{zip_turn, zip_end}
use Rattle.std.proofs.Output.{has_written_append, has_written_of_eq}
use Rattle.journal_run.specs.Printed.{resettled_line, difference_line, difference_lines}
use Rattle.journal_run.proofs.Differences.{lines_more, lines_all}
use Rattle.journal_run.proofs.printing.ResettledDisplay.fmt.Goals as goal

pub loop-member-preserved : goal.loop-member-preserved
loop-member-preserved g c = λ plain.
    let ms = c.args.self.now.members.now in
    let zs = c.args.self.now.cells.now in
    let l = c.loop-member in
    let n = length l.yielded in
    let m = c.in-Some.member.now in
    let z = c.in-Some.cents.now in
    let p = zip_turn ms zs l.yielded c.into_iter-member-iterator.result l.member-iterator c.next.new.self c.next.result (search rules) (search rules) l.yielded_by (c.in-Some.member, c.in-Some.cents) c.in-Some.is c.next.ensures.steps in
    let before = l.invariant plain in
    let line = c.in_ok-writeln-2.ensures.writes before.plain refl in
    let count : n + 1 ≡ length (l.yielded ++ (c.in-Some.member, c.in-Some.cents) ∷ []) = sym (length_push l.yielded (c.in-Some.member, c.in-Some.cents)) in
    let same : difference_lines (take n ms) (take n zs) ++ difference_line m z ≡ difference_lines (take (length (l.yielded ++ (c.in-Some.member, c.in-Some.cents) ∷ [])) ms) (take (length (l.yielded ++ (c.in-Some.member, c.in-Some.cents) ∷ [])) zs) =
    rw (p.2 m, p.3 z) (lines_more ms zs n m z p.0 p.1) ∙ ap (λ (k : ℕ). difference_lines (take k ms) (take k zs)) count in
    has_written_of_eq _ _ _ _ _ same (has_written_append _ _ _ _ _ _ before line)

pub returns-clause-writes : goal.returns-clause-writes
returns-clause-writes g c = λ plain ok.
    let r = c.args.self.now in
    let l = c.loop-member in
    let e = zip_end r.members.now r.cells.now l.yielded c.into_iter-member-iterator.result l.member-iterator c.next.new.self c.next.result (search rules) (search rules) l.yielded_by c.in-None.is c.next.ensures.steps in
    let first = c.in_ok-writeln.ensures.writes plain refl in
    let same = ap (λ t. resettled_line r.month r.component ++ t) (lines_all r.members.now r.cells.now (length l.yielded) e) in
    has_written_of_eq _ _ _ _ _ same (has_written_append _ _ _ _ _ _ first (l.invariant first.plain))
