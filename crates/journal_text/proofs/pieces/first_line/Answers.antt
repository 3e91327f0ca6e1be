use Rattle.std.proofs.Common.{rules, ◌≡◌}
use Rattle.std.proofs.lemmas.Fn.{always_returns_same}
use Rattle.journal_text.proofs.Lines.{ends, line_split, line_taken}
use Rattle.journal_text.proofs.pieces.first_line.Goals as goal

pub returns-clause-cut : goal.returns-clause-cut
returns-clause-cut c =
    let s = c.in_ok-line.ensures.steps in
    let m = s.1.2 ends (always_returns_same _ (λ a r. r ≡ ends a.0.now) c.split_inclusive.result.pred (λ a r f k. search rules)) in
    let e = line_split c.split_inclusive.result.rest.now c.in_ok-line.line.now c.next.new.self.rest.now s.1.0 s.0 s.1.1 s.2 m.1 in
    rw (c.split_at.ensures.front, c.split_at.ensures.back) (line_taken c.args.text.now c.in_ok-line.line.now c.next.new.self.rest.now (search rules) (search rules))
