use Rattle.std.proofs.Common.{◌≡◌, ℕ, ◌+◌, ◌<◌, ◌≤◌, length, set, take, position, Some, None, arith, rules}
use Rattle.std.proofs.lemmas.List.{length-take-le}
use Rattle.corrections.specs.declared.fixes.Fix.{Fix}
use Rattle.corrections.specs.declared.fixes.Fixes.{Fixes}
use Rattle.corrections.specs.Fixes.{is_for}
use Rattle.corrections.specs.Kept.{kept}
use Rattle.corrections.proofs.Places.{Put, place_le, put_at}
use Rattle.corrections.proofs.fixes.Fixes.put.Goals as goal
use Rattle.limits.specs.declared.TheConstants.{MOST_PAIRS}

-- a pair that was corrected before
again : (s : Fixes) (at : ℕ) (x : Fix) → Some at ≡ position (is_for x.pair.kind x.pair.member) (kept s) → Put (kept s) (take s.used (set s.list at x)) x
again s at x e =
    let room : s.used ≤ length s.list = omega (arith, s.room, s.long) in
    let u = length-take-le s.used s.list room in
    put_at s.used s.used at s.list x room (grind (arith, e)) (grind (arith, u, room, e)) (grind (arith, u, e)) s.distinct

-- a pair more
first : (s : Fixes) (x : Fix) → None ≡ position (is_for x.pair.kind x.pair.member) (kept s) → s.used < MOST_PAIRS → Put (kept s) (take (s.used + 1) (set s.list s.used x)) x
first s x e l =
    let room : s.used ≤ length s.list = omega (arith, s.room, s.long) in
    let u = length-take-le s.used s.list room in
    let p = place_le (kept s) x.pair.kind x.pair.member in
    put_at s.used (s.used + 1) s.used s.list x room (grind (arith, u, p, e)) (omega (arith, s.long, l)) (omega arith) s.distinct

pub invariant_of-self : goal.invariant_of-self
invariant_of-self c =
    let put = again c.args.self.now c.in-Some.at (record { pair = c.args.pair; units = c.args.units }) c.in-Some.ensures in
    let distinct = put.2 in
    search (rules, distinct)

pub invariant_of-self-then-self-lt-MOST_PAIRS : goal.invariant_of-self-then-self-lt-MOST_PAIRS
invariant_of-self-then-self-lt-MOST_PAIRS c =
    let put = first c.args.self.now (record { pair = c.args.pair; units = c.args.units }) c.in-None.ensures (omega (arith, c.if-self-lt-MOST_PAIRS.true)) in
    let distinct = put.2 in
    search (rules, distinct)

pub returns-in-Some-clause-pairs : goal.returns-in-Some-clause-pairs
returns-in-Some-clause-pairs c = (again c.args.self.now c.in-Some.at _ c.in-Some.ensures).0

pub returns-in-Some-clause-after : goal.returns-in-Some-clause-after
returns-in-Some-clause-after c = (again c.args.self.now c.in-Some.at _ c.in-Some.ensures).1

pub returns-in-None-clause-pairs : goal.returns-in-None-clause-pairs
returns-in-None-clause-pairs c = (first c.args.self.now _ c.in-None.ensures (omega (arith, c.if-self-lt-MOST_PAIRS.true))).0

pub returns-in-None-clause-after : goal.returns-in-None-clause-after
returns-in-None-clause-after c = (first c.args.self.now _ c.in-None.ensures (omega (arith, c.if-self-lt-MOST_PAIRS.true))).1
