use Rattle.std.proofs.Common.{◌≡◌, ℕ, ◌+◌, ◌-◌, ◌^◌, ◌≤◌, min, List, [], ◌∷◌, sum, get_or, Fits, w32, arith, rules}
use Rattle.std.specs.List.{fold}
use Rattle.std.proofs.lemmas.List.Sums.{sum_by-cons}
use Rattle.std.proofs.iter.runs.Sources.{words_Small}
use Rattle.cents.proofs.weights.total.Goals as goal

-- adding that stops growing at a number gives the sum or that number
stops : (most a : ℕ) (xs : List ℕ) → a ≤ most → fold (λ s x. min (s + x) most) a xs ≡ min (a + sum xs) most
stops most a [] h = omega arith
stops most a (x ∷ xs) h =
    let i = stops most (min (a + x) most) xs (omega arith) in
    omega (arith, i, sum_by-cons (λ n. n) x xs)

pub returns : goal.returns
returns c =
    let e : c.fold.result ≡ fold (λ s x. min (s + x) (2 ^ 64 - 1)) 0 c.args.weights.now = search rules in
    let v : c.fold.result ≡ min (sum c.args.weights.now) (2 ^ 64 - 1) = omega (arith, e, stops (2 ^ 64 - 1) 0 c.args.weights.now (omega arith)) in
    let f : (k : ℕ) → Fits w32 (get_or c.args.weights.now k 0) = search rules in
    record { value = v; exact = λ n. omega (arith, v, words_Small c.args.weights.now f) }
