-- What an ask answers.
use Rattle.std.specs.Prelude.{ℕ, cond, ◌||◌, nat_lt}
use Rattle.refusal.specs.Answers.{Answer, done, refused, next}
use Rattle.refusal.specs.declared.Layer.TheVariants as layer

-- 6 where the kind is not 1 to 7, then 7 where the member's place is not below the count
abbrev pub pair_rule : ℕ → ℕ → ℕ → Answer (Unit {0})
pair_rule count kind member =
    cond (nat_lt kind 1 || nat_lt 7 kind) (refused 6 layer.Book 0) (cond (nat_lt member count) (done tt) (refused 7 layer.Book 0))

-- then the units of that kind and member
abbrev pub ask_rule : ℕ → ℕ → ℕ → ℕ → Answer ℕ
ask_rule count units kind member = next (pair_rule count kind member) (λ _. done units)
