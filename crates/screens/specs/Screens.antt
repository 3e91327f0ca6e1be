-- How an answer is given to C.
use Rattle.std.specs.Prelude.{ℤ, pos}
use Rattle.refusal.specs.Answers.{Answer, done, refused}
use Rattle.screens.specs.declared.RateAnswer.{RateAnswer}
use Rattle.screens.specs.declared.TextAnswer.{TextAnswer}

-- the rate and 0, or 0 and the refusal's number
abbrev pub rate_answer : Answer ℤ → RateAnswer
rate_answer (done rate) = record { rate = rate; number = 0 }
rate_answer (refused number layer place) = record { rate = pos 0; number = number }

-- 0 and 0, or the refusal's number and its line
abbrev pub text_answer : {T : Type 0} → Answer T → TextAnswer
text_answer (done value) = record { number = 0; line = 0 }
text_answer (refused number layer place) = record { number = number; line = place }
