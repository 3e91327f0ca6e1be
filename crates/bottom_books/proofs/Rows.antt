-- Rows of units, read one after the other.
use Rattle.std.proofs.Common.{ℕ, List, ◌++◌}
use Rattle.refusal.specs.Answers.{Answer, done, refused}

-- rows in front of those that are left
abbrev pub onto : List (List ℕ) → Answer (List (List ℕ)) → Answer (List (List ℕ))
onto rows (done more) = done (rows ++ more)
onto rows (refused n l p) = refused n l p
