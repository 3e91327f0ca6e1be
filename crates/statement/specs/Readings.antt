-- A book's units as rows, member by member.
use Rattle.std.specs.Prelude.{ℕ, zero, suc, ◌+◌, cond, List, [], ◌∷◌, nat_lt}
use Rattle.refusal.specs.Answers.{Answer, done, refused}
use Rattle.refusal.specs.declared.Layer.TheVariants as layer

-- a member's units of the seven kinds
abbrev pub book_row : (ℕ → ℕ → ℕ) → ℕ → List ℕ
book_row units member =
    units 1 member
    ∷ units 2 member
    ∷ units 3 member
    ∷ units 4 member
    ∷ units 5 member
    ∷ units 6 member
    ∷ units 7 member
    ∷ []

-- the rows of n members from a place on
abbrev pub book_rows : (ℕ → ℕ → ℕ) → ℕ → ℕ → List (List ℕ)
book_rows units member zero = []
book_rows units member (suc n) = book_row units member ∷ book_rows units (member + 1) n

-- 7 where the book has no such member
abbrev pub row_asked : ℕ → (ℕ → ℕ → ℕ) → ℕ → Answer (List ℕ)
row_asked count units member = cond (nat_lt member count) (done (book_row units member)) (refused 7 layer.Book 0)
