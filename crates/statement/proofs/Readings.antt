-- A book read member by member.
use Rattle.std.proofs.Common.{◌≡◌, ℕ, suc, ◌+◌, ◌-◌, ◌<◌, ltb, List, ◌++◌, length, take, set, sym, ap, ◌∙◌, arith}
use Rattle.std.proofs.lemmas.List.{take_more_set, append_assoc}
use Rattle.std.proofs.lemmas.Bool.{cond-true, lt-ltb}
use Rattle.refusal.specs.Answers.{done}
use Rattle.statement.specs.Readings.{book_row, book_rows, row_asked}

row_is : (count member : ℕ) (units : ℕ → ℕ → ℕ) (row : List ℕ) → member < count → done row ≡ row_asked count units member → row ≡ book_row units member
row_is count member units row h e = let d : done row ≡ done (book_row units member) = e ∙ cond-true (ltb member count) _ _ (lt-ltb member count h) in cc

module _ (units : ℕ → ℕ → ℕ) (count : ℕ) where
  pub read_more : (i : ℕ) (out : List (List ℕ)) (row : List ℕ) → i < count → i < length out → take i out ++ book_rows units i (count - i) ≡ book_rows units 0 count
      → done row ≡ row_asked count units i → take (i + 1) (set out i row) ++ book_rows units (i + 1) (count - (i + 1)) ≡ book_rows units 0 count
  read_more i out row h l inv e =
      let r = row_is count i units row h e in
      let m : book_rows units i (count - i) ≡ book_rows units i (suc (count - (i + 1))) = ap (book_rows units i) {x = count - i} {y = suc (count - (i + 1))} (omega arith) in
      rw (take_more_set out i row l, append_assoc, r) (ap (λ (rows : List (List ℕ)). take i out ++ rows) (sym m) ∙ inv)
