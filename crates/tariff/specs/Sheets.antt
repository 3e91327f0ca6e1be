-- When a sheet may be laid, and in which place.
use Rattle.std.specs.Prelude.{◌≡◌, ℕ, Bool, cond, ◌&&◌, List, [], ◌∷◌, sum, ◌==◌, nat_le}
use Rattle.cents.specs.Passes.{all_pass}
use Rattle.refusal.specs.Answers.{Answer, done, refused}
use Rattle.refusal.specs.declared.Layer.TheVariants as layer

-- every number is at most 1,000
abbrev pub thousandths : List ℕ → Bool
thousandths ns = all_pass (λ n. nat_le n 1000) ns

-- 2 where a weight or a split is beyond 1,000, then 3 where a row of weights does not add up to 1,000
abbrev pub sheet_rule : List ℕ → List ℕ → List ℕ → Answer (Unit {0})
sheet_rule division management split =
    cond (thousandths division && (thousandths management && thousandths split))
    (cond (sum division == 1000 && sum management == 1000) (done tt) (refused 3 layer.Sheet 0))
    (refused 2 layer.Sheet 0)

-- the weights that divide evenly: those of the place in which a sheet is laid
abbrev pub Even : List ℕ → List ℕ → List ℕ → Type 0
Even division management split =
    (division ≡ 167 ∷ 167 ∷ 167 ∷ 167 ∷ 166 ∷ 166 ∷ [])
    × (management ≡ 250 ∷ 250 ∷ 250 ∷ 250 ∷ [])
    × (split ≡ 500 ∷ 500 ∷ [])
