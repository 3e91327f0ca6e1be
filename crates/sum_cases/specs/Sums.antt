-- Sums worked by hand, beside what the definitions make of them.
use Rattle.std.specs.Prelude.{ℕ, List, [], ◌∷◌, ℤ, pos, negsuc}
use Rattle.cents.specs.Cutting.{cut}
use Rattle.tariff.specs.Heads.{at}
use Rattle.tariff.specs.Costs.{settlement_weights, costs}
use Rattle.sharing.specs.Posted.{posted}
use Rattle.sharing.specs.Ratio.{ratio}
use Rattle.ferc.specs.Rates.{rate_of, year_cost}
use Rattle.ferc.specs.Years.{charge_of}
use Rattle.ledger.specs.Files.{lines_of}
use Rattle.ledger.specs.Resettling.{differences}

-- the example month: its division weights, and component 8's pool of its cost
abbrev pub division_weights : List ℕ
division_weights = 336 ∷ 60 ∷ 250 ∷ 41 ∷ 243 ∷ 70 ∷ []

abbrev pub example_pool : ℤ
example_pool =
    at (costs division_weights (400 ∷ 100 ∷ 400 ∷ 100 ∷ []) (600 ∷ 987 ∷ []) (pos 100000 ∷ pos 0 ∷ pos 0 ∷ pos 0 ∷ pos 0 ∷ pos 0 ∷ [])) 7

-- shares of 100, and of -100, over three members alike
abbrev pub three_alike : List ℕ
three_alike = 1 ∷ 1 ∷ 1 ∷ []

-- the rate of a FERC year: estimate, cents paid and cents recovered, and the volume
abbrev pub example_rate : ℤ
example_rate = rate_of (year_cost (pos 9000000) (pos 8800000) (pos 8900000)) 1000000

abbrev pub computed : List (List ℤ)
computed =
    cut (pos 1000001) division_weights
    ∷ cut (negsuc 0) (500 ∷ 500 ∷ [])
    ∷ cut (pos 100) settlement_weights
    ∷ posted (pos 100) three_alike
    ∷ ratio (pos 100) three_alike
    ∷ ratio (negsuc 99) three_alike
    ∷ posted (pos 1000) (3 ∷ 0 ∷ 4 ∷ [])
    ∷ (example_rate ∷ charge_of example_rate 150 ∷ [])
    -- component 8 of the example month, billed by 300 and 100, resettled by 300 and 260
    ∷ differences (posted example_pool (300 ∷ 260 ∷ [])) (lines_of (300 ∷ 100 ∷ []) (posted example_pool (300 ∷ 100 ∷ [])))
    ∷ []

abbrev pub by_hand : List (List ℤ)
by_hand =
    (pos 336000 ∷ pos 60000 ∷ pos 250000 ∷ pos 41000 ∷ pos 243000 ∷ pos 70001 ∷ [])
    ∷ (negsuc 0 ∷ pos 0 ∷ [])
    ∷ (pos 68 ∷ pos 8 ∷ pos 4 ∷ pos 4 ∷ pos 7 ∷ pos 1 ∷ pos 8 ∷ [])
    ∷ (pos 33 ∷ pos 33 ∷ pos 33 ∷ [])
    ∷ (pos 33 ∷ pos 33 ∷ pos 34 ∷ [])
    ∷ (negsuc 33 ∷ negsuc 32 ∷ negsuc 32 ∷ [])
    ∷ (pos 429 ∷ pos 0 ∷ pos 571 ∷ [])
    ∷ (pos 890 ∷ pos 1335 ∷ [])
    ∷ (negsuc 119 ∷ pos 120 ∷ [])
    ∷ []
