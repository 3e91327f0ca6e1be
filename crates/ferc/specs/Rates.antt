-- The rate of a FERC year.
use Rattle.std.specs.Prelude.{ℕ, Bool, cond, not, ◌&&◌, ◌||◌, ℤ, pos, ◌+ℤ◌, ◌-ℤ◌, ◌*ℤ◌, ◌==◌, nat_le, nat_lt, unsigned_abs}
use Rattle.refusal.specs.Answers.{Answer, done, refused}
use Rattle.refusal.specs.declared.Layer.TheVariants as layer
use Rattle.cents.specs.Rounding.{round_nearest}
use Rattle.ferc.specs.declared.rate.YearFigures.{YearFigures}
use Rattle.ferc.specs.declared.rate.TheConstants.{MOST_CHARGE, MOST_VOLUME, MOST_RATE}

-- this year's estimate, the prior year's paid charge and its recovery: each within ±40,000,000,000
abbrev pub cost_lawful : ℤ → ℤ → ℤ → Bool
cost_lawful estimate paid recovered =
    nat_le (unsigned_abs estimate) MOST_CHARGE && (nat_le (unsigned_abs paid) MOST_CHARGE && nat_le (unsigned_abs recovered) MOST_CHARGE)

abbrev pub year_cost : ℤ → ℤ → ℤ → ℤ
year_cost estimate paid recovered = estimate +ℤ paid -ℤ recovered

-- 100 × cost ÷ volume, nearest: hundredths of a cent for a megawatt-hour
abbrev pub rate_of : ℤ → ℕ → ℤ
rate_of cost volume = round_nearest (pos 100 *ℤ cost) volume

-- 2 where a number is out of range, then 17 where there is no volume or the rate is beyond ±1,000,000
abbrev pub rate_rule : ℤ → ℤ → ℤ → ℕ → Answer ℤ
rate_rule estimate paid recovered volume =
    cond (not (cost_lawful estimate paid recovered)) (refused 2 layer.Ferc 0)
    (cond (nat_lt MOST_VOLUME volume) (refused 2 layer.Ferc 0)
    (cond (volume == 0 || nat_lt MOST_RATE (unsigned_abs (rate_of (year_cost estimate paid recovered) volume))) (refused 17 layer.Ferc 0)
    (done (rate_of (year_cost estimate paid recovered) volume))))

-- the rate of a year by its figures
abbrev pub figures_rule : YearFigures → Answer ℤ
figures_rule figures = rate_rule figures.estimate figures.paid figures.recovered figures.volume
