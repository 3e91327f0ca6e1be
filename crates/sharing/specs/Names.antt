-- What a rule means that a text names.
use Rattle.std.specs.Prelude.{ℕ}
use Rattle.sharing.specs.declared.name.RuleName.{RuleName}
use Rattle.sharing.specs.declared.name.RuleName.TheVariants.{Posted, Ratio}
use Rattle.sharing.specs.Shares.{Shares}
use Rattle.sharing.specs.Posted.{posted}
use Rattle.sharing.specs.Ratio.{ratio}

-- its shares
abbrev pub shares_of : RuleName → Shares
shares_of Posted = posted
shares_of Ratio = ratio

-- its step, in hundredths of a cent
abbrev pub step_of : RuleName → ℕ
step_of Posted = 1
step_of Ratio = 0
