-- Shares of a pool, also where there is nothing to share.
use Rattle.std.specs.Prelude.{ℕ, cond, List, length, replicate, ℤ, pos, ◌==◌}
use Rattle.sharing.specs.Domain.{shareable}

-- a sharing rule, by what it makes: the shares of a pool over units
abbrev pub Shares : Type 0
Shares = ℤ → List ℕ → List ℤ

-- 0 cents for each member
abbrev pub no_shares : List ℕ → List ℤ
no_shares units = replicate (length units) (pos 0)

-- shares where they can be made, else 0 for each member
abbrev pub shared : ℤ → List ℕ → List ℤ → List ℤ
shared pool units shares = cond (shareable pool units) shares (no_shares units)

-- shares written into a memory that has a place for each member; any other memory stays as it was
abbrev pub shares_written : List ℕ → List ℤ → List ℤ → List ℤ
shares_written units memory shares = cond (length units == length memory) shares memory
