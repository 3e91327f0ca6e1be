-- The text of a month's charges, byte for byte.
use Rattle.std.specs.Prelude.{ℕ, List, ◌++◌, ℤ, codes, decimal}
use Rattle.std.specs.Fmt.{signed_decimal}
use Rattle.std.specs.List.{flat_map, enumerate_from}
use Rattle.cents.specs.Cutting.{sum_z}
use Rattle.statement.specs.declared.charge.ComponentCharge.{ComponentCharge}
use Rattle.charges_text.specs.declared.charges.MemberCharge.{MemberCharge}

abbrev pub month_line : ℕ → List ℕ
month_line month = codes "month=" ++ (decimal month ++ codes "\n")

-- a component's number, pool, units and balance
abbrev pub component_line : ℕ → ComponentCharge → List ℕ
component_line number c =
    codes "component=" ++ (decimal number
    ++ (codes "," ++ (signed_decimal c.pool
    ++ (codes "," ++ (decimal c.units
    ++ (codes "," ++ (signed_decimal c.balance ++ codes "\n")))))))

-- the components in their order, the first by the given number
abbrev pub component_lines : ℕ → List ComponentCharge → List ℕ
component_lines number cs = flat_map (λ numbered. component_line numbered.0 numbered.1) (enumerate_from number cs)

-- a charge behind a comma
abbrev pub charge_part : ℤ → List ℕ
charge_part z = codes "," ++ signed_decimal z

-- the account, its charges and their sum
abbrev pub member_fields : MemberCharge → List ℕ
member_fields m = decimal m.account ++ (flat_map charge_part m.charges ++ (codes "," ++ signed_decimal (sum_z m.charges)))

abbrev pub member_line : MemberCharge → List ℕ
member_line m = codes "user=" ++ (member_fields m ++ codes "\n")

abbrev pub printed : ℕ → List ComponentCharge → List MemberCharge → List ℕ
printed month components members =
    month_line month ++ (component_lines 1 components ++ flat_map member_line members)
