-- How a month is spelled: the one text that is read as it.
use Rattle.std.specs.Prelude.{◌≡◌, ℕ, ◌+◌, List, [], ◌∷◌, ◌++◌, map, length, take, ℤ, pos, codes, count_by, nat_eq}
use Rattle.std.specs.Fmt.{signed_decimal}
use Rattle.refusal.specs.Answers.{Answer}
use Rattle.month_text.specs.declared.month.Member.{Member}
use Rattle.month_text.specs.declared.month.Month.{Month}
use Rattle.sharing.specs.declared.name.RuleName.{RuleName}
use Rattle.sharing.specs.declared.name.RuleName.TheVariants.{Posted, Ratio}
use Rattle.month_text.specs.Lines.{stop}
use Rattle.month_text.specs.Months.{read_month}

-- numbers, with a comma after each and byte 10 after the last
abbrev pub spelled_fields : List ℤ → List ℕ
spelled_fields [] = []
spelled_fields (z ∷ zs) = signed_decimal z ++ (stop (length zs) ∷ spelled_fields zs)

-- the key, `=` and the numbers
abbrev pub spelled_line : List ℕ → List ℤ → List ℕ
spelled_line key zs = key ++ (61 ∷ spelled_fields zs)

abbrev pub spelled_rule : RuleName → List ℕ
spelled_rule Posted = codes "rule=posted\n"
spelled_rule Ratio = codes "rule=ratio\n"

abbrev pub spelled_sheet : List ℕ → List ℕ → List ℕ → List ℕ
spelled_sheet division management split =
    spelled_line (codes "division") (map pos division)
    ++ (spelled_line (codes "management") (map pos management)
    ++ spelled_line (codes "split") (map pos split))

-- the account, and then the eleven facts
abbrev pub row_of : Member → List ℕ
row_of m =
    m.account
    ∷ m.facts.transmission
    ∷ m.facts.wheel_through
    ∷ m.facts.generation
    ∷ m.facts.virtual_mwh
    ∷ m.facts.ftr
    ∷ m.facts.obligation_bids
    ∷ m.facts.option_bids
    ∷ m.facts.segments
    ∷ m.facts.capacity_obligation
    ∷ m.facts.capacity_resource
    ∷ m.facts.invoices
    ∷ []

abbrev pub spelled_member : Member → List ℕ
spelled_member m = spelled_line (codes "user") (map pos (row_of m))

abbrev pub spelled_members : List Member → List ℕ
spelled_members [] = []
spelled_members (m ∷ ms) = spelled_member m ++ spelled_members ms

-- the eight lines of the month, and one for each of its members
unfoldable pub spelled : Month → List ℕ
spelled m =
    spelled_line (codes "month") (pos m.month ∷ [])
    ++ (spelled_rule m.rule
    ++ (spelled_sheet m.sheet.division m.sheet.management m.sheet.split
    ++ (spelled_line (codes "cost") m.cost
    ++ (spelled_line (codes "control") (m.control ∷ [])
    ++ (spelled_line (codes "users") (pos m.count ∷ [])
    ++ spelled_members (take m.count m.members))))))

-- how often byte 10 stands in a text
abbrev pub breaks : List ℕ → ℕ
breaks text = count_by (λ c. nat_eq c 10) text

-- a text that is read as a month is the month's spelling
abbrev pub AsSpelled : List ℕ → Type 0
AsSpelled text = (m : Month) → read_month text ≡ Answer.done m → text ≡ spelled m

-- no other text is read as the same month
abbrev pub OneSpelling : List ℕ → Type 0
OneSpelling text = (other : List ℕ) (m : Month) → read_month text ≡ Answer.done m → read_month other ≡ Answer.done m → text ≡ other

-- a text that is read has eight lines and one for each member
abbrev pub LineCount : List ℕ → Type 0
LineCount text = (m : Month) → read_month text ≡ Answer.done m → breaks text ≡ 8 + m.count
