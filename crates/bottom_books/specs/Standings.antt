-- Standing megawatts as units.
use Rattle.std.specs.Prelude.{ℕ, ◌*◌, Bool, cond, ◌&&◌, List, [], ◌∷◌, Some, None, Option, nat_le}
use Rattle.refusal.specs.Answers.{Answer, refused}
use Rattle.refusal.specs.declared.Layer.TheVariants as layer
use Rattle.bottom_books.specs.Tables.{table_rule}
use Rattle.bottom_books.specs.declared.standing.Standing.{Standing}
use Rattle.limits.specs.declared.TheConstants.{MOST_DAYS, MOST_HOURS, MOST_MEGAWATTS, MOST_UNITS}

-- at most 1,000,000 megawatts
abbrev pub megawatts_lawful : Standing → Bool
megawatts_lawful s =
    nat_le s.transmission MOST_MEGAWATTS
    && (nat_le s.ftr MOST_MEGAWATTS && (nat_le s.energy MOST_MEGAWATTS && nat_le s.capacity MOST_MEGAWATTS))

-- units that are given: at most 2,000,000,000
abbrev pub given_lawful : Standing → Bool
given_lawful s = nat_le s.bids MOST_UNITS && (nat_le s.segments MOST_UNITS && nat_le s.invoices MOST_UNITS)

abbrev pub standing_lawful : Standing → Bool
standing_lawful s = megawatts_lawful s && given_lawful s

-- megawatts times the hours for kinds 1, 2 and 4, times the days for kind 6; kinds 3, 5 and 7 as given
abbrev pub standing_kinds : ℕ → ℕ → Standing → List ℕ
standing_kinds hours days s =
    (s.transmission * hours) ∷ (s.ftr * hours) ∷ s.bids ∷ (s.energy * hours) ∷ s.segments ∷ (s.capacity * days) ∷ s.invoices ∷ []

abbrev pub standing_units : ℕ → ℕ → Standing → Option (List ℕ)
standing_units hours days s = cond (standing_lawful s) (Some (standing_kinds hours days s)) None

-- 1 to 745 hours, 1 to 31 days
abbrev pub period_lawful : ℕ → ℕ → Bool
period_lawful hours days = (nat_le 1 hours && nat_le hours MOST_HOURS) && (nat_le 1 days && nat_le days MOST_DAYS)

-- 2 where the hours, the days or the month are out of range, then 4, then 2 member by member
abbrev pub standing_rule : ℕ → ℕ → ℕ → List Standing → Answer (List (List ℕ))
standing_rule month hours days members =
    cond (period_lawful hours days) (table_rule (standing_units hours days) month members) (refused 2 layer.Book 0)
