-- From a member's eleven facts to its units of the seven kinds.
use Rattle.std.specs.Prelude.{ℕ, ◌+◌, ◌-◌, ◌*◌, Bool, cond, ◌&&◌, List, [], ◌∷◌, Some, None, Option, nat_le, slice_index}
use Rattle.units.specs.declared.facts.Facts.{Facts}
use Rattle.limits.specs.declared.TheConstants.{MOST_FACT}

-- the facts in the order in which a row gives them
abbrev pub facts_of : List ℕ → Facts
facts_of row = record {
  transmission = slice_index row 0;
  wheel_through = slice_index row 1;
  generation = slice_index row 2;
  virtual_mwh = slice_index row 3;
  ftr = slice_index row 4;
  obligation_bids = slice_index row 5;
  option_bids = slice_index row 6;
  segments = slice_index row 7;
  capacity_obligation = slice_index row 8;
  capacity_resource = slice_index row 9;
  invoices = slice_index row 10;
}

abbrev pub most : ℕ → Bool
most n = nat_le n MOST_FACT

abbrev pub energy_lawful : Facts → Bool
energy_lawful f = most f.transmission && (nat_le f.wheel_through f.transmission && (most f.generation && most f.virtual_mwh))

abbrev pub bids_lawful : Facts → Bool
bids_lawful f = most f.ftr && (most f.obligation_bids && (most f.option_bids && most f.segments))

abbrev pub capacity_lawful : Facts → Bool
capacity_lawful f = most f.capacity_obligation && (most f.capacity_resource && most f.invoices)

-- each fact at most 100,000,000, and wheel-through not above transmission
abbrev pub lawful : Facts → Bool
lawful f = energy_lawful f && (bids_lawful f && capacity_lawful f)

-- kinds 1 to 7: transmission, FTR, bid hours, energy, segments, capacity, invoices
abbrev pub kinds : Facts → List ℕ
kinds f =
    f.transmission
    ∷ f.ftr
    ∷ (f.obligation_bids + 5 * f.option_bids)
    ∷ (f.transmission - f.wheel_through + f.generation + f.virtual_mwh)
    ∷ f.segments
    ∷ (f.capacity_obligation + f.capacity_resource)
    ∷ f.invoices
    ∷ []

abbrev pub units_of : Facts → Option (List ℕ)
units_of f = cond (lawful f) (Some (kinds f)) None
