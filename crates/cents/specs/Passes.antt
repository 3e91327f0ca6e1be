-- A test of every element of a list.
use Rattle.std.specs.Prelude.{Bool, List}
use Rattle.std.specs.List.{list_all}

abbrev pub all_pass : {X : Type 0} → (X → Bool) → List X → Bool
all_pass p xs = list_all p xs
