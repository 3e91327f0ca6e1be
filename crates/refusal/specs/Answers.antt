-- What a call answers, by numbers and values: the words in which every promise about a refusal is stated.
use Rattle.std.specs.Prelude.{ℕ, Ok, Err, Result}
use Rattle.refusal.specs.declared.Refusal.{Refusal}
use Rattle.refusal.specs.declared.Refusal.TheVariants as why
use Rattle.refusal.specs.declared.Layer.{Layer}
use Rattle.refusal.specs.declared.Fault.{Fault}

-- the refusal table
abbrev pub number : Refusal → ℕ
number why.Layout = 1
number why.Range = 2
number why.Weights = 3
number why.Count = 4
number why.Month = 5
number why.Kind = 6
number why.Member = 7
number why.Total = 8
number why.Pool = 9
number why.Resettled = 10
number why.Length = 11
number why.Head = 12
number why.Control = 13
number why.Booked = 14
number why.Pair = 15
number why.Corrected = 16
number why.Rate = 17
number why.Year = 18

-- an answer: the value, or the refusal's number, its layer and its place
pub data Answer (T : Type 0) : Type 0 where
  done : T → Answer T
  refused : ℕ → Layer → ℕ → Answer T

abbrev pub answer : {T : Type 0} → Result T Fault → Answer T
answer (Ok v) = done v
answer (Err f) = refused (number f.refusal) f.layer f.place

-- the same, where the value is given by what it means
abbrev pub answer_by : {T U : Type 0} → (T → U) → Result T Fault → Answer U
answer_by f (Ok v) = done (f v)
answer_by f (Err e) = refused (number e.refusal) e.layer e.place

-- the answer without its value
abbrev pub bare : {T : Type 0} → Answer T → Answer (Unit {0})
bare (done v) = done tt
bare (refused n l p) = refused n l p

-- the second step, where the first was not refused
abbrev pub next : {S T : Type 0} → Answer S → (S → Answer T) → Answer T
next (done v) k = k v
next (refused n l p) k = refused n l p

-- what holds after the call: of the value where it was accepted, else what it was
abbrev pub after : {T U : Type 0} → Answer T → (T → U) → U → U
after (done v) f u = f v
after (refused n l p) f u = u
