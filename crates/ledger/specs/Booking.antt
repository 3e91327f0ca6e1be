-- What a booking answers.
use Rattle.std.specs.Prelude.{Ok, Err, Result}
use Rattle.refusal.specs.Answers.{Answer, done, refused, number}
use Rattle.ledger.specs.declared.unbooked.Unbooked.{Unbooked}

abbrev pub booking_answer : Result (Unit {0}) Unbooked → Answer (Unit {0})
booking_answer (Ok v) = done tt
booking_answer (Err u) = refused (number u.fault.refusal) u.fault.layer u.fault.place
