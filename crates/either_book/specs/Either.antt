-- What one of two books means: what that book means.
use Rattle.either_book.specs.declared.EitherBook.{EitherBook}
use Rattle.either_book.specs.declared.EitherBook.TheVariants.{First, Second}

abbrev pub either : {A B X : Type 0} → (A → X) → (B → X) → EitherBook A B → X
either f g (First a) = f a
either f g (Second b) = g b
