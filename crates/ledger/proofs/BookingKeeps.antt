-- A booking keeps the accounts.
use Rattle.std.proofs.Common.{◌≡◌, Bool, true, false, cond, List, [], ◌∷◌, length, ℤ, ◌+ℤ◌, Ok, Err, Result, sym, refl, ap, ◌∙◌, subst, arith}
use borrow.Author.Differences.{ints}
use Rattle.cents.specs.Cutting.{sum_z}
use Rattle.cents.specs.Passes.{all_pass}
use Rattle.refusal.specs.Answers.{done, refused, bare, after, number}
use Rattle.refusal.specs.declared.Layer.TheVariants as layer
use Rattle.refusal.proofs.Apart.{refused_done, done_refused}
use Rattle.tariff.specs.Heads.{sums, within, book_rule}
use Rattle.ledger.specs.declared.unbooked.Unbooked.{Unbooked}
use Rattle.ledger.specs.States.{LedgerState, ledger_state}
use Rattle.ledger.specs.Booking.{booking_answer}
use Rattle.ledger.specs.Histories.{History, booked, history_with}
use Rattle.ledger.specs.Kept.{Terms, Kept}

pub sums_total : (xs ys : List ℤ) → length xs ≡ length ys → sum_z (sums xs ys) ≡ sum_z xs +ℤ sum_z ys
sums_total [] [] e = refl
sums_total [] (y ∷ ys) e = absurd (omega arith)
sums_total (x ∷ xs) [] e = absurd (omega arith)
sums_total (x ∷ xs) (y ∷ ys) e = let i = sums_total xs ys (omega arith) in omega (arith, ints, i)

booked_kept : (t : Terms) (h : History) (s : LedgerState) (amounts heads : List ℤ) → length s.heads ≡ length amounts → heads ≡ sums s.heads amounts → Kept t h s
    → Kept t (booked amounts ∷ h) (ledger_state heads s.accounts s.file)
booked_kept t h s amounts heads l e k =
    let total = ap sum_z e ∙ sums_total s.heads amounts l in
    record {
      promise = record {
        adds_up = omega (arith, ints, k.promise.adds_up, total);
        waits = e ∙ ap (λ (hs : List ℤ). sums hs amounts) k.promise.waits;
        balance = k.promise.balance;
        share = k.promise.share;
        unused = k.promise.unused;
        near = k.promise.near;
        line = k.promise.line;
      };
      invariant = record {
        months = k.invariant.months;
        current = k.invariant.current;
        begun = k.invariant.begun;
        members = k.invariant.members;
        pool = k.invariant.pool;
        pool_small = k.invariant.pool_small;
        units_small = k.invariant.units_small;
        units_long = k.invariant.units_long;
        unbilled = k.invariant.unbilled;
      };
    }

pub booking_keeps : (t : Terms) (h : History) (s : LedgerState) (amounts heads : List ℤ) (r : Result (Unit {0}) Unbooked) → length s.heads ≡ length amounts
    → booking_answer r ≡ bare (book_rule s.heads amounts) → heads ≡ after (book_rule s.heads amounts) (λ sums. sums) s.heads → Kept t h s
    → Kept t (history_with r (booked amounts) h) (ledger_state heads s.accounts s.file)
booking_keeps t h s amounts heads r l answered after' k = go (all_pass within (sums s.heads amounts)) r answered after'
  where
    go : (b : Bool) (r : Result (Unit {0}) Unbooked) → booking_answer r ≡ bare (cond b (done (sums s.heads amounts)) (refused 14 layer.Ledger 0)) → heads ≡ after (cond b (done (sums s.heads amounts)) (refused 14 layer.Ledger 0)) (λ sums. sums) s.heads
        → Kept t (history_with r (booked amounts) h) (ledger_state heads s.accounts s.file)
    go true (Ok v) answered e = booked_kept t h s amounts heads l e k
    go true (Err u) answered e = absurd (refused_done (number u.fault.refusal) u.fault.layer u.fault.place tt answered)
    go false (Ok v) answered e = absurd (done_refused tt 14 layer.Ledger 0 answered)
    go false (Err u) answered e = subst (λ (hs : List ℤ). Kept t h (ledger_state hs s.accounts s.file)) (sym e) k
