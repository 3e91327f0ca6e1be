-- A call of the ledger, as an order.
use Rattle.std.proofs.Common.{◌≡◌, ℕ, List, ◌∷◌, length, take, drop, ℤ, Ok, Err, Result, refl, ap, ◌∙◌, subst, MatchResult}
use Rattle.std.specs.Result.{IsOkAnd}
use borrow.Rule.Slice.PartMut.{put_mid}
use Rattle.refusal.specs.Answers.{Answer, done, refused, answer, next, bare, after}
use Rattle.refusal.specs.declared.Fault.{Fault}
use Rattle.ledger.specs.Files.{put}
use Rattle.ledger.specs.States.{LedgerState}
use Rattle.ledger.specs.Histories.{Event, History, history_with}
use Rattle.ledger.specs.Kept.{Terms, Promise, Invariant, Kept}
use Rattle.ledger.proofs.Placed.{put_is, put_back}
use Rattle.runs.specs.declared.done.Done.{Done}
use Rattle.runs.specs.Orders.{Deed, Carried, carried, ended_of, CarriedOut}

-- how a call with an answer ends the order
abbrev pub ends_as : {T : Type 0} → (T → Done) → Result T Fault → Answer Done
ends_as how r = next (answer r) (λ v. done (how v))

-- `y` is what the call's rule says, `leaves` what an accepted call leaves, and `gives` what it answers
module _ {Y T : Type 0} (t : Terms) (d : Deed) (s s' : LedgerState) (cells cells' : List ℤ) (leaves : Y → Carried) (event : List ℤ → Event) (gives : Y → T) (how : T → Done) where
  pub called : (y : Answer Y) (r : Result T Fault) → carried t s d ≡ next y (λ v. done (leaves v)) → ((v : Y) → ended_of d (leaves v) ≡ how (gives v)) → ((v : Y) → (leaves v).event ≡ event (leaves v).left.cells)
      → answer r ≡ next y (λ v. done (gives v)) → s' ≡ after y (λ v. (leaves v).left.state) s → cells' ≡ after y (λ v. (leaves v).left.cells) cells
      → ((h : History) → Kept t h s → Promise t (history_with r (event cells') h) s') → ((h : History) → Kept t h s → Invariant t (history_with r (event cells') h) s')
      → CarriedOut t d s s' (ends_as how r) × (cells' ≡ after (carried t s d) (λ c. c.left.cells) cells)
  called (done v) (Ok u) e ends events answered es ec promise invariant =
      (record { answered = rw (e, ends v) (ap (λ (x : Answer T). next x (λ w. done (how w))) answered); state = rw e es; kept = λ h k. rw (e, events v) (subst (λ (zs : List ℤ). Kept t (event zs ∷ h) s') ec (record { promise = promise h k; invariant = invariant h k })) }, rw e ec)
  called (done v) (Err f) e ends events answered es ec promise invariant = cc answered
  called (refused n l p) (Ok u) e ends events answered es ec promise invariant = cc answered
  called (refused n l p) (Err f) e ends events answered es ec promise invariant =
      (record { answered = rw e (ap (λ (x : Answer T). next x (λ w. done (how w))) answered); state = rw e es; kept = λ h k. rw e (record { promise = promise h k; invariant = invariant h k }) }, rw e ec)

-- a call whose answer the order maps
pub mapped : {T : Type 0} {Q : T → Done → Type 0} (how : T → Done) (r : Result T Fault) (m : Result Done Fault) → MatchResult r (λ v. IsOkAnd m (Q v)) (λ f. m ≡ Err f)
    → ((v : T) (a : Done) → Q v a → a ≡ how v) → answer m ≡ ends_as how r
mapped how (Ok v) (Ok a) e is = ap done (is v a e)
mapped how (Ok v) (Err f) e is = absurd e
mapped how (Err f) m e is = ap answer e

pub bare_is : {T : Type 0} (x : Answer T) → ◌≡◌ {A = Answer (Unit {0})} (bare x) (next x (λ v. done tt))
bare_is (done v) = refl
bare_is (refused n l p) = refl

-- the front of the memory is written
pub front_written : (x : Answer Carried) (memory cells : List ℤ) (k : ℕ) → length cells ≡ k → cells ≡ after x (λ c. c.left.cells) (take k (drop 0 memory)) → put_mid 0 k memory cells ≡ after x (λ c. put 0 c.left.cells memory) memory
front_written (done c) memory cells k n e = put_is 0 cells memory k n ∙ ap (λ (zs : List ℤ). put 0 zs memory) e
front_written (refused n l p) memory cells k m e = ap (put_mid 0 k memory) e ∙ put_back 0 k memory
