-- One member's line more.
use Rattle.std.proofs.Common.{◌≡◌, ℕ, suc, ◌+◌, List, [], ◌∷◌, ◌++◌, drop, replicate, refl, append_assoc}
use Rattle.std.proofs.lemmas.List.{drop-replicate}
use Rattle.refusal.specs.declared.Layer.{Layer}
use Rattle.refusal.specs.Answers.{Answer, next}
use Rattle.month_text.specs.declared.month.Member.{Member}
use Rattle.month_text.specs.Members.{blank, member_at, members_at, places_at}
use Rattle.limits.specs.declared.TheConstants.{MOST_TEXT_MEMBERS}

-- members already read, put before those that the rest gives
abbrev pub ahead : {X Y : Type 0} → List X → Answer (List X × Y) → Answer (List X × Y)
ahead xs (Answer.done q) = Answer.done (xs ++ q.0, q.1)
ahead xs (Answer.refused n l p) = Answer.refused n l p

ahead_more : {X Y : Type 0} (xs : List X) (x : X) (o : Answer (List X × Y)) → ahead xs (next o (λ q. Answer.done (x ∷ q.0, q.1))) ≡ ahead (xs ++ x ∷ []) o
ahead_more xs x (Answer.done q) = rw append_assoc refl
ahead_more xs x (Answer.refused n l p) = refl

pub rows_more : (k left line next-line last : ℕ) (s : List ℕ) (m : Member) (t : List ℕ) (xs : List Member) → k ≡ suc left → next-line ≡ line + 1 → member_at line last s ≡ Answer.done (m, t) → ahead xs (members_at k line last s) ≡ ahead (xs ++ m ∷ []) (members_at left next-line m.account t)
rows_more k left line next-line last s m t xs e n h = rw (e, n, h) (ahead_more xs m (members_at left (line + 1) m.account t))

pub rows_stop : (k left line last : ℕ) (s : List ℕ) (xs : List Member) (number : ℕ) (layer : Layer) (place : ℕ) → k ≡ suc left → member_at line last s ≡ Answer.refused number layer place → ahead xs (members_at k line last s) ≡ Answer.refused number layer place
rows_stop k left line last s xs number layer place e h = rw (e, h) refl

-- all members read: the places are these and the blank ones
pub places_filled : (count many : ℕ) (b : Member) (s t : List ℕ) (ms : List Member) → many ≡ count → b ≡ blank → members_at many 9 0 s ≡ Answer.done (ms, t) → places_at count s ≡ Answer.done (ms ++ drop count (replicate MOST_TEXT_MEMBERS b), t)
places_filled count many b s t ms n e h =
    let f : members_at count 9 0 s ≡ Answer.done (ms, t) = rw (← n) h in
    rw (f, e) (rw (drop-replicate count MOST_TEXT_MEMBERS blank) refl)
