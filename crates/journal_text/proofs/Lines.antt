-- The first line of a text, as a cut after the first byte 10 gives it.
use Rattle.std.proofs.Common.{◌≡◌, ℕ, zero, suc, ◌+◌, ◌<◌, min, Bool, true, false, List, [], ◌∷◌, ◌++◌, length, take, drop, refl, arith}
use Rattle.std.specs.List.{IsFirstMatchOrLen}
use Rattle.std.proofs.Math.Seq.{take-append_seam, drop-append_seam}
use Rattle.std.specs.Prelude.{nat_eq}
use Rattle.journal_text.specs.Pieces.{lines}

abbrev pub ends : ℕ → Bool
ends c = nat_eq c 10

cut_last : (c : ℕ) (b : Bool) → ends c ≡ b → lines (c ∷ []) ≡ (c ∷ []) ∷ []
cut_last c true e = rw e refl
cut_last c false e = rw e refl

cut_end : (c : ℕ) (t : List ℕ) → length t < 1 → lines (c ∷ t) ≡ (c ∷ []) ∷ lines t
cut_end c [] h = cut_last c (ends c) refl
cut_end c (d ∷ ds) h = absurd (omega arith)

pub line_cut : (x t : List ℕ) (i : ℕ) → length x ≡ min (i + 1) (length (x ++ t)) → 0 < length (x ++ t) → IsFirstMatchOrLen ends (x ++ t) i → lines (x ++ t) ≡ x ∷ lines t
line_cut [] t i e h m = absurd (omega arith)
line_cut (c ∷ []) t zero e h m =
    let a : ends c ≡ true = m.1 (omega arith) 0 in
    rw a refl
line_cut (c ∷ []) t (suc i) e h m =
    cut_end c t (omega arith)
line_cut (c ∷ d ∷ xs) t zero e h m = absurd (omega arith)
line_cut (c ∷ d ∷ xs) t (suc i) e h m =
    let a : ends c ≡ false = m.0 0 0 (omega arith) (omega arith) in
    let r = line_cut (d ∷ xs) t i (omega arith) (omega arith) (λ k b l u. m.0 (suc k) b (omega arith) (omega arith), λ l b. m.1 (omega arith) b) in
    rw (a, r) refl

-- a text that was cut so
pub line_split : (s x t : List ℕ) (i : ℕ) → s ≡ x ++ t → length x ≡ min (i + 1) (length s) → 0 < length s → IsFirstMatchOrLen ends s i → lines s ≡ x ∷ lines t
line_split s x t i e =
    rw e (line_cut x t i)

pub line_taken : (s x t : List ℕ) → s ≡ x ++ t → lines s ≡ x ∷ lines t → lines s ≡ take (length x) s ∷ lines (drop (length x) s)
line_taken s x t e h =
    let a : take (length x) s ≡ x = rw e (take-append_seam x t) in
    let b : drop (length x) s ≡ t = rw e (drop-append_seam x t) in
    rw (a, b) h
