-- Sums of heads, place by place.
use Rattle.std.proofs.Common.{◌≡◌, ℕ, zero, suc, ◌+◌, ◌<◌, ◌≤◌, true, cond, List, [], ◌∷◌, length, get_or, take, set, ℤ, pos, ◌+ℤ◌, Some, None, Option, sym, refl, ap, ◌∙◌, arith}
use Rattle.std.proofs.lemmas.List.{take_more, take_more_set, take_all}
use Rattle.std.proofs.lemmas.Bool.{cond-true, cond-false}
use Rattle.cents.specs.Passes.{all_pass}
use Rattle.cents.proofs.Options.{cond_none, cond_some}
use Rattle.cents.proofs.Passes.{pass_more, pass_not}
use Rattle.tariff.specs.Heads.{within, sums}

pub sums_length : (hs as' : List ℤ) → length hs ≡ length as' → length (sums hs as') ≡ length hs
sums_length [] as' e = refl
sums_length (h ∷ hs) [] e = absurd (omega arith)
sums_length (h ∷ hs) (a ∷ as') e = ap suc (sums_length hs as' (omega arith))

pub sums_at : (hs as' : List ℤ) (i : ℕ) → i < length hs → i < length as' → get_or (sums hs as') i (pos 0) ≡ get_or hs i (pos 0) +ℤ get_or as' i (pos 0)
sums_at [] as' i l m = absurd (omega arith)
sums_at (h ∷ hs) [] i l m = absurd (omega arith)
sums_at (h ∷ hs) (a ∷ as') zero l m = refl
sums_at (h ∷ hs) (a ∷ as') (suc i) l m = sums_at hs as' i (omega arith) (omega arith)

-- all sums, or nothing where one is out of range
abbrev pub tried : List ℤ → List ℤ → Option (List ℤ)
tried hs as' = cond (all_pass within (sums hs as')) (Some (sums hs as')) None

abbrev pub one : ℤ → ℤ → Option ℤ
one x y = cond (within (x +ℤ y)) (Some (x +ℤ y)) None

module _ (hs as' : List ℤ) (i : ℕ) (x y : ℤ) (lh : i < length hs) (same : length hs ≡ length as') (ex : x ≡ get_or hs i (pos 0)) (ey : y ≡ get_or as' i (pos 0)) where
  here : get_or (sums hs as') i (pos 0) ≡ x +ℤ y
  here = sums_at hs as' i lh (omega arith) ∙ rw (← ex, ← ey)

  inner : i < length (sums hs as')
  inner = omega (arith, sums_length hs as' same)

  pub sums_stop : None ≡ one x y → None ≡ tried hs as'
  sums_stop e = sym (cond-false _ (Some (sums hs as')) None (pass_not within (sums hs as') i (pos 0) inner (rw here (cond_none (within (x +ℤ y)) (x +ℤ y) e))))

  pub sums_more : (out : List ℤ) (z w : ℤ) → i < length out → w ≡ z → Some z ≡ one x y
      → take i out ≡ take i (sums hs as') → all_pass within (take i (sums hs as')) ≡ true
      → (take (i + 1) (set out i w) ≡ take (i + 1) (sums hs as')) × (all_pass within (take (i + 1) (sums hs as')) ≡ true)
  sums_more out z w lo ew e t p =
      let s = cond_some (within (x +ℤ y)) (x +ℤ y) z e in (
        take_more_set out i w lo ∙ rw (t, ew, s.1, ← here) (sym (take_more (sums hs as') i (pos 0) inner)),
        pass_more within (sums hs as') i (pos 0) inner p (rw here s.0),
      )

pub sums_end : (hs as' out : List ℤ) (i : ℕ) → length hs ≡ length as' → length hs ≤ i → length out ≤ i
    → take i out ≡ take i (sums hs as') → all_pass within (take i (sums hs as')) ≡ true → Some out ≡ tried hs as'
sums_end hs as' out i same lh lo t p =
    let a = take_all i (sums hs as') (omega (arith, sums_length hs as' same)) in
    let o : out ≡ sums hs as' = sym (take_all i out lo) ∙ t ∙ a in
    ap Some o ∙ sym (cond-true _ (Some (sums hs as')) None (ap (all_pass within) (sym a) ∙ p))
