-- The first line of a text, and what is known of it before its end is looked for.
use Rattle.std.proofs.Common.{◌≡◌, ℕ, zero, suc, ◌+◌, ◌<◌, ◌≤◌, min, Bool, true, false, cond, ◌&&◌, List, [], ◌∷◌, length, take, drop, codes, Some, None, Option, refl, sym, ◌∙◌, ap, subst, ⊎_elim, length-append, length-take-le, arith}
use Rattle.std.proofs.lemmas.Bool.{cases_lt, false_from_ne_true, eqb-true}
use Rattle.std.proofs.lemmas.List.{take_all}
use lib.Pointwise.{pointwise, pointwise_long}
use Rattle.std.specs.Prelude.{nat_eq, bytes_eq}
use Rattle.std.specs.List.{starts_with}
use Rattle.month_text.specs.Numbers.{bind}
use Rattle.month_text.specs.Lines.{past}
use Rattle.month_text.proofs.Taken.{past_front}
use Rattle.journal_text.specs.declared.entry.Action.{Action}
use Rattle.journal_text.specs.declared.entry.Action.TheVariants.{Resettle}
use Rattle.journal_text.specs.Pieces.{lines, line_grown, begins, component_of, action_of, first_action}
use Rattle.journal_text.proofs.Components.{long}
use Rattle.journal_text.proofs.Lines.{ends}
use Rattle.journal_text.proofs.Months.{Left, Done, done_entry}

-- the bytes up to the first byte 10, and that one
abbrev pub first_of : List ℕ → List ℕ
first_of [] = []
first_of (c ∷ cs) = c ∷ cond (ends c) [] (first_of cs)

cut_by : (b : Bool) (c : ℕ) (cs : List ℕ) → ends c ≡ b → (0 < length cs → lines cs ≡ first_of cs ∷ lines (drop (length (first_of cs)) cs))
    → lines (c ∷ cs) ≡ first_of (c ∷ cs) ∷ lines (drop (length (first_of (c ∷ cs))) (c ∷ cs))
cut_by true c cs h ih = rw h refl
cut_by false c [] h ih = rw h refl
cut_by false c (d ∷ ds) h ih = rw h (ap (line_grown c) (ih (omega arith)))

pub first_cut : (s : List ℕ) → 0 < length s → lines s ≡ first_of s ∷ lines (drop (length (first_of s)) s)
first_cut [] h = absurd (omega arith)
first_cut (c ∷ cs) h = cut_by (ends c) c cs refl (first_cut cs)

-- a first line by its lines
abbrev head : List (List ℕ) → List ℕ
head [] = []
head (l ∷ ls) = l

pub first_is : (s l : List ℕ) (ls : List (List ℕ)) → 0 < length s → lines s ≡ l ∷ ls → l ≡ first_of s
first_is s l ls h e = ap head (sym e ∙ first_cut s h)

front_by : (b : Bool) (n : ℕ) (cs : List ℕ) → first_of (take n cs) ≡ take n (first_of cs)
    → cond b [] (first_of (take n cs)) ≡ take n (cond b [] (first_of cs))
front_by true zero cs ih = refl
front_by true (suc n) cs ih = refl
front_by false n cs ih = ih

-- the first line of a text's front is the front of its first line
pub first_front : (n : ℕ) (s : List ℕ) → first_of (take n s) ≡ take n (first_of s)
first_front zero s = refl
first_front (suc n) [] = refl
first_front (suc n) (c ∷ cs) = ap (λ x. c ∷ x) (front_by (ends c) n cs (first_front n cs))

-- a word without byte 10
abbrev Whole : List ℕ → Type 0
Whole [] = Unit {0}
Whole (k ∷ ks) = (ends k ≡ false) × Whole ks

same_rest : (b : Bool) (k c : ℕ) (x y : Bool) → nat_eq k c ≡ b → (b ≡ true → x ≡ y) → (nat_eq k c && x) ≡ (nat_eq k c && y)
same_rest true k c x y h f = rw (h, f refl) refl
same_rest false k c x y h f = rw h refl

-- whether a text begins with such a word is seen by its first line
word_first : (w s : List ℕ) → Whole w → starts_with nat_eq (first_of s) w ≡ starts_with nat_eq s w
word_first [] s f = refl
word_first (k ∷ ks) [] f = refl
word_first (k ∷ ks) (c ∷ cs) f =
    same_rest (nat_eq k c) k c (pointwise nat_eq ks (take (length ks) (cond (ends c) [] (first_of cs)))) (pointwise nat_eq ks (take (length ks) cs)) refl (λ e.
    let h : ends c ≡ false = subst (λ x. ends x ≡ false) (eqb-true k c e) f.0 in
    rw h (word_first ks cs f.1))

pub begins_first : (s : List ℕ) → begins (first_of s) ≡ begins s
begins_first s =
    rw (word_first (codes "bill") s (refl, (refl, (refl, (refl, tt)))), word_first (codes "resettle=") s (refl, (refl, (refl, (refl, (refl, (refl, (refl, (refl, (refl, tt)))))))))) refl

pub begins_line : (s l : List ℕ) (ls : List (List ℕ)) → 0 < length s → lines s ≡ l ∷ ls → begins l ≡ begins s
begins_line s l ls h e = ap begins (first_is s l ls h e) ∙ begins_first s

-- a line that asks for something has thirteen bytes at the most
reset_none : (o : Option (List ℕ)) → ((t : List ℕ) → o ≡ Some t → component_of t ≡ None) → bind o (λ s. bind (component_of s) (λ n. Some (Resettle n))) ≡ None
reset_none None f = refl
reset_none (Some t) f = rw (f t refl) refl

reset_long : (l t : List ℕ) → 14 ≤ length l → past (codes "resettle=") l ≡ Some t → component_of t ≡ None
reset_long l t h e =
    let n : length l ≡ 9 + length t = ap length (past_front (codes "resettle=") l t e) ∙ length-append (codes "resettle=") t in
    long t (omega arith)

pub long_action : (l : List ℕ) → 14 ≤ length l → action_of l ≡ None
long_action l h =
    let b : bytes_eq l (codes "bill\n") ≡ false = false_from_ne_true (bytes_eq l (codes "bill\n")) (λ e. absurd (omega (arith, pointwise_long nat_eq l (codes "bill\n") e))) in
    rw b (reset_none (past (codes "resettle=") l) (λ t. reset_long l t h))

-- what a text's first line asks for, told by its first fourteen bytes
front_action : (s : List ℕ) → action_of (first_of (take 14 s)) ≡ action_of (first_of s)
front_action s =
    let f : first_of (take 14 s) ≡ take 14 (first_of s) = first_front 14 s in
    ⊎_elim
    (λ (l : length (first_of s) < 14). ap action_of (f ∙ take_all 14 (first_of s) (omega arith)))
    (λ (l : 14 ≤ length (first_of s)).
    let n : length (first_of (take 14 s)) ≡ 14 = ap length f ∙ length-take-le 14 (first_of s) l in
    long_action (first_of (take 14 s)) (omega arith) ∙ sym (long_action (first_of s) l))
    (cases_lt (length (first_of s)) 14)

same_front : (s : List ℕ) (n : ℕ) → n ≡ min (length s) 14 → take n s ≡ take 14 s
same_front s n e =
    ⊎_elim
    (λ (l : length s < 14). take_all n s (omega arith) ∙ sym (take_all 14 s (omega arith)))
    (λ (l : 14 ≤ length s). let m : n ≡ 14 = omega arith in rw m refl)
    (cases_lt (length s) 14)

none_some : {X : Type 0} (x : X) (o : Option X) → o ≡ None → o ≡ Some x → ⊥
none_some x None e f = cc
none_some x (Some y) e f = cc

-- what the first line of a text's front tells of the text
pub record Front (s l : List ℕ) : Type 0 where
  pub action : action_of l ≡ first_action (lines s)
  pub rest : (a : Action) → action_of l ≡ Some a → lines (drop (length l) s) ≡ drop 1 (lines s)

some_front : (s l : List ℕ) (ls : List (List ℕ)) (n : ℕ) → n ≡ min (length s) 14 → lines (take n s) ≡ l ∷ ls → 0 < length s
some_front [] l ls n e f =
    let z : n ≡ 0 = omega arith in
    absurd (omega (arith, ap length (subst (λ x. lines (take x []) ≡ l ∷ ls) z f)))
some_front (c ∷ cs) l ls n e f = omega arith

pub front_line : (s l : List ℕ) (ls : List (List ℕ)) (n : ℕ) → n ≡ min (length s) 14 → lines (take n s) ≡ l ∷ ls → Front s l
front_line s l ls n e f =
    let h : 0 < length s = some_front s l ls n e f in
    let k : length (take n s) ≡ n = length-take-le n s (omega arith) in
    let o : l ≡ first_of (take n s) = first_is (take n s) l ls (omega arith) f in
    let i : l ≡ first_of (take 14 s) = o ∙ ap first_of (same_front s n e) in
    record {
      action = ap action_of i ∙ front_action s ∙ sym (ap first_action (first_cut s h));
      rest = λ a g.
          ⊎_elim
          (λ (b : length (first_of s) < 14).
          let j : l ≡ first_of s = i ∙ first_front 14 s ∙ take_all 14 (first_of s) (omega arith) in
          ap (λ x. lines (drop (length x) s)) j ∙ sym (ap (drop 1) (first_cut s h)))
          (λ (b : 14 ≤ length (first_of s)).
          let m : length l ≡ 14 = ap length (i ∙ first_front 14 s) ∙ length-take-le 14 (first_of s) b in
          absurd (none_some a (action_of l) (long_action l (omega arith)) g))
          (cases_lt (length (first_of s)) 14);
    }

begins_some : (r : List ℕ) → begins r ≡ true → 0 < length r
begins_some [] h = cc
begins_some (c ∷ cs) h = omega arith

-- what is left begins as an entry does
pub done_begun : (s r : List ℕ) (k : ℕ) → begins r ≡ true → Left s k r → Done s k
done_begun s r k b w =
    done_entry s r (first_of r) (drop (length (first_of r)) r) k (first_cut r (begins_some r b)) (begins_first r ∙ b) w
