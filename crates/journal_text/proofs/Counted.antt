-- The lines of a text have no gaps, and each but the last ends in byte 10: so they are counted by that byte.
use Rattle.std.proofs.Common.{◌≡◌, ℕ, ◌+◌, ◌<◌, min, Bool, true, false, cond, List, [], ◌∷◌, ◌++◌, length, refl, ◌∙◌, ap, arith}
use Rattle.std.proofs.lemmas.Bool.Decides.{nat_tests}
use Rattle.std.proofs.lemmas.List.Sums.{sum_by-append}
use Rattle.std.specs.Prelude.{nat_eq}
use Rattle.month_text.specs.OneSpelling.{breaks}
use Rattle.journal_text.specs.Pieces.{lines, line_grown, begins, month_of, from_entry, most_lines, lines_on, pieces}
use Rattle.journal_text.proofs.Months.{month_more, after_more, begun_month, begun_after}

-- each line but the last ends in byte 10
abbrev pub Lined : List (List ℕ) → Type 0
Lined [] = Unit {0}
Lined (l ∷ ls) = (0 < length ls → breaks l ≡ 1) × Lined ls

breaks_append : (a b : List ℕ) → breaks (a ++ b) ≡ breaks a + breaks b
breaks_append a b = sum_by-append (λ x. cond (nat_eq x 10) 1 0) a b

breaks_other : (c : ℕ) (l : List ℕ) → nat_eq c 10 ≡ false → breaks (c ∷ l) ≡ breaks l
breaks_other c l h =
    let z : breaks (c ∷ []) ≡ 0 = rw h refl in
    omega (arith, breaks_append (c ∷ []) l, z)

breaks_end : (c : ℕ) → nat_eq c 10 ≡ true → breaks (c ∷ []) ≡ 1
breaks_end c h = rw h refl

grown_lined : (c : ℕ) (ls : List (List ℕ)) → nat_eq c 10 ≡ false → Lined ls → Lined (line_grown c ls)
grown_lined c [] h w = (λ k. absurd (omega arith), tt)
grown_lined c (l ∷ ls) h w = (λ k. breaks_other c l h ∙ w.0 k, w.1)

line_lined : (b : Bool) (c : ℕ) (ls : List (List ℕ)) → nat_eq c 10 ≡ b → Lined ls → Lined (cond b ((c ∷ []) ∷ ls) (line_grown c ls))
line_lined true c ls h w = (λ k. breaks_end c h, w)
line_lined false c ls h w = grown_lined c ls h w

pub lined : (t : List ℕ) → Lined (lines t)
lined [] = tt
lined (c ∷ cs) = line_lined (nat_eq c 10) c (lines cs) refl (lined cs)

-- no line is empty
abbrev pub Filled : List (List ℕ) → Type 0
Filled [] = Unit {0}
Filled (l ∷ ls) = (0 < length l) × Filled ls

line_filled : (b : Bool) (c : ℕ) (ls : List (List ℕ)) → Filled ls → Filled (cond b ((c ∷ []) ∷ ls) (line_grown c ls))
line_filled true c ls w = (omega arith, w)
line_filled false c [] w = (omega arith, tt)
line_filled false c (l ∷ ls) w = (omega arith, w.1)

pub filled : (t : List ℕ) → Filled (lines t)
filled [] = tt
filled (c ∷ cs) = line_filled (nat_eq c 10) c (lines cs) (filled cs)

some_by : (b : Bool) (c : ℕ) (ls : List (List ℕ)) → 0 < length (cond b ((c ∷ []) ∷ ls) (line_grown c ls))
some_by true c ls = omega arith
some_by false c [] = omega arith
some_by false c (l ∷ ls) = omega arith

pub some_line : (t : List ℕ) → 0 < length t → 0 < length (lines t)
some_line [] h = absurd (omega arith)
some_line (c ∷ cs) h = some_by (nat_eq c 10) c (lines cs)

on_and_on : (n j k : ℕ) → lines_on (lines_on n j) k ≡ lines_on n (j + k)
on_and_on n j k = omega arith

-- the pieces after a month's text: its lines are counted on
after_line : (n j : ℕ) (l : List ℕ) (ls : List (List ℕ)) (b : Bool) → begins l ≡ b → Lined (l ∷ ls) → ((i : ℕ) → Lined ls → pieces (lines_on n i) ls ≡ pieces (lines_on n (breaks (month_of ls) + i)) (from_entry ls)) → pieces (lines_on n j) (l ∷ ls) ≡ pieces (lines_on n (breaks (month_of (l ∷ ls)) + j)) (from_entry (l ∷ ls))
after_line n j l ls true h w ih =
    let z : j ≡ 0 + j = omega arith in
    rw (begun_month l ls h, begun_after l ls h) (ap (λ i. pieces (lines_on n i) (l ∷ ls)) z)
after_line n j l [] false h w ih = rw h refl
after_line n j l (k ∷ ks) false h w ih =
    let a : pieces (lines_on n j) (l ∷ k ∷ ks) ≡ pieces (lines_on (lines_on n j) 1) (k ∷ ks) = rw h refl in
    let c : breaks (month_of (l ∷ k ∷ ks)) + j ≡ breaks (month_of (k ∷ ks)) + (j + 1) =
    let m = month_more l (k ∷ ks) h in
    let d = breaks_append l (month_of (k ∷ ks)) in
    let e = w.0 (omega arith) in
    rw m (omega (arith, d, e)) in
    a ∙ ap (λ i. pieces i (k ∷ ks)) (on_and_on n j 1) ∙ ih (j + 1) w.1
    ∙ rw (c, after_more l (k ∷ ks) h) refl

pub pieces_after : (n j : ℕ) (ls : List (List ℕ)) → Lined ls → pieces (lines_on n j) ls ≡ pieces (lines_on n (breaks (month_of ls) + j)) (from_entry ls)
pieces_after n j [] w = refl
pieces_after n j (l ∷ ls) w = after_line n j l ls (begins l) refl w (λ i v. pieces_after n i ls v)

-- the lines of a piece, as they are counted on with saturation
pub counted_on : (line count plus next b : ℕ) → count ≡ min b most_lines → plus ≡ min (count + 1) most_lines → next ≡ min (line + plus) most_lines → next ≡ lines_on line (b + 1)
counted_on line count plus next b e f g = omega arith

pub some_left : (n : ℕ) (b : Bool) → b ≡ nat_eq n 0 → b ≡ false → 0 < n
some_left n b e f = grind (arith, nat_tests)
