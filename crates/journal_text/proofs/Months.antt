-- The lines of a month's text, taken one by one, up to the next entry.
use Rattle.std.proofs.Common.{◌≡◌, ℕ, ◌+◌, ◌≤◌, true, false, List, [], ◌∷◌, ◌++◌, length, take, drop, refl, sym, ◌∙◌, ap, append_assoc, append-nil, length-append, arith}
use Rattle.std.proofs.Math.Seq.{take-add, take-append_seam, drop-append_seam}
use Rattle.std.proofs.lemmas.List.{drop-drop}
use Rattle.journal_text.specs.Pieces.{lines, begins, month_of, from_entry}

-- after the first k bytes of a text, the rest of its month's text is left
pub record Left (s : List ℕ) (k : ℕ) (r : List ℕ) : Type 0 where
  pub within : k + length r ≡ length s
  pub rest : drop k s ≡ r
  pub month : month_of (lines s) ≡ take k s ++ month_of (lines r)
  pub after : from_entry (lines s) ≡ from_entry (lines r)

pub month_more : (l : List ℕ) (ls : List (List ℕ)) → begins l ≡ false → month_of (l ∷ ls) ≡ l ++ month_of ls
month_more l ls h = rw h refl

pub after_more : (l : List ℕ) (ls : List (List ℕ)) → begins l ≡ false → from_entry (l ∷ ls) ≡ from_entry ls
after_more l ls h = rw h refl

-- a line of the month
pub left_line : (s r l t : List ℕ) (k : ℕ) → r ≡ l ++ t → lines r ≡ l ∷ lines t → begins l ≡ false → Left s k r → Left s (k + length l) t
left_line s r l t k e h b w =
    let n : length r ≡ length l + length t = ap length e ∙ length-append l t in
    let f : take (length l) r ≡ l = rw e (take-append_seam l t) in
    let d : drop (length l) r ≡ t = rw e (drop-append_seam l t) in
    record {
      within = omega (arith, w.within);
      rest = sym (drop-drop (length l) k s) ∙ ap (drop (length l)) w.rest ∙ d;
      month =
          w.month ∙ ap (λ m. take k s ++ m) (ap month_of h ∙ month_more l (lines t) b)
          ∙ sym (append_assoc (take k s) l (month_of (lines t)))
          ∙ ap (λ m. m ++ month_of (lines t)) (ap (λ m. take k s ++ m) (sym f ∙ ap (take (length l)) (sym w.rest)) ∙ sym (take-add k (length l) s));
      after = w.after ∙ ap from_entry h ∙ after_more l (lines t) b;
    }

-- what is left begins with an entry
pub record Done (s : List ℕ) (k : ℕ) : Type 0 where
  pub within : k ≤ length s
  pub month : take k s ≡ month_of (lines s)
  pub rest : lines (drop k s) ≡ from_entry (lines s)

pub begun_month : (l : List ℕ) (ls : List (List ℕ)) → begins l ≡ true → month_of (l ∷ ls) ≡ []
begun_month l ls h = rw h refl

pub begun_after : (l : List ℕ) (ls : List (List ℕ)) → begins l ≡ true → from_entry (l ∷ ls) ≡ l ∷ ls
begun_after l ls h = rw h refl

pub done_entry : (s r l t : List ℕ) (k : ℕ) → lines r ≡ l ∷ lines t → begins l ≡ true → Left s k r → Done s k
done_entry s r l t k h b w = record {
  within = omega (arith, w.within);
  month = sym (w.month ∙ ap (λ m. take k s ++ m) (ap month_of h ∙ begun_month l (lines t) b) ∙ append-nil (take k s));
  rest = ap lines w.rest ∙ sym (w.after ∙ ap from_entry h ∙ begun_after l (lines t) b ∙ sym h);
}
