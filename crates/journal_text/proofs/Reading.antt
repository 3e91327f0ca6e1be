-- One piece of a journal more: its entry, or the line that is refused.
use Rattle.std.proofs.Common.{◌≡◌, ℕ, ◌+◌, ◌<◌, Bool, true, false, cond, ◌||◌, List, [], ◌∷◌, ◌++◌, length, take, drop, codes, Some, None, Option, refl, sym, ◌∙◌, ap, subst, append_assoc, append-nil, arith}
use Rattle.std.proofs.lemmas.Bool.{eqb-true, eq-eqb}
use Rattle.std.proofs.lemmas.Slice.Eq.{bytes_eq-Decides}
use lib.Pointwise.{pointwise}
use Rattle.std.specs.Prelude.{nat_eq, bytes_eq, slice_get}
use Rattle.std.specs.List.{starts_with}
use Rattle.refusal.specs.declared.Layer.{Layer}
use Rattle.refusal.specs.Answers.{Answer, next}
use Rattle.refusal.proofs.Apart.{done_refused, refused_done}
use Rattle.month_text.specs.declared.month.Month.{Month}
use Rattle.month_text.specs.Numbers.{bind}
use Rattle.month_text.specs.Lines.{past}
use Rattle.month_text.specs.Ranges.{off_layout, out_of_range}
use Rattle.month_text.specs.Months.{read_month}
use Rattle.month_text.specs.OneSpelling.{breaks}
use Rattle.journal_text.specs.declared.entry.Action.{Action}
use Rattle.journal_text.specs.declared.entry.Action.TheVariants.{Bill, Resettle}
use Rattle.journal_text.specs.declared.entry.Entry.{Entry}
use Rattle.journal_text.specs.Pieces.{Piece, lines, begins, component_of, action_of, first_action, month_of, from_entry, lines_on, pieces}
use Rattle.journal_text.specs.Journals.{at_line, after_first, terms_hold, line_entry, or_first, entries_of, journal_of, read_journal}
use Rattle.journal_text.proofs.Counted.{Lined, lined, Filled, filled, some_line, pieces_after}
use Rattle.journal_text.proofs.Months.{after_more}

-- what the rest of a journal says, where its first line has the given number
abbrev pub rest_of : Option Entry → ℕ → List ℕ → List Piece → Answer (List Entry)
rest_of first n [] (p ∷ ps) = entries_of first (p ∷ ps)
rest_of first n [] [] = off_layout n
rest_of first n (c ∷ cs) ps = off_layout n

abbrev pub read_rest : Option Entry → ℕ → List ℕ → Answer (List Entry)
read_rest first n t = rest_of first n (month_of (lines t)) (pieces n (lines t))

-- entries that were read, put before those of the rest
abbrev pub ahead : List Entry → Answer (List Entry) → Answer (List Entry)
ahead es (Answer.done fs) = Answer.done (es ++ fs)
ahead es (Answer.refused n l p) = Answer.refused n l p

ahead_none : (o : Answer (List Entry)) → o ≡ ahead [] o
ahead_none (Answer.done fs) = refl
ahead_none (Answer.refused n l p) = refl

whole : (m : List ℕ) (ps : List Piece) → journal_of m ps ≡ rest_of None 1 m ps
whole [] (p ∷ ps) = refl
whole [] [] = refl
whole (c ∷ cs) ps = refl

pub at_start : (t : List ℕ) → read_journal t ≡ ahead [] (read_rest None 1 t)
at_start t = whole (month_of (lines t)) (pieces 1 (lines t)) ∙ ahead_none (read_rest None 1 t)

-- a line that asks for something begins an entry
true_false : true ≡ false → ⊥
true_false e = cc

past_by : (b : Bool) (k : ℕ) (ks : List ℕ) (c : ℕ) (cs s : List ℕ) → nat_eq c k ≡ b → cond b (past ks cs) None ≡ Some s → (past ks cs ≡ Some s → pointwise nat_eq ks (take (length ks) cs) ≡ true) → pointwise nat_eq (k ∷ ks) (take (length (k ∷ ks)) (c ∷ cs)) ≡ true
past_by true k ks c cs s h e ih =
    let d : nat_eq k c ≡ true = eq-eqb k c (sym (eqb-true c k h)) in
    rw d (ih e)
past_by false k ks c cs s h e ih = absurd cc

past_starts : (w l s : List ℕ) → past w l ≡ Some s → pointwise nat_eq w (take (length w) l) ≡ true
past_starts [] l s e = refl
past_starts (k ∷ ks) [] s e = absurd cc
past_starts (k ∷ ks) (c ∷ cs) s e = past_by (nat_eq c k) k ks c cs s refl e (past_starts ks cs s)

or_right : (a b : Bool) → b ≡ true → (a || b) ≡ true
or_right true b e = refl
or_right false b e = e

resettle_begins : (l : List ℕ) (a : Action) (o : Option (List ℕ)) → past (codes "resettle=") l ≡ o → bind o (λ s. bind (component_of s) (λ n. Some (Resettle n))) ≡ Some a → begins l ≡ true
resettle_begins l a None h e = absurd cc
resettle_begins l a (Some s) h e = or_right (starts_with nat_eq l (codes "bill")) (starts_with nat_eq l (codes "resettle=")) (past_starts (codes "resettle=") l s h)

action_by : (l : List ℕ) (a : Action) (b : Bool) → bytes_eq l (codes "bill\n") ≡ b → cond b (Some Bill) (bind (past (codes "resettle=") l) (λ s. bind (component_of s) (λ n. Some (Resettle n)))) ≡ Some a → begins l ≡ true
action_by l a true h e = rw ((bytes_eq-Decides l (codes "bill\n")).0 h) refl
action_by l a false h e = resettle_begins l a (past (codes "resettle=") l) refl e

action_begins : (l : List ℕ) (a : Action) → action_of l ≡ Some a → begins l ≡ true
action_begins l a e = action_by l a (bytes_eq l (codes "bill\n")) refl e

after_some : (first : Option Entry) (o : Option Action) (a : Action) → bind o (after_first first) ≡ Some a → (b : Action) × (o ≡ Some b)
after_some first None a e = absurd cc
after_some first (Some b) a e = (b, refl)

-- no entry begins here
unbegun : (first : Option Entry) (n : ℕ) (l m : List ℕ) (ps : List Piece) → 0 < length l → rest_of first n (l ++ m) ps ≡ off_layout n
unbegun first n [] m ps h = absurd (omega arith)
unbegun first n (c ∷ cs) m ps h = refl

none_by : (first : Option Entry) (n : ℕ) (l : List ℕ) (ls : List (List ℕ)) (b : Bool) → begins l ≡ b → 0 < length l → bind (action_of l) (after_first first) ≡ None → rest_of first n (month_of (l ∷ ls)) (pieces n (l ∷ ls)) ≡ off_layout n
none_by first n l ls true h w e = rw h (rw e refl)
none_by first n l ls false h w e = rw h (unbegun first n l (month_of ls) (pieces (lines_on n 1) ls) w)

none_at : (first : Option Entry) (n : ℕ) (ls : List (List ℕ)) → Filled ls → bind (first_action ls) (after_first first) ≡ None → rest_of first n (month_of ls) (pieces n ls) ≡ off_layout n
none_at first n [] w e = refl
none_at first n (l ∷ ls) w e = none_by first n l ls (begins l) refl w.0 e

pub no_piece : (first : Option Entry) (n : ℕ) (t : List ℕ) → bind (first_action (lines t)) (after_first first) ≡ None → read_rest first n t ≡ off_layout n
no_piece first n t e = none_at first n (lines t) (filled t) e

-- an entry begins here: its month's text, and then its terms
abbrev pub entry_at : Option Entry → ℕ → Action → Answer Month → Answer Entry
entry_at first n a answered = next answered (λ m. cond (terms_hold first m) (Answer.done (line_entry n a m)) (out_of_range n))

abbrev passed : Bool → ℕ → Answer (Unit {0})
passed b n = cond b (Answer.done tt) (out_of_range n)

abbrev pub terms_at : Option Entry → Entry → Answer (Unit {0})
terms_at first e = passed (terms_hold first e.month) e.line

abbrev pub then_rest : Option Entry → List Piece → Answer Entry → Answer (List Entry)
then_rest first ps answered = next answered (λ e. next (entries_of (Some (or_first first e)) ps) (λ es. Answer.done (e ∷ es)))

begun_at : (first : Option Entry) (n : ℕ) (ls : List (List ℕ)) (a : Action) → bind (first_action ls) (after_first first) ≡ Some a → rest_of first n (month_of ls) (pieces n ls) ≡ then_rest first (pieces (lines_on n 1) (drop 1 ls)) (entry_at first n a (at_line n (read_month (month_of (drop 1 ls)))))
begun_at first n [] a e = absurd cc
begun_at first n (l ∷ ls) a e =
    let o = after_some first (action_of l) a e in
    let b = action_begins l o.0 o.1 in
    rw b (rw e refl)

lined_rest : (ls : List (List ℕ)) → Lined ls → Lined (drop 1 ls)
lined_rest [] w = tt
lined_rest (l ∷ ls) w = w.1

pub begun : (first : Option Entry) (n : ℕ) (t m r : List ℕ) (a : Action) → bind (first_action (lines t)) (after_first first) ≡ Some a → m ≡ month_of (drop 1 (lines t)) → lines r ≡ from_entry (drop 1 (lines t)) → read_rest first n t ≡ then_rest first (pieces (lines_on n (breaks m + 1)) (lines r)) (entry_at first n a (at_line n (read_month m)))
begun first n t m r a e d f =
    let g = pieces_after n 1 (drop 1 (lines t)) (lined_rest (lines t) (lined t)) in
    begun_at first n (lines t) a e ∙ rw (g, d, f) refl

-- the month's text is refused
pub month_stops : (first : Option Entry) (n : ℕ) (a : Action) (o : Answer Month) (k : ℕ) (l : Layer) (p : ℕ) → next o (λ m. Answer.done (line_entry n a m)) ≡ Answer.refused k l p → entry_at first n a o ≡ Answer.refused k l p
month_stops first n a (Answer.done m) k l p e = absurd (done_refused (line_entry n a m) k l p e)
month_stops first n a (Answer.refused i j q) k l p e = cc

-- the terms are refused
stop_by : (b : Bool) (v : Entry) (n k : ℕ) (l : Layer) (p : ℕ) → passed b n ≡ Answer.refused k l p → cond b (Answer.done v) (out_of_range n) ≡ Answer.refused k l p
stop_by true v n k l p e = absurd (done_refused tt k l p e)
stop_by false v n k l p e = cc

pub terms_stop : (first : Option Entry) (n : ℕ) (a : Action) (o : Answer Month) (v : Entry) (k : ℕ) (l : Layer) (p : ℕ) → next o (λ m. Answer.done (line_entry n a m)) ≡ Answer.done v → terms_at first v ≡ Answer.refused k l p → entry_at first n a o ≡ Answer.refused k l p
terms_stop first n a (Answer.done m) v k l p e f =
    let d : line_entry n a m ≡ v = cc in
    stop_by (terms_hold first m) (line_entry n a m) n k l p (subst (λ (w : Entry). terms_at first w ≡ Answer.refused k l p) (sym d) f)
terms_stop first n a (Answer.refused i j q) v k l p e f = absurd (refused_done i j q v e)

-- the entry is accepted
pass_by : (b : Bool) (v : Entry) (n : ℕ) → passed b n ≡ Answer.done tt → cond b (Answer.done v) (out_of_range n) ≡ Answer.done v
pass_by true v n e = refl
pass_by false v n e = absurd (refused_done 2 Layer.Text n tt e)

pub terms_pass : (first : Option Entry) (n : ℕ) (a : Action) (o : Answer Month) (v : Entry) → next o (λ m. Answer.done (line_entry n a m)) ≡ Answer.done v → terms_at first v ≡ Answer.done tt → entry_at first n a o ≡ Answer.done v
terms_pass first n a (Answer.done m) v e f =
    let d : line_entry n a m ≡ v = cc in
    pass_by (terms_hold first m) (line_entry n a m) n (subst (λ (w : Entry). terms_at first w ≡ Answer.done tt) (sym d) f) ∙ ap Answer.done d
terms_pass first n a (Answer.refused i j q) v e f = absurd (refused_done i j q v e)

-- the entries so far, with one more
pub ahead_more : (es : List Entry) (e : Entry) (o : Answer (List Entry)) → ahead es (next o (λ fs. Answer.done (e ∷ fs))) ≡ ahead (es ++ e ∷ []) o
ahead_more es e (Answer.done fs) = rw append_assoc refl
ahead_more es e (Answer.refused n l p) = refl

pub first_of_more : (es : List Entry) (e : Entry) → slice_get (es ++ e ∷ []) 0 ≡ Some (or_first (slice_get es 0) e)
first_of_more [] e = refl
first_of_more (x ∷ xs) e = refl

-- after a month's text the next entry begins
entry_by : (b : Bool) (first : Option Entry) (n : ℕ) (l : List ℕ) (ls : List (List ℕ)) → begins l ≡ b → 0 < length (from_entry (l ∷ ls)) → (0 < length (from_entry ls) → rest_of first n (month_of (from_entry ls)) (pieces n (from_entry ls)) ≡ entries_of first (pieces n (from_entry ls))) → rest_of first n (month_of (from_entry (l ∷ ls))) (pieces n (from_entry (l ∷ ls))) ≡ entries_of first (pieces n (from_entry (l ∷ ls)))
entry_by true first n l ls h k ih = rw h (rw h refl)
entry_by false first n l ls h k ih =
    let a = after_more l ls h in
    rw a (ih (subst (λ (xs : List (List ℕ)). 0 < length xs) a k))

entry_next : (first : Option Entry) (n : ℕ) (ls : List (List ℕ)) → 0 < length (from_entry ls) → rest_of first n (month_of (from_entry ls)) (pieces n (from_entry ls)) ≡ entries_of first (pieces n (from_entry ls))
entry_next first n [] h = absurd (omega arith)
entry_next first n (l ∷ ls) h = entry_by (begins l) first n l ls refl h (entry_next first n ls)

pub rest_next : (first : Option Entry) (n : ℕ) (r : List ℕ) (ls : List (List ℕ)) → lines r ≡ from_entry ls → 0 < length r → read_rest first n r ≡ entries_of first (pieces n (lines r))
rest_next first n r ls e h =
    let k = some_line r h in
    rw e (entry_next first n ls (subst (λ (xs : List (List ℕ)). 0 < length xs) e k))

pub rest_none : (first : Option Entry) (n : ℕ) (r : List ℕ) → length r ≡ 0 → entries_of first (pieces n (lines r)) ≡ Answer.done []
rest_none first n [] h = refl
rest_none first n (c ∷ cs) h = absurd (omega arith)

pub stopped_none : (whole t : List ℕ) (es : List Entry) (first : Option Entry) (n : ℕ) → read_journal whole ≡ ahead es (read_rest (slice_get es 0) n t) → first ≡ slice_get es 0 → None ≡ bind (first_action (lines t)) (after_first first) → Answer.refused 1 Layer.Text n ≡ read_journal whole
stopped_none whole t es first n e f h = sym (e ∙ ap (ahead es) (no_piece (slice_get es 0) n t (sym (h ∙ ap (λ (o : Option Entry). bind (first_action (lines t)) (after_first o)) f))))

-- a piece of a journal: the entries before it, its line's number, its action, its month's text and what comes after
module _ (whole t m r : List ℕ) (es : List Entry) (first : Option Entry) (n : ℕ) (a : Action) (e : read_journal whole ≡ ahead es (read_rest (slice_get es 0) n t)) (f : first ≡ slice_get es 0) (h : Some a ≡ bind (first_action (lines t)) (after_first first)) (d : m ≡ month_of (drop 1 (lines t))) (g : lines r ≡ from_entry (drop 1 (lines t))) where
  opened : read_journal whole ≡ ahead es (then_rest (slice_get es 0) (pieces (lines_on n (breaks m + 1)) (lines r)) (entry_at (slice_get es 0) n a (at_line n (read_month m))))
  opened = e ∙ ap (ahead es) (begun (slice_get es 0) n t m r a (sym (h ∙ ap (λ (o : Option Entry). bind (first_action (lines t)) (after_first o)) f)) d g)

  pub stopped_month : (k : ℕ) (l : Layer) (p : ℕ) → Answer.refused k l p ≡ next (at_line n (read_month m)) (λ v. Answer.done (line_entry n a v)) → Answer.refused k l p ≡ read_journal whole
  stopped_month k l p s = sym (opened ∙ rw (month_stops (slice_get es 0) n a (at_line n (read_month m)) k l p (sym s)) refl)

  pub stopped_terms : (v : Entry) (k : ℕ) (l : Layer) (p : ℕ) → Answer.done v ≡ next (at_line n (read_month m)) (λ v. Answer.done (line_entry n a v)) → Answer.refused k l p ≡ terms_at first v → Answer.refused k l p ≡ read_journal whole
  stopped_terms v k l p s u = sym (opened ∙ rw (terms_stop (slice_get es 0) n a (at_line n (read_month m)) v k l p (sym s) (sym (u ∙ ap (λ (o : Option Entry). terms_at o v) f))) refl)

  accepted : (v : Entry) → Answer.done v ≡ next (at_line n (read_month m)) (λ v. Answer.done (line_entry n a v)) → Answer.done tt ≡ terms_at first v → read_journal whole ≡ ahead (es ++ v ∷ []) (entries_of (slice_get (es ++ v ∷ []) 0) (pieces (lines_on n (breaks m + 1)) (lines r)))
  accepted v s u =
      opened ∙ rw (terms_pass (slice_get es 0) n a (at_line n (read_month m)) v (sym s) (sym (u ∙ ap (λ (o : Option Entry). terms_at o v) f))) refl
      ∙ ahead_more es v (entries_of (Some (or_first (slice_get es 0) v)) (pieces (lines_on n (breaks m + 1)) (lines r)))
      ∙ ap (λ (o : Option Entry). ahead (es ++ v ∷ []) (entries_of o (pieces (lines_on n (breaks m + 1)) (lines r)))) (sym (first_of_more es v))

  pub ended : (v : Entry) → Answer.done v ≡ next (at_line n (read_month m)) (λ v. Answer.done (line_entry n a v)) → Answer.done tt ≡ terms_at first v → length r ≡ 0 → Answer.done (es ++ v ∷ []) ≡ read_journal whole
  ended v s u z =
      sym (accepted v s u ∙ rw (rest_none (slice_get (es ++ v ∷ []) 0) (lines_on n (breaks m + 1)) r z) (rw append-nil refl))

  pub went_on : (v : Entry) (i : ℕ) → Answer.done v ≡ next (at_line n (read_month m)) (λ v. Answer.done (line_entry n a v)) → Answer.done tt ≡ terms_at first v → 0 < length r → i ≡ lines_on n (breaks m + 1) → read_journal whole ≡ ahead (es ++ v ∷ []) (read_rest (slice_get (es ++ v ∷ []) 0) i r)
  went_on v i s u z q =
      accepted v s u ∙ ap (ahead (es ++ v ∷ [])) (sym (rest_next (slice_get (es ++ v ∷ []) 0) (lines_on n (breaks m + 1)) r (drop 1 (lines t)) g z) ∙ ap (λ j. read_rest (slice_get (es ++ v ∷ []) 0) j r) (sym q))
