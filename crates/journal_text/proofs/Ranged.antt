-- The months of a journal that is read are in range.
use Rattle.std.proofs.Common.{◌≡◌, ℕ, zero, suc, List, [], ◌∷◌, Option, Some, None, subst, arith}
use Rattle.std.specs.List.{All}
use Rattle.refusal.specs.declared.Layer.{Layer}
use Rattle.refusal.specs.Answers.{Answer}
use Rattle.month_text.specs.Months.{read_month}
use Rattle.month_text.specs.Numbers.{bind}
use Rattle.month_text.specs.Accepted.{InRange}
use Rattle.month_text.proofs.Accepted.{next_done, test_done}
use Rattle.month_text.proofs.TakenRows.{or_done}
use Rattle.month_text.proofs.Ranged.{month_in_range}
use Rattle.journal_text.specs.declared.entry.Entry.{Entry}
use Rattle.journal_text.specs.Pieces.{Piece, lines, action_of, month_of, pieces}
use Rattle.journal_text.specs.Journals.{at_line, after_first, terms_hold, entry_of, or_first, entries_of, journal_of, read_journal}

abbrev Ranged : List Entry → Type 0
Ranged entries = All (λ (e : Entry). InRange e.month) entries

read_at : {T : Type 0} (line : ℕ) (t : Answer T) (v : T) → at_line line t ≡ Answer.done v → t ≡ Answer.done v
read_at line (Answer.done w) v e = e
read_at line (Answer.refused n l p) v e = absurd cc

entry_ranged : (first : Option Entry) (p : Piece) (v : Entry) → entry_of first p ≡ Answer.done v → InRange v.month
entry_ranged first p v e =
    let a = or_done (bind (action_of p.line) (after_first first)) 1 Layer.Text p.number _ v e in
    let b = next_done (at_line p.number (read_month p.month)) _ v a.2 in
    let c = test_done (terms_hold first b.0) _ v 2 Layer.Text p.number b.2 in
    subst (λ (w : Entry). InRange w.month) c.1 (month_in_range p.month b.0 (read_at p.number (read_month p.month) b.0 b.1))

more_ranged : (e : Entry) (es : List Entry) → InRange e.month → Ranged es → Ranged (e ∷ es)
more_ranged e es h r zero d l = h
more_ranged e es h r (suc k) d l = r k d (omega (arith, l))

entries_ranged : (first : Option Entry) (ps : List Piece) (es : List Entry) → entries_of first ps ≡ Answer.done es → Ranged es
entries_ranged first [] es e =
    let n : [] ≡ es = cc in
    subst Ranged n (λ k d l. absurd (omega (arith, l)))
entries_ranged first (p ∷ ps) es e =
    let a = next_done (entry_of first p) _ es e in
    let b = next_done (entries_of (Some (or_first first a.0)) ps) _ es a.2 in
    let n : a.0 ∷ b.0 ≡ es = cc b.2 in
    subst Ranged n (more_ranged a.0 b.0 (entry_ranged first p a.0 a.1) (entries_ranged (Some (or_first first a.0)) ps b.0 b.1))

journal_ranged : (before : List ℕ) (ps : List Piece) (es : List Entry) → journal_of before ps ≡ Answer.done es → Ranged es
journal_ranged [] (p ∷ ps) es e = entries_ranged None (p ∷ ps) es e
journal_ranged [] [] es e = absurd cc
journal_ranged (c ∷ cs) ps es e = absurd cc

pub journal_in_range : (text : List ℕ) (es : List Entry) → read_journal text ≡ Answer.done es → Ranged es
journal_in_range text es e = journal_ranged (month_of (lines text)) (pieces 1 (lines text)) es e
