-- Lines within their ranges are the spellings of what was read.
use Rattle.std.proofs.Common.{◌≡◌, ℕ, zero, suc, ◌+◌, ◌-◌, true, false, cond, ◌&&◌, eqb, leb, List, [], ◌∷◌, ◌++◌, map, length, get_or, take, replicate, ℤ, pos, negsuc, Some, None, codes, sum, Option, sym, refl, ap, ◌∙◌, subst, arith}
use lib.ListN.{length-map}
use Rattle.std.proofs.lemmas.List.{take_at}
use Rattle.std.proofs.lemmas.Option.{cond_some}
use Rattle.cents.proofs.Tabulated.{tabulated}
use Rattle.std.specs.List.{list_all}
use Rattle.refusal.specs.declared.Layer.{Layer}
use Rattle.refusal.specs.Answers.{Answer, next}
use Rattle.month_text.specs.declared.month.Member.{Member}
use Rattle.month_text.specs.Numbers.{bind}
use Rattle.month_text.specs.Lines.{line_at}
use Rattle.month_text.specs.Ranges.{out_of_range, off_balance, or_else, each, natural_in, amount_in, number_at_line, naturals_at, amounts_at, weights_at}
use Rattle.month_text.specs.Members.{member_of, blank, member_lawful, member_at, members_at, places_at}
use Rattle.month_text.specs.OneSpelling.{spelled_line, row_of, spelled_member, spelled_members, breaks}
use Rattle.month_text.proofs.Accepted.{bind_some, next_done, test_done, members_kept}
use Rattle.month_text.proofs.Taken.{Takes, both, LineTaken, line_takes}
use Rattle.limits.specs.declared.TheConstants.{MOST_FACT, MOST_TEXT_MEMBERS}

pub or_done : {X T : Type 0} (o : Option X) (n : ℕ) (l : Layer) (p : ℕ) (k : X → Answer T) (v : T) → or_else o (Answer.refused n l p) k ≡ Answer.done v → (x : X) × (o ≡ Some x) × (k x ≡ Answer.done v)
or_done None n l p k v e = absurd cc
or_done (Some x) n l p k v e = (x, refl, e)

natural_pos : (low high : ℕ) (z : ℤ) (n : ℕ) → natural_in low high z ≡ Some n → z ≡ pos n
natural_pos low high (pos m) n e = ap pos (cond_some (leb low m && leb m high) m n e).1
natural_pos low high (negsuc m) n e = absurd cc

each_pos : (low high : ℕ) (zs : List ℤ) (ns : List ℕ) → each (natural_in low high) zs ≡ Some ns → zs ≡ map pos ns
each_pos low high [] ns e =
    let d : [] ≡ ns = cc in
    ap (map pos) d
each_pos low high (z ∷ zs) ns e =
    let a = bind_some (natural_in low high z) (λ y. bind (each (natural_in low high) zs) (λ ys. Some (y ∷ ys))) ns e in
    let b = bind_some (each (natural_in low high) zs) (λ ys. Some (a.0 ∷ ys)) ns a.2 in
    let d : a.0 ∷ b.0 ≡ ns = cc b.2 in
    let h = natural_pos low high z a.0 a.1 in
    let t = each_pos low high zs b.0 b.1 in
    let c : z ∷ zs ≡ map pos (a.0 ∷ b.0) = λ i. h i ∷ t i in
    c ∙ ap (map pos) d

abbrev pub NumberTaken : List ℕ → List ℕ → ℕ × List ℕ → Type 0
NumberTaken key s v = Takes s (spelled_line key (pos v.0 ∷ [])) 1 v.1

pub number_line_takes : (key : List ℕ) (low high line : ℕ) (s : List ℕ) (v : ℕ × List ℕ) → breaks key ≡ 0 → number_at_line key low high line s ≡ Answer.done v → NumberTaken key s v
number_line_takes key low high line s v h e =
    let a = or_done (line_at key false 1 s) 1 Layer.Text line (λ p. or_else (natural_in low high (get_or p.0 0 (pos 0))) (out_of_range line) (λ n. Answer.done (n, p.1))) v e in
    let b = or_done (natural_in low high (get_or a.0.0 0 (pos 0))) 2 Layer.Text line (λ n. Answer.done (n, a.0.1)) v a.2 in
    let d : (b.0, a.0.1) ≡ v = cc b.2 in
    let t = line_takes key false 0 s a.0 h a.1 in
    let one : a.0.0 ≡ pos b.0 ∷ [] = tabulated (pos 0) 1 a.0.0 t.many ∙ ap (λ (z : ℤ). z ∷ []) (natural_pos low high (get_or a.0.0 0 (pos 0)) b.0 b.1) in
    subst (NumberTaken key s) d (subst (λ (zs : List ℤ). Takes s (spelled_line key zs) 1 a.0.1) one t.taken)

pub record NaturalsTaken (key s : List ℕ) (k : ℕ) (v : List ℕ × List ℕ) : Type 0 where
  pub taken : Takes s (spelled_line key (map pos v.0)) 1 v.1
  pub many : length v.0 ≡ k

pub naturals_takes : (key : List ℕ) (left low high line : ℕ) (s : List ℕ) (v : List ℕ × List ℕ) → breaks key ≡ 0 → naturals_at key (suc left) low high line s ≡ Answer.done v → NaturalsTaken key s (suc left) v
naturals_takes key left low high line s v h e =
    let a = or_done (line_at key false (suc left) s) 1 Layer.Text line (λ p. or_else (each (natural_in low high) p.0) (out_of_range line) (λ ns. Answer.done (ns, p.1))) v e in
    let b = or_done (each (natural_in low high) a.0.0) 2 Layer.Text line (λ ns. Answer.done (ns, a.0.1)) v a.2 in
    let d : (b.0, a.0.1) ≡ v = cc b.2 in
    let t = line_takes key false left s a.0 h a.1 in
    let n = each_pos low high a.0.0 b.0 b.1 in
    let m : length b.0 ≡ suc left = sym (length-map b.0 pos) ∙ ap length (sym n) ∙ t.many in
    subst (NaturalsTaken key s (suc left)) d (record { taken = subst (λ (zs : List ℤ). Takes s (spelled_line key zs) 1 a.0.1) n t.taken; many = m })

pub weights_takes : (key : List ℕ) (left line : ℕ) (s : List ℕ) (v : List ℕ × List ℕ) → breaks key ≡ 0 → weights_at key (suc left) line s ≡ Answer.done v → NaturalsTaken key s (suc left) v
weights_takes key left line s v h e =
    let a = next_done (naturals_at key (suc left) 0 1000 line s) (λ p. cond (eqb (sum p.0) 1000) (Answer.done p) (off_balance line)) v e in
    let b = test_done (eqb (sum a.0.0) 1000) a.0 v 3 Layer.Sheet line a.2 in
    subst (NaturalsTaken key s (suc left)) b.1 (naturals_takes key left 0 1000 line s a.0 h a.1)

pub amounts_takes : (key : List ℕ) (left most line : ℕ) (s : List ℕ) (v : List ℤ × List ℕ) → breaks key ≡ 0 → amounts_at key (suc left) most line s ≡ Answer.done v → LineTaken key s (suc left) v
amounts_takes key left most line s v h e =
    let a = or_done (line_at key true (suc left) s) 1 Layer.Text line (λ p. cond (list_all (amount_in most) p.0) (Answer.done p) (out_of_range line)) v e in
    let b = test_done (list_all (amount_in most) a.0.0) a.0 v 2 Layer.Text line a.2 in
    subst (LineTaken key s (suc left)) b.1 (line_takes key true left s a.0 h a.1)

-- twelve numbers are those of their member
row_back : (row : List ℕ) → length row ≡ 12 → row_of (member_of row) ≡ row
row_back [] e = absurd (omega arith)
row_back (x ∷ xs) e = sym (tabulated 0 12 (x ∷ xs) e)

abbrev MemberTaken : List ℕ → Member × List ℕ → Type 0
MemberTaken s v = Takes s (spelled_member v.0) 1 v.1

member_takes : (line last : ℕ) (s : List ℕ) (v : Member × List ℕ) → member_at line last s ≡ Answer.done v → MemberTaken s v
member_takes line last s v e =
    let a = next_done (naturals_at (codes "user") 12 0 MOST_FACT line s) (λ p. cond (member_lawful last (member_of p.0)) (Answer.done (member_of p.0, p.1)) (out_of_range line)) v e in
    let b = test_done (member_lawful last (member_of a.0.0)) (member_of a.0.0, a.0.1) v 2 Layer.Text line a.2 in
    let t = naturals_takes (codes "user") 11 0 MOST_FACT line s a.0 refl a.1 in
    let r = sym (row_back a.0.0 t.many) in
    subst (MemberTaken s) b.1 (subst (λ (ns : List ℕ). Takes s (spelled_line (codes "user") (map pos ns)) 1 a.0.1) r t.taken)

abbrev MembersTaken : List ℕ → ℕ → List Member × List ℕ → Type 0
MembersTaken s count v = Takes s (spelled_members v.0) count v.1

members_takes : (count line last : ℕ) (s : List ℕ) (v : List Member × List ℕ) → members_at count line last s ≡ Answer.done v → MembersTaken s count v
members_takes zero line last s v e =
    let d : ([], s) ≡ v = cc in
    subst (MembersTaken s 0) d (record { front = refl; count = refl })
members_takes (suc count) line last s v e =
    let a = next_done (member_at line last s) (λ p. next (members_at count (line + 1) p.0.account p.1) (λ q. Answer.done (p.0 ∷ q.0, q.1))) v e in
    let b = next_done (members_at count (line + 1) a.0.0.account a.0.1) (λ q. Answer.done (a.0.0 ∷ q.0, q.1)) v a.2 in
    let d : (a.0.0 ∷ b.0.0, b.0.1) ≡ v = cc b.2 in
    let m = member_takes line last s a.0 a.1 in
    let ms = members_takes count (line + 1) a.0.0.account a.0.1 b.0 b.1 in
    let n : 1 + count ≡ suc count = omega arith in
    subst (MembersTaken s (suc count)) d (subst (λ (k : ℕ). MembersTaken s k (a.0.0 ∷ b.0.0, b.0.1)) n (both m ms))

abbrev pub PlacesTaken : List ℕ → ℕ → List Member × List ℕ → Type 0
PlacesTaken s count v = Takes s (spelled_members (take count v.0)) count v.1

pub places_takes : (count : ℕ) (s : List ℕ) (v : List Member × List ℕ) → places_at count s ≡ Answer.done v → PlacesTaken s count v
places_takes count s v e =
    let a = next_done (members_at count 9 0 s) (λ p. Answer.done (p.0 ++ replicate (MOST_TEXT_MEMBERS - count) blank, p.1)) v e in
    let d : (a.0.0 ++ replicate (MOST_TEXT_MEMBERS - count) blank, a.0.1) ≡ v = cc a.2 in
    let t = sym (take_at a.0.0 (replicate (MOST_TEXT_MEMBERS - count) blank) count (members_kept count 9 0 s a.0 a.1).0) in
    subst (PlacesTaken s count) d (subst (λ (ms : List Member). Takes s (spelled_members ms) count a.0.1) t (members_takes count 9 0 s a.0 a.1))
