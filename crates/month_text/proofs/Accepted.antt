-- What the numbers and members of an accepted line keep.
use Rattle.std.proofs.Common.{◌≡◌, ℕ, zero, suc, ◌+◌, ◌-◌, ◌≤◌, Bool, true, false, cond, ◌&&◌, ltb, leb, List, [], ◌∷◌, ◌++◌, length, replicate, ℤ, pos, negsuc, nat_abs, Some, None, codes, Option, refl, ap, subst, arith, length-append}
use lib.ListN.{length-replicate}
use Rattle.std.proofs.lemmas.List.{take_at}
use Rattle.std.proofs.lemmas.Bool.{leb-true, ltb-true, and_parts}
use Rattle.std.proofs.lemmas.Bool.Decides.{nat_tests}
use Rattle.std.specs.List.{list_all}
use Rattle.refusal.specs.declared.Layer.{Layer}
use Rattle.refusal.specs.Answers.{Answer, next}
use Rattle.units.specs.Kinds.{lawful}
use Rattle.month_text.specs.declared.month.Member.{Member}
use Rattle.month_text.specs.Numbers.{bind}
use Rattle.month_text.specs.Ranges.{each, natural_in, amount_in, naturals_at, out_of_range}
use Rattle.month_text.specs.Members.{member_of, blank, member_lawful, member_at, members_at, places_at}
use Rattle.month_text.specs.Accepted.{EachTo, EachWithin, Rising, EachLawful, Placed}
use Rattle.limits.specs.declared.TheConstants.{MOST_ACCOUNT, MOST_FACT, MOST_TEXT_MEMBERS}

pub bind_some : {X Y : Type 0} (o : Option X) (k : X → Option Y) (v : Y) → bind o k ≡ Some v → (x : X) × (o ≡ Some x) × (k x ≡ Some v)
bind_some None k v e = absurd cc
bind_some (Some x) k v e = (x, refl, e)

pub next_done : {S T : Type 0} (t : Answer S) (k : S → Answer T) (v : T) → next t k ≡ Answer.done v → (x : S) × (t ≡ Answer.done x) × (k x ≡ Answer.done v)
next_done (Answer.done x) k v e = (x, refl, e)
next_done (Answer.refused n l p) k v e = absurd cc

pub test_done : {T : Type 0} (b : Bool) (w v : T) (n : ℕ) (l : Layer) (p : ℕ) → cond b (Answer.done w) (Answer.refused n l p) ≡ Answer.done v → (b ≡ true) × (w ≡ v)
test_done true w v n l p e = (refl, cc)
test_done false w v n l p e = absurd cc

pub natural_within : (low high : ℕ) (z : ℤ) (n : ℕ) → natural_in low high z ≡ Some n → (low ≤ n) × (n ≤ high)
natural_within low high (pos m) n e =
    let a : low ≤ n = grind (arith, nat_tests) in
    let b : n ≤ high = grind (arith, nat_tests) in
    (a, b)
natural_within low high (negsuc m) n e = absurd cc

cons_each : (high n : ℕ) (ns : List ℕ) → n ≤ high → EachTo high ns → EachTo high (n ∷ ns)
cons_each high n ns h t zero = h
cons_each high n ns h t (suc k) = t k

pub each_range : (low high : ℕ) (zs : List ℤ) (ns : List ℕ) → each (natural_in low high) zs ≡ Some ns → EachTo high ns
each_range low high [] ns e =
    let n : [] ≡ ns = cc in
    subst (EachTo high) n (λ k. omega arith)
each_range low high (z ∷ zs) ns e =
    let a = bind_some (natural_in low high z) (λ y. bind (each (natural_in low high) zs) (λ ys. Some (y ∷ ys))) ns e in
    let b = bind_some (each (natural_in low high) zs) (λ ys. Some (a.0 ∷ ys)) ns a.2 in
    let n : a.0 ∷ b.0 ≡ ns = cc b.2 in
    subst (EachTo high) n (cons_each high a.0 b.0 (natural_within low high z a.0 a.1).1 (each_range low high zs b.0 b.1))

pub all_within : (most : ℕ) (zs : List ℤ) → list_all (amount_in most) zs ≡ true → EachWithin most zs
all_within most [] e k = omega arith
all_within most (z ∷ zs) e zero = leb-true (nat_abs z) most (and_parts (amount_in most z) (list_all (amount_in most) zs) e).0
all_within most (z ∷ zs) e (suc k) = all_within most zs (and_parts (amount_in most z) (list_all (amount_in most) zs) e).1 k

member_lawful_lem : (line last : ℕ) (s : List ℕ) (v : Member × List ℕ) → member_at line last s ≡ Answer.done v → member_lawful last v.0 ≡ true
member_lawful_lem line last s v e =
    let a = next_done (naturals_at (codes "user") 12 0 MOST_FACT line s) (λ p. cond (member_lawful last (member_of p.0)) (Answer.done (member_of p.0, p.1)) (out_of_range line)) v e in
    let b = test_done (member_lawful last (member_of a.0.0)) (member_of a.0.0, a.0.1) v 2 Layer.Text line a.2 in
    subst (λ (w : Member × List ℕ). member_lawful last w.0 ≡ true) b.1 b.0

cons_lawful : (m : Member) (ms : List Member) → lawful m.facts ≡ true → EachLawful ms → EachLawful (m ∷ ms)
cons_lawful m ms h t zero = h
cons_lawful m ms h t (suc k) = t k

abbrev pub Kept : ℕ → ℕ → List Member → Type 0
Kept count last ms = (length ms ≡ count) × Rising last ms × EachLawful ms

cons_kept : (count last : ℕ) (m : Member) (ms : List Member) → member_lawful last m ≡ true → Kept count m.account ms → Kept (suc count) last (m ∷ ms)
cons_kept count last m ms h t =
    let a = and_parts (ltb last m.account) (leb m.account MOST_ACCOUNT && lawful m.facts) h in
    let b = and_parts (leb m.account MOST_ACCOUNT) (lawful m.facts) a.1 in
    (ap suc t.0, (ltb-true last m.account a.0, leb-true m.account MOST_ACCOUNT b.0, t.1), cons_lawful m ms b.1 t.2)

pub members_kept : (count line last : ℕ) (s : List ℕ) (v : List Member × List ℕ) → members_at count line last s ≡ Answer.done v → Kept count last v.0
members_kept zero line last s v e =
    let n : ([], s) ≡ v = cc in
    subst (λ (w : List Member × List ℕ). Kept 0 last w.0) n (refl, tt, λ k. refl)
members_kept (suc count) line last s v e =
    let a = next_done (member_at line last s) (λ p. next (members_at count (line + 1) p.0.account p.1) (λ q. Answer.done (p.0 ∷ q.0, q.1))) v e in
    let b = next_done (members_at count (line + 1) a.0.0.account a.0.1) (λ q. Answer.done (a.0.0 ∷ q.0, q.1)) v a.2 in
    let n : (a.0.0 ∷ b.0.0, b.0.1) ≡ v = cc b.2 in
    subst (λ (w : List Member × List ℕ). Kept (suc count) last w.0) n
    (cons_kept count last a.0.0 b.0.0 (member_lawful_lem line last s a.0 a.1) (members_kept count (line + 1) a.0.0.account a.0.1 b.0 b.1))

append_lawful : (ms : List Member) (n : ℕ) → EachLawful ms → EachLawful (ms ++ replicate n blank)
append_lawful [] zero t k = refl
append_lawful [] (suc n) t zero = refl
append_lawful [] (suc n) t (suc k) = append_lawful [] n t k
append_lawful (m ∷ ms) n t zero = t 0
append_lawful (m ∷ ms) n t (suc k) = append_lawful ms n (λ j. t (suc j)) k

pub places_kept : (count : ℕ) (s : List ℕ) (v : List Member × List ℕ) → count ≤ MOST_TEXT_MEMBERS → places_at count s ≡ Answer.done v → Placed count v.0
places_kept count s v h e =
    let a = next_done (members_at count 9 0 s) (λ p. Answer.done (p.0 ++ replicate (MOST_TEXT_MEMBERS - count) blank, p.1)) v e in
    let kept = members_kept count 9 0 s a.0 a.1 in
    let n : (a.0.0 ++ replicate (MOST_TEXT_MEMBERS - count) blank, a.0.1) ≡ v = cc a.2 in
    let t = take_at a.0.0 (replicate (MOST_TEXT_MEMBERS - count) blank) count kept.0 in
    subst (λ (w : List Member × List ℕ). Placed count w.0) n
    (record {
      places = simp (length-append, length-replicate) (omega arith);
      rising = rw t kept.1;
      facts_lawful = append_lawful a.0.0 (MOST_TEXT_MEMBERS - count) kept.2;
    })
