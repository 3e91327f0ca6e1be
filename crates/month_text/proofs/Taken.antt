-- What is read off the front of a text is the spelling of what was read.
use Rattle.std.proofs.Common.{◌≡◌, ℕ, zero, suc, ◌+◌, ◌%◌, ◌<◌, ◌≤◌, Bool, true, false, cond, ◌&&◌, eqb, List, [], ◌∷◌, ◌++◌, length, ℤ, pos, negsuc, Some, None, decimal, sym, refl, ap, ◌∙◌, subst, append_assoc, arith}
use Rattle.std.specs.Fmt.{signed_decimal}
use Rattle.std.proofs.lemmas.Fmt.{decimal_by_steps}
use Rattle.std.proofs.lemmas.List.Sums.{sum_by-append, sum_by_push}
use Rattle.std.proofs.lemmas.Bool.{eqb-true, ne_eqb, and_parts}
use Rattle.month_text.specs.Numbers.{bind, minus, number_at, integer_at}
use Rattle.month_text.specs.declared.month.TheConstants.{MOST_NUMBER}
use Rattle.month_text.specs.Lines.{past, stop, fields_at, line_at}
use Rattle.month_text.specs.OneSpelling.{spelled_fields, spelled_line, breaks}
use Rattle.month_text.proofs.Accepted.{bind_some}
use Rattle.month_text.proofs.Spelled.{read_as_spelled}

-- w stands at the front of s, t stands after it, and w has n bytes 10
pub record Takes (s w : List ℕ) (n : ℕ) (t : List ℕ) : Type 0 where
  pub front : s ≡ w ++ t
  pub count : breaks w ≡ n

pub both : {s w t x u : List ℕ} {n m : ℕ} → Takes s w n t → Takes t x m u → Takes s (w ++ x) (n + m) u
both {s} {w} {t} {x} {u} {n} {m} a b =
    let f : s ≡ (w ++ x) ++ u = a.front ∙ ap (λ y. w ++ y) b.front ∙ sym (append_assoc w x u) in
    let c = sum_by-append (λ y. cond (eqb y 10) 1 0) w x in
    record { front = f; count = omega (arith, a.count, b.count, c) }

past_cases : (k c : ℕ) (ks cs t : List ℕ) (b : Bool) → eqb c k ≡ b → cond b (past ks cs) None ≡ Some t → (past ks cs ≡ Some t → cs ≡ ks ++ t) → c ∷ cs ≡ k ∷ (ks ++ t)
past_cases k c ks cs t true h e ih =
    let a = eqb-true c k h in
    let r = ih e in
    λ i. a i ∷ r i
past_cases k c ks cs t false h e ih = absurd cc

pub past_front : (w s t : List ℕ) → past w s ≡ Some t → s ≡ w ++ t
past_front [] s t e = cc
past_front (k ∷ ks) [] t e = absurd cc
past_front (k ∷ ks) (c ∷ cs) t e = past_cases k c ks cs t (eqb c k) refl e (past_front ks cs t)

-- digits are not byte 10
push_unbroken : (ds : List ℕ) (c : ℕ) → 10 < c → breaks ds ≡ 0 → breaks (ds ++ c ∷ []) ≡ 0
push_unbroken ds c h e =
    let z : ◌≡◌ {A = ℕ} (cond (eqb c 10) 1 0) 0 = ap (λ (b : Bool). cond {A = ℕ} b 1 0) (ne_eqb c 10 (λ q. omega arith)) in
    let p = sum_by_push (λ y. cond (eqb y 10) 1 0) ds c in
    omega (arith, p, e, z)

decimal_unbroken : (n : ℕ) → n ≤ MOST_NUMBER → breaks (decimal n) ≡ 0
decimal_unbroken n small =
    decimal_by_steps (λ m ds. breaks ds ≡ 0) (λ m l. push_unbroken [] (48 + m) (omega arith) refl) (λ m ds l h. push_unbroken ds (48 + m % 10) (omega arith) h) n (omega arith)

number_takes : (s : List ℕ) (v : ℕ × List ℕ) → number_at s ≡ Some v → Takes s (decimal v.0) 0 v.1
number_takes s v e =
    let h = (read_as_spelled s v.0 v.1).0 e in
    record { front = h.0; count = decimal_unbroken v.0 h.1 }

minus_signed : (n : ℕ) (z : ℤ) → minus n ≡ Some z → 45 ∷ decimal n ≡ signed_decimal z
minus_signed zero z e = let q : ◌≡◌ {A = ℕ} 0 1 = cc in absurd (omega arith)
minus_signed (suc n) z e =
    let d : negsuc n ≡ z = cc in
    ap signed_decimal d

abbrev IntegerTaken : List ℕ → ℤ × List ℕ → Type 0
IntegerTaken s v = Takes s (signed_decimal v.0) 0 v.1

integer_cases : (signs : Bool) (c : ℕ) (cs : List ℕ) (v : ℤ × List ℕ) (b : Bool) → (signs && eqb c 45) ≡ b → cond b (bind (number_at cs) (λ p. bind (minus p.0) (λ z. Some (z, p.1)))) (bind (number_at (c ∷ cs)) (λ p. Some (pos p.0, p.1))) ≡ Some v → IntegerTaken (c ∷ cs) v
integer_cases signs c cs v true h e =
    let a = bind_some (number_at cs) (λ p. bind (minus p.0) (λ z. Some (z, p.1))) v e in
    let b = bind_some (minus a.0.0) (λ z. Some (z, a.0.1)) v a.2 in
    let d : (b.0, a.0.1) ≡ v = cc b.2 in
    let first : c ≡ 45 = eqb-true c 45 (and_parts signs (eqb c 45) h).1 in
    let n = number_takes cs a.0 a.1 in
    let w = minus_signed a.0.0 b.0 b.1 in
    let sign : Takes (c ∷ cs) (45 ∷ []) 0 cs = record { front = ap (λ x. x ∷ cs) first; count = refl } in
    subst (IntegerTaken (c ∷ cs)) d (subst (λ (x : List ℕ). Takes (c ∷ cs) x 0 a.0.1) w (both sign n))
integer_cases signs c cs v false h e =
    let a = bind_some (number_at (c ∷ cs)) (λ p. Some (pos p.0, p.1)) v e in
    let d : (pos a.0.0, a.0.1) ≡ v = cc a.2 in
    subst (IntegerTaken (c ∷ cs)) d (number_takes (c ∷ cs) a.0 a.1)

integer_takes : (signs : Bool) (s : List ℕ) (v : ℤ × List ℕ) → integer_at signs s ≡ Some v → IntegerTaken s v
integer_takes signs [] v e = absurd cc
integer_takes signs (c ∷ cs) v e = integer_cases signs c cs v (signs && eqb c 45) refl e

-- byte 10 stands once after some numbers, and not after none
abbrev once : ℕ → ℕ
once zero = 0
once (suc left) = 1

record FieldsTaken (s : List ℕ) (k : ℕ) (v : List ℤ × List ℕ) : Type 0 where
  taken : Takes s (spelled_fields v.0) (once k) v.1
  many : length v.0 ≡ k

stop_once : (left : ℕ) → breaks (stop left ∷ []) + once left ≡ 1
stop_once zero = refl
stop_once (suc left) =
    let h : eqb (suc left) 0 ≡ false = ne_eqb (suc left) 0 (λ q. omega arith) in
    rw h refl

fields_more : (s r t u : List ℕ) (z : ℤ) (zs : List ℤ) (left : ℕ) → Takes s (signed_decimal z) 0 r → r ≡ stop left ∷ t → FieldsTaken t left (zs, u) → FieldsTaken s (suc left) (z ∷ zs, u)
fields_more s r t u z zs left a b c =
    let byte : Takes r (stop left ∷ []) (breaks (stop left ∷ [])) t = record { front = b; count = refl } in
    let whole = both a (both byte c.taken) in
    let k : breaks (signed_decimal z ++ (stop left ∷ spelled_fields zs)) ≡ 1 = omega (arith, whole.count, stop_once left) in
    let taken : Takes s (signed_decimal z ++ (stop left ∷ spelled_fields zs)) 1 u = record { front = whole.front; count = k } in
    record { taken = subst (λ (n : ℕ). Takes s (signed_decimal z ++ (stop n ∷ spelled_fields zs)) 1 u) (sym c.many) taken; many = ap suc c.many }

fields_takes : (signs : Bool) (k : ℕ) (s : List ℕ) (v : List ℤ × List ℕ) → fields_at signs k s ≡ Some v → FieldsTaken s k v
fields_takes signs zero s v e =
    let d : ([], s) ≡ v = cc in
    subst (FieldsTaken s 0) d (record { taken = record { front = refl; count = refl }; many = refl })
fields_takes signs (suc left) s v e =
    let a = bind_some (integer_at signs s) (λ p. bind (past (stop left ∷ []) p.1) (λ t. bind (fields_at signs left t) (λ q. Some (p.0 ∷ q.0, q.1)))) v e in
    let b = bind_some (past (stop left ∷ []) a.0.1) (λ t. bind (fields_at signs left t) (λ q. Some (a.0.0 ∷ q.0, q.1))) v a.2 in
    let c = bind_some (fields_at signs left b.0) (λ q. Some (a.0.0 ∷ q.0, q.1)) v b.2 in
    let d : (a.0.0 ∷ c.0.0, c.0.1) ≡ v = cc c.2 in
    let i = integer_takes signs s a.0 a.1 in
    let p = past_front (stop left ∷ []) a.0.1 b.0 b.1 in
    subst (FieldsTaken s (suc left)) d (fields_more s a.0.1 b.0 c.0.1 a.0.0 c.0.0 left i p (fields_takes signs left b.0 c.0 c.1))

-- a whole line
pub record LineTaken (key s : List ℕ) (k : ℕ) (v : List ℤ × List ℕ) : Type 0 where
  pub taken : Takes s (spelled_line key v.0) 1 v.1
  pub many : length v.0 ≡ k

pub line_takes : (key : List ℕ) (signs : Bool) (left : ℕ) (s : List ℕ) (v : List ℤ × List ℕ) → breaks key ≡ 0 → line_at key signs (suc left) s ≡ Some v → LineTaken key s (suc left) v
line_takes key signs left s v h e =
    let a = bind_some (past key s) (λ t. bind (past (61 ∷ []) t) (λ u. fields_at signs (suc left) u)) v e in
    let b = bind_some (past (61 ∷ []) a.0) (λ u. fields_at signs (suc left) u) v a.2 in
    let f = fields_takes signs (suc left) b.0 v b.2 in
    let word : Takes s key 0 a.0 = record { front = past_front key s a.0 a.1; count = h } in
    let equals : Takes a.0 (61 ∷ []) 0 b.0 = record { front = past_front (61 ∷ []) a.0 b.0 b.1; count = refl } in
    record { taken = both word (both equals f.taken); many = f.many }
