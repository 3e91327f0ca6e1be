-- A voucher that took all its lines has the costs.
use Rattle.std.proofs.Common.{◌≡◌, ℕ, ◌+◌, ◌-◌, Bool, true, false, cond, ◌||◌, eqb, ltb, leb, List, [], ◌∷◌, ◌++◌, length, set, replicate, ℤ, pos, ◌+ℤ◌, nat_abs, sym, refl, ap, ◌∙◌, arith}
use borrow.Author.Differences.{ints}
use Rattle.std.proofs.lemmas.List.{get_or_at, set_at, append_assoc, length_push}
use Rattle.refusal.specs.Answers.{Answer, done, refused, next, bare}
use Rattle.refusal.specs.declared.Layer.{Layer}
use Rattle.refusal.specs.declared.Layer.TheVariants as layer
use Rattle.tariff.specs.Heads.{at, within}
use Rattle.voucher.specs.Calls.{open_rule, line_rule, missed, balance_rule}
use Rattle.voucher.specs.declared.voucher.State.{State}
use Rattle.voucher.specs.declared.voucher.State.TheVariants.{Open}
use Rattle.month_voucher.specs.Costs.{lines_rule, fill_rule, cost_rule}
use Rattle.limits.specs.declared.TheConstants.{MOST_CONTROL}

done_cond : {T : Type 0} (b : Bool) (n : ℕ) (l : Layer) (p : ℕ) (u v : T) → done u ≡ cond b (done v) (refused n l p) → u ≡ v
done_cond true n l p u v e = cc
done_cond false n l p u v e = cc

-- a chain of lines that is done went through its first line
gone : {S T : Type 0} (a b : Bool) (v : S) (k : S → Answer T) (x : T) → next (cond a (refused 12 layer.Voucher 0) (cond b (done v) (refused 12 layer.Voucher 0))) k ≡ done x → k v ≡ done x
gone true b v k x e = cc
gone false true v k x e = e
gone false false v k x e = cc

through : (amounts : List ℤ) (head : ℕ) (c : ℤ) (k : List ℤ → Answer (List ℤ)) (x : List ℤ) → next (line_rule amounts head c) k ≡ done x → k (set amounts (head - 1) (at amounts (head - 1) +ℤ c)) ≡ done x
through amounts head c k x e = gone (ltb head 1 || ltb 6 head) (within (at amounts (head - 1) +ℤ c)) (set amounts (head - 1) (at amounts (head - 1) +ℤ c)) k x e

-- lines on empty heads leave just their amounts
filled : (pre cost x : List ℤ) → lines_rule (pre ++ replicate (length cost) (pos 0)) (length pre + 1) cost ≡ done x → x ≡ pre ++ cost
filled pre [] x e = cc
filled pre (c ∷ cost) x e =
    let amounts = pre ++ (pos 0 ∷ replicate (length cost) (pos 0)) in
    let n : length pre + 1 - 1 ≡ length pre = omega arith in
    let sum : at amounts (length pre + 1 - 1) +ℤ c ≡ c = rw (n, get_or_at pre (pos 0) (replicate (length cost) (pos 0)) (pos 0) (length pre) refl) (omega (arith, ints)) in
    let added : set amounts (length pre + 1 - 1) (at amounts (length pre + 1 - 1) +ℤ c) ≡ (pre ++ (c ∷ [])) ++ replicate (length cost) (pos 0) =
    ap (λ z. set amounts (length pre + 1 - 1) z) sum ∙ rw (n, set_at pre (pos 0) (replicate (length cost) (pos 0)) c (length pre) refl, append_assoc) in
    let first = through amounts (length pre + 1) c (λ rest. lines_rule rest (length pre + 1 + 1) cost) x e in
    let count : length pre + 1 + 1 ≡ length (pre ++ (c ∷ [])) + 1 = omega (arith, length_push pre c) in
    filled (pre ++ (c ∷ [])) cost x (rw (← added, ← count) first) ∙ append_assoc pre (c ∷ []) cost

-- a voucher that is filled and balanced has all its lines
balanced : (b : Bool) (full x : List ℤ) → next {S = Unit {0}} (cond {A = Answer (Unit {0})} b (done tt) (refused 13 layer.Voucher 0)) (λ _. done full) ≡ done x → full ≡ x
balanced true full x e = cc
balanced false full x e = cc

lined : (control : ℤ) (t : Answer (List ℤ)) (x : List ℤ) → next t (λ amounts. next (balance_rule control amounts) (λ _. done amounts)) ≡ done x → t ≡ done x
lined control (done full) x e = ap done (balanced (eqb (missed control full) 0) full x e)
lined control (refused n l p) x e = cc

-- what an opened voucher has
opened : (control : ℤ) (c : ℤ) (a : List ℤ) (s : State) → done (c, a, s) ≡ open_rule control → (c ≡ control) × (a ≡ replicate 6 (pos 0))
opened control c a s e =
    let d = done_cond (leb (nat_abs control) MOST_CONTROL) _ _ _ (c, a, s) (control, replicate 6 (pos 0), Open) e in
    (ap (λ u. u.0) d, ap (λ u. u.1) d)

module _ (control x : ℤ) (cost amounts : List ℤ) (c : ℤ) (s : State) (ex : x ≡ control) (o : done (c, amounts, s) ≡ open_rule x) where
  pub cost_rule_lem : cost_rule control cost ≡ fill_rule control amounts cost
  cost_rule_lem = ap (λ t. next t (λ u. fill_rule control u.1 cost)) (sym (rw ex at o))

  pub cost_opened : c ≡ control
  cost_opened = (opened x c amounts s o).0 ∙ ex

  pub cost_full : (full : List ℤ) → length cost ≡ 6 → fill_rule control amounts cost ≡ done full → full ≡ cost
  cost_full full n f =
      let l = lined control (lines_rule amounts 1 cost) full f in
      filled [] cost full (rw (n, ← (opened x c amounts s o).1) l)

pub unbare : {T : Type 0} (t : Answer T) (n : ℕ) (l : Layer) (p : ℕ) → refused n l p ≡ bare t → refused n l p ≡ t
unbare (done v) n l p e = cc
unbare (refused m j q) n l p e = cc
