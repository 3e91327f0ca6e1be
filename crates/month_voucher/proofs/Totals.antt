-- Costs that went through a voucher add up to what was handed in.
use Rattle.std.proofs.Common.{◌≡◌, ℕ, zero, suc, ◌+◌, ◌-◌, ◌<◌, Bool, true, false, cond, ◌||◌, ltb, leb, List, [], ◌∷◌, length, get_or, set, ℤ, pos, ◌+ℤ◌, nat_abs, refl, ap, ◌∙◌, arith}
use borrow.Author.Differences.{ints}
use Rattle.std.proofs.lemmas.Bool.{or_parts, ltb-false}
use Rattle.std.proofs.lemmas.List.{length-set}
use Rattle.refusal.specs.Answers.{Answer, done, refused, next}
use Rattle.refusal.specs.declared.Layer.{Layer}
use Rattle.refusal.specs.declared.Layer.TheVariants as layer
use Rattle.refusal.proofs.Apart.{done_refused}
use Rattle.cents.specs.Cutting.{sum_z}
use Rattle.tariff.specs.Heads.{at, within}
use Rattle.voucher.specs.Calls.{open_rule, line_rule, balance_rule}
use Rattle.voucher.specs.declared.voucher.State.{State}
use Rattle.voucher.specs.declared.voucher.State.TheVariants.{Open}
use Rattle.month_voucher.specs.Costs.{lines_rule, fill_rule, cost_rule}
use Rattle.limits.specs.declared.TheConstants.{MOST_CONTROL}

same_done : {T : Type 0} (u v : T) → done u ≡ done v → u ≡ v
same_done u v e = cc

-- a step that was done, and the one before it
both : {S T : Type 0} (t : Answer S) (k : S → Answer T) (v : T) → done v ≡ next t k → (s : S) × (done s ≡ t) × (done v ≡ k s)
both (done s) k v e = (s, refl, e)
both (refused n l p) k v e = absurd (done_refused v n l p e)

-- a test that was passed
passed : {T : Type 0} (b : Bool) (v : T) (x : Answer T) (n : ℕ) (l : Layer) (p : ℕ) → done v ≡ cond b x (refused n l p) → done v ≡ x
passed true v x n l p e = e
passed false v x n l p e = absurd (done_refused v n l p e)

escaped : {T : Type 0} (b : Bool) (v : T) (x : Answer T) (n : ℕ) (l : Layer) (p : ℕ) → done v ≡ cond b (refused n l p) x → (b ≡ false) × (done v ≡ x)
escaped true v x n l p e = absurd (done_refused v n l p e)
escaped false v x n l p e = (refl, e)

sum_set : (zs : List ℤ) (i : ℕ) (z : ℤ) → i < length zs → sum_z (set zs i (get_or zs i (pos 0) +ℤ z)) ≡ sum_z zs +ℤ z
sum_set [] i z l = absurd (omega arith)
sum_set (x ∷ zs) zero z l = omega (arith, ints)
sum_set (x ∷ zs) (suc i) z l = let r = sum_set zs i z (omega arith) in omega (arith, ints, r)

line_total : (amounts : List ℤ) (head : ℕ) (c : ℤ) (x : List ℤ) → length amounts ≡ 6 → done x ≡ line_rule amounts head c → (sum_z x ≡ sum_z amounts +ℤ c) × (length x ≡ 6)
line_total amounts head c x n e =
    let new = set amounts (head - 1) (at amounts (head - 1) +ℤ c) in
    let test : Answer (List ℤ) = cond (within (at amounts (head - 1) +ℤ c)) (done new) (refused 12 layer.Voucher 0) in
    let p = escaped (ltb head 1 || ltb 6 head) x test 12 layer.Voucher 0 e in
    let o = or_parts (ltb head 1) (ltb 6 head) p.0 in
    let low = ltb-false head 1 o.0 in
    let high = ltb-false 6 head o.1 in
    let s = same_done x new (passed (within (at amounts (head - 1) +ℤ c)) x (done new) 12 layer.Voucher 0 p.1) in
    (ap sum_z s ∙ sum_set amounts (head - 1) c (omega arith), ap length s ∙ length-set amounts (head - 1) (at amounts (head - 1) +ℤ c) ∙ n)

lines_total : (amounts : List ℤ) (head : ℕ) (cost x : List ℤ) → length amounts ≡ 6 → done x ≡ lines_rule amounts head cost → sum_z x ≡ sum_z amounts +ℤ sum_z cost
lines_total amounts head [] x n e = let s = ap sum_z (same_done x amounts e) in omega (arith, ints, s)
lines_total amounts head (c ∷ cost) x n e =
    let p = both (line_rule amounts head c) (λ h. lines_rule h (head + 1) cost) x e in
    let q = line_total amounts head c p.0 n p.1 in
    let r = lines_total p.0 (head + 1) cost x q.1 p.2 in
    let s = q.0 in
    omega (arith, ints, r, s)

pub costs_total : (control : ℤ) (amounts costs : List ℤ) → done costs ≡ cost_rule control amounts → sum_z costs ≡ sum_z amounts
costs_total control amounts costs e =
    let zeros : List ℤ = pos 0 ∷ pos 0 ∷ pos 0 ∷ pos 0 ∷ pos 0 ∷ pos 0 ∷ [] in
    let p = both (open_rule control) (λ opened. fill_rule control opened.1 amounts) costs e in
    let o = same_done p.0 (control, zeros, Open) (passed (leb (nat_abs control) MOST_CONTROL) p.0 (done (control, zeros, Open)) 2 layer.Voucher 0 p.1) in
    let empty : p.0.1 ≡ zeros = ap (λ (u : ℤ × List ℤ × State). u.1) o in
    let q = both (lines_rule p.0.1 1 amounts) (λ full. next (balance_rule control full) (λ _. done full)) costs p.2 in
    let r = both (balance_rule control q.0) (λ _. done q.0) costs q.2 in
    let same = ap sum_z (same_done costs q.0 r.2) in
    let l = lines_total p.0.1 1 amounts q.0 (ap length empty) q.1 in
    let z = ap sum_z empty in
    omega (arith, ints, same, l, z)
