-- The parts of a cost stay in range, and the thirteen component costs add up to the six heads.
use Rattle.std.proofs.Common.{◌≡◌, ℕ, zero, suc, ◌+◌, ◌<◌, ◌≤◌, true, leb, List, [], ◌∷◌, ◌++◌, length, get_or, ℤ, pos, ◌+ℤ◌, nat_abs, sum, sym, refl, ap, ◌∙◌, arith}
use borrow.Author.Differences.{ints}
use Rattle.std.proofs.lemmas.Bool.{leb-true, and_parts}
use Rattle.cents.specs.Cutting.{cut, sum_z}
use Rattle.cents.proofs.Magnitudes.{inside_abs}
use Rattle.cents.proofs.Tabulated.{tabulated}
use Rattle.cents.proofs.SignedSums.{sum_append}
use Rattle.cents.proofs.Parts.{cut_inside, cut_sum, cut_length}
use Rattle.tariff.specs.Heads.{at, AmountsInRange}
use Rattle.tariff.specs.Sheets.{thousandths}
use Rattle.tariff.specs.Costs.{Bounded, halves, settlement_weights, service, settlement, divided, managed, service_costs, component_costs, costs}
use Rattle.limits.specs.declared.TheConstants.{MOST_COST, MOST_CENTS}

cut_bounded : (n : ℕ) (a : ℤ) (ws : List ℕ) → nat_abs a ≤ n → Bounded n (cut a ws)
cut_bounded n a ws h k = omega (arith, inside_abs a (at (cut a ws) k) (cut_inside a ws k), h)

bounded_append : (n : ℕ) (xs ys : List ℤ) → Bounded n xs → Bounded n ys → Bounded n (xs ++ ys)
bounded_append n [] ys h k i = k i
bounded_append n (x ∷ xs) ys h k zero = h 0
bounded_append n (x ∷ xs) ys h k (suc i) = bounded_append n xs ys (λ j. h (suc j)) k i

bounded_push : (n : ℕ) (x : ℤ) (xs : List ℤ) → nat_abs x ≤ n → Bounded n xs → Bounded n (x ∷ xs)
bounded_push n x xs h k zero = h
bounded_push n x xs h k (suc i) = k i

components_bounded : (n : ℕ) (split : List ℕ) (five : List ℤ) → Bounded n five → Bounded n (component_costs split five)
components_bounded n split five h =
    let two = cut (at five 1) (halves (get_or split 0 0)) in
    let three = cut (at five 2) (halves (get_or split 1 0)) in
    let seven = cut (at five 4) settlement_weights in
    bounded_push n (at five 0) (two ++ (three ++ (at five 3 ∷ seven))) (h 0)
    (bounded_append n two (three ++ (at five 3 ∷ seven)) (cut_bounded n (at five 1) (halves (get_or split 0 0)) (h 1))
    (bounded_append n three (at five 3 ∷ seven) (cut_bounded n (at five 2) (halves (get_or split 1 0)) (h 2))
    (bounded_push n (at five 3) seven (h 3) (cut_bounded n (at five 4) settlement_weights (h 4)))))

five_bounded : (n : ℕ) (a b c d e : ℤ) → nat_abs a ≤ n → nat_abs b ≤ n → nat_abs c ≤ n → nat_abs d ≤ n → nat_abs e ≤ n → Bounded n (a ∷ b ∷ c ∷ d ∷ e ∷ [])
five_bounded n a b c d e ha hb hc hd he =
    bounded_push n a (b ∷ c ∷ d ∷ e ∷ []) ha
    (bounded_push n b (c ∷ d ∷ e ∷ []) hb (bounded_push n c (d ∷ e ∷ []) hc (bounded_push n d (e ∷ []) hd (bounded_push n e [] he (λ i. omega arith)))))

-- a service bears a part of division cost, a part of management cost and a head of its own
services_bounded : (division management : List ℕ) (heads : List ℤ) → AmountsInRange heads → Bounded MOST_COST (service_costs division management heads)
services_bounded division management heads h =
    let p = divided division heads in
    let m = managed division management heads in
    let ps = cut_bounded MOST_CENTS (at heads 0) division (h 0) in
    let ms = cut_bounded MOST_CENTS (at p 4) management (ps 4) in
    let one : (i : ℕ) → nat_abs (service p m heads i) ≤ MOST_COST = λ i. omega (arith, ints, ps i, ms i, h (i + 1)) in
    let last : nat_abs (settlement p heads) ≤ MOST_COST = omega (arith, ints, ps 5, h 5) in
    five_bounded MOST_COST (service p m heads 0) (service p m heads 1) (service p m heads 2) (service p m heads 3) (settlement p heads) (one 0) (one 1) (one 2) (one 3) last

pub costs_bounded : (division management split : List ℕ) (heads : List ℤ) → AmountsInRange heads → Bounded MOST_COST (costs division management split heads)
costs_bounded division management split heads h =
    components_bounded MOST_COST split (service_costs division management heads) (services_bounded division management heads h)

-- a weight or a split is at most a whole
thousandths_at : (ns : List ℕ) → thousandths ns ≡ true → (k : ℕ) → get_or ns k 0 ≤ 1000
thousandths_at [] h k = omega arith
thousandths_at (n ∷ ns) h zero = leb-true n 1000 (and_parts (leb n 1000) (thousandths ns) h).0
thousandths_at (n ∷ ns) h (suc k) = thousandths_at ns (and_parts (leb n 1000) (thousandths ns) h).1 k

-- the one computed test of the settlement table
settlement_whole : sum settlement_weights ≡ 100000
settlement_whole = refl

-- thirteen components add up to the five costs that they are cut from
components_sum : (split : List ℕ) (a b c d e : ℤ) → get_or split 0 0 ≤ 1000 → get_or split 1 0 ≤ 1000
    → sum_z (component_costs split (a ∷ b ∷ c ∷ d ∷ e ∷ [])) ≡ a +ℤ (b +ℤ (c +ℤ (d +ℤ e)))
components_sum split a b c d e h k =
    let two = cut b (halves (get_or split 0 0)) in
    let three = cut c (halves (get_or split 1 0)) in
    let rest = d ∷ cut e settlement_weights in
    let p = sum_append two (three ++ rest) in
    let q = sum_append three rest in
    let r = cut_sum b (halves (get_or split 0 0)) (omega arith) in
    let s = cut_sum c (halves (get_or split 1 0)) (omega arith) in
    let t = cut_sum e settlement_weights (omega (arith, settlement_whole)) in
    omega (arith, ints, p, q, r, s, t)

pub costs_sum : (division management split : List ℕ) (heads : List ℤ) → length division ≡ 6 → length management ≡ 4 → length heads ≡ 6
    → 0 < sum division → 0 < sum management → thousandths split ≡ true
    → sum_z (costs division management split heads) ≡ sum_z heads
costs_sum division management split heads ld lm lh hd hm t =
    let p = divided division heads in
    let m = managed division management heads in
    let e = sym (ap sum_z (tabulated (pos 0) 6 p (cut_length (at heads 0) division ∙ ld))) ∙ cut_sum (at heads 0) division hd in
    let f = sym (ap sum_z (tabulated (pos 0) 4 m (cut_length (at p 4) management ∙ lm))) ∙ cut_sum (at p 4) management hm in
    let h = ap sum_z (tabulated (pos 0) 6 heads lh) in
    let c = components_sum split (service p m heads 0) (service p m heads 1) (service p m heads 2) (service p m heads 3) (settlement p heads) (thousandths_at split t 0) (thousandths_at split t 1) in
    omega (arith, ints, c, e, f, h)

-- the parts side by side are the thirteen places
pub joined_list : (a d : ℤ) (b c s : List ℤ) → length b ≡ 2 → length c ≡ 2 → length s ≡ 7
    → a ∷ at b 0 ∷ at b 1 ∷ at c 0 ∷ at c 1 ∷ d ∷ at s 0 ∷ at s 1 ∷ at s 2 ∷ at s 3 ∷ at s 4 ∷ at s 5 ∷ at s 6 ∷ [] ≡ a ∷ (b ++ (c ++ (d ∷ s)))
joined_list a d b c s lb lc ls =
    sym (ap (λ (xs : List ℤ). a ∷ (xs ++ (c ++ (d ∷ s)))) (tabulated (pos 0) 2 b lb)
    ∙ ap (λ (xs : List ℤ). a ∷ at b 0 ∷ at b 1 ∷ (xs ++ (d ∷ s))) (tabulated (pos 0) 2 c lc)
    ∙ ap (λ (xs : List ℤ). a ∷ at b 0 ∷ at b 1 ∷ at c 0 ∷ at c 1 ∷ d ∷ xs) (tabulated (pos 0) 7 s ls))

pub part_small : (a x : ℤ) (ws : List ℕ) (zs : List ℤ) → x ≡ a → nat_abs a ≤ MOST_CENTS → zs ≡ cut x ws → AmountsInRange zs
part_small a x ws zs e h f = rw (f, e) (cut_bounded MOST_CENTS a ws h)

pub components_are : (five two three seven : List ℤ) (split : List ℕ) (a b c d e : ℤ)
    → a ≡ at five 0 → b ≡ at five 1 → c ≡ at five 2 → d ≡ at five 3 → e ≡ at five 4
    → two ≡ cut b (halves (get_or split 0 0)) → three ≡ cut c (halves (get_or split 1 0)) → seven ≡ cut e settlement_weights
    → a ∷ (two ++ (three ++ (d ∷ seven))) ≡ component_costs split five
components_are five two three seven split a b c d e ea eb ec ed ee p q r = rw (p, q, r, ea, eb, ec, ed, ee)
