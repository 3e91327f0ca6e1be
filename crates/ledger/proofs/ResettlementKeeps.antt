-- A resettlement keeps the accounts.
use Rattle.std.proofs.Common.{◌≡◌, ℕ, zero, suc, ◌+◌, ◌-◌, ◌*◌, ◌%◌, ◌<◌, ◌≤◌, true, false, ◌&&◌, eqb, ltb, leb, List, [], ◌∷◌, length, get_or, drop, set, ℤ, pos, ◌+ℤ◌, ◌-ℤ◌, Ok, Err, sum, Result, sym, refl, ap, ◌∙◌, subst, ⊎_elim, mul-le-mul_right, arith}
use borrow.Author.Differences.{ints}
use Rattle.std.proofs.lemmas.List.{length-map, length-drop, length-take-le, map-set, get_or-take, get_or-drop}
use Rattle.std.proofs.lemmas.Bool.{cond-true, cond-false, eq-eqb, ne_eqb, and_parts, and_from, and_left, and_right, leb-true, ltb-true, cases_eq, cases_lt}
use Rattle.refusal.specs.Answers.{Answer, done, refused, answer, next, bare, after, number}
use Rattle.refusal.specs.declared.Fault.{Fault}
use Rattle.refusal.specs.declared.Layer.TheVariants as layer
use Rattle.refusal.proofs.Apart.{refused_done, done_refused}
use Rattle.cents.specs.Cutting.{sum_z}
use Rattle.tariff.specs.Heads.{at}
use Rattle.statement.specs.Columns.{kind_of}
use Rattle.ledger.specs.declared.line.Line.{Line}
use Rattle.ledger.specs.declared.account.Account.{Account}
use Rattle.ledger.specs.Readings.{Reading, rows_read, units_read}
use Rattle.ledger.specs.Files.{file_length, no_line, row_start, line_place, lines_of}
use Rattle.ledger.specs.States.{LedgerState, account_at, balances, is_on_file}
use Rattle.ledger.specs.Billing.{Left, memory_rule}
use Rattle.ledger.specs.Resettling.{reconciled, differences, lines_at, shares_again, balance_left, change_rule, resettle_leaves, on_file_rule, resettle_rule}
use Rattle.ledger.specs.Histories.{History, resettled, history_with, billed_of, cost_of, pool_of, units_last_read, cents_of}
use Rattle.ledger.specs.Kept.{Terms, Kept, OnFile}
use Rattle.ledger.proofs.Closed.{balance_at}
use Rattle.ledger.proofs.ByComponent.{column_length, lines_at_lem, lines_length}
use Rattle.ledger.proofs.Placed.{put_in, put_below, put_above}
use Rattle.ledger.proofs.Passed.{rows_length, kept, both, memory_passed}
use Rattle.ledger.proofs.Differences.{differences_at}
use Rattle.ledger.proofs.Resettled.{row_fits, change_passed, settled_here, settled_other, settled_pools, reconciled_place}
use Rattle.ledger.proofs.Lawful.{LawfulRule, none_unused, some_near}
use Rattle.limits.specs.declared.TheConstants.{MONTHS_ON_FILE, MOST_UNITS}

sum_set : (zs : List ℤ) (i : ℕ) (z : ℤ) → i < length zs → sum_z (set zs i z) ≡ sum_z zs -ℤ get_or zs i (pos 0) +ℤ z
sum_set [] i z l = absurd (omega arith)
sum_set (x ∷ zs) zero z l = omega (arith, ints)
sum_set (x ∷ zs) (suc i) z l = let r = sum_set zs i z (omega arith) in omega (arith, ints, r)

module _ (t : Terms) (law : LawfulRule t) (h : History) (s : LedgerState) (b : Reading) (k : Kept t h s) (c₀ : ℕ) (l₀ : c₀ < 13) (balance : ℤ)
    (file : length s.file ≡ file_length s.accounts.members) (count' : b.count ≡ s.accounts.members) (on : OnFile t h b.month) (accounts : length s.accounts.rows ≡ 13)
    (Units-in : sum (units_read b c₀) ≤ MOST_UNITS)
    (rest : balance ≡ balance_left (account_at s.accounts c₀).balance (shares_again t.shares s.accounts b c₀) (lines_at s.accounts s.file b c₀)) where
  abbrev units : List ℕ
  units = units_read b c₀

  abbrev fresh : List ℤ
  fresh = shares_again t.shares s.accounts b c₀

  abbrev lines : List Line
  lines = lines_at s.accounts s.file b c₀

  abbrev changes : List ℤ
  changes = differences fresh lines

  abbrev left : LedgerState
  left = (resettle_leaves t.shares s b c₀ balance).state

  abbrev now' : History
  now' = resettled c₀ b changes ∷ h

  count : b.count ≡ t.members
  count = count' ∙ k.invariant.members

  units_long : length units ≡ t.members
  units_long = column_length (rows_read b) (kind_of c₀) ∙ rows_length b.units 0 b.count ∙ count

  fresh_long : length fresh ≡ t.members
  fresh_long = law.long _ units ∙ units_long

  abbrev start : ℕ
  start = row_start s.accounts.members b.month c₀

  start_is : start ≡ (b.month % MONTHS_ON_FILE * 13 + c₀) * t.members
  start_is = rw k.invariant.members refl

  start_fits : start + t.members ≤ length s.file
  start_fits = omega (arith, start_is, row_fits t.members b.month c₀ l₀, file, k.invariant.members)

  lines_long : length lines ≡ t.members
  lines_long = length-take-le s.accounts.members (drop start s.file) (omega (arith, length-drop start s.file, start_fits, k.invariant.members)) ∙ k.invariant.members

  pool_is : get_or (account_at s.accounts c₀).pools (b.month % MONTHS_ON_FILE) (pos 0) ≡ pool_of t.cut b.month c₀ h
  pool_is = k.invariant.pool b.month c₀ on l₀

  -- the cents of a line are what was billed to date
  line_cents : (m : ℕ) → m < t.members → (get_or lines m no_line).cents ≡ cents_of b.month c₀ m h
  line_cents m i =
      let e : get_or lines m no_line ≡ get_or s.file (start + m) no_line = get_or-take s.accounts.members (drop start s.file) m no_line (omega (arith, k.invariant.members)) ∙ get_or-drop start s.file m no_line in
      let f = ap (λ (n : ℕ). get_or s.file n no_line) {x = start + m} {y = line_place t.members b.month c₀ m} (omega (arith, start_is)) in
      ap (λ (x : Line). x.cents) (e ∙ f ∙ k.promise.line b.month c₀ m on l₀ i)

  adds_up : sum_z changes +ℤ sum_z (balances left.accounts) ≡ sum_z (balances s.accounts)
  adds_up =
      let m = ap sum_z (map-set (λ (a : Account). a.balance) s.accounts.rows c₀ (record { balance = balance; pools = (account_at s.accounts c₀).pools })) in
      let n = length-map s.accounts.rows (λ (a : Account). a.balance) in
      let p = sum_set (balances s.accounts) c₀ balance (omega (arith, n)) in
      let q = balance_at s.accounts c₀ in
      omega (arith, ints, m, p, q, rest)

  -- the pair that is resettled
  this : (eqb b.month b.month && eqb c₀ c₀) ≡ true
  this = and_from (eqb b.month b.month) (eqb c₀ c₀) (eq-eqb b.month b.month refl) (eq-eqb c₀ c₀ refl)

  units_here : units_last_read b.month c₀ now' ≡ units
  units_here = cond-true (eqb b.month b.month && eqb c₀ c₀) units (units_last_read b.month c₀ h) this

  cents_here : (m : ℕ) → m < t.members → cents_of b.month c₀ m now' ≡ at fresh m
  cents_here m i =
      let x = cond-true (eqb b.month b.month && eqb c₀ c₀) (at changes m) (pos 0) this in
      let y = differences_at fresh lines m (omega (arith, lines_long, fresh_long)) in
      let z = line_cents m i in
      omega (arith, ints, x, y, z)

  -- any other pair
  module _ (i c : ℕ) (ne : b.month ≡ i → c₀ ≡ c → ⊥) where
    other : (eqb b.month i && eqb c₀ c) ≡ false
    other =
        ⊎_elim
        (λ (e : b.month ≡ i). and_right (eqb b.month i) (eqb c₀ c) (ne_eqb c₀ c (ne e)))
        (λ (f : b.month ≡ i → ⊥). and_left (eqb b.month i) (eqb c₀ c) (ne_eqb b.month i f))
        (cases_eq b.month i)

    units_other : units_last_read i c now' ≡ units_last_read i c h
    units_other = cond-false (eqb b.month i && eqb c₀ c) (units_read b c) (units_last_read i c h) other

    cents_other : (m : ℕ) → cents_of i c m now' ≡ cents_of i c m h
    cents_other m = let x = cond-false (eqb b.month i && eqb c₀ c) (at changes m) (pos 0) other in omega (arith, ints, x)

    rows_apart : OnFile t h i → c < 13 → i % MONTHS_ON_FILE * 13 + c ≡ b.month % MONTHS_ON_FILE * 13 + c₀ → ⊥
    rows_apart o l e =
        ⊎_elim
        (λ (f : b.month ≡ i). ne f (omega (arith, ap (λ (n : ℕ). n % MONTHS_ON_FILE) f)))
        (λ (f : b.month ≡ i → ⊥). omega (arith, o.0, o.1, o.2, on.0, on.1, on.2))
        (cases_eq b.month i)

  by_pair : (P : ℕ → ℕ → Type 0) (i c : ℕ) → P b.month c₀ → ((b.month ≡ i → c₀ ≡ c → ⊥) → P i c) → P i c
  by_pair P i c here there =
      ⊎_elim
      (λ (e : b.month ≡ i). ⊎_elim
      (λ (f : c₀ ≡ c). subst (λ (j : ℕ). P j c) e (subst (P b.month) f here))
      (λ (f : c₀ ≡ c → ⊥). there (λ _ g. f g))
      (cases_eq c₀ c))
      (λ (f : b.month ≡ i → ⊥). there (λ g _. f g))
      (cases_eq b.month i)

  lines_new : length (lines_of units fresh) ≡ t.members
  lines_new = lines_length units fresh (units_long ∙ sym fresh_long) ∙ units_long

  line_here : (m : ℕ) → m < t.members → get_or left.file (line_place t.members b.month c₀ m) no_line ≡ record { units = get_or units m 0; cents = at fresh m }
  line_here m i =
      ap (λ (n : ℕ). get_or left.file n no_line) {x = line_place t.members b.month c₀ m} {y = start + m} (omega (arith, start_is))
      ∙ put_in start (lines_of units fresh) s.file no_line m (omega (arith, start_fits)) (omega (arith, lines_new))
      ∙ lines_at_lem units fresh m (units_long ∙ sym fresh_long)

  line_other : (i c m : ℕ) → (b.month ≡ i → c₀ ≡ c → ⊥) → OnFile t h i → c < 13 → m < t.members → get_or left.file (line_place t.members i c m) no_line ≡ get_or s.file (line_place t.members i c m) no_line
  line_other i c m ne o l n =
      ⊎_elim
      (λ (q : i % MONTHS_ON_FILE * 13 + c < b.month % MONTHS_ON_FILE * 13 + c₀).
      let v : i % MONTHS_ON_FILE * 13 + c + 1 ≤ b.month % MONTHS_ON_FILE * 13 + c₀ = omega arith in
      let w = mul-le-mul_right t.members v in
      put_below start (lines_of units fresh) s.file no_line (line_place t.members i c m) (omega (arith, start_fits)) (omega (arith, start_is, w)))
      (λ (q : b.month % MONTHS_ON_FILE * 13 + c₀ ≤ i % MONTHS_ON_FILE * 13 + c).
      let apart = rows_apart i c ne o l in
      let v : b.month % MONTHS_ON_FILE * 13 + c₀ + 1 ≤ i % MONTHS_ON_FILE * 13 + c = ⊎_elim (λ (e : i % MONTHS_ON_FILE * 13 + c ≡ b.month % MONTHS_ON_FILE * 13 + c₀). absurd (apart e)) (λ (f : i % MONTHS_ON_FILE * 13 + c ≡ b.month % MONTHS_ON_FILE * 13 + c₀ → ⊥). omega arith) (cases_eq (i % MONTHS_ON_FILE * 13 + c) (b.month % MONTHS_ON_FILE * 13 + c₀)) in
      let w = mul-le-mul_right t.members v in
      put_above start (lines_of units fresh) s.file no_line (line_place t.members i c m) (omega (arith, start_fits)) (omega (arith, start_is, lines_new, w)))
      (cases_lt (i % MONTHS_ON_FILE * 13 + c) (b.month % MONTHS_ON_FILE * 13 + c₀))

  share : (i c m : ℕ) → OnFile t h i → c < 13 → m < t.members → cents_of i c m now' ≡ at (t.shares (pool_of t.cut i c h) (units_last_read i c now')) m
  share i c m o l n =
      by_pair (λ i c. OnFile t h i → c < 13 → cents_of i c m now' ≡ at (t.shares (pool_of t.cut i c h) (units_last_read i c now')) m) i c
      (λ _ _. rw units_here (cents_here m n ∙ ap (λ (p : ℤ). at (t.shares p units) m) pool_is))
      (λ ne o l. rw (units_other i c ne, cents_other i c ne m) (k.promise.share i c m o l n))
      o l

  units_small : (i c : ℕ) → OnFile t h i → c < 13 → sum (units_last_read i c now') ≤ MOST_UNITS
  units_small i c o l =
      by_pair (λ i c. OnFile t h i → c < 13 → sum (units_last_read i c now') ≤ MOST_UNITS) i c
      (λ _ _. rw units_here Units-in)
      (λ ne o l. rw (units_other i c ne) (k.invariant.units_small i c o l))
      o l

  balance_here : (account_at left.accounts c₀).balance ≡ cost_of t.cut c₀ h -ℤ billed_of c₀ now'
  balance_here =
      let x = ap (λ (a : Account). a.balance) (settled_here c₀ balance s.accounts l₀ accounts) in
      let y = cond-true (eqb c₀ c₀) (sum_z changes) (pos 0) (eq-eqb c₀ c₀ refl) in
      let z = k.promise.balance c₀ l₀ in
      omega (arith, ints, x, y, z, rest)

  balance_other : (c : ℕ) → c < 13 → (c₀ ≡ c → ⊥) → (account_at left.accounts c).balance ≡ cost_of t.cut c h -ℤ billed_of c now'
  balance_other c l f =
      let x = ap (λ (a : Account). a.balance) (settled_other c₀ balance s.accounts l₀ accounts c (λ e. f (sym e))) in
      let y = cond-false (eqb c₀ c) (sum_z changes) (pos 0) (ne_eqb c₀ c f) in
      let z = k.promise.balance c l in
      omega (arith, ints, x, y, z)

  balance_kept : (c : ℕ) → c < 13 → (account_at left.accounts c).balance ≡ cost_of t.cut c h -ℤ billed_of c now'
  balance_kept c l =
      ⊎_elim
      (λ (e : c₀ ≡ c). subst (λ (d : ℕ). (account_at left.accounts d).balance ≡ cost_of t.cut d h -ℤ billed_of d now') e balance_here)
      (balance_other c l)
      (cases_eq c₀ c)

  pub resettled_kept : Kept t now' left
  resettled_kept =
      record {
        promise = record {
          adds_up = omega (arith, ints, k.promise.adds_up, adds_up);
          waits = k.promise.waits;
          balance = balance_kept;
          share = share;
          unused = λ i c m o l n z. none_unused t law (pool_of t.cut i c h) (units_last_read i c now') m (cents_of i c m now') (share i c m o l n) z;
          near = λ i c m o l n u. some_near t law (pool_of t.cut i c h) (units_last_read i c now') m (cents_of i c m now') (share i c m o l n) (k.invariant.pool_small i c o l) (units_small i c o l) u;
          line = λ i c m o l n.
              by_pair (λ i c. OnFile t h i → c < 13 → get_or left.file (line_place t.members i c m) no_line ≡ record { units = get_or (units_last_read i c now') m 0; cents = cents_of i c m now' }) i c
              (λ _ _. rw (units_here, cents_here m n) (line_here m n))
              (λ ne o l. rw (units_other i c ne, cents_other i c ne m) (line_other i c m ne o l n ∙ k.promise.line i c m o l n))
              o l;
        };
        invariant = record {
          months = k.invariant.months;
          current = k.invariant.current;
          begun = k.invariant.begun;
          members = k.invariant.members;
          pool = λ i c o l. ap (λ (ps : List ℤ). get_or ps (i % MONTHS_ON_FILE) (pos 0)) (settled_pools c₀ balance s.accounts l₀ accounts c) ∙ k.invariant.pool i c o l;
          pool_small = k.invariant.pool_small;
          units_small = units_small;
          units_long = λ i c o l.
              by_pair (λ i c. OnFile t h i → c < 13 → length (units_last_read i c now') ≡ t.members) i c
              (λ _ _. rw units_here units_long)
              (λ ne o l. rw (units_other i c ne) (k.invariant.units_long i c o l))
              o l;
          unbilled = λ i c m o. (let ne : b.month ≡ i → c₀ ≡ c → ⊥ = λ e _. omega (arith, on.1, o) in cents_other i c ne m ∙ k.invariant.unbilled i c m o);
        };
      }

-- the months on file by the accounts are those by the history
on_file : (t : Terms) (h : History) (s : LedgerState) (i : ℕ) → Kept t h s → is_on_file s.accounts i ≡ true → OnFile t h i
on_file t h s i k e =
    let p = and_parts (leb s.accounts.first i) _ e in
    let q = and_parts (ltb i s.accounts.month) (leb s.accounts.month (i + MONTHS_ON_FILE)) p.1 in
    let x = leb-true s.accounts.first i p.0 in
    let y = ltb-true i s.accounts.month q.0 in
    let z = leb-true s.accounts.month (i + MONTHS_ON_FILE) q.1 in
    (omega (arith, x, k.invariant.begun), omega (arith, y, k.invariant.current), omega (arith, z, k.invariant.current))

-- what an accepted resettlement is known to keep
accepted : (t : Terms) (law : LawfulRule t) (h : History) (s : LedgerState) (b : Reading) (component cells : ℕ) (left : Left) → length s.accounts.rows ≡ 13 → Kept t h s
    → done left ≡ resettle_rule t.shares s b component cells → Kept t (resettled (component - 1) b left.cells ∷ h) left.state
accepted t law h s b component cells left accounts k e =
    let c = component - 1 in
    let a = s.accounts in
    let change = change_rule component (units_read b c) (shares_again t.shares a b c) (account_at a c).balance (lines_at a s.file b c) in
    let inner = next change (λ balance. done (resettle_leaves t.shares s b c balance)) in
    let memory = memory_rule a.members (length s.file) cells a.members b.count in
    let p = kept (reconciled component) left (next memory (λ _. on_file_rule t.shares s b component)) 6 layer.Ledger 0 e in
    let q = both memory (λ _. on_file_rule t.shares s b component) left p.1 in
    let m = memory_passed a.members (length s.file) cells a.members b.count q.1 in
    let o = kept (is_on_file a b.month) left inner 5 layer.Ledger 0 q.2 in
    let r = both change (λ balance. done (resettle_leaves t.shares s b c balance)) left o.1 in
    let x = change_passed component (units_read b c) (shares_again t.shares a b c) (account_at a c).balance (lines_at a s.file b c) r.0 r.1 in
    let same : left ≡ resettle_leaves t.shares s b c r.0 = let d = r.2 in cc in
    subst (λ (u : Left). Kept t (resettled c b u.cells ∷ h) u.state) (sym same)
    (resettled_kept t law h s b k c (reconciled_place component p.0).0 r.0 m.0 m.2 (on_file t h s b.month k o.0) accounts x.0 x.2)

-- accepted or refused
pub resettle_keeps : (t : Terms) (law : LawfulRule t) (h : History) (s s' : LedgerState) (b : Reading) (component : ℕ) (cells cells' : List ℤ) (r : Result (Unit {0}) Fault)
    → length s.accounts.rows ≡ 13
    → answer r ≡ bare (resettle_rule t.shares s b component (length cells))
    → s' ≡ after (resettle_rule t.shares s b component (length cells)) (λ left. left.state) s
    → cells' ≡ after (resettle_rule t.shares s b component (length cells)) (λ left. left.cells) cells
    → Kept t h s → Kept t (history_with r (resettled (component - 1) b cells') h) s'
resettle_keeps t law h s s' b component cells cells' r accounts answered es ec k = go (resettle_rule t.shares s b component (length cells)) refl r answered es ec
  where
    go : (x : Answer Left) → x ≡ resettle_rule t.shares s b component (length cells) → (r : Result (Unit {0}) Fault) → answer r ≡ bare x → s' ≡ after x (λ left. left.state) s → cells' ≡ after x (λ left. left.cells) cells
        → Kept t (history_with r (resettled (component - 1) b cells') h) s'
    go (done given) e (Ok v) answered es ec =
        subst (λ (zs : List ℤ). Kept t (resettled (component - 1) b zs ∷ h) s') (sym ec)
        (subst (λ (u : LedgerState). Kept t (resettled (component - 1) b given.cells ∷ h) u) (sym es) (accepted t law h s b component (length cells) given accounts k e))
    go (done given) e (Err f) answered es ec = absurd (refused_done (number f.refusal) f.layer f.place tt answered)
    go (refused n l p) e (Ok v) answered es ec = absurd (done_refused tt n l p answered)
    go (refused n l p) e (Err f) answered es ec = subst (Kept t h) (sym es) k
