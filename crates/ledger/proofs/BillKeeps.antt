-- A bill keeps the accounts.
use Rattle.std.proofs.Common.{◌≡◌, ℕ, zero, suc, ◌+◌, ◌*◌, ◌%◌, ◌<◌, ◌≤◌, true, false, eqb, List, [], ◌∷◌, map, length, get_or, take, set, ℤ, pos, ◌+ℤ◌, ◌-ℤ◌, nat_abs, Ok, Err, sum, Result, sym, refl, ap, ◌∙◌, subst, ⊎_elim, mul-le-mul_right, arith}
use borrow.Author.Differences.{ints}
use Rattle.refusal.specs.Answers.{Answer, done, refused, answer, next, after, number}
use Rattle.refusal.specs.declared.Fault.{Fault}
use Rattle.refusal.proofs.Apart.{refused_done, done_refused}
use Rattle.std.proofs.lemmas.List.{length-map, map-append, take_all, get_or-set_same, get_or-set_other}
use Rattle.std.proofs.lemmas.Bool.{cond-true, cond-false, eq-eqb, ne_eqb, cases_eq, cases_lt}
use Rattle.cents.specs.Cutting.{sum_z}
use Rattle.cents.proofs.SignedSums.{sum_append, sum_more}
use Rattle.tariff.specs.Heads.{at}
use Rattle.statement.specs.declared.charge.ComponentCharge.{ComponentCharge}
use Rattle.statement.specs.Columns.{kind_of, column}
use Rattle.sharing.specs.Shares.{Shares}
use Rattle.statement.specs.Charges.{charge, charged, component_charges, cells}
use Rattle.ledger.specs.declared.account.Account.{Account}
use Rattle.ledger.specs.Readings.{Reading, rows_read, units_read}
use Rattle.ledger.specs.Files.{no_line, row_start, line_place, lines_of, units_by_component, part}
use Rattle.ledger.specs.States.{LedgerState, account_at, balances}
use Rattle.ledger.specs.Billing.{billed_accounts, bill_check, bill_leaves, bill_rule, pools_for}
use Rattle.ledger.specs.Histories.{History, billed, history_with, billed_of, cost_of, pool_of, units_last_read, cents_of, component_cells, months_billed}
use Rattle.ledger.specs.Kept.{Terms, Kept, OnFile, bills}
use Rattle.ledger.proofs.Closed.{pool_at, pools_length}
use Rattle.ledger.proofs.ByComponent.{column_length, lines_at_lem, lines_length, by_component_length}
use Rattle.ledger.proofs.Placed.{put_in, put_below, put_above}
use Rattle.ledger.proofs.Passed.{BillPassed, bill_passed, rows_length}
use Rattle.ledger.proofs.Rests.{components_length, components_at, closed_at, kind_below}
use Rattle.ledger.proofs.EndToEnd.{joined_long, joined_row, joined_at, units_by_component_is, cells_joined}
use Rattle.ledger.proofs.Lawful.{LawfulRule, none_unused, some_near}
use Rattle.ledger.proofs.BookingKeeps.{sums_total}
use Rattle.limits.specs.declared.TheConstants.{MONTHS_ON_FILE, MOST_CENTS, MOST_MEMBERS, MOST_UNITS}

-- the balances that a bill leaves are the rests of its charges
rests_are : (slot : ℕ) (charges : List ComponentCharge) (rows : List Account) → length charges ≡ length rows
    → map (λ (a : Account). a.balance) (billed_accounts slot charges rows) ≡ map (λ (x : ComponentCharge). x.balance) charges
rests_are slot [] rows e = refl
rests_are slot (x ∷ charges) [] e = absurd (omega arith)
rests_are slot (x ∷ charges) (a ∷ rows) e = ap (λ (zs : List ℤ). x.balance ∷ zs) (rests_are slot charges rows (omega arith))

-- shares and rests of the first n components are their pools
shared_out : (shares : Shares) (pools : List ℤ) (rows : List (List ℕ)) (n : ℕ) → n ≤ length pools
    → sum_z (cells shares pools rows n) +ℤ sum_z (map (λ (x : ComponentCharge). x.balance) (component_charges shares pools rows n)) ≡ sum_z (take n pools)
unfolding cells component_charges
shared_out shares pools rows zero l = refl
shared_out shares pools rows (suc n) l =
    let rest : ComponentCharge → ℤ = λ x. x.balance in
    let i = shared_out shares pools rows n (omega arith) in
    let p = sum_append (cells shares pools rows n) (charge shares pools rows n) in
    let m = ap sum_z (map-append rest (component_charges shares pools rows n) (charged shares pools rows n ∷ [])) in
    let q = sum_append (map rest (component_charges shares pools rows n)) (map rest (charged shares pools rows n ∷ [])) in
    let w = sum_more pools n l in
    let v : take (suc n) pools ≡ take (n + 1) pools = ap (λ (j : ℕ). take j pools) {x = suc n} {y = n + 1} (omega arith) in
    let z = ap sum_z v in
    omega (arith, ints, i, p, m, q, w, z)

module _ (t : Terms) (law : LawfulRule t) (h : History) (s : LedgerState) (b : Reading) (k : Kept t h s) (cellCount : ℕ)
    (passed : BillPassed s.accounts (pools_for t.cut s) b (length s.file) cellCount)
    (whole : sum_z (t.cut s.heads) ≡ sum_z s.heads) (thirteen : length (t.cut s.heads) ≡ 13) (accounts : length s.accounts.rows ≡ 13)
    (slots : (c : ℕ) → c < 13 → length (account_at s.accounts c).pools ≡ MONTHS_ON_FILE) where
  abbrev pools : List ℤ
  pools = pools_for t.cut s

  abbrev rows : List (List ℕ)
  rows = rows_read b

  abbrev written : List ℤ
  written = cells t.shares pools rows 13

  abbrev charges : List ComponentCharge
  charges = component_charges t.shares pools rows 13

  abbrev left : LedgerState
  left = (bill_leaves t.shares t.cut s b).state

  abbrev now' : History
  now' = billed b written ∷ h

  count : b.count ≡ t.members
  count = passed.count ∙ k.invariant.members

  rows_long : length rows ≡ t.members
  rows_long = rows_length b.units 0 b.count ∙ count

  month : b.month ≡ t.first + bills h
  month = passed.month ∙ k.invariant.current

  charge_long : (c : ℕ) → length (charge t.shares pools rows c) ≡ t.members
  charge_long c = law.long (get_or pools c (pos 0)) (column rows (kind_of c)) ∙ column_length rows (kind_of c) ∙ rows_long

  pool_here : (c : ℕ) → c < 13 → get_or pools c (pos 0) ≡ cost_of t.cut c now' -ℤ billed_of c h
  pool_here c l =
      let p = pool_at (t.cut s.heads) s.accounts c (omega arith) (omega arith) in
      let w = ap (λ (hs : List ℤ). at (t.cut hs) c) k.promise.waits in
      omega (arith, ints, p, w, k.promise.balance c l)

  -- the statement's rows are the shares
  row_here : (c : ℕ) → c < 13 → component_cells b written c ≡ charge t.shares pools rows c
  row_here c l =
      ap (λ (n : ℕ). part (c * n) n written) count
      ∙ ap (part (c * t.members) t.members) (cells_joined t.shares pools rows 13)
      ∙ joined_row (charge t.shares pools rows) t.members charge_long 13 c l

  account_here : (c : ℕ) → c < 13 → account_at left.accounts c ≡ record { balance = get_or pools c (pos 0) -ℤ sum_z (charge t.shares pools rows c); pools = set (account_at s.accounts c).pools (s.accounts.month % MONTHS_ON_FILE) (get_or pools c (pos 0)) }
  account_here c l =
      closed_at charges s.accounts (components_length t.shares pools rows 13) accounts c l
      ∙ ap (λ (x : ComponentCharge). record { balance = x.balance; pools = set (account_at s.accounts c).pools (s.accounts.month % MONTHS_ON_FILE) x.pool }) (components_at t.shares pools rows 13 c l)

  adds_up : sum_z written +ℤ sum_z (balances left.accounts) ≡ sum_z (balances s.accounts) +ℤ sum_z s.heads
  adds_up =
      let n = components_length t.shares pools rows 13 in
      let r = ap sum_z (rests_are (s.accounts.month % MONTHS_ON_FILE) charges s.accounts.rows (omega (arith, n))) in
      let m = length-map s.accounts.rows (λ (a : Account). a.balance) in
      let p = pools_length (t.cut s.heads) s.accounts (omega arith) in
      let o = shared_out t.shares pools rows 13 (omega (arith, p)) in
      let a = ap sum_z (take_all 13 pools (omega (arith, p))) in
      let q = sums_total (t.cut s.heads) (balances s.accounts) (omega (arith, m)) in
      omega (arith, ints, r, o, a, q, whole)

  -- the month that is billed
  module _ (c : ℕ) (l : c < 13) where
    this : eqb b.month b.month ≡ true
    this = eq-eqb b.month b.month refl

    units_here : units_last_read b.month c now' ≡ units_read b c
    units_here = cond-true (eqb b.month b.month) (units_read b c) (units_last_read b.month c h) this

    pool_of_lem : pool_of t.cut b.month c now' ≡ get_or pools c (pos 0)
    pool_of_lem = cond-true (eqb b.month b.month) _ (pool_of t.cut b.month c h) this ∙ sym (pool_here c l)

    cents_here : (m : ℕ) → cents_of b.month c m now' ≡ at (charge t.shares pools rows c) m
    cents_here m =
        let x = cond-true (eqb b.month b.month) (at (component_cells b written c) m) (pos 0) this in
        let y = ap (λ (zs : List ℤ). at zs m) (row_here c l) in
        let z = k.invariant.unbilled b.month c m (omega (arith, month)) in
        omega (arith, ints, x, y, z)

  -- another month on file
  module _ (i : ℕ) (ne : b.month ≡ i → ⊥) where
    other : eqb b.month i ≡ false
    other = ne_eqb b.month i ne

    units_other : (c : ℕ) → units_last_read i c now' ≡ units_last_read i c h
    units_other c = cond-false (eqb b.month i) (units_read b c) (units_last_read i c h) other

    pool_other : (c : ℕ) → pool_of t.cut i c now' ≡ pool_of t.cut i c h
    pool_other c = cond-false (eqb b.month i) (cost_of t.cut c now' -ℤ billed_of c h) (pool_of t.cut i c h) other

    cents_other : (c m : ℕ) → cents_of i c m now' ≡ cents_of i c m h
    cents_other c m =
        let x = cond-false (eqb b.month i) (at (component_cells b written c) m) (pos 0) other in
        omega (arith, ints, x)

    on_file : OnFile t now' i → OnFile t h i
    on_file o = (o.0, omega (arith, o.1, month), omega (arith, o.2))

    slot_apart : OnFile t now' i → i % MONTHS_ON_FILE ≡ b.month % MONTHS_ON_FILE → ⊥
    slot_apart o e = omega (arith, o.1, o.2, month)

  by_month : (P : ℕ → Type 0) (i : ℕ) → P b.month → ((b.month ≡ i → ⊥) → P i) → P i
  by_month P i here there = ⊎_elim (λ (e : b.month ≡ i). subst P e here) there (cases_eq b.month i)

  abbrev start : ℕ
  start = row_start s.accounts.members s.accounts.month 0

  start_is : start ≡ (b.month % MONTHS_ON_FILE * 13 + 0) * t.members
  start_is = rw (← passed.month, k.invariant.members) refl

  written_long : length written ≡ 13 * t.members
  written_long = ap length (cells_joined t.shares pools rows 13) ∙ joined_long (charge t.shares pools rows) t.members charge_long 13

  units_long : length (units_by_component rows 13) ≡ 13 * t.members
  units_long = by_component_length rows 13 ∙ ap (λ (n : ℕ). 13 * n) rows_long

  lines_long : length (lines_of (units_by_component rows 13) written) ≡ 13 * t.members
  lines_long = lines_length (units_by_component rows 13) written (units_long ∙ sym written_long) ∙ units_long

  start_fits : start ≤ length s.file
  start_fits =
      let m : b.month % MONTHS_ON_FILE * 13 + 0 ≤ MONTHS_ON_FILE * 13 = omega arith in
      omega (arith, start_is, passed.file, k.invariant.members, mul-le-mul_right t.members m)

  line_here : (c m : ℕ) → c < 13 → m < t.members → get_or left.file (line_place t.members b.month c m) no_line ≡ record { units = get_or (units_read b c) m 0; cents = at (charge t.shares pools rows c) m }
  line_here c m l i =
      let j = c * t.members + m in
      let e : c + 1 ≤ 13 = omega arith in
      let w = mul-le-mul_right t.members e in
      let u = ap (λ (us : List ℕ). get_or us j 0) (units_by_component_is rows 13) ∙ joined_at (λ d. column rows (kind_of d)) t.members (λ d. column_length rows (kind_of d) ∙ rows_long) 0 13 c m l i in
      let z = ap (λ (zs : List ℤ). get_or zs j (pos 0)) (cells_joined t.shares pools rows 13) ∙ joined_at (charge t.shares pools rows) t.members charge_long (pos 0) 13 c m l i in
      ap (λ (n : ℕ). get_or left.file n no_line) {x = line_place t.members b.month c m} {y = start + j} (omega (arith, start_is))
      ∙ put_in start (lines_of (units_by_component rows 13) written) s.file no_line j start_fits (omega (arith, lines_long, w))
      ∙ lines_at_lem (units_by_component rows 13) written j (units_long ∙ sym written_long)
      ∙ rw (u, z) refl

  line_other : (i c m : ℕ) → (b.month ≡ i → ⊥) → OnFile t now' i → c < 13 → m < t.members → get_or left.file (line_place t.members i c m) no_line ≡ get_or s.file (line_place t.members i c m) no_line
  line_other i c m ne o l n =
      ⊎_elim
      (λ (q : i % MONTHS_ON_FILE < b.month % MONTHS_ON_FILE).
      let v : i % MONTHS_ON_FILE * 13 + c + 1 ≤ b.month % MONTHS_ON_FILE * 13 + 0 = omega arith in
      let w = mul-le-mul_right t.members v in
      put_below start (lines_of (units_by_component rows 13) written) s.file no_line (line_place t.members i c m) start_fits (omega (arith, start_is, w)))
      (λ (q : b.month % MONTHS_ON_FILE ≤ i % MONTHS_ON_FILE).
      let apart = slot_apart i ne o in
      let g : b.month % MONTHS_ON_FILE < i % MONTHS_ON_FILE = ⊎_elim (λ (e : i % MONTHS_ON_FILE ≡ b.month % MONTHS_ON_FILE). absurd (apart e)) (λ (f : i % MONTHS_ON_FILE ≡ b.month % MONTHS_ON_FILE → ⊥). omega arith) (cases_eq (i % MONTHS_ON_FILE) (b.month % MONTHS_ON_FILE)) in
      let v : b.month % MONTHS_ON_FILE * 13 + 13 ≤ i % MONTHS_ON_FILE * 13 + c = omega arith in
      let w = mul-le-mul_right t.members v in
      put_above start (lines_of (units_by_component rows 13) written) s.file no_line (line_place t.members i c m) start_fits (omega (arith, start_is, lines_long, w)))
      (cases_lt (i % MONTHS_ON_FILE) (b.month % MONTHS_ON_FILE))

  share : (i c m : ℕ) → OnFile t now' i → c < 13 → m < t.members → cents_of i c m now' ≡ at (t.shares (pool_of t.cut i c now') (units_last_read i c now')) m
  share i c m o l n =
      by_month (λ i. OnFile t now' i → cents_of i c m now' ≡ at (t.shares (pool_of t.cut i c now') (units_last_read i c now')) m) i
      (λ _. rw (units_here c l, pool_of_lem c l) (cents_here c l m))
      (λ ne o. rw (units_other i ne c, pool_other i ne c, cents_other i ne c m) (k.promise.share i c m (on_file i ne o) l n))
      o

  pool_small : (i c : ℕ) → OnFile t now' i → c < 13 → nat_abs (pool_of t.cut i c now') ≤ MOST_CENTS
  pool_small i c o l =
      by_month (λ i. OnFile t now' i → nat_abs (pool_of t.cut i c now') ≤ MOST_CENTS) i
      (λ _. rw (pool_of_lem c l) (passed.pools_in c))
      (λ ne o. rw (pool_other i ne c) (k.invariant.pool_small i c (on_file i ne o) l))
      o

  units_small : (i c : ℕ) → OnFile t now' i → c < 13 → sum (units_last_read i c now') ≤ MOST_UNITS
  units_small i c o l =
      by_month (λ i. OnFile t now' i → sum (units_last_read i c now') ≤ MOST_UNITS) i
      (λ _. rw (units_here c l) (passed.units_in (kind_of c) (kind_below c l)))
      (λ ne o. rw (units_other i ne c) (k.invariant.units_small i c (on_file i ne o) l))
      o

  pub billed_kept : Kept t now' left
  billed_kept =
      record {
        promise = record {
          adds_up = omega (arith, ints, k.promise.adds_up, adds_up);
          waits = refl;
          balance = λ c l. (let a = ap (λ (x : Account). x.balance) (account_here c l) in let p = pool_here c l in let r = ap sum_z (row_here c l) in omega (arith, ints, a, p, r));
          share = share;
          unused = λ i c m o l n z. none_unused t law (pool_of t.cut i c now') (units_last_read i c now') m (cents_of i c m now') (share i c m o l n) z;
          near = λ i c m o l n u. some_near t law (pool_of t.cut i c now') (units_last_read i c now') m (cents_of i c m now') (share i c m o l n) (pool_small i c o l) (units_small i c o l) u;
          line = λ i c m o l n.
              by_month (λ i. OnFile t now' i → get_or left.file (line_place t.members i c m) no_line ≡ record { units = get_or (units_last_read i c now') m 0; cents = cents_of i c m now' }) i
              (λ _. rw (units_here c l, cents_here c l m) (line_here c m l n))
              (λ ne o. rw (units_other i ne c, cents_other i ne c m) (line_other i c m ne o l n ∙ k.promise.line i c m (on_file i ne o) l n))
              o;
        };
        invariant = record {
          months = ap (λ (m : ℕ). m ∷ months_billed h) month ∙ ap (λ (ms : List ℕ). (t.first + bills h) ∷ ms) k.invariant.months;
          current = omega (arith, k.invariant.current);
          begun = k.invariant.begun;
          members = k.invariant.members;
          pool = λ i c o l.
              by_month (λ i. OnFile t now' i → get_or (account_at left.accounts c).pools (i % MONTHS_ON_FILE) (pos 0) ≡ pool_of t.cut i c now') i
              (λ _. rw (pool_of_lem c l) (ap (λ (x : Account). get_or x.pools (b.month % MONTHS_ON_FILE) (pos 0)) (account_here c l) ∙ ap (λ (n : ℕ). get_or (set (account_at s.accounts c).pools (s.accounts.month % MONTHS_ON_FILE) (get_or pools c (pos 0))) (n % MONTHS_ON_FILE) (pos 0)) passed.month ∙ get_or-set_same (account_at s.accounts c).pools (s.accounts.month % MONTHS_ON_FILE) (get_or pools c (pos 0)) (pos 0) (omega (arith, slots c l))))
              (λ ne o. rw (pool_other i ne c) (ap (λ (x : Account). get_or x.pools (i % MONTHS_ON_FILE) (pos 0)) (account_here c l) ∙ get_or-set_other (account_at s.accounts c).pools (s.accounts.month % MONTHS_ON_FILE) (i % MONTHS_ON_FILE) (get_or pools c (pos 0)) (pos 0) (λ e. slot_apart i ne o (e ∙ ap (λ (n : ℕ). n % MONTHS_ON_FILE) (sym passed.month))) ∙ k.invariant.pool i c (on_file i ne o) l))
              o;
          pool_small = pool_small;
          units_small = units_small;
          units_long = λ i c o l.
              by_month (λ i. OnFile t now' i → length (units_last_read i c now') ≡ t.members) i
              (λ _. rw (units_here c l) (column_length rows (kind_of c) ∙ rows_long))
              (λ ne o. rw (units_other i ne c) (k.invariant.units_long i c (on_file i ne o) l))
              o;
          unbilled = λ i c m o. (let ne : b.month ≡ i → ⊥ = λ e. omega (arith, month, o) in cents_other i ne c m ∙ k.invariant.unbilled i c m (omega (arith, o)));
        };
      }

-- accepted or refused
pub bill_keeps : (t : Terms) (law : LawfulRule t) (h : History) (s s' : LedgerState) (b : Reading) (cells cells' : List ℤ) (r : Result (List ComponentCharge) Fault)
    → 1 ≤ b.count → b.count ≤ MOST_MEMBERS → sum_z (t.cut s.heads) ≡ sum_z s.heads → length (t.cut s.heads) ≡ 13 → length s.accounts.rows ≡ 13
    → ((c : ℕ) → c < 13 → length (account_at s.accounts c).pools ≡ MONTHS_ON_FILE)
    → answer r ≡ next (bill_rule t.shares t.cut s b (length cells)) (λ left. done left.components)
    → s' ≡ after (bill_rule t.shares t.cut s b (length cells)) (λ left. left.state) s
    → cells' ≡ after (bill_rule t.shares t.cut s b (length cells)) (λ left. left.cells) cells
    → Kept t h s → Kept t (history_with r (billed b cells') h) s'
bill_keeps t law h s s' b cells cells' r low high whole thirteen accounts slots answered es ec k =
    go (bill_check s.accounts (pools_for t.cut s) b (length s.file) (length cells)) refl r answered es ec
  where
    go : (checked : Answer (Unit {0})) → checked ≡ bill_check s.accounts (pools_for t.cut s) b (length s.file) (length cells) → (r : Result (List ComponentCharge) Fault)
        → answer r ≡ next (next checked (λ _. done (bill_leaves t.shares t.cut s b))) (λ left. done left.components)
        → s' ≡ after (next checked (λ _. done (bill_leaves t.shares t.cut s b))) (λ left. left.state) s
        → cells' ≡ after (next checked (λ _. done (bill_leaves t.shares t.cut s b))) (λ left. left.cells) cells
        → Kept t (history_with r (billed b cells') h) s'
    go (done v) e (Ok x) answered es ec =
        let passed = bill_passed s.accounts (pools_for t.cut s) b (length s.file) (length cells) low high e in
        let new = billed_kept t law h s b k (length cells) passed whole thirteen accounts slots in
        subst (λ (zs : List ℤ). Kept t (billed b zs ∷ h) s') (sym ec) (subst (λ (u : LedgerState). Kept t (billed b (bill_leaves t.shares t.cut s b).cells ∷ h) u) (sym es) new)
    go (done v) e (Err f) answered es ec = absurd (refused_done (number f.refusal) f.layer f.place (bill_leaves t.shares t.cut s b).components answered)
    go (refused n l p) e (Ok x) answered es ec = absurd (done_refused x n l p answered)
    go (refused n l p) e (Err f) answered es ec = subst (Kept t h) (sym es) k
