-- A resettlement, step by step.
use Rattle.std.proofs.Common.{◌≡◌, ℕ, ◌+◌, ◌-◌, ◌*◌, ◌%◌, ◌<◌, ◌≤◌, true, cond, ◌&&◌, eqb, leb, List, length, get_or, take, drop, ℤ, pos, nat_abs, Ok, Err, sum, Result, sym, refl, ap, ◌∙◌, subst, ⊎_elim, mul-le-mul_right, arith, MatchResult}
use borrow.Rule.Slice.PartMut.{put_mid}
use Rattle.std.proofs.lemmas.List.{get_or-set_same, get_or-set_other}
use Rattle.std.proofs.lemmas.Bool.{leb-true, eqb-true, and_parts, or_cases, cond-true, cases_eq}
use Rattle.std.specs.List.{list_all}
use Rattle.refusal.specs.Answers.{Answer, done, refused, next}
use Rattle.refusal.specs.declared.Fault.{Fault}
use Rattle.refusal.specs.declared.Layer.TheVariants as layer
use Rattle.tariff.specs.Heads.{within}
use Rattle.statement.specs.Columns.{kind_of}
use Rattle.sharing.specs.Shares.{Shares}
use Rattle.ledger.specs.declared.line.Line.{Line}
use Rattle.ledger.specs.declared.account.Account.{Account}
use Rattle.ledger.specs.declared.accounts.Accounts.{Accounts}
use Rattle.ledger.specs.Readings.{Reading, units_read}
use Rattle.ledger.specs.Files.{file_length, row_start, put}
use Rattle.ledger.specs.States.{LedgerState, account_at, is_on_file}
use Rattle.ledger.specs.Billing.{memory_rule}
use Rattle.ledger.specs.Resettling.{reconciled, cents_within, lines_at, shares_again, balance_left, change_rule, row_lines, row_cells, file_resettled, cells_resettled, settled, resettle_leaves, on_file_rule, resettle_rule}
use Rattle.ledger.proofs.Closed.{no_account}
use Rattle.ledger.proofs.Placed.{put_is, put_back}
use Rattle.ledger.proofs.Passed.{kept}
use Rattle.limits.specs.declared.TheConstants.{MONTHS_ON_FILE, MOST_CENTS, MOST_UNITS}

pub row_fits : (members month c : ℕ) → c < 13 → row_start members month c + members ≤ file_length members
row_fits members month c l =
    let m : month % MONTHS_ON_FILE * 13 + c + 1 ≤ MONTHS_ON_FILE * 13 = omega arith in
    omega (arith, mul-le-mul_right members m)

module _ (shares : Shares) (a : Accounts) (file : List Line) (b : Reading) (c : ℕ) (pool bal : ℤ) (start k : ℕ)
    (ep : pool ≡ get_or (account_at a c).pools (b.month % MONTHS_ON_FILE) (pos 0)) (eb : bal ≡ (account_at a c).balance) (es : start ≡ row_start a.members b.month c) (ek : k ≡ a.members) where
  abbrev units : List ℕ
  units = units_read b c

  pub row_answered : (t : Answer ℤ) → t ≡ change_rule (c + 1) units (shares pool units) bal (take k (drop start file))
      → t ≡ change_rule (c + 1) units (shares_again shares a b c) (account_at a c).balance (lines_at a file b c)
  row_answered t h = rw (ep, eb, es, ek) at h

  pub file_done : (r : Result ℤ Fault) (lines : List Line) → length lines ≡ k
      → MatchResult r (λ _. lines ≡ row_lines shares pool b c) (λ _. lines ≡ take k (drop start file))
      → MatchResult r (λ _. put_mid start k file lines ≡ file_resettled shares a file b c) (λ _. put_mid start k file lines ≡ file)
  file_done (Ok v) lines l h = put_is start lines file k l ∙ ap (λ (ls : List Line). put start ls file) h ∙ rw (ep, es) refl
  file_done (Err f) lines l h = ap (put_mid start k file) h ∙ put_back start k file

  pub cells_done : (r : Result ℤ Fault) (cells cells' : List ℤ)
      → MatchResult r (λ _. cells' ≡ row_cells shares pool b c (take k (drop start file))) (λ _. cells' ≡ cells)
      → MatchResult r (λ _. cells' ≡ cells_resettled shares a file b c) (λ _. cells' ≡ cells)
  cells_done (Ok v) cells cells' h = h ∙ rw (ep, es, ek) refl
  cells_done (Err f) cells cells' h = h

-- what a change that is not refused is known to keep
pub change_passed : (component : ℕ) (units : List ℕ) (shares : List ℤ) (balance : ℤ) (lines : List Line) (left : ℤ) → done left ≡ change_rule component units shares balance lines
    → (sum units ≤ MOST_UNITS) × (list_all cents_within lines ≡ true) × (left ≡ balance_left balance shares lines) × (nat_abs left ≤ MOST_CENTS)
change_passed component units shares balance lines left e =
    let found = balance_left balance shares lines in
    let inner : Answer ℤ = cond (list_all cents_within lines && within found) (done found) (refused 10 layer.Ledger component) in
    let p = kept (leb (sum units) MOST_UNITS) left inner 8 layer.Ledger (kind_of (component - 1) + 1) e in
    let q = kept (list_all cents_within lines && within found) left (done found) 10 layer.Ledger component p.1 in
    let w = and_parts (list_all cents_within lines) (within found) q.0 in
    let s : left ≡ found = let d = q.1 in cc in
    (leb-true (sum units) MOST_UNITS p.0, w.0, s, subst (λ (z : ℤ). nat_abs z ≤ MOST_CENTS) (sym s) (leb-true (nat_abs found) MOST_CENTS w.1))

module _ (c : ℕ) (balance : ℤ) (a : Accounts) (l : c < 13) (long : length a.rows ≡ 13) where
  pub settled_here : account_at (settled c balance a) c ≡ record { balance = balance; pools = (account_at a c).pools }
  settled_here = get_or-set_same a.rows c (record { balance = balance; pools = (account_at a c).pools }) no_account (omega arith)

  pub settled_other : (d : ℕ) → (d ≡ c → ⊥) → account_at (settled c balance a) d ≡ account_at a d
  settled_other d ne = get_or-set_other a.rows c d (record { balance = balance; pools = (account_at a c).pools }) no_account ne

  pub settled_all : (P : Account → Type 0) → P (record { balance = balance; pools = (account_at a c).pools }) → (d : ℕ) → P (account_at a d) → P (account_at (settled c balance a) d)
  settled_all P h d k =
      ⊎_elim
      (λ (e : d ≡ c). rw e (subst P (sym settled_here) h))
      (λ (ne : d ≡ c → ⊥). subst P (sym (settled_other d ne)) k)
      (cases_eq d c)

  pub settled_pools : (d : ℕ) → (account_at (settled c balance a) d).pools ≡ (account_at a d).pools
  settled_pools d =
      ⊎_elim
      (λ (e : d ≡ c). rw e (ap (λ (x : Account). x.pools) settled_here))
      (λ (ne : d ≡ c → ⊥). ap (λ (x : Account). x.pools) (settled_other d ne))
      (cases_eq d c)

pub reconciled_place : (component : ℕ) → reconciled component ≡ true → (component - 1 < 13) × (component - 1 + 1 ≡ component)
reconciled_place component e =
    ⊎_elim
    (λ (h : eqb component 8 ≡ true). let n = eqb-true component 8 h in (omega arith, omega arith))
    (λ (h : eqb component 11 ≡ true). let n = eqb-true component 11 h in (omega arith, omega arith))
    (or_cases (eqb component 8) (eqb component 11) e)

-- the tests before it passed: the change decides
pub resettle_is : (shares : Shares) (s : LedgerState) (b : Reading) (component cells : ℕ) (x : Answer ℤ) → reconciled component ≡ true
    → done tt ≡ memory_rule s.accounts.members (length s.file) cells s.accounts.members b.count → is_on_file s.accounts b.month ≡ true
    → x ≡ change_rule component (units_read b (component - 1)) (shares_again shares s.accounts b (component - 1)) (account_at s.accounts (component - 1)).balance (lines_at s.accounts s.file b (component - 1))
    → next x (λ balance. done (resettle_leaves shares s b (component - 1) balance)) ≡ resettle_rule shares s b component cells
resettle_is shares s b component cells x r m o h =
    ap (λ (t : Answer ℤ). next t (λ balance. done (resettle_leaves shares s b (component - 1) balance))) h
    ∙ sym (cond-true (is_on_file s.accounts b.month) _ (refused 5 layer.Ledger 0) o)
    ∙ ap (λ (t : Answer (Unit {0})). next t (λ _. on_file_rule shares s b component)) m
    ∙ sym (cond-true (reconciled component) _ (refused 6 layer.Ledger 0) r)
