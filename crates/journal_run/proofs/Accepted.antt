-- What an accepted order is known to leave.
use Rattle.std.proofs.Common.{◌≡◌, ℕ, ◌+◌, ◌-◌, ◌*◌, cond, eqb, List, [], ◌++◌, length, get_or, drop, ℤ, pos, sym, refl, ap, ◌∙◌, arith}
use Rattle.std.proofs.lemmas.List.{length-take-le, length-drop, take_at, take_all}
use Rattle.refusal.specs.Answers.{done, refused, next}
use Rattle.refusal.specs.declared.Layer.TheVariants as layer
use Rattle.cents.specs.Cutting.{sum_z}
use Rattle.tariff.specs.Heads.{book_rule}
use Rattle.month_voucher.specs.Costs.{cost_rule}
use Rattle.month_voucher.proofs.Totals.{costs_total}
use Rattle.statement.specs.Columns.{kind_of, column}
use Rattle.statement.specs.Charges.{charge, cells}
use Rattle.ledger.specs.Readings.{Reading, rows_read, units_read}
use Rattle.ledger.specs.Files.{row_start, put}
use Rattle.ledger.specs.States.{LedgerState, ledger_state, account_at, is_on_file}
use Rattle.ledger.specs.Billing.{Left, pools_for, ranges_rule, memory_rule, bill_check, bill_leaves, bill_rule}
use Rattle.ledger.specs.Resettling.{reconciled, differences, lines_at, shares_again, change_rule, resettle_leaves, on_file_rule, resettle_rule}
use Rattle.ledger.specs.Histories.{booked, billed, resettled}
use Rattle.ledger.specs.Kept.{Terms}
use Rattle.ledger.proofs.Passed.{rows_length, kept, both, memory_passed}
use Rattle.ledger.proofs.ByComponent.{column_length}
use Rattle.ledger.proofs.EndToEnd.{joined_long, cells_joined}
use Rattle.ledger.proofs.Differences.{differences_length}
use Rattle.ledger.proofs.Resettled.{row_fits, reconciled_place}
use Rattle.runs.specs.Orders.{book, bill, resettle, Carried, carried}

same_done : {T : Type 0} (u v : T) → done u ≡ done v → u ≡ v
same_done u v e = cc

module _ (t : Terms) (s : LedgerState) (c : Carried) where
  pub booking : (control : ℤ) (amounts : List ℤ) → done c ≡ carried t s (book control amounts) → (costs : List ℤ) × (c.event ≡ booked costs) × (sum_z costs ≡ sum_z amounts)
  booking control amounts e =
      let leaves : List ℤ → List ℤ → Carried = λ costs heads. record { left = record { state = ledger_state heads s.accounts s.file; cells = []; components = [] }; event = booked costs } in
      let p = both (cost_rule control amounts) (λ costs. next (book_rule s.heads costs) (λ heads. done (leaves costs heads))) c e in
      let q = both (book_rule s.heads p.0) (λ heads. done (leaves p.0 heads)) c p.2 in
      (p.0, ap (λ (x : Carried). x.event) (same_done c (leaves p.0 q.0) q.2), costs_total control amounts p.0 p.1)

  module _ (long : (p : ℤ) (us : List ℕ) → length (t.shares p us) ≡ length us) where
    pub bill_accepted : (b : Reading) → done c ≡ carried t s (bill b) → (c.event ≡ billed b c.left.cells) × (length c.left.cells ≡ 13 * t.members) × (b.count ≡ t.members)
    bill_accepted b e =
        let pools = pools_for t.cut s in
        let rows = rows_read b in
        let leaves : Left → Carried = λ left. record { left = left; event = billed b left.cells } in
        let p = both (bill_rule t.shares t.cut s b (13 * t.members)) (λ left. done (leaves left)) c e in
        let q = both (bill_check s.accounts pools b (length s.file) (13 * t.members)) (λ _. done (bill_leaves t.shares t.cut s b)) p.0 p.1 in
        let m = both (memory_rule s.accounts.members (length s.file) (13 * t.members) (13 * s.accounts.members) b.count) (λ _. cond (eqb b.month s.accounts.month) (ranges_rule pools (rows_read b)) (refused 5 layer.Ledger 0)) tt q.1 in
        let k = memory_passed s.accounts.members (length s.file) (13 * t.members) (13 * s.accounts.members) b.count m.1 in
        let x = same_done c (leaves p.0) p.2 in
        let y = same_done p.0 (bill_leaves t.shares t.cut s b) q.2 in
        let w : c.left.cells ≡ cells t.shares pools rows 13 = ap (λ (u : Carried). u.left.cells) x ∙ ap (λ (l : Left). l.cells) y in
        let n : b.count ≡ t.members = omega (arith, k.1, k.2) in
        let charge_long : (i : ℕ) → length (charge t.shares pools rows i) ≡ t.members =
        λ i. long (get_or pools i (pos 0)) (column rows (kind_of i)) ∙ column_length rows (kind_of i) ∙ rows_length b.units 0 b.count ∙ n in
        let v : c.event ≡ billed b c.left.cells = rw x refl in
        (v, ap length w ∙ ap length (cells_joined t.shares pools rows 13) ∙ joined_long (charge t.shares pools rows) t.members charge_long 13, n)

    pub resettlement : (component : ℕ) (b : Reading) → done c ≡ carried t s (resettle component b) → (c.event ≡ resettled (component - 1) b c.left.cells) × (length c.left.cells ≡ t.members) × (b.count ≡ t.members)
    resettlement component b e =
        let i = component - 1 in
        let a = s.accounts in
        let leaves : Left → Carried = λ left. record { left = left; event = resettled i b left.cells } in
        let changes = change_rule component (units_read b i) (shares_again t.shares a b i) (account_at a i).balance (lines_at a s.file b i) in
        let p = both (resettle_rule t.shares s b component t.members) (λ left. done (leaves left)) c e in
        let r = kept (reconciled component) p.0 (next (memory_rule a.members (length s.file) t.members a.members b.count) (λ _. on_file_rule t.shares s b component)) 6 layer.Ledger 0 p.1 in
        let m = both (memory_rule a.members (length s.file) t.members a.members b.count) (λ _. on_file_rule t.shares s b component) p.0 r.1 in
        let k = memory_passed a.members (length s.file) t.members a.members b.count m.1 in
        let o = kept (is_on_file a b.month) p.0 (next changes (λ balance. done (resettle_leaves t.shares s b i balance))) 5 layer.Ledger 0 m.2 in
        let q = both changes (λ balance. done (resettle_leaves t.shares s b i balance)) p.0 o.1 in
        let x = same_done c (leaves p.0) p.2 in
        let y = same_done p.0 (resettle_leaves t.shares s b i q.0) q.2 in
        let fresh = shares_again t.shares a b i in
        let lines = lines_at a s.file b i in
        let w : c.left.cells ≡ differences fresh lines = ap (λ (u : Carried). u.left.cells) x ∙ ap (λ (l : Left). l.cells) y in
        let fresh_long : length fresh ≡ t.members = long _ (units_read b i) ∙ column_length (rows_read b) (kind_of i) ∙ rows_length b.units 0 b.count ∙ omega (arith, k.1, k.2) in
        let fits = row_fits a.members b.month i (reconciled_place component r.0).0 in
        let start = row_start a.members b.month i in
        let lines_long : length lines ≡ t.members = length-take-le a.members (drop start s.file) (omega (arith, length-drop start s.file, fits, k.0)) ∙ sym k.1 in
        let v : c.event ≡ resettled i b c.left.cells = rw x refl in
        (v, ap length w ∙ differences_length fresh lines (lines_long ∙ sym fresh_long) ∙ fresh_long, omega (arith, k.1, k.2))

-- cells that fill a memory are all of it
pub put_all : (new old : List ℤ) → length (put 0 new old) ≡ length new → put 0 new old ≡ new
put_all new old n =
    let rest = drop (0 + length new) old in
    sym (take_all (length new) (new ++ rest) (omega (arith, n))) ∙ take_at new rest (length new) refl
