-- The figures of a history, where its calls are remembered by their members' rows alone.
use Rattle.std.proofs.Common.{◌≡◌, ℕ, ◌<◌, ◌&&◌, cond, eqb, List, [], ◌∷◌, get_or, sum, ℤ, pos, ◌+ℤ◌, refl, ap, sym, subst, ◌∙◌}
use Rattle.cents.specs.Cutting.{sum_z}
use Rattle.tariff.specs.Heads.{at, sums}
use Rattle.ledger.specs.Readings.{Reading, units_read}
use Rattle.ledger.specs.States.{LedgerState}
use Rattle.ledger.specs.Billing.{Cut}
use Rattle.ledger.specs.Histories.{History, booked, billed, resettled, cents_booked, cents_billed, component_cells, billed_of, waiting, cost_of, pool_of, units_last_read, cents_of, months_billed}
use Rattle.ledger.specs.Kept.{Terms, OnFile, Promise, Invariant}
use Rattle.journal_run.specs.Meanings.{by_rows}
use Rattle.journal_run.proofs.Rows.{units_same}

pub record Figures (g h : History) : Type 0 where
  pub booked_same : cents_booked g ≡ cents_booked h
  pub billed_same : cents_billed g ≡ cents_billed h
  pub each_same : (c : ℕ) → billed_of c g ≡ billed_of c h
  pub waiting_same : waiting g ≡ waiting h
  pub cost_same : (cut : Cut) (c : ℕ) → cost_of cut c g ≡ cost_of cut c h
  pub pool_same : (cut : Cut) (k c : ℕ) → pool_of cut k c g ≡ pool_of cut k c h
  pub units_last : (k c : ℕ) → units_last_read k c g ≡ units_last_read k c h
  pub cents_same : (k c m : ℕ) → cents_of k c m g ≡ cents_of k c m h
  pub months_same : months_billed g ≡ months_billed h

pub no_calls : Figures [] []
no_calls = record {
  booked_same = refl;
  billed_same = refl;
  each_same = λ c. refl;
  waiting_same = refl;
  cost_same = λ cut c. refl;
  pool_same = λ cut k c. refl;
  units_last = λ k c. refl;
  cents_same = λ k c m. refl;
  months_same = refl;
}

module _ (g h : History) (f : Figures g h) where
  pub booked_more : (amounts : List ℤ) → Figures (booked amounts ∷ g) (booked amounts ∷ h)
  booked_more amounts = record {
    booked_same = ap (λ (z : ℤ). sum_z amounts +ℤ z) f.booked_same;
    billed_same = f.billed_same;
    each_same = f.each_same;
    waiting_same = ap (λ (w : List ℤ). sums w amounts) f.waiting_same;
    cost_same = f.cost_same;
    pool_same = f.pool_same;
    units_last = f.units_last;
    cents_same = f.cents_same;
    months_same = f.months_same;
  }

  pub billed_more : (b : Reading) (cells : List ℤ) → Figures (billed (by_rows b) cells ∷ g) (billed b cells ∷ h)
  billed_more b cells =
      let costs : (cut : Cut) (c : ℕ) → cost_of cut c (billed (by_rows b) cells ∷ g) ≡ cost_of cut c (billed b cells ∷ h) = λ cut c. rw (f.waiting_same, f.cost_same cut c) refl in
      record {
        booked_same = f.booked_same;
        billed_same = ap (λ (z : ℤ). sum_z cells +ℤ z) f.billed_same;
        each_same = λ c. ap (λ (z : ℤ). sum_z (component_cells b cells c) +ℤ z) (f.each_same c);
        waiting_same = refl;
        cost_same = costs;
        pool_same = λ cut k c. rw (f.waiting_same, f.cost_same cut c, f.each_same c, f.pool_same cut k c) refl;
        units_last = λ k c. ap (λ (us : List ℕ). cond (eqb b.month k) us (units_last_read k c g)) (units_same b c) ∙ ap (λ (us : List ℕ). cond (eqb b.month k) (units_read b c) us) (f.units_last k c);
        cents_same = λ k c m. ap (λ (z : ℤ). cond (eqb b.month k) (at (component_cells b cells c) m) (pos 0) +ℤ z) (f.cents_same k c m);
        months_same = ap (λ (ms : List ℕ). b.month ∷ ms) f.months_same;
      }

  pub resettled_more : (d : ℕ) (b : Reading) (cells : List ℤ) → Figures (resettled d (by_rows b) cells ∷ g) (resettled d b cells ∷ h)
  resettled_more d b cells = record {
    booked_same = f.booked_same;
    billed_same = ap (λ (z : ℤ). sum_z cells +ℤ z) f.billed_same;
    each_same = λ c. ap (λ (z : ℤ). cond (eqb d c) (sum_z cells) (pos 0) +ℤ z) (f.each_same c);
    waiting_same = f.waiting_same;
    cost_same = f.cost_same;
    pool_same = f.pool_same;
    units_last = λ k c. ap (λ (us : List ℕ). cond (eqb b.month k && eqb d c) us (units_last_read k c g)) (units_same b c) ∙ ap (λ (us : List ℕ). cond (eqb b.month k && eqb d c) (units_read b c) us) (f.units_last k c);
    cents_same = λ k c m. ap (λ (z : ℤ). cond (eqb b.month k && eqb d c) (at cells m) (pos 0) +ℤ z) (f.cents_same k c m);
    months_same = f.months_same;
  }

  on_file_same : (t : Terms) (k : ℕ) → OnFile t g k → OnFile t h k
  on_file_same t k o = rw f.months_same at o

  -- so what is promised of the one is promised of the other
  pub promise_same : (t : Terms) (s : LedgerState) → Promise t h s → Promise t g s
  promise_same t s p =
      record {
        adds_up = rw (f.booked_same, f.billed_same) p.adds_up;
        waits = p.waits ∙ sym f.waiting_same;
        balance = λ c l. rw (f.cost_same t.cut c, f.each_same c) (p.balance c l);
        share = λ k c m o lc lm. rw (f.cents_same k c m, f.pool_same t.cut k c, f.units_last k c) (p.share k c m (on_file_same t k o) lc lm);
        unused = λ k c m o lc lm z. f.cents_same k c m ∙ p.unused k c m (on_file_same t k o) lc lm (ap (λ (us : List ℕ). get_or us m 0) (sym (f.units_last k c)) ∙ z);
        near = λ k c m o lc lm u. rw (f.cents_same k c m, f.pool_same t.cut k c, f.units_last k c) (p.near k c m (on_file_same t k o) lc lm (subst (λ (us : List ℕ). 0 < sum us) (f.units_last k c) u));
        line = λ k c m o lc lm. rw (f.cents_same k c m, f.units_last k c) (p.line k c m (on_file_same t k o) lc lm);
      }

  pub invariant_same : (t : Terms) (s : LedgerState) → Invariant t h s → Invariant t g s
  invariant_same t s i =
      record {
        months = rw f.months_same i.months;
        current = rw f.months_same i.current;
        begun = i.begun;
        members = i.members;
        pool = λ k c o lc. i.pool k c (on_file_same t k o) lc ∙ sym (f.pool_same t.cut k c);
        pool_small = λ k c o lc. rw (f.pool_same t.cut k c) (i.pool_small k c (on_file_same t k o) lc);
        units_small = λ k c o lc. rw (f.units_last k c) (i.units_small k c (on_file_same t k o) lc);
        units_long = λ k c o lc. rw (f.units_last k c) (i.units_long k c (on_file_same t k o) lc);
        unbilled = λ k c m p. f.cents_same k c m ∙ i.unbilled k c m (rw f.months_same at p);
      }
