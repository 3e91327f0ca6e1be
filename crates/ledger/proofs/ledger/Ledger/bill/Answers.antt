use Rattle.std.proofs.Common.{◌≡◌, ℕ, ◌<◌, ◌≤◌, List, ◌∷◌, length, get_or, nat_abs, Ok, sym, refl, ap, ◌∙◌, subst, arith, rules}
use Rattle.refusal.specs.Answers.{Answer, done, next, after}
use Rattle.cents.specs.Cutting.{sum_z}
use Rattle.tariff.specs.Heads.{sums}
use Rattle.statement.specs.declared.charge.ComponentCharge.{ComponentCharge}
use Rattle.ledger.specs.Readings.{reading_of, rows_read}
use Rattle.ledger.specs.States.{ledger_state, balances}
use Rattle.ledger.specs.Billing.{Left}
use Rattle.ledger.specs.Histories.{History, billed}
use Rattle.ledger.specs.Kept.{Kept}
use Rattle.ledger.proofs.Lawful.{LawfulRule}
use Rattle.ledger.specs.Ledgers.{cut_by, state_of, terms_of}
use Rattle.ledger.proofs.Billed.{bill_done, bill_charges, bill_cells, bill_state}
use Rattle.ledger.proofs.BillKeeps.{bill_keeps}
use Rattle.ledger.proofs.Closed.{no_charge}
use Rattle.ledger.proofs.Passed.{bill_passed, rows_length}
use Rattle.ledger.proofs.Rests.{components_length, closed_slots, closed_small, rests_small}
use Rattle.ledger.proofs.ledger.Ledger.bill.Goals as goal
use Rattle.limits.specs.declared.TheConstants.{MOST_CENTS}

pub invariant_of-self-2 : goal.invariant_of-self-2
invariant_of-self-2 g c =
    let self = c.args.self.now in
    let book = c.args.book.now in
    let b = reading_of g.B.Book book in
    let pools = sums c.costs-costs.result (balances self.accounts) in
    let sh = g.R.Rule.shares self.rule in
    let p = bill_passed self.accounts pools b (length c.args.file.now) (length c.args.statement.now) (g.met.B.Book.count_in_range book).0 (g.met.B.Book.count_in_range book).1 c.in_ok-charges.ensures.answered in
    let charges = c.in_ok-charges.charges in
    let e = c.in_ok-charges.ensures.charges in
    let lc : length charges ≡ 13 = ap length e ∙ components_length sh pools (rows_read b) 13 in
    let rest = rests_small sh g.R.Rule.STEP g.met.R.Rule.stepped (g.met.R.Rule.long self.rule) (g.met.R.Rule.idle self.rule) (g.met.R.Rule.fair self.rule) pools (rows_read b) (omega (arith, rows_length b.units 0 b.count, (g.met.B.Book.count_in_range book).1)) p.pools_in p.units_in in
    let small : (i : ℕ) → i < 13 → nat_abs (get_or charges i no_charge).balance ≤ MOST_CENTS = λ i l. subst (λ (xs : List ComponentCharge). nat_abs (get_or xs i no_charge).balance ≤ MOST_CENTS) (sym e) (rest i l) in
    rw c.close.ensures (
    record {
      count_in_range = (self.count_in_range.0, self.count_in_range.1);
      month_in_range = (self.month_in_range.0, omega (arith, self.month_in_range.1), omega (arith, p.month, (g.met.B.Book.month_in_range book).1));
      slots = closed_slots charges self.accounts lc (search rules) self.slots;
      small = closed_small charges self.accounts lc (search rules) MOST_CENTS small;
    }
    )

pub returns : goal.returns
returns g c =
    let self = c.args.self.now in
    let book = c.args.book.now in
    let b = reading_of g.B.Book book in
    let sh = g.R.Rule.shares self.rule in
    let cut = cut_by self.sheet in
    let file = c.args.file.now in
    let memory = c.args.statement.now in
    let s = state_of self file in
    let costs = c.costs-costs.result in
    let value = c.costs-costs.ensures.value in
    let charges = c.in_ok-charges.charges in
    let did = c.in_ok-charges.ensures in
    let done' = bill_done sh cut s b costs value (length memory) c.in_ok-charges.ensures.answered in
    let ec = bill_charges sh cut s b costs value charges did.charges in
    let ew = bill_cells sh cut s b costs value c.charge_book.new.statement did.cells in
    let es = bill_state sh cut s b costs value c.zero-self.result.amounts c.charge_book.new.statement c.close.new.self c.charge_book.new.file charges c.zero-self.ensures c.close.ensures did.file ec ew in
    let answered = ap done ec ∙ ap (λ (t : Answer Left). next t (λ left. done left.components)) done' in
    let state = es ∙ ap (λ (t : Answer Left). after t (λ left. left.state) s) done' in
    let cells = ew ∙ ap (λ (t : Answer Left). after t (λ left. left.cells) memory) done' in
    let rule : LawfulRule (terms_of self) = record { stepped = g.met.R.Rule.stepped; long = g.met.R.Rule.long self.rule; fair = g.met.R.Rule.fair self.rule; unused = g.met.R.Rule.unused self.rule } in
    let whole = ap sum_z (sym value) ∙ c.costs-costs.ensures.whole in
    let thirteen : length (cut self.heads.amounts) ≡ 13 = ap length (sym value) ∙ search rules in
    let kept : (h : History) → Kept (terms_of self) h s → Kept (terms_of self) (billed b c.charge_book.new.statement ∷ h) (ledger_state c.zero-self.result.amounts c.close.new.self c.charge_book.new.file) = λ h k. bill_keeps (terms_of self) rule h s (ledger_state c.zero-self.result.amounts c.close.new.self c.charge_book.new.file) b memory c.charge_book.new.statement (Ok charges) (g.met.B.Book.count_in_range book).0 (g.met.B.Book.count_in_range book).1 whole thirteen (search rules) self.slots answered state cells k in
    record {
      answered = answered;
      state = state;
      cells = cells;
      same = (refl, refl);
      promise = λ h k. (kept h k).promise;
      invariant = λ h k. (kept h k).invariant;
    }
