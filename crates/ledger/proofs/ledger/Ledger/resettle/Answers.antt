use Rattle.std.proofs.Common.{◌≡◌, ℕ, ◌+◌, ◌-◌, ◌≤◌, true, List, ◌∷◌, length, ℤ, nat_abs, Ok, sym, refl, ap, ◌∙◌, subst, w64, rules}
use Rattle.std.proofs.lemmas.Int.{to_z-of_z}
use Rattle.refusal.specs.Answers.{Answer, done, bare, after}
use Rattle.cents.proofs.Options.{cond_some}
use Rattle.ledger.specs.declared.account.Account.{Account}
use Rattle.ledger.specs.declared.accounts.Accounts.{Accounts}
use Rattle.ledger.specs.declared.line.Line.{Line}
use Rattle.ledger.specs.Readings.{reading_of, units_read}
use Rattle.ledger.specs.States.{ledger_state, account_at, is_on_file}
use Rattle.ledger.specs.Billing.{Left, memory_rule}
use Rattle.ledger.specs.Resettling.{reconciled, lines_at, shares_again, change_rule, settled}
use Rattle.ledger.specs.Histories.{History, resettled}
use Rattle.ledger.specs.Kept.{Kept}
use Rattle.ledger.proofs.Resettled.{change_passed, settled_all, reconciled_place, resettle_is}
use Rattle.ledger.proofs.ResettlementKeeps.{resettle_keeps}
use Rattle.ledger.proofs.Lawful.{LawfulRule}
use Rattle.ledger.specs.Ledgers.{state_of, terms_of}
use Rattle.ledger.proofs.ledger.Ledger.resettle.Goals as goal
use Rattle.limits.specs.declared.TheConstants.{MONTHS_ON_FILE, MOST_CENTS}

pub invariant_of-self-2 : goal.invariant_of-self-2
invariant_of-self-2 g c =
    let self = c.args.self.now in
    let a = self.accounts in
    let left = c.in_ok-left.left in
    let z = to_z-of_z w64 left (search rules) in
    let book = c.args.book.now in
    let b = reading_of g.B.Book book in
    let i = c.in-Some.component.place in
    let small = (change_passed (i + 1) (units_read b i) (shares_again (g.R.Rule.shares self.rule) a b i) (account_at a i).balance (lines_at a c.args.file.now b i) left c.in_ok-left.ensures.answered).3 in
    let e = c.settle.ensures ∙ ap (λ (x : ℤ). settled i x a) z in
    rw e (
    record {
      count_in_range = (self.count_in_range.0, self.count_in_range.1);
      month_in_range = (self.month_in_range.0, self.month_in_range.1, self.month_in_range.2);
      slots = λ d l. settled_all i left a c.in-Some.component.below (search rules) (λ (x : Account). length x.pools ≡ MONTHS_ON_FILE) (self.slots i c.in-Some.component.below) d (self.slots d l);
      small = λ d. settled_all i left a c.in-Some.component.below (search rules) (λ (x : Account). nat_abs x.balance ≤ MOST_CENTS) small d (self.small d);
    }
    )

pub returns : goal.returns
returns g c =
    let self = c.args.self.now in
    let a = self.accounts in
    let file = c.args.file.now in
    let memory = c.args.statement.now in
    let book = c.args.book.now in
    let b = reading_of g.B.Book book in
    let sh = g.R.Rule.shares self.rule in
    let s = state_of self file in
    let component = c.args.component in
    let i = component - 1 in
    let k = cond_some (reconciled component) i c.in-Some.component.place c.in-Some.ensures in
    let r = k.0 in
    let p = reconciled_place component r in
    let m : done tt ≡ memory_rule a.members (length file) (length memory) a.members b.count = c.in_ok-check_memory.ensures in
    let o : is_on_file a b.month ≡ true = sym (c.if-not-is_on_file.ensures ∙ ap (is_on_file a) c.month.ensures) in
    let rule : LawfulRule (terms_of self) = record { stepped = g.met.R.Rule.stepped; long = g.met.R.Rule.long self.rule; fair = g.met.R.Rule.fair self.rule; unused = g.met.R.Rule.unused self.rule } in
    let change : ℕ → Answer ℤ = λ n. change_rule n (units_read b i) (shares_again sh a b i) (account_at a i).balance (lines_at a file b i) in
    let left = c.in_ok-left.left in
    let z = to_z-of_z w64 left (search rules) in
    let h = subst (λ (n : ℕ). done left ≡ change n) p.1 (rw k.1 at c.in_ok-left.ensures.answered) in
    let d = resettle_is sh s b component (length memory) (done left) r m o h in
    let e = rw k.1 at (c.settle.ensures ∙ ap (λ (x : ℤ). settled c.in-Some.component.place x a) z) in
    let ef = rw k.1 at c.in_ok-left.ensures.file in
    let ec = rw k.1 at c.in_ok-left.ensures.cells in
    let new = ledger_state self.heads.amounts c.settle.new.self c.resettle_lines.new.file in
    let answered = ap bare d in
    let state = ap (λ (x : Accounts). ledger_state self.heads.amounts x c.resettle_lines.new.file) e ∙ ap (λ (f : List Line). ledger_state self.heads.amounts (settled i left a) f) ef ∙ ap (λ (t : Answer Left). after t (λ left. left.state) s) d in
    let cells = ec ∙ ap (λ (t : Answer Left). after t (λ left. left.cells) memory) d in
    let kept : (h : History) → Kept (terms_of self) h s → Kept (terms_of self) (resettled i b c.resettle_lines.new.statement ∷ h) new = λ h k. resettle_keeps (terms_of self) rule h s new b component memory c.resettle_lines.new.statement (Ok tt) (search rules) answered state cells k in
    record {
      answered = answered;
      state = state;
      cells = cells;
      same = (refl, refl);
      promise = λ h k. (kept h k).promise;
      invariant = λ h k. (kept h k).invariant;
    }
