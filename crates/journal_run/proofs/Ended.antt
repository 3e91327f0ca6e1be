-- A run that is over.
use Rattle.std.proofs.Common.{◌≡◌, ℕ, ◌*◌, List, [], ◌++◌, length, take, drop, map, replicate, ℤ, pos, Ok, Err, Result, refl, ap, sym, subst, ◌∙◌}
use Rattle.std.proofs.lemmas.List.{length-map, take_at}
use Rattle.refusal.specs.Answers.{Answer, done, refused, next, bare}
use Rattle.refusal.specs.declared.Fault.{Fault}
use Rattle.ledger.specs.Files.{file_length, no_line}
use Rattle.ledger.specs.States.{LedgerState, balances}
use Rattle.ledger.specs.Kept.{Terms, terms}
use Rattle.ledger.specs.Billing.{Cut}
use Rattle.ledger.specs.declared.line.Line.{Line}
use Rattle.sharing.specs.Shares.{Shares}
use Rattle.tariff.specs.Costs.{costs}
use Rattle.month_text.specs.declared.month.Month.{Month}
use Rattle.sharing.specs.declared.name.RuleName.{RuleName}
use Rattle.sharing.specs.declared.name.RuleName.TheVariants.{Posted, Ratio}
use Rattle.cents.specs.Cutting.{cut}
use Rattle.cents.proofs.Parts.{cut_length}
use Rattle.sharing.specs.LawsOfRules.{shared_long}
use Rattle.sharing.specs.Names.{shares_of}
use Rattle.journal_text.specs.declared.unread.Unread.{Unread}
use Rattle.journal_text.specs.declared.unread.Unread.TheVariants as unread
use Rattle.runs.specs.declared.done.Done.{Done}
use Rattle.runs.specs.Orders.{Deed, World, run_through}
use Rattle.runs.specs.Runs.{new_world, Ran}
use Rattle.journal_text.specs.Answered.{Answered}
use Rattle.journal_run.specs.Deeds.{terms_by, first_world}
use Rattle.journal_run.specs.Meanings.{deed_by_rows}
use Rattle.journal_run.specs.Runs.{blank_cells, RunOf}
use Rattle.journal_run.proofs.Alike.{ran_alike}

-- a run of orders is one of their deeds by rows
pub run_over : (t : Terms) (w : World) (deeds : List Deed) (outcomes : List (Result Done Fault)) (statements last_balances waiting : List ℤ) (s : LedgerState) → w.history ≡ [] → Ran t w deeds outcomes (blank_cells t deeds) statements s
    → length outcomes ≡ length deeds → length statements ≡ length deeds * (13 * t.members) → last_balances ≡ balances s.accounts → waiting ≡ s.heads → RunOf t w (map deed_by_rows deeds) outcomes statements last_balances waiting
run_over t w deeds outcomes statements last_balances waiting s new r lo ls eh ew =
    let plain = map deed_by_rows deeds in
    let n : length deeds ≡ length plain = sym (length-map deeds deed_by_rows) in
    let width = 13 * t.members in
    let a = ran_alike t w new deeds outcomes (blank_cells t deeds) statements s r in
    let state : s ≡ (run_through t w plain).state = a.state in
    record {
      outcomes_long = lo ∙ n;
      statements_long = ls ∙ ap (λ (k : ℕ). k * width) n;
      ran =
          subst (λ (u : LedgerState). Ran t w plain outcomes (blank_cells t plain) statements u) state
          (subst (λ (k : ℕ). Ran t w plain outcomes (replicate (k * width) (pos 0)) statements s) n a);
      balances_are = eh ∙ ap (λ (u : LedgerState). balances u.accounts) state;
      waiting_is = ew ∙ ap (λ (u : LedgerState). u.heads) state;
    }

-- a slice that was lent is written back
pub written_back : {X : Type 0} (len : ℕ) (new old : List X) → length new ≡ len → take len (new ++ drop (length new) old) ≡ new
written_back len new old e = take_at new (drop (length new) old) len e

-- a run on the ledger that a month opens
pub month_over : (shares : Shares) (step : ℕ) (m : Month) (cut : Cut) (members first : ℕ) (file : List Line) (deeds : List Deed) (outcomes : List (Result Done Fault)) (memory statements last_balances waiting : List ℤ) (s : LedgerState)
    → Ran (terms shares step cut members first) (new_world members first file) deeds outcomes memory statements s
    → members ≡ m.count → first ≡ m.month → cut ≡ costs m.sheet.division m.sheet.management m.sheet.split → file ≡ replicate (file_length m.count) no_line → memory ≡ replicate (length deeds * (13 * m.count)) (pos 0)
    → length outcomes ≡ length deeds → length statements ≡ length deeds * (13 * m.count) → last_balances ≡ balances s.accounts → waiting ≡ s.heads
    → RunOf (terms_by shares step m) (first_world m) (map deed_by_rows deeds) outcomes statements last_balances waiting
month_over shares step m cut members first file deeds outcomes memory statements last_balances waiting s r em ef ec el ez lo ls eh ew =
    run_over (terms_by shares step m) (first_world m) deeds outcomes statements last_balances waiting s refl (rw (em, ef, ec, el, ez) at r) lo ls eh ew

-- a month's sheet is the one that it was laid with
pub sheet_laid : {A : Type 0} (x : Answer A) (a b : List ℕ × List ℕ × List ℕ) → done a ≡ next x (λ _. done b) → costs a.0 a.1 a.2 ≡ costs b.0 b.1 b.2
sheet_laid (done v) a b e = let n : a ≡ b = cc in rw n refl
sheet_laid (refused n l p) a b e = cc e

-- the terms that a ledger is opened on
pub opened_on : {V A T : Type 0} (v : T) (r : Result V Unread) (x : Answer A) → Answered (λ _. tt) r (bare x) → Answered (λ _. v) r (next x (λ _. done v))
opened_on v (Ok u) (done a) e = refl
opened_on v (Ok u) (refused n l p) e = cc e
opened_on v (Err (unread.Line f)) (done a) e = cc e
opened_on v (Err (unread.Line f)) (refused n l p) e = cc
opened_on v (Err unread.Memory) x e = tt

-- either rule shares to each member
pub shares_long : (r : RuleName) (p : ℤ) (us : List ℕ) → length (shares_of r p us) ≡ length us
shares_long Posted p us = shared_long p us _ (length-map us _)
shares_long Ratio p us = shared_long p us (cut p us) (cut_length p us)
