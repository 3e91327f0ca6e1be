-- A whole run: the text of its orders, and the cents of its history.
use Rattle.std.proofs.Common.{◌≡◌, ℕ, suc, ◌*◌, ◌<◌, true, List, [], ◌∷◌, ◌++◌, length, get_or, take, drop, ℤ, ◌+ℤ◌, ◌-ℤ◌, nat_abs, Ok, Result, refl, ap, ◌∙◌, arith}
use borrow.Author.Differences.{ints}
use Rattle.std.proofs.lemmas.List.{length-map, length-take-le, length-drop}
use Rattle.std.proofs.lemmas.Bool.{eq-eqb}
use Rattle.refusal.specs.Answers.{answer}
use Rattle.refusal.specs.declared.Fault.{Fault}
use Rattle.cents.specs.Cutting.{sum_z}
use Rattle.journal_text.specs.declared.entry.Entry.{Entry}
use Rattle.ledger.specs.Files.{part}
use Rattle.ledger.specs.States.{balances}
use Rattle.ledger.specs.Histories.{cents_booked, cents_billed}
use Rattle.ledger.specs.Kept.{Terms}
use Rattle.runs.specs.declared.done.Done.{Done}
use Rattle.runs.specs.declared.done.Done.TheVariants as ended
use Rattle.runs.specs.Orders.{World, carried, reached, run_through, cells_after, answer_of}
use Rattle.runs.specs.Runs.{no_deed, before}
use Rattle.journal_run.specs.Deeds.{EntryOrder, order_entries, deeds_of}
use Rattle.journal_run.specs.Printed.{order_text, orders_text, account_text, last_world, run_text}
use Rattle.journal_run.specs.Outcomes.{agrees, account_lines}
use Rattle.journal_run.specs.JournalRuns.{EachFromEntry, JournalRun}
use Rattle.journal_run.specs.declared.run_result.RunResult.{RunResult}
use Rattle.journal_run.proofs.Progress.{outcomes_text, outcomes_booked, outcomes_billed, part_first, part_behind}
use Rattle.journal_run.proofs.Carried.{order_printed}

record RunPrinted (t : Terms) (w : World) (orders : List EntryOrder) (outcomes : List (Result Done Fault)) (cells : List ℤ) : Type 0 where
  text : outcomes_text (13 * t.members) (order_entries orders) outcomes cells ≡ orders_text t w orders
  cents_in : cents_booked (run_through t w (deeds_of orders)).history ≡ outcomes_booked (order_entries orders) outcomes +ℤ cents_booked w.history
  cents_out : cents_billed (run_through t w (deeds_of orders)).history ≡ outcomes_billed (13 * t.members) (order_entries orders) outcomes cells +ℤ cents_billed w.history

module _ (t : Terms) (long : (p : ℤ) (us : List ℕ) → length (t.shares p us) ≡ length us) where
  abbrev width : ℕ
  width = 13 * t.members

  run_printed : (orders : List EntryOrder) (w : World) (outcomes : List (Result Done Fault)) (rows : ℕ → List ℤ) (cells : List ℤ) → EachFromEntry orders → length outcomes ≡ length orders → length cells ≡ length orders * width
      → ((i : ℕ) → i < length orders → answer (get_or outcomes i (Ok ended.Booked)) ≡ answer_of t (before t w (deeds_of orders) i) (get_or (deeds_of orders) i no_deed))
      → ((i : ℕ) → i < length orders → part (i * width) width cells ≡ cells_after t (before t w (deeds_of orders) i) (get_or (deeds_of orders) i no_deed) (rows i))
      → RunPrinted t w orders outcomes cells
  run_printed [] w outcomes rows cells gives n m a z = record { text = refl; cents_in = omega (arith, ints); cents_out = omega (arith, ints) }
  run_printed (o ∷ orders) w [] rows cells gives n m a z = absurd (omega arith)
  run_printed (o ∷ orders) w (r ∷ outcomes) rows cells gives n m a z =
      let wide : length (take width cells) ≡ width = length-take-le width cells (omega (arith, m)) in
      let row = part_first width cells ∙ z 0 (omega arith) in
      let first = order_printed t long w.state o.0 (rows 0) (take width cells) wide o.1 r gives.0 (a 0 (omega arith)) row in
      let w' = reached t w o.1 in
      let rest = run_printed orders w' outcomes (λ i. rows (suc i)) (drop width cells) gives.1 (omega arith) (omega (arith, m, length-drop width cells))
      (λ i l. a (suc i) (omega arith))
      (λ i l. part_behind width i cells ∙ z (suc i) (omega arith)) in
      let p = first.cents_in w.history in
      let q = first.cents_out w.history in
      let p' = rest.cents_in in
      let q' = rest.cents_out in
      record {
        text = ap (λ (x : List ℕ). x ++ outcomes_text width (order_entries orders) outcomes (drop width cells)) first.text ∙ ap (λ (x : List ℕ). order_text o.0 o.1 (carried t w.state o.1) ++ x) rest.text;
        cents_in = omega (arith, ints, p, p');
        cents_out = omega (arith, ints, q, q');
      }

-- the accounts of a ledger agree
account_printed : (booked billed : ℤ) (w : World) → booked ≡ billed +ℤ sum_z (balances w.state.accounts) +ℤ sum_z w.state.heads → booked ≡ cents_booked w.history → billed ≡ cents_billed w.history
    → account_lines booked billed (balances w.state.accounts) w.state.heads ≡ account_text w
account_printed booked billed w adds ein out =
    let unbilled = sum_z (balances w.state.accounts) +ℤ sum_z w.state.heads in
    let none : nat_abs (billed +ℤ unbilled -ℤ booked) ≡ 0 = omega (arith, ints, adds) in
    let agree : agrees booked billed unbilled ≡ true = eq-eqb (nat_abs (billed +ℤ unbilled -ℤ booked)) 0 none in
    rw (agree, ein, out) refl

-- what is printed of a run that left these outcomes, cells and accounts
pub text_printed : (t : Terms) (w : World) (orders : List EntryOrder) (entries : List Entry) (ran : RunResult) → length ran.outcomes.items ≡ length entries → length ran.statements.items ≡ length ran.outcomes.items * ran.width
    → JournalRun t w orders entries ran
    → outcomes_text ran.width entries ran.outcomes.items ran.statements.items ++ account_lines (outcomes_booked entries ran.outcomes.items) (outcomes_billed ran.width entries ran.outcomes.items ran.statements.items) ran.balances ran.waiting
    ≡ run_text t w orders
text_printed t w orders entries ran n m a =
    let w' = last_world t w orders in
    let outcomes = ran.outcomes.items in
    let cells = ran.statements.items in
    let count : length outcomes ≡ length orders = n ∙ ap length a.entries_are ∙ length-map orders (λ (o : EntryOrder). o.0) in
    let whole : length cells ≡ length orders * (13 * t.members) = m ∙ rw (count, a.wide) refl in
    let r = run_printed t a.long orders w outcomes a.memories cells a.from_entries count whole a.outcome a.cell in
    let none_in = ap cents_booked a.new in
    let none_out = ap cents_billed a.new in
    let p = r.cents_in in
    let q = r.cents_out in
    let booked = outcomes_booked (order_entries orders) outcomes in
    let billed = outcomes_billed (13 * t.members) (order_entries orders) outcomes cells in
    let in' : booked ≡ cents_booked w'.history = omega (arith, ints, p, none_in) in
    let out : billed ≡ cents_billed w'.history = omega (arith, ints, q, none_out) in
    let adds : booked ≡ billed +ℤ sum_z (balances w'.state.accounts) +ℤ sum_z w'.state.heads = rw (in', out, ← a.balances_are, ← a.waiting_is) a.adds_up in
    rw (a.entries_are, a.wide, a.balances_are, a.waiting_is)
    (ap (λ (x : List ℕ). x ++ account_lines booked billed (balances w'.state.accounts) w'.state.heads) r.text
    ∙ ap (λ (x : List ℕ). orders_text t w orders ++ x) (account_printed booked billed w' adds in' out))
