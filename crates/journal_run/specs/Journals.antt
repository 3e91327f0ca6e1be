-- What is printed in answer to a journal.
use Rattle.std.specs.Prelude.{◌≡◌, ℕ, List, [], ◌∷◌}
use Rattle.refusal.specs.Answers.{Answer, done, next, bare}
use Rattle.journal_text.specs.declared.entry.Entry.{Entry}
use Rattle.journal_text.specs.Journals.{read_journal}
use Rattle.month_bill.specs.Outcome.{text_of}
use Rattle.journal_run.specs.Deeds.{orders_of, opening, first_world}
use Rattle.journal_run.specs.Printed.{run_text}

-- the entries' orders are carried out on a ledger that the first month opens, and the accounts end the text
abbrev pub entries_text : List Entry → Answer (List ℕ)
entries_text [] = done []
entries_text (e ∷ entries) =
    next (orders_of (e ∷ entries)) (λ orders.
    next (opening e.month) (λ t.
    done (run_text t (first_world e.month) orders)))

-- the text is read, and its entries are run
abbrev pub run_journal : List ℕ → Answer (List ℕ)
run_journal text = next (read_journal text) entries_text

-- a journal that is read is run: nothing refuses it any more
abbrev pub RunOnceRead : List ℕ → Type 0
RunOnceRead text = (entries : List Entry) → read_journal text ≡ done entries → bare (entries_text entries) ≡ done tt

-- the first refusal is printed instead
abbrev pub journal_answer : List ℕ → List ℕ
journal_answer text = text_of (run_journal text)
