use Rattle.std.proofs.Common.{rules, arith, ◌≡◌, ◌+◌, length, slice_get}
use Rattle.std.specs.Option.{option_copied}
use Rattle.std.proofs.lemmas.List.Elements.{All-push}
use Rattle.refusal.specs.Answers.{number}
use Rattle.month_text.specs.Accepted.{InRange}
use Rattle.month_text.specs.OneSpelling.{breaks}
use Rattle.journal_text.specs.declared.entry.Entry.{Entry}
use Rattle.journal_text.specs.Pieces.{lines_on}
use Rattle.journal_text.specs.Journals.{read_journal}
use Rattle.journal_text.proofs.Reading.{at_start, stopped_none, stopped_month, stopped_terms, ended, went_on}
use Rattle.journal_text.proofs.Counted.{counted_on, some_left}
use Rattle.journal_text.proofs.Refused.{answered_line}
use Rattle.journal_text.proofs.reader.read_journal.Goals as goal

pub loop-piece-init : goal.loop-piece-init
loop-piece-init c = record {
  answered = rw c.new-entries.ensures.items (at_start c.args.text.now);
  range = rw c.new-entries.ensures.items (λ k d h. absurd (omega arith));
}

pub returns-in_default-clause-answered : goal.returns-in_default-clause-answered
returns-in_default-clause-answered c =
    let f : option_copied c.first.result ≡ slice_get c.loop-piece.entries.items 0 = search rules in
    rw c.refuses_at.ensures
    (stopped_none c.args.text.now c.loop-piece.rest.now c.loop-piece.entries.items (option_copied c.first.result) c.loop-piece.line c.loop-piece.invariant.answered f c.in_default.ensures.action)

pub returns-in_err-entry-clause-answered : goal.returns-in_err-entry-clause-answered
returns-in_err-entry-clause-answered c =
    let f : option_copied c.first.result ≡ slice_get c.loop-piece.entries.items 0 = search rules in
    let p = c.in-Some.piece in
    let e = c.in-Some.ensures in
    let w = c.in_err-entry.field-0.0 in
    answered_line (λ v. v.items) c.from_residual.result w (read_journal c.args.text.now) c.from_residual.ensures
    (stopped_month c.args.text.now c.loop-piece.rest.now p.month.now p.rest.now c.loop-piece.entries.items (option_copied c.first.result) c.loop-piece.line p.action c.loop-piece.invariant.answered f e.action e.month e.rest
    (number w.refusal) w.layer w.place c.in_err-entry.ensures.value)

pub returns-in_err-check_terms-clause-answered : goal.returns-in_err-check_terms-clause-answered
returns-in_err-check_terms-clause-answered c =
    let f : option_copied c.first.result ≡ slice_get c.loop-piece.entries.items 0 = search rules in
    let h : option_copied c.first-in-loop-piece.result ≡ option_copied c.first.result = search rules in
    let p = c.in-Some.piece in
    let e = c.in-Some.ensures in
    let w = c.in_err-check_terms.field-0.0 in
    answered_line (λ v. v.items) c.from_residual-in_err-check_terms.result w (read_journal c.args.text.now) c.from_residual-in_err-check_terms.ensures
    (stopped_terms c.args.text.now c.loop-piece.rest.now p.month.now p.rest.now c.loop-piece.entries.items (option_copied c.first.result) c.loop-piece.line p.action c.loop-piece.invariant.answered f e.action e.month e.rest
    c.in_ok-entry.entry (number w.refusal) w.layer w.place c.in_ok-entry.ensures.value (rw (← h) c.in_err-check_terms.ensures))

pub returns-then-is_empty-clause-answered : goal.returns-then-is_empty-clause-answered
returns-then-is_empty-clause-answered c =
    let f : option_copied c.first.result ≡ slice_get c.loop-piece.entries.items 0 = search rules in
    let h : option_copied c.first-in-loop-piece.result ≡ option_copied c.first.result = search rules in
    let p = c.in-Some.piece in
    let e = c.in-Some.ensures in
    rw c.in_ok-push.ensures.items
    (ended c.args.text.now c.loop-piece.rest.now p.month.now p.rest.now c.loop-piece.entries.items (option_copied c.first.result) c.loop-piece.line p.action c.loop-piece.invariant.answered f e.action e.month e.rest
    c.in_ok-entry.entry c.in_ok-entry.ensures.value (rw (← h) c.in_ok-check_terms.ensures) (search rules))

pub loop-piece-preserved : goal.loop-piece-preserved
loop-piece-preserved c =
    let f : option_copied c.first.result ≡ slice_get c.loop-piece.entries.items 0 = search rules in
    let h : option_copied c.first-in-loop-piece.result ≡ option_copied c.first.result = search rules in
    let p = c.in-Some.piece in
    let e = c.in-Some.ensures in
    let n : c.saturating_add-line.result ≡ lines_on c.loop-piece.line (breaks p.month.now + 1) = counted_on c.loop-piece.line c.line_count.result c.saturating_add-lines.result c.saturating_add-line.result (breaks p.month.now) c.line_count.ensures c.saturating_add-lines.ensures c.saturating_add-line.ensures in
    let s = some_left (length p.rest.now) c.is_empty.result c.is_empty.ensures c.if-is_empty.false in
    let t = went_on c.args.text.now c.loop-piece.rest.now p.month.now p.rest.now c.loop-piece.entries.items (option_copied c.first.result) c.loop-piece.line p.action c.loop-piece.invariant.answered f e.action e.month e.rest
    c.in_ok-entry.entry c.saturating_add-line.result c.in_ok-entry.ensures.value (rw (← h) c.in_ok-check_terms.ensures) s n in
    record {
      answered = rw c.in_ok-push.ensures.items t;
      range = rw c.in_ok-push.ensures.items (All-push (λ (v : Entry). InRange v.month) c.loop-piece.entries.items c.in_ok-entry.entry c.loop-piece.invariant.range c.in_ok-entry.ensures.range);
    }

pub returns-then-is_empty-clause-range : goal.returns-then-is_empty-clause-range
returns-then-is_empty-clause-range c = rw c.in_ok-push.ensures.items (All-push (λ (v : Entry). InRange v.month) c.loop-piece.entries.items c.in_ok-entry.entry c.loop-piece.invariant.range c.in_ok-entry.ensures.range)
