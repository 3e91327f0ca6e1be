use Rattle.std.proofs.Common.{◌≡◌, ◌≤◌, ℕ, ◌+◌, ◌-◌, ◌*◌, length, take, drop, get_or, [], ap, rules, ◌∙◌, arith}
use Rattle.std.proofs.lemmas.List.{length-drop, length-take-le}
use Rattle.statement.specs.Columns.{column}
use Rattle.ledger.specs.Files.{lines_of}
use Rattle.ledger.proofs.ByComponent.{column_at, column_length, row_end, slot_more, slot_none}
use Rattle.ledger.proofs.rows.write_slot.Goals as goal

pub loop-place-preserved : goal.loop-place-preserved
loop-place-preserved c =
    let rows = c.args.units.now in
    let cells = c.args.cells.now in
    let i = c.loop-place.place in
    let start = i * length rows in
    let k = start + length rows - start in
    let kind = c.kind-kind.result.place in
    let n : k ≤ length (drop start cells) = omega (arith, row_end i (length rows) (omega arith), c.requires.cells, length-drop start cells) in
    let m : length (column rows kind) ≡ length (take k (drop start cells)) = omega (arith, column_length rows kind, length-take-le k (drop start cells) n) in
    let e = c.write_lines.ensures (column rows kind) m (λ j u l t. (let v : u ≡ get_or (get_or rows j []) kind 0 = search rules in v ∙ column_at rows kind j)) in
    slot_more rows cells c.requires.cells i k c.args.slot.now c.loop-place.slot c.write_lines.new.lines (omega arith) (omega arith) c.loop-place.invariant
    (e ∙ ap (λ (kind : ℕ). lines_of (column rows kind) (take k (drop start cells))) c.kind-kind.ensures)

pub loop-place-init : goal.loop-place-init
loop-place-init c = slot_none c.args.units.now c.args.cells.now c.requires.cells c.args.slot.now
