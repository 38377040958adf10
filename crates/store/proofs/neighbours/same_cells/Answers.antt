use Rattle.std.proofs.Common.{◌≡◌, ℕ, ◌+◌, List, length, ap, arith}
use Rattle.std.specs.Range.{range_inclusive_start}
use Rattle.store.specs.Cells.{Hold}
use Rattle.store.proofs.Spans.{alike_more, goes_on}
use Rattle.store.proofs.neighbours.same_cells.Goals as goal

pub loop-cell-preserved : goal.loop-cell-preserved
loop-cell-preserved g c =
    let steps = c.in-Some.ensures.steps in
    let cell : ℕ = range_inclusive_start c.loop-cell.cell-iterator.a in
    let left : List ℕ = c.loop-cell.cell-iterator.b.rest.now in
    let after = c.next.new.self in
    let later : List ℕ = after.b.rest.now in
    let one : length left ≡ length later + 1 = omega (arith, ap length steps.1) in
    let goes = goes_on after.a cell (length later) (omega arith) steps.0.1.2 in
    let cells = g.S.Store.cells c.args.store.now in
    let here : c.in-Some.cell ≡ cell = steps.0.1.0 in
    let told = c.read.ensures in
    let read : c.read.result ≡ cells cell = cc in
    record {
      room = omega arith;
      whole = alike_more (Hold cells c.args.first c.args.bytes.now) c.loop-cell.difference cell (range_inclusive_start after.a)
          c.read.result c.in-Some.byte.now left later cells read steps.1 goes c.loop-cell.invariant.whole;
    }
