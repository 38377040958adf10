use Rattle.std.proofs.Common.{◌≡◌, ℕ, ◌+◌, List, length, ap, inr, arith}
use Rattle.store.proofs.Spans.{laid_more}
use Rattle.store.proofs.neighbours.write_cells.Goals as goal

pub loop-cell-preserved : goal.loop-cell-preserved
loop-cell-preserved g c =
    let steps = c.in-Some.ensures.steps in
    let after = c.next.new.self in
    let later : List ℕ = after.b.rest.now in
    let one : length c.loop-cell.cell-iterator.b.rest.now ≡ length later + 1 = omega (arith, ap length steps.1) in
    record {
      room = omega arith;
      whole = λ k.
          let more = laid_more c.in-Some.cell after.a.start c.in-Some.byte.now later (g.S.Store.cells c.loop-cell.store) k (inr steps.0.1) in
          let here = steps.0.0 in
          let written = c.write.ensures k in
          let so_far = c.loop-cell.invariant.whole k in
          cc;
    }
