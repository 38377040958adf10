use Rattle.std.proofs.Common.{◌≡◌, ◌≤◌, ◌-◌, length, ◌↔◌}
use Rattle.std.specs.Range.{range_inclusive_left, range_inclusive_start}
use Rattle.store.specs.Cells.{Hold}
use Rattle.store.proofs.neighbours.same_cells.Given as goal

-- no difference so far, and none in the bytes that are left, is none in the whole
abbrev pub invariant-loop-cell : goal.invariant-loop-cell
invariant-loop-cell g l = record {
  room : length l.cell-iterator.b.rest.now ≤ range_inclusive_left (λ a b. b - a) l.cell-iterator.a;
  whole : (l.difference ≡ 0) × Hold (g.S.Store.cells l.store) (range_inclusive_start l.cell-iterator.a) l.cell-iterator.b.rest.now
      ↔ Hold (g.S.Store.cells l.store) l.first l.bytes;
}
