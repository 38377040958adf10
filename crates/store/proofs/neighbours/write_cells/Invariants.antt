use Rattle.std.proofs.Common.{◌≡◌, ℕ, ◌+◌, ◌≤◌, length}
use Rattle.store.specs.Cells.{laid}
use Rattle.store.proofs.neighbours.write_cells.Given as goal

-- the bytes that are left, laid over the cells so far, make the whole
abbrev pub invariant-loop-cell : goal.invariant-loop-cell
invariant-loop-cell g l = record {
  room : l.cell-iterator.a.start + length l.cell-iterator.b.rest.now ≤ 256;
  whole : (k : ℕ) → laid l.cell-iterator.a.start l.cell-iterator.b.rest.now (g.S.Store.cells l.store) k ≡ laid l.first l.bytes (g.S.Store.cells l.initial.store) k;
}
