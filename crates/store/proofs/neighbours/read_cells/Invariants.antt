use Rattle.std.proofs.Common.{◌≡◌, ℕ, ◌+◌, ◌<◌, take}
use Rattle.store.specs.Cells.{span}
use Rattle.store.proofs.neighbours.read_cells.Given as goal

abbrev pub invariant-loop-i : goal.invariant-loop-i
invariant-loop-i g l =
    (take l.i l.out ≡ span (g.S.Store.cells l.store) l.first l.i)
    × ((j : ℕ) → j < l.i → g.S.Store.cells l.store (l.first + j) < 256)
