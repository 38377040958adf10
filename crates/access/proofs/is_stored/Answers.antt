use Rattle.std.proofs.Common.{ℕ, Decides, subst}
use Rattle.access.proofs.Four.{four}
use Rattle.access.proofs.is_stored.Goals as goal
use Rattle.store.specs.Cells.{Hold}

pub returns : goal.returns
returns g c =
    let cells = g.S.Store.cells c.args.store.now in
    let bytes = c.args.tried.now.bytes.now in
    let D : ℕ → Type 0 = λ first. Decides c.same_cells.result (Hold cells first bytes) in
    four cells _ bytes c.same_cells.result c.requires (subst D c.first_cell.ensures c.same_cells.ensures)
