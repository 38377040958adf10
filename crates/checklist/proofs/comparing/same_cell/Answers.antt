use Rattle.std.proofs.Common.{[], rules}
use Rattle.checklist.proofs.comparing.same_cell.Goals as goal

pub returns : goal.returns
returns g c =
    let mine = c.cell.ensures [] [] in
    let theirs = c.cell-2.ensures [] [] in
    search rules
