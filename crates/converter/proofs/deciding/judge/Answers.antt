use Rattle.std.proofs.Common.{◌≡◌, true, sym, ◌∙◌}
use Rattle.converter.proofs.deciding.judge.Goals as goal
use Rattle.converter.specs.Hearing.{carried}

pub returns-in-Own-clause-told : goal.returns-in-Own-clause-told
returns-in-Own-clause-told g c events gaps = rw c.in-Own.is (c.in_row.ensures.told events gaps)

pub returns-in-Own-clause-moves : goal.returns-in-Own-clause-moves
returns-in-Own-clause-moves g c events gaps = rw c.in-Own.is (c.in_row.ensures.moves events gaps)

pub returns-then-is_carried-clause-told : goal.returns-then-is_carried-clause-told
returns-then-is_carried-clause-told g c events gaps =
    let t : carried c.args.frame.now.command ≡ true = sym c.is_carried.ensures ∙ c.if-is_carried.true in
    rw (c.in-Broadcast.is, t) (c.in_row-then-is_carried.ensures.told events gaps)

pub returns-then-is_carried-clause-moves : goal.returns-then-is_carried-clause-moves
returns-then-is_carried-clause-moves g c events gaps = rw c.in-Broadcast.is (c.in_row-then-is_carried.ensures.moves events gaps)
