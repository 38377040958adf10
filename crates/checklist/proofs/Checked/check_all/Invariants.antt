use Rattle.std.proofs.Common.{◌≤◌}
use Rattle.checklist.proofs.Checked.check_all.Given as goal

abbrev pub invariant-loop-item : goal.invariant-loop-item
invariant-loop-item l = l.ok ≤ l.item-index
