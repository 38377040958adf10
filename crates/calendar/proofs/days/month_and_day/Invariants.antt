use Rattle.std.proofs.Common.{◌≡◌, ◌+◌}
use Rattle.calendar.specs.Dates.{before, month_days}
use Rattle.calendar.proofs.days.month_and_day.Given as goal

abbrev pub invariant-loop-month : goal.invariant-loop-month
invariant-loop-month l = before (month_days l.year) l.month + l.left ≡ l.day
