use Rattle.std.proofs.Common.{◌≡◌, ◌+◌, ◌<◌, arith, rules}
use Rattle.calendar.specs.Dates.{before, day_of_month, month_days, month_of}
use Rattle.calendar.proofs.Counts.{before_next}
use Rattle.calendar.proofs.Years.{in_december, in_month}
use Rattle.calendar.proofs.days.month_and_day.Goals as goal

pub loop-month-init : goal.loop-month-init
unfolding before month_days
loop-month-init c = omega arith

pub returns-then-left-days : goal.returns-then-left-days
returns-then-left-days c =
    let there = in_month c.args.year c.loop-month.month c.loop-month.left c.args.day (omega arith) c.loop-month.invariant (omega arith) in
    record { month = there.0; day = there.1 }

pub loop-month-preserved : goal.loop-month-preserved
loop-month-preserved c = omega (arith, before_next (month_days c.args.year) c.loop-month.month)

december : (c : goal.After-loop-month) →
    (c.loop-month.left < 31) × (12 ≡ month_of c.args.year c.args.day) × (c.loop-month.left + 1 ≡ day_of_month c.args.year c.args.day)
december c =
    in_december c.args.year c.loop-month.month c.loop-month.left c.args.day (omega arith) (omega arith) c.loop-month.invariant c.requires

pub overflow_cast-result-2 : goal.overflow_cast-result-2
overflow_cast-result-2 c = let few = (december c).0 in search rules

pub overflow_add-result-2 : goal.overflow_add-result-2
overflow_add-result-2 c = let few = (december c).0 in search rules

pub returns : goal.returns
returns c = record { month = (december c).1; day = (december c).2 }
