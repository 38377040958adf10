use Rattle.std.proofs.Common.{rules}
use Rattle.calendar.specs.Dates.{moment}
use Rattle.calendar.proofs.Inverse.{bounds}
use Rattle.calendar.proofs.DateTime.moment.Goals as goal

pub overflow_add-days : goal.overflow_add-days
overflow_add-days c = let known = bounds c.args.self c.requires in search rules

pub overflow_sub-days : goal.overflow_sub-days
overflow_sub-days c = let known = bounds c.args.self c.requires in search rules

pub overflow_add-days-2 : goal.overflow_add-days-2
overflow_add-days-2 c = let known = bounds c.args.self c.requires in search rules

pub overflow_mul-result : goal.overflow_mul-result
overflow_mul-result c = let known = bounds c.args.self c.requires in search rules

pub overflow_add-result : goal.overflow_add-result
overflow_add-result c = let known = bounds c.args.self c.requires in search rules

pub overflow_add-result-2 : goal.overflow_add-result-2
overflow_add-result-2 c = let known = bounds c.args.self c.requires in search rules

pub returns : goal.returns
unfolding moment
returns c = search rules
