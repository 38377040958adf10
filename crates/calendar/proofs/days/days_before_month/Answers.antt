use Rattle.std.proofs.Common.{◌≡◌, ◌^◌, ◌∙◌, sum, map, arith, rules}
use Rattle.std.proofs.lemmas.Iterator.{YieldsList-from_map, YieldsList-from_range}
use Rattle.std.proofs.lemmas.Iterator.Consumers.{fits_from_yields_list, sum_from_yields_List}
use Rattle.std.specs.List.{range_with_len}
use Rattle.calendar.specs.Dates.{month_days}
use Rattle.calendar.proofs.Counts.{before_sum}
use Rattle.calendar.proofs.Years.{before_most}
use Rattle.calendar.proofs.days.days_before_month.Goals as goal

pub sum-requires-clause-fits : goal.sum-requires-clause-fits
sum-requires-clause-fits c =
    let all = before_sum (month_days c.args.year) c.args.month in
    fits_from_yields_list c.map.result (2 ^ 16)
    (YieldsList-from_map _ (month_days c.args.year) (YieldsList-from_range 0 c.args.month c.args.month (cc) (omega arith)) c.map.ensures.closure (λ x r q k. search rules))
    (omega (arith, before_most c.args.year c.args.month))

pub returns : goal.returns
returns c =
    let total : c.sum.result ≡ sum (map (month_days c.args.year) (range_with_len 0 c.args.month)) =
    sum_from_yields_List c.map.result c.sum.result c.sum.ensures.ran (YieldsList-from_map _ (month_days c.args.year) (YieldsList-from_range 0 c.args.month c.args.month (cc) (omega arith)) c.map.ensures.closure (λ x r q k. search rules)) in
    total ∙ before_sum (month_days c.args.year) c.args.month
