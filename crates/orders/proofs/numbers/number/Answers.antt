use Rattle.std.proofs.Common.{arith}
use Rattle.std.proofs.lemmas.Grind.{common_steps}
use Rattle.orders.proofs.numbers.number.Goals as goal
use Rattle.orders.proofs.Digits.{nothing_behind}

pub returns-then-is_empty : goal.returns-then-is_empty
returns-then-is_empty c = grind (arith, common_steps, nothing_behind)
