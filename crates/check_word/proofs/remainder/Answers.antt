use Rattle.std.proofs.Common.{rules}
use Rattle.check_word.proofs.Remainders.{rule}
use Rattle.check_word.proofs.remainder.Goals as goal

pub returns : goal.returns
returns c = rule c.args.table.now 256 c.requires c.args.byte (search rules)
