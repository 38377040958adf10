use Rattle.std.proofs.Common.{rules}
use Rattle.orders.proofs.Digits.{read}
use Rattle.orders.proofs.numbers.value_of.Goals as goal
use Rattle.std.proofs.lemmas.Iterator.{YieldsList-from_slice}

pub returns : goal.returns
returns c =
    read _ _ c.args.base c.args.greatest c.requires (λ b x v f' k. search rules) c.args.digits.now c.iter.result _ c.try_fold.result
    c.try_fold.ensures.ran (YieldsList-from_slice c.args.digits.now c.iter.ensures.rest)
