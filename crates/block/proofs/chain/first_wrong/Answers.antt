use Rattle.std.proofs.Common.{rules}
use Rattle.block.proofs.chain.first_wrong.Goals as goal
use Rattle.block.proofs.Reading.{found, parts_of}

pub returns : goal.returns
returns c =
    let e = c.chunks.ensures in
    found c.args.blocks.now c.position.result c.position.ensures.runs (parts_of e.runs e.size e.rest) (λ a b f' k. search rules)
