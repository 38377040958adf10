use Rattle.std.proofs.Common.{ℕ, List, length, refl, arith, rules, ◌-◌, ◌+◌}
use Rattle.block.proofs.put_block.Goals as goal
use Rattle.block.proofs.Sealed.{put_behind}

pub returns-clause-written : goal.returns-clause-written
returns-clause-written c =
    let bytes : List ℕ = c.args.bytes.now in
    let put =
    put_behind c.args.out.now bytes c.to_be_bytes.result (length bytes) (length bytes + 2 - length bytes) c.check_word.result
    refl (omega arith) c.check_word.ensures (search rules) c.to_be_bytes.ensures in
    cc
