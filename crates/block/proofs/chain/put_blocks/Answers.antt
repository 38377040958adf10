use Rattle.std.proofs.Common.{◌≡◌, ℕ, ◌-◌, ◌*◌, ◌++◌, length, take, drop, sym, ap, ◌∙◌, arith, length-drop, length-take}
use Rattle.block.specs.Block.{sealed}
use Rattle.block.proofs.chain.put_blocks.Goals as goal
use Rattle.block.proofs.Chained.{length-chained}
use Rattle.block.proofs.Reading.{all_put, one_more_put, put_fits}
use Rattle.std.specs.Slice.Iter.{chunks_rest}
use Rattle.std.specs.Iterator.Adapters.{enumerate_source}

pub put_block-requires : goal.put_block-requires
put_block-requires c =
    let steps = c.in-Some.ensures.steps in
    let rest = chunks_rest (enumerate_source c.next.new.self) in
    let fits = put_fits c.loop-k.invariant (omega (arith, c.requires)) c.in-Some.k steps.1 c.in-Some.part.now rest steps.0.1 in
    simp (length-take, length-drop) (omega arith)

pub loop-k-preserved : goal.loop-k-preserved
loop-k-preserved c =
    let steps = c.in-Some.ensures.steps in
    let rest = chunks_rest (enumerate_source c.next.new.self) in
    let i = c.in-Some.k in
    let out = c.loop-k.out in
    let put = c.put_block.ensures in
    let written : c.put_block.new.out ≡ sealed c.in-Some.part.now ++ drop c.put_block.result (take (length out - 16 * i) (drop (16 * i) out)) =
    put.written ∙ ap (λ (n : ℕ). sealed c.in-Some.part.now ++ drop n (take (length out - 16 * i) (drop (16 * i) out))) (sym put.long) in
    one_more_put c.loop-k.invariant (omega (arith, c.requires)) i steps.1 c.in-Some.part.now rest c.put_block.new.out c.put_block.result
    steps.0.1 put.long steps.0.0 steps.2 written

pub returns-clause-long : goal.returns-clause-long
returns-clause-long c = omega (arith, length-chained c.args.bytes.now)

pub returns-clause-written : goal.returns-clause-written
returns-clause-written c = all_put c.loop-k.invariant c.in-None.ensures.steps.0.1.0
