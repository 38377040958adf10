use Rattle.std.proofs.Common.{ℕ, ◌+◌, ◌-◌, ◌*◌, length, refl, ◌∙◌, arith, rules}
use Rattle.block.proofs.chain.take_bytes.Goals as goal
use Rattle.block.proofs.Chained.{count}
use Rattle.block.proofs.Reading.{all_read, next_long, next_taken}
use Rattle.std.specs.Slice.Iter.{chunks_rest}
use Rattle.std.specs.Iterator.Adapters.{enumerate_source}

pub overflow_sub-n : goal.overflow_sub-n
overflow_sub-n c =
    let inv = c.loop-k.invariant in
    let steps = c.in-Some.ensures.steps in
    let rest = chunks_rest (enumerate_source c.next.new.self) in
    (next_long (inv.1 c.requires.0 c.requires.1) inv.0 c.in-Some.k steps.1 c.in-Some.block.now rest steps.0.1).0

pub slice_bounds-copy_from_slice-end : goal.slice_bounds-copy_from_slice-end
slice_bounds-copy_from_slice-end c =
    let inv = c.loop-k.invariant in
    let steps = c.in-Some.ensures.steps in
    let rest = chunks_rest (enumerate_source c.next.new.self) in
    let t = (next_long (inv.1 c.requires.0 c.requires.1) inv.0 c.in-Some.k steps.1 c.in-Some.block.now rest steps.0.1).1 in
    let v = c.requires.2 in
    search rules

pub loop-k-preserved : goal.loop-k-preserved
loop-k-preserved c =
    let inv = c.loop-k.invariant in
    let steps = c.in-Some.ensures.steps in
    let rest = chunks_rest (enumerate_source c.next.new.self) in
    let at : ℕ = 14 * c.in-Some.k in
    let n : ℕ = length c.in-Some.block.now - 2 in (
      steps.0.0 ∙ inv.0,
      λ bytes is.
          next_taken (inv.1 bytes is) inv.0 c.in-Some.k steps.1 c.in-Some.block.now rest c.copy_from_slice.new.self n (at + n - at)
          steps.0.1 steps.2 refl (omega arith) c.copy_from_slice.ensures.after,
    )

pub overflow_sub-result : goal.overflow_sub-result
overflow_sub-result c = (count c.args.blocks.now c.requires.0 c.div_ceil.result c.requires.1 c.div_ceil.ensures).0

pub returns : goal.returns
returns c =
    λ bytes is. (
      (count c.args.blocks.now bytes c.div_ceil.result is c.div_ceil.ensures).1,
      all_read (c.loop-k.invariant.1 bytes is) c.loop-k.invariant.0 c.in-None.ensures.steps.0.1.0,
    )
