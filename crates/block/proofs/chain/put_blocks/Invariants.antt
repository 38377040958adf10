use Rattle.block.proofs.chain.put_blocks.Given as goal
use Rattle.block.proofs.Reading.{Put}
use Rattle.std.specs.Slice.Iter.{chunks_rest, chunks_size}
use Rattle.std.specs.Iterator.Adapters.{enumerate_count, enumerate_source}

abbrev pub invariant-loop-k : goal.invariant-loop-k
invariant-loop-k l =
    Put l.bytes l.initial.out l.out (chunks_rest (enumerate_source l.k-iterator)) (chunks_size (enumerate_source l.k-iterator))
    (enumerate_count l.k-iterator)
