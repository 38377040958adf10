use Rattle.std.proofs.Common.{◌≡◌, ℕ, List}
use Rattle.block.specs.Chain.{chained}
use Rattle.block.proofs.chain.take_bytes.Given as goal
use Rattle.block.proofs.Reading.{TakenFrom}
use Rattle.std.specs.Slice.Iter.{chunks_rest, chunks_size}
use Rattle.std.specs.Iterator.Adapters.{enumerate_count, enumerate_source}

abbrev pub invariant-loop-k : goal.invariant-loop-k
invariant-loop-k l =
    (chunks_size (enumerate_source l.k-iterator) ≡ 16)
    × ((bytes : List ℕ) → l.blocks ≡ chained bytes →
    TakenFrom bytes l.initial.out l.out (chunks_rest (enumerate_source l.k-iterator)) (enumerate_count l.k-iterator))
