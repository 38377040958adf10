use Rattle.std.proofs.Common.{drop}
use Rattle.readings.proofs.copy_readings.Given as goal
use Rattle.readings.proofs.Copied.{Copied}
use Rattle.readings.specs.Readings.{lengths, masked}

abbrev pub invariant-loop-n : goal.invariant-loop-n
invariant-loop-n l =
    Copied l.bits l.from l.at (drop l.n-index lengths) l.readings l.out l.initial.out (masked l.mask l.readings)
