use Rattle.hex_text.proofs.read_line.Given as goal
use Rattle.hex_text.proofs.Steps.{Sofar}
use Rattle.std.proofs.Common.{vec_items}

abbrev pub invariant-loop-i : goal.invariant-loop-i
invariant-loop-i l = Sofar l.text (vec_items l.initial.out) l.high l.i (vec_items l.out)
