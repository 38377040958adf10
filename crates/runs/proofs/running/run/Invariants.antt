use Rattle.std.proofs.Common.{◌≡◌, ◌≤◌, List, length, take, drop}
use Rattle.converter.specs.Told.{view}
use Rattle.runs.proofs.running.run.Given as goal
use Rattle.runs.specs.History.{Ran, Turn}
use Rattle.runs.specs.Made.{MadeAll}
use Rattle.std.specs.Slice.Iter.{iter_rest}

abbrev pub invariant-loop-slot : goal.invariant-loop-slot
invariant-loop-slot g l =
    let cells = g.S.Store.cells in
    let i = l.slot-index in
    record {
      within : i ≤ length l.fn.calls;
      later : iter_rest l.later ≡ drop i l.fn.calls;
      long : length l.slots ≡ length l.initial.slots;
      behind : drop i l.slots ≡ drop i l.initial.slots;
      ran :
          (history : List Turn)
          × MadeAll (take i l.fn.calls) (take i l.initial.slots) (take i l.slots) history
          × Ran (view cells l.initial.converter l.initial.events l.initial.gaps) history (view cells l.converter l.events l.gaps);
    }
