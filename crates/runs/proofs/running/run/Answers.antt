use Rattle.std.proofs.Common.{◌<◌, length, sym, ◌∙◌, arith}
use Rattle.converter.specs.Told.{view}
use Rattle.runs.proofs.Lived.{run_more}
use Rattle.runs.proofs.running.run.Goals as goal
use Rattle.std.specs.Slice.Iter.{iter_rest}

pub loop-slot-preserved : goal.loop-slot-preserved
loop-slot-preserved g c =
    let cells = g.S.Store.cells in
    let l = c.loop-slot in
    let s = c.perform.ensures in
    let ahead = sym l.invariant.later ∙ c.in-Some.ensures.steps in
    let here : l.slot-index < length c.args.slots.now = omega arith in
    let (within, later, long, behind, ran) =
    run_more (view cells c.args.converter.now c.args.events.now c.args.gaps.now) (view cells l.converter l.events l.gaps)
    (view cells c.perform.new.converter c.perform.new.events c.perform.new.gaps)
    c.args.calls.now (iter_rest c.next.new.self) c.args.slots.now l.slots l.slot-index c.in-Some.call.now _ c.perform.result c.perform.new.events c.perform.new.gaps
    ahead here l.invariant.long l.invariant.behind l.invariant.ran s.steps s.rest in
    record { within = omega (arith, within); later = later; long = long; behind = behind; ran = ran }
