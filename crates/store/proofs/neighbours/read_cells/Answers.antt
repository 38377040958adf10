use Rattle.std.proofs.Common.{◌≡◌, ℕ, ◌<◌, List, length, get_or, sym, ap, ◌∙◌, subst, arith, rules, below_more}
use Rattle.store.specs.Cells.{span}
use Rattle.store.proofs.Spans.{span_fits, span_more}
use Rattle.store.proofs.neighbours.read_cells.Goals as goal
use Rattle.std.proofs.lemmas.List.{take_all, take_more_set}

pub loop-i-preserved : goal.loop-i-preserved
loop-i-preserved g c =
    let i = c.loop-i.i in
    let so_far = c.loop-i.invariant.0 in
    let within : i < length c.loop-i.out = search rules in
    let one = take_more_set c.loop-i.out i c.read.result within in
    let more = span_more (g.S.Store.cells c.args.store.now) c.args.first i in
    (cc, below_more _ _ c.loop-i.invariant.1 (omega (arith, c.read.ensures)))

pub returns : goal.returns
returns g c =
    let i = c.loop-i.i in
    let cells = g.S.Store.cells c.args.store.now in
    let all : i ≡ length c.args.out.now = omega arith in
    let read : c.loop-i.out ≡ span cells c.args.first i =
    sym (take_all i c.loop-i.out (omega arith)) ∙ c.loop-i.invariant.0 in
    record {
      filled = read ∙ ap (span cells c.args.first) all;
      fit = λ k. subst (λ (l : List ℕ). get_or l k 0 < 256) (sym read) (span_fits cells c.args.first i c.loop-i.invariant.1 k);
    }
