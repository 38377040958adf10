use Rattle.std.proofs.Common.{◌≡◌, [], rules}
use Rattle.checklist.proofs.Counted.{all_counted}
use Rattle.checklist.proofs.comparing.same_cells.Goals as goal
use Rattle.converter.specs.Told.{view}

pub returns : goal.returns
returns g c =
    let e = c.new.ensures in
    all_counted _ _ c.new.result 255 (λ k. (view g.S.Store.cells c.args.a.now [] []).cells k ≡ (view g.T.Store.cells c.args.b.now [] []).cells k) e.start e.end e.exhausted
    (λ a r f' q. search rules) (λ x q. search rules) (λ x q. search rules) c.all.result c.all.ensures.runs
