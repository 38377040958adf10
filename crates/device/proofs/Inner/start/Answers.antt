use Rattle.std.proofs.Common.{replicate}
use Rattle.device.proofs.Rings.{ring_unused}
use Rattle.device.proofs.Inner.start.Goals as goal

pub returns : goal.returns
returns g c events gaps =
    let e = c.fresh.ensures in
    let f = c.fresh-2.ensures in
    let a = c.start.ensures in
    let b = c.closed.ensures in
    λ i. record {
      cells = g.S.Store.cells c.args.store;
      access = b i;
      time = a i;
      readings = replicate 175 0;
      events = ring_unused c.fresh.result events e.empty c.args.volume e.volume e.cleared i;
      gaps = ring_unused c.fresh-2.result gaps f.empty c.args.gap_volume f.volume f.cleared i;
    }
