use Rattle.calendar.proofs.Inverse.{every_second}
use Rattle.calendar.proofs.Clock.date.Goals as goal

pub returns : goal.returns
returns c =
    let date = c.at-date.ensures in
    let season = c.from.ensures in
    record { bytes = cc; every_second = every_second }
