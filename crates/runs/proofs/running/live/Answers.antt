use Rattle.std.proofs.Common.{List, subst}
use Rattle.converter.specs.Told.{view}
use Rattle.device.specs.Life.{Life}
use Rattle.runs.proofs.Held.{passwords_of, records_of, settings_of}
use Rattle.runs.proofs.Served.{windows, windows_in_lines}
use Rattle.runs.proofs.running.live.Goals as goal
use Rattle.runs.specs.History.{Ran, Turn}
use Rattle.runs.specs.Made.{MadeBy}
use Rattle.runs.specs.Promises.{Start}

pub returns : goal.returns
returns g c =
    let cells = g.S.Store.cells in
    let s : Start = record { cells = cells c.args.store; volume = c.args.volume; volume_of_gaps = c.args.gap_volume; events = c.args.events.now; gaps = c.args.gaps.now } in
    let l = view cells c.run.new.converter c.run.new.events c.run.new.gaps in
    record {
      ran = subst (λ (b : Life). (h : List Turn) × MadeBy c.args.calls.now c.args.slots.now c.run.new.slots h × Ran b h l) (c.start-converter.ensures c.args.events.now c.args.gaps.now) c.run.ensures.ran;
      settings = λ h lives. settings_of s h l lives;
      passwords = λ h lives. passwords_of s h l lives;
      records = λ h lives. records_of s h l lives;
      windows = windows;
      windows_in_lines = windows_in_lines;
    }
