-- The calls of a converter, and one step of a run.
use Rattle.std.specs.Prelude.{◌≡◌, ℕ, Bool, true, false, cond, ◌||◌, List, [], length, take, Option, ◌==◌, nat_lt}
use Rattle.calendar.specs.Times.{later, passes}
use Rattle.converter.specs.Hearing.{Finds, Found, Hearing, life_after, reply_to, result_to}
use Rattle.device.specs.Life.{Life, entered}
use Rattle.device.specs.Rows.{changed}
use Rattle.records.specs.Reasons.{lawful}
use Rattle.records.specs.Records.{event_at}
use Rattle.records.specs.declared.Event.{Event}
use Rattle.records.specs.declared.PowerGap.{PowerGap}
use Rattle.records.specs.declared.Report.{Report}
use Rattle.refusal.specs.Told.{Answer, granted, refused}
use Rattle.refusal.specs.declared.Company.TheVariants.{Alone, Used}

-- A call with all that is given to it: a line, what the reply memory holds, how many records of each log
-- memory are lent.
pub data Call : Type 0 where
  hear : (line reply : List ℕ) (events gaps : ℕ) → Call
  advance : (ticks : ℕ) → Call
  measure : (readings : List ℕ) → Call
  note_event : (report : Report) (events gaps : ℕ) → Call
  note_gap : (gap : PowerGap) (events gaps : ℕ) → Call

-- What a call grants: hearing tells of the line and the reply, the others nothing.
pub data Grant : Type 0 where
  done : Grant
  heard : Hearing → Grant

-- What came of a call: its result, and what all given memory holds then.
pub record Outcome : Type 0 where
  pub result : Answer Grant
  pub reply : List ℕ
  pub events : List Event
  pub gaps : List PowerGap

-- The result r with the reply memory, by a converter that then is l.
abbrev pub outcome : Life → Answer Grant → List ℕ → Outcome
outcome l r reply = record { result = r; reply = reply; events = l.events.memory; gaps = l.gaps.memory }

abbrev pub of_hearing : Answer Hearing → Answer Grant
of_hearing (granted h) = granted (heard h)
of_hearing (refused n company) = refused n company

abbrev pub of_done : Answer Unit → Answer Grant
of_done (granted x) = granted done
of_done (refused n company) = refused n company

-- Less log memory is lent than a volume.
abbrev pub short : Life → ℕ → ℕ → Bool
short l events gaps =
    nat_lt (length (take events l.events.memory)) l.events.volume || nat_lt (length (take gaps l.gaps.memory)) l.gaps.volume

abbrev pub no_room : Life → List ℕ → ℕ → ℕ → Bool
no_room l reply events gaps = nat_lt (length reply) 295 || short l events gaps

-- What is answered to a record: 1, then 12 for an event's reason, then 13.
abbrev pub note_result : Bool → Bool → ℕ → Answer Unit
note_result is_short is_lawful volume =
    cond is_short (refused 1 Alone) (cond is_lawful (cond (volume == 0) (refused 13 Alone) (granted tt)) (refused 12 Alone))

-- A converter with other time, readings, or log.
abbrev pub timed : Life → ℕ → Life
timed l ticks = record {
  cells = l.cells;
  access = l.access;
  time = later l.time ticks;
  readings = l.readings;
  events = l.events;
  gaps = l.gaps;
}

abbrev pub measured : Life → List ℕ → Life
measured l readings = record {
  cells = l.cells;
  access = l.access;
  time = l.time;
  readings = readings;
  events = l.events;
  gaps = l.gaps;
}

abbrev pub event_noted : Life → Event → Life
event_noted l e = record {
  cells = l.cells;
  access = l.access;
  time = l.time;
  readings = l.readings;
  events = entered l.events e;
  gaps = l.gaps;
}

abbrev pub gap_noted : Life → PowerGap → Life
gap_noted l g = record {
  cells = l.cells;
  access = l.access;
  time = l.time;
  readings = l.readings;
  events = l.events;
  gaps = entered l.gaps g;
}

-- The event of a report at the clock of that moment.
abbrev pub event_now : Life → Report → Event
event_now l report = event_at report l.time.seconds l.time.ticks

-- What is answered to each other call.
abbrev pub advance_result : Life → ℕ → Answer Unit
advance_result l ticks = cond (passes l.time ticks) (refused 11 Alone) (granted tt)

abbrev pub measure_result : List ℕ → Answer Unit
measure_result readings = cond (length readings == 175) (granted tt) (refused 1 Alone)

abbrev pub event_result : Life → Report → ℕ → ℕ → Answer Unit
event_result l report events gaps = note_result (short l events gaps) (lawful report.reason) l.events.volume

abbrev pub gap_result : Life → ℕ → ℕ → Answer Unit
gap_result l events gaps = note_result (short l events gaps) true l.gaps.volume

-- The call of hear where memory is short, and where it is not: then the first valid request is found, and
-- answered.
abbrev pub Hears : Bool → Life → List ℕ → List ℕ → Outcome → Life → Type 0
Hears true l line reply o m = (o ≡ outcome m (refused 1 (Used 0)) reply) × (m ≡ l)
Hears false l line reply o m =
    (found : Option Found) × Finds line found
    × (o ≡ outcome m (of_hearing (result_to l (length line) found)) (reply_to l found reply))
    × (m ≡ life_after l found)

-- A converter that is l is called, this comes of it, and the converter then is m.
abbrev pub Steps : Life → Call → Outcome → Life → Type 0
Steps l (hear line reply events gaps) o m = Hears (no_room l reply events gaps) l line reply o m
Steps l (advance ticks) o m =
    (o ≡ outcome m (of_done (advance_result l ticks)) []) × (m ≡ changed (advance_result l ticks) l (timed l ticks))
Steps l (measure readings) o m =
    (o ≡ outcome m (of_done (measure_result readings)) []) × (m ≡ changed (measure_result readings) l (measured l readings))
Steps l (note_event report events gaps) o m =
    (o ≡ outcome m (of_done (event_result l report events gaps)) [])
    × (m ≡ changed (event_result l report events gaps) l (event_noted l (event_now l report)))
Steps l (note_gap gap events gaps) o m =
    (o ≡ outcome m (of_done (gap_result l events gaps)) []) × (m ≡ changed (gap_result l events gaps) l (gap_noted l gap))
