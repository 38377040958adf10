-- Whole runs: calls one after another, what came of each, and what their history tells.
use Rattle.std.specs.Prelude.{◌≡◌, ℕ, ◌-◌, Bool, true, false, not, List, [], ◌∷◌, ◌++◌, take, drop, Some, None, Option, slice_index}
use Rattle.calendar.specs.Times.{Time, later, start}
use Rattle.converter.specs.Calls.{Call, Grant, Outcome, Steps, advance, done, heard, hear, measure, note_event, note_gap}
use Rattle.device.specs.Life.{Life}
use Rattle.device.specs.Rows.{clears, is_events, time_after}
use Rattle.records.specs.Records.{event_at}
use Rattle.records.specs.declared.Event.{Event}
use Rattle.records.specs.declared.PowerGap.{PowerGap}
use Rattle.refusal.specs.Told.{Answer, granted, refused}
use Rattle.refusal.specs.declared.Company.{Company}
use Rattle.refusal.specs.declared.Company.TheVariants.{Alone, Used, Block}
use Rattle.request.specs.Asked.{Asked, asked}
use Rattle.request.specs.Writes.{gives}
use Rattle.std.specs.Option.{unwrap_or}

-- A call and what came of it. A history has the newest turn first.
pub record Turn : Type 0 where
  pub call : Call
  pub came : Outcome

-- A converter that was l went through this history and is n.
abbrev pub Ran : Life → List Turn → Life → Type 0
Ran l [] n = n ≡ l
Ran l (t ∷ earlier) n = (m : Life) × Ran l earlier m × Steps m t.call t.came n

-- The bytes of the line that an answer counts as used.
abbrev pub used_with : Company → ℕ
used_with Alone = 0
used_with (Used n) = n
used_with (Block n) = 0

abbrev pub used_by : Answer Grant → ℕ
used_by (granted done) = 0
used_by (granted (heard h)) = h.used
used_by (refused n company) = used_with company

-- The request that an answer speaks of is the 18 bytes before its used count; refusals 1 and 2 speak of none,
-- and what is said of requests below is said of granted ones and of refusal 10 alone.
abbrev pub frame_before : List ℕ → ℕ → List ℕ
frame_before line used = take 18 (drop (used - 18) line)

-- What such a frame asks, by its command and its nine parameters.
abbrev pub frame_asks : List ℕ → Option Asked
frame_asks frame = asked (slice_index frame 6) (take 9 (drop 7 frame))

abbrev pub request_of : Call → Answer Grant → Option Asked
request_of (hear line reply events gaps) result = frame_asks (frame_before line (used_by result))
request_of (advance ticks) result = None
request_of (measure readings) result = None
request_of (note_event report events gaps) result = None
request_of (note_gap gap events gaps) result = None

-- The request that a turn granted.
abbrev pub granted_of : Call → Answer Grant → Option Asked
granted_of call (granted g) = request_of call (granted g)
granted_of call (refused n company) = None

-- Settings. The byte that a granted request gives cell k, by its row.
abbrev pub given_by : Option Asked → ℕ → Option ℕ
given_by None k = None
given_by (Some a) k = gives a k

abbrev pub written : Turn → ℕ → Option ℕ
written t k = given_by (granted_of t.call t.came.result) k

-- The byte that the last granted write of cell k gave it, or the byte at the start where there is none.
abbrev pub last_given : (ℕ → ℕ) → List Turn → ℕ → ℕ
last_given at_start [] k = at_start k
last_given at_start (t ∷ earlier) k = unwrap_or (written t k) (last_given at_start earlier k)

-- The clock: it was set and synchronised by granted requests, and went on by granted calls of advance.
abbrev pub time_by : Option Asked → Time → Time
time_by None time = time
time_by (Some a) time = time_after time a

abbrev pub ticked_by : Call → Answer Grant → Time → Time
ticked_by (hear line reply events gaps) result time = time_by (granted_of (hear line reply events gaps) result) time
ticked_by (advance ticks) (granted g) time = later time ticks
ticked_by (advance ticks) (refused n company) time = time
ticked_by (measure readings) result time = time
ticked_by (note_event report events gaps) result time = time
ticked_by (note_gap gap events gaps) result time = time

abbrev pub clock_after : List Turn → Time
clock_after [] = start
clock_after (t ∷ earlier) = ticked_by t.call t.came.result (clock_after earlier)

-- The log that a granted request clears.
abbrev pub cleared_by : Option Asked → Option ℕ
cleared_by None = None
cleared_by (Some a) = clears a

-- The records of a log unless it is cleared.
abbrev pub unless_cleared : {K : Type 0} → Bool → List K → List K
unless_cleared true records = []
unless_cleared false records = records

abbrev pub clears_events : Option ℕ → Bool
clears_events None = false
clears_events (Some log) = is_events log

abbrev pub clears_gaps : Option ℕ → Bool
clears_gaps None = false
clears_gaps (Some log) = not (is_events log)

-- The events that granted notes brought since the last granted clearing of their log, oldest first, each
-- with the clock of its moment.
abbrev pub events_with : Call → Answer Grant → Time → List Event → List Event
events_with (hear line reply events gaps) result time noted =
    unless_cleared (clears_events (cleared_by (granted_of (hear line reply events gaps) result))) noted
events_with (advance ticks) result time noted = noted
events_with (measure readings) result time noted = noted
events_with (note_event report events gaps) (granted g) time noted = noted ++ event_at report time.seconds time.ticks ∷ []
events_with (note_event report events gaps) (refused n company) time noted = noted
events_with (note_gap gap events gaps) result time noted = noted

abbrev pub events_since : List Turn → List Event
events_since [] = []
events_since (t ∷ earlier) = events_with t.call t.came.result (clock_after earlier) (events_since earlier)

-- The power gaps that granted notes brought since the last granted clearing of theirs.
abbrev pub gaps_with : Call → Answer Grant → List PowerGap → List PowerGap
gaps_with (hear line reply events gaps) result noted =
    unless_cleared (clears_gaps (cleared_by (granted_of (hear line reply events gaps) result))) noted
gaps_with (advance ticks) result noted = noted
gaps_with (measure readings) result noted = noted
gaps_with (note_event report events gaps) result noted = noted
gaps_with (note_gap gap events gaps) (granted g) noted = noted ++ gap ∷ []
gaps_with (note_gap gap events gaps) (refused n company) noted = noted

abbrev pub gaps_since : List Turn → List PowerGap
gaps_since [] = []
gaps_since (t ∷ earlier) = gaps_with t.call t.came.result (gaps_since earlier)
