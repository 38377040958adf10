-- What a converter is at one moment: its settings, what stands, its clock, its readings and its logs.
use Rattle.std.specs.Prelude.{ℕ, ◌+◌, min, Bool, false, cond, ◌||◌, List, replicate, ◌==◌, slice_index_or, slice_set}
use Rattle.std.proofs.Common.{lit<, lit≤}
use Rattle.access.specs.Decision.{closed}
use Rattle.access.specs.declared.Access.{Access}
use Rattle.calendar.specs.Times.{Time, shown, start}
use Rattle.device.specs.declared.Inner.{Inner}
use Rattle.ring_log.specs.Logs.{around, started}
use Rattle.ring_log.specs.declared.Position.{Position}
use Rattle.records.specs.declared.Event.{Event}
use Rattle.records.specs.declared.PowerGap.{PowerGap}

-- A log: where it stands, the date of its last clearing, and the memory that its records are in.
pub record Ring (K : Type 0) : Type 0 where
  pub volume : ℕ
  pub count : ℕ
  pub round : Bool
  pub cleared : List ℕ
  pub memory : List K

-- The records that a log holds, oldest first, and how many they are.
abbrev pub held_in : {K : Type 0} → Ring K → List K
held_in r = around r.volume r.count r.round r.memory

abbrev pub held_number : {K : Type 0} → Ring K → ℕ
held_number r = cond r.round r.volume r.count

-- A log that never held a record; a volume above 32,767 counts as 32,767.
abbrev pub unused : {K : Type 0} → ℕ → List K → Ring K
unused volume memory = record { volume = min volume 32767; count = 0; round = false; cleared = started; memory = memory }

-- A log after it is cleared at a date; the records stay in the memory.
abbrev pub emptied : {K : Type 0} → Ring K → List ℕ → Ring K
emptied r date = record { volume = r.volume; count = 0; round = false; cleared = date; memory = r.memory }

-- The place of the next record: behind the last, and at the start of the memory once the log is full.
abbrev pub place_after : {K : Type 0} → Ring K → ℕ
place_after r = cond (r.count == r.volume) 0 r.count

-- A log with one record more.
abbrev pub entered : {K : Type 0} → Ring K → K → Ring K
entered r item = record {
  volume = r.volume;
  count = place_after r + 1;
  round = r.round || (r.count == r.volume);
  cleared = r.cleared;
  memory = slice_set r.memory (place_after r) item;
}

pub record Life : Type 0 where
  pub cells : ℕ → ℕ
  pub access : Access
  pub time : Time
  pub readings : List ℕ
  pub events : Ring Event
  pub gaps : Ring PowerGap

-- A converter that was just started: nothing prepared or permitted, the clock at its start, the readings
-- zeros, the logs empty.
abbrev pub fresh : (ℕ → ℕ) → ℕ → ℕ → List Event → List PowerGap → Life
fresh cells volume volume_of_gaps events gaps = record {
  cells = cells;
  access = closed;
  time = start;
  readings = replicate 175 0;
  events = unused volume events;
  gaps = unused volume_of_gaps gaps;
}

-- The log of a position and its memory.
abbrev pub ring_of : {K : Type 0} → Position → List K → Ring K
ring_of p memory =
    record { volume = p.volume; count = p.count; round = p.round; cleared = p.cleared; memory = memory }

-- What stands at a place of the table of positions; past its end a position that means nothing.
abbrev pub no_position : Position
no_position = record { volume = 1; count = 1; round = false; cleared = replicate 9 0; lawful = (lit≤ tt, lit≤ tt, (λ e. lit< tt)) }

abbrev pub position_at : List Position → ℕ → Position
position_at positions i = slice_index_or positions i no_position

-- What a converter of the code is, by its store's cells and the memories of its logs. Events stand first
-- in the table of positions, power gaps second.
abbrev pub seen : {S : Type 0} → (S → ℕ → ℕ) → Inner S → List Event → List PowerGap → Life
seen cells inner events gaps = record {
  cells = cells inner.store;
  access = inner.access;
  time = shown inner.clock;
  readings = inner.readings;
  events = ring_of (position_at inner.positions 0) events;
  gaps = ring_of (position_at inner.positions 1) gaps;
}
