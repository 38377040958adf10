-- What each granted request does to a converter, and which data it is answered with.
use Rattle.std.specs.Prelude.{◌≡◌, ℕ, ◌+◌, ◌*◌, Bool, cond, List, [], ◌∷◌, ◌++◌, length, drop, Some, None, Option, ◌==◌, slice_index}
use Rattle.calendar.specs.Dates.{is_lawful}
use Rattle.calendar.specs.Times.{Time, date_in, nine_bytes, set_to, synchronised}
use Rattle.device.specs.Life.{Life, Ring, emptied, held_in, held_number}
use Rattle.ring_log.specs.Reading.{sent_bytes}
use Rattle.ring_log.specs.declared.Position.{Position}
use Rattle.readings.specs.Readings.{masked}
use Rattle.records.specs.declared.Event.{Event}
use Rattle.records.specs.declared.PowerGap.{PowerGap}
use Rattle.records.specs.Records.{event_bytes, gap_bytes, two}
use Rattle.refusal.specs.Told.{Answer, granted, refused}
use Rattle.request.specs.Asked.{Asked, prepare, change_address, read_address, change_password, permit, readings, write_setpoint, set_speed, set_clock, read_clock, write_marks, read_marks, synchronise, read_setting, clear_log, log_state, log_records, write_configuration, read_configuration, write_output_mask}
use Rattle.request.specs.Writes.{gives}
use Rattle.std.specs.Option.{unwrap_or}
use Rattle.store.specs.Cells.{span}

-- The mask of readings as a number.
abbrev pub mask_of : List ℕ → ℕ
mask_of mask = slice_index mask 0 + 256 * slice_index mask 1 + 65536 * slice_index mask 2

-- The first cell of setpoint n, or of output mask n.
abbrev pub setting_cell : ℕ → ℕ → ℕ
setting_cell number which = cond (which == 0) (33 + 8 * number) (161 + 8 * number)

-- The state of a log whose records have so many bytes: RecordCount, RecordMax, the size of a record, the
-- date of last clearing, and 1.
abbrev pub state_of : ℕ → ℕ → ℕ → Bool → List ℕ → List ℕ
state_of size volume count round cleared =
    two count ++ (two (cond round (volume + 0x8000) volume) ++ (size ∷ cleared ++ 1 ∷ []))

abbrev pub state_in : ℕ → Position → List ℕ
state_in size p = state_of size p.volume p.count p.round p.cleared

abbrev pub state_bytes : {K : Type 0} → ℕ → Ring K → List ℕ
state_bytes size r = state_of size r.volume r.count r.round r.cleared

-- Log 0x04 holds events, the other power gaps.
abbrev pub is_events : ℕ → Bool
is_events log = log == 0x04

-- The device configuration: the event mask in cells 17 and 18, the mask of inputs in cell 19, the debounce
-- time in cell 20.
abbrev pub configuration : (ℕ → ℕ) → List ℕ
configuration cells = 0 ∷ cells 17 ∷ cells 18 ∷ 0 ∷ 0 ∷ 0 ∷ cells 19 ∷ cells 20 ∷ 0 ∷ []

-- The data of the reply to a granted request, before they are filled with zeros.
abbrev pub data_of : Life → Asked → List ℕ
data_of l (prepare key) = []
data_of l (change_address own new) = []
data_of l read_address = []
data_of l (change_password kind old new) = []
data_of l (permit password kind) = []
data_of l (readings mask) = masked (mask_of mask) l.readings
data_of l (write_setpoint number setpoint) = []
data_of l (set_speed code) = []
data_of l (set_clock date season) = []
data_of l (read_clock form) = nine_bytes l.time
data_of l (write_marks marks) = []
data_of l read_marks = span l.cells 11 6
data_of l synchronise = []
data_of l (read_setting number which) = span l.cells (setting_cell number which) 8
data_of l (clear_log log password) = []
data_of l (log_state log) = cond (is_events log) (state_bytes 13 l.events) (state_bytes 9 l.gaps)
data_of l (log_records log index count) =
    cond (is_events log) (sent_bytes 13 event_bytes (held_in l.events) index count) (sent_bytes 9 gap_bytes (held_in l.gaps) index count)
data_of l (write_configuration bits events inputs debounce) = []
data_of l read_configuration = configuration l.cells
data_of l (write_output_mask number mask) = []

-- The clock after a granted request.
abbrev pub time_after : Time → Asked → Time
time_after time (prepare key) = time
time_after time (change_address own new) = time
time_after time read_address = time
time_after time (change_password kind old new) = time
time_after time (permit password kind) = time
time_after time (readings mask) = time
time_after time (write_setpoint number setpoint) = time
time_after time (set_speed code) = time
time_after time (set_clock date season) = cond (is_lawful (date_in date)) (set_to (date_in date) season) time
time_after time (read_clock form) = time
time_after time (write_marks marks) = time
time_after time read_marks = time
time_after time synchronise = synchronised time
time_after time (read_setting number which) = time
time_after time (clear_log log password) = time
time_after time (log_state log) = time
time_after time (log_records log index count) = time
time_after time (write_configuration bits events inputs debounce) = time
time_after time read_configuration = time
time_after time (write_output_mask number mask) = time

-- The log that a granted request clears.
abbrev pub clears : Asked → Option ℕ
clears (prepare key) = None
clears (change_address own new) = None
clears read_address = None
clears (change_password kind old new) = None
clears (permit password kind) = None
clears (readings mask) = None
clears (write_setpoint number setpoint) = None
clears (set_speed code) = None
clears (set_clock date season) = None
clears (read_clock form) = None
clears (write_marks marks) = None
clears read_marks = None
clears synchronise = None
clears (read_setting number which) = None
clears (clear_log log password) = Some log
clears (log_state log) = None
clears (log_records log index count) = None
clears (write_configuration bits events inputs debounce) = None
clears read_configuration = None
clears (write_output_mask number mask) = None

-- A log after a granted request, at that date: one kind of log is meant by code 0x04, the other by the
-- other code.
abbrev pub events_after : Option ℕ → List ℕ → Ring Event → Ring Event
events_after None date r = r
events_after (Some log) date r = cond (is_events log) (emptied r date) r

abbrev pub gaps_after : Option ℕ → List ℕ → Ring PowerGap → Ring PowerGap
gaps_after None date r = r
gaps_after (Some log) date r = cond (is_events log) r (emptied r date)

-- A converter after a granted request, but for what then stands.
abbrev pub obeyed : Life → Asked → Life
obeyed l a = record {
  cells = λ k. unwrap_or (gives a k) (l.cells k);
  access = l.access;
  time = time_after l.time a;
  readings = l.readings;
  events = events_after (clears a) (nine_bytes l.time) l.events;
  gaps = gaps_after (clears a) (nine_bytes l.time) l.gaps;
}

-- The number of records held in the log with that code.
abbrev pub held_by : Life → ℕ → ℕ
held_by l log = cond (is_events log) (held_number l.events) (held_number l.gaps)

-- The log of which a request asks records.
abbrev pub reads_log : Asked → Option ℕ
reads_log (prepare key) = None
reads_log (change_address own new) = None
reads_log read_address = None
reads_log (change_password kind old new) = None
reads_log (permit password kind) = None
reads_log (readings mask) = None
reads_log (write_setpoint number setpoint) = None
reads_log (set_speed code) = None
reads_log (set_clock date season) = None
reads_log (read_clock form) = None
reads_log (write_marks marks) = None
reads_log read_marks = None
reads_log synchronise = None
reads_log (read_setting number which) = None
reads_log (clear_log log password) = None
reads_log (log_state log) = None
reads_log (log_records log index count) = Some log
reads_log (write_configuration bits events inputs debounce) = None
reads_log read_configuration = None
reads_log (write_output_mask number mask) = None

-- The number of records held in that log, 0 where there is none.
abbrev pub held_at : Life → Option ℕ → ℕ
held_at l None = 0
held_at l (Some log) = held_by l log

abbrev pub held_for : Life → Asked → ℕ
held_for l a = held_at l (reads_log a)

-- Bytes were put at the start of a memory, so many of them, and behind them the memory stays.
pub record Puts (bytes : List ℕ) (n : ℕ) (before after : List ℕ) : Type 0 where
  pub long : n ≡ length bytes
  pub written : after ≡ bytes ++ drop (length bytes) before

-- What stands after a call with this answer: a refusal changes nothing.
abbrev pub changed : {T A : Type 0} → Answer T → A → A → A
changed (granted x) before after = after
changed (refused n company) before after = before
