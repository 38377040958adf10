-- What each row needs and checks.
use Rattle.std.specs.Prelude.{◌≡◌, ℕ, ◌+◌, ◌*◌, ◌≤◌, Bool, true, cond, not, ◌&&◌, ◌||◌, List, length, Some, None, Option, ◌==◌, nat_le, nat_lt, slice_index}
use Rattle.calendar.specs.Dates.{is_lawful}
use Rattle.calendar.specs.Times.{date_in}
use Rattle.request.specs.Asked.{Asked, prepare, change_address, read_address, change_password, permit, readings, write_setpoint, set_speed, set_clock, read_clock, write_marks, read_marks, synchronise, read_setting, clear_log, log_state, log_records, write_configuration, read_configuration, write_output_mask}
use Rattle.request.specs.declared.rows.Needs.{Needs}
use Rattle.request.specs.declared.rows.Needs.TheVariants.{Nothing, Preparation, PreparationAndPermission}
use Rattle.request.specs.declared.rows.PasswordKind.{PasswordKind}
use Rattle.request.specs.declared.rows.PasswordKind.TheVariants.{Setpoint, Counter}

-- The parts of a request have the lengths that its row gives them.
abbrev pub Sized : Asked → Type 0
Sized (prepare key) = Unit {0}
Sized (change_address own new) = (length own ≡ 2) × (length new ≡ 2)
Sized read_address = Unit {0}
Sized (change_password kind old new) = (length old ≡ 4) × (length new ≡ 4)
Sized (permit password kind) = length password ≡ 4
Sized (readings mask) = length mask ≡ 3
Sized (write_setpoint number setpoint) = length setpoint ≡ 8
Sized (set_speed code) = Unit {0}
Sized (set_clock date season) = length date ≡ 6
Sized (read_clock form) = Unit {0}
Sized (write_marks marks) = length marks ≡ 6
Sized read_marks = Unit {0}
Sized synchronise = Unit {0}
Sized (read_setting number which) = Unit {0}
Sized (clear_log log password) = length password ≡ 4
Sized (log_state log) = Unit {0}
Sized (log_records log index count) = Unit {0}
Sized (write_configuration bits events inputs debounce) = length events ≡ 2
Sized read_configuration = Unit {0}
Sized (write_output_mask number mask) = length mask ≡ 8

-- What has to stand before the request: that it was prepared for, and for some that writing is permitted
-- with kind 0.
abbrev pub needs : Asked → Needs
needs (prepare key) = Nothing
needs (change_address own new) = Preparation
needs read_address = Nothing
needs (change_password kind old new) = Preparation
needs (permit password kind) = Nothing
needs (readings mask) = Nothing
needs (write_setpoint number setpoint) = PreparationAndPermission
needs (set_speed code) = Preparation
needs (set_clock date season) = Nothing
needs (read_clock form) = Nothing
needs (write_marks marks) = Nothing
needs read_marks = Nothing
needs synchronise = Nothing
needs (read_setting number which) = Nothing
needs (clear_log log password) = Preparation
needs (log_state log) = Nothing
needs (log_records log index count) = Nothing
needs (write_configuration bits events inputs debounce) = Preparation
needs read_configuration = Nothing
needs (write_output_mask number mask) = PreparationAndPermission

abbrev pub within : ℕ → ℕ → ℕ → Bool
within low high n = nat_le low n && nat_le n high

-- Two addresses of two bytes are the same; 0x00FF is broadcast.
abbrev pub same_address : List ℕ → List ℕ → Bool
same_address a b = slice_index a 0 == slice_index b 0 && slice_index a 1 == slice_index b 1

abbrev pub is_broadcast : List ℕ → Bool
is_broadcast a = slice_index a 0 == 0xFF && slice_index a 1 == 0

-- The mask of readings has 19 bits.
abbrev pub is_mask : List ℕ → Bool
is_mask mask = nat_lt (slice_index mask 0 + 256 * slice_index mask 1 + 65536 * slice_index mask 2) 0x080000

-- The types of setpoints that are taken.
abbrev pub is_type : ℕ → Bool
is_type t = nat_le t 16 || t == 128

abbrev pub takes_type : ℕ → ℕ → Bool
takes_type command t = command == 0x12 && is_type t

abbrev pub is_setpoint : ℕ → List ℕ → Bool
is_setpoint number setpoint = nat_le number 15 && (is_type (slice_index setpoint 0) && nat_le (slice_index setpoint 1) 1)

abbrev pub is_speed : ℕ → Bool
is_speed code = within 1 5 code || within 0x11 0x13 code

-- A season mark: a month, a week of it, and an hour.
abbrev pub is_mark : ℕ → ℕ → ℕ → Bool
is_mark month week hour = within 1 12 month && (within 1 5 week && within 1 24 hour)

abbrev pub are_marks : List ℕ → Bool
are_marks m = is_mark (slice_index m 0) (slice_index m 1) (slice_index m 2) && is_mark (slice_index m 3) (slice_index m 4) (slice_index m 5)

-- One of 16 setpoints, or one of four output masks.
abbrev pub is_setting : ℕ → ℕ → Bool
is_setting number which = (which == 0 && nat_le number 15) || (which == 1 && nat_le number 3)

-- The codes of the two logs.
abbrev pub is_log : ℕ → Bool
is_log log = log == 0x04 || log == 0x0E

-- No bits but 0x01 and 0x10.
abbrev pub is_configuration : ℕ → Bool
is_configuration bits = bits == 0 || (bits == 0x01 || (bits == 0x10 || bits == 0x11))

-- The parameters are in their ranges, at a converter with that address.
abbrev pub checked : List ℕ → Asked → Bool
checked address (prepare key) = key == 0xA5
checked address (change_address own new) = same_address own address && not (is_broadcast new)
checked address read_address = true
checked address (change_password kind old new) = within 1 2 kind
checked address (permit password kind) = nat_le kind 1
checked address (readings mask) = is_mask mask
checked address (write_setpoint number setpoint) = is_setpoint number setpoint
checked address (set_speed code) = is_speed code
checked address (set_clock date season) = is_lawful (date_in date)
checked address (read_clock form) = form == 0
checked address (write_marks marks) = are_marks marks
checked address read_marks = true
checked address synchronise = true
checked address (read_setting number which) = is_setting number which
checked address (clear_log log password) = is_log log
checked address (log_state log) = is_log log
checked address (log_records log index count) = is_log log
checked address (write_configuration bits events inputs debounce) = is_configuration bits
checked address read_configuration = true
checked address (write_output_mask number mask) = nat_le number 3

-- Setpoints and output masks are numbered within their cells.
abbrev pub Numbered : Asked → Type 0
Numbered (prepare key) = Unit {0}
Numbered (change_address own new) = Unit {0}
Numbered read_address = Unit {0}
Numbered (change_password kind old new) = Unit {0}
Numbered (permit password kind) = Unit {0}
Numbered (readings mask) = Unit {0}
Numbered (write_setpoint number setpoint) = number ≤ 15
Numbered (set_speed code) = Unit {0}
Numbered (set_clock date season) = Unit {0}
Numbered (read_clock form) = Unit {0}
Numbered (write_marks marks) = Unit {0}
Numbered read_marks = Unit {0}
Numbered synchronise = Unit {0}
Numbered (read_setting number which) = Unit {0}
Numbered (clear_log log password) = Unit {0}
Numbered (log_state log) = Unit {0}
Numbered (log_records log index count) = Unit {0}
Numbered (write_configuration bits events inputs debounce) = Unit {0}
Numbered read_configuration = Unit {0}
Numbered (write_output_mask number mask) = number ≤ 3

-- The password that a request tries: its kind, and the bytes that should be it.
abbrev pub tries : Asked → Option (PasswordKind × List ℕ)
tries (prepare key) = None
tries (change_address own new) = None
tries read_address = None
tries (change_password kind old new) = Some (cond (kind == 1) Setpoint Counter, old)
tries (permit password kind) = Some (cond (kind == 0) Setpoint Counter, password)
tries (readings mask) = None
tries (write_setpoint number setpoint) = None
tries (set_speed code) = None
tries (set_clock date season) = None
tries (read_clock form) = None
tries (write_marks marks) = None
tries read_marks = None
tries synchronise = None
tries (read_setting number which) = None
tries (clear_log log password) = Some (Counter, password)
tries (log_state log) = None
tries (log_records log index count) = None
tries (write_configuration bits events inputs debounce) = None
tries read_configuration = None
tries (write_output_mask number mask) = None

-- A setpoint or an output mask that is read is numbered within its cells.
abbrev pub NumberedRead : Asked → Type 0
NumberedRead (prepare key) = Unit {0}
NumberedRead (change_address own new) = Unit {0}
NumberedRead read_address = Unit {0}
NumberedRead (change_password kind old new) = Unit {0}
NumberedRead (permit password kind) = Unit {0}
NumberedRead (readings mask) = Unit {0}
NumberedRead (write_setpoint number setpoint) = Unit {0}
NumberedRead (set_speed code) = Unit {0}
NumberedRead (set_clock date season) = Unit {0}
NumberedRead (read_clock form) = Unit {0}
NumberedRead (write_marks marks) = Unit {0}
NumberedRead read_marks = Unit {0}
NumberedRead synchronise = Unit {0}
NumberedRead (read_setting number which) = is_setting number which ≡ true
NumberedRead (clear_log log password) = Unit {0}
NumberedRead (log_state log) = Unit {0}
NumberedRead (log_records log index count) = Unit {0}
NumberedRead (write_configuration bits events inputs debounce) = Unit {0}
NumberedRead read_configuration = Unit {0}
NumberedRead (write_output_mask number mask) = Unit {0}
