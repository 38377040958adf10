-- What a request asks: its command, and the parts of its parameters that the command's row names.
use Rattle.std.specs.Prelude.{ℕ, ◌+◌, ◌-◌, ◌*◌, cond, List, take, drop, Some, None, Option, ◌==◌, slice_index}
use Rattle.request.specs.declared.Request.{Request}
use Rattle.request.specs.declared.Request.TheVariants.{Prepare, ChangeAddress, ReadAddress, ChangePassword, Permit, Readings, WriteSetpoint, SetSpeed, SetClock, ReadClock, WriteMarks, ReadMarks, Synchronise, ReadSetting, ClearLog, LogState, LogRecords, WriteConfiguration, ReadConfiguration, WriteOutputMask}

-- A case for each command, with the parts that its row names, in the order of the parameters.
pub data Asked : Type 0 where
  prepare : (key : ℕ) → Asked
  change_address : (own new : List ℕ) → Asked
  read_address : Asked
  change_password : (kind : ℕ) (old new : List ℕ) → Asked
  permit : (password : List ℕ) (kind : ℕ) → Asked
  readings : (mask : List ℕ) → Asked
  write_setpoint : (number : ℕ) (setpoint : List ℕ) → Asked
  set_speed : (code : ℕ) → Asked
  set_clock : (date : List ℕ) (season : ℕ) → Asked
  read_clock : (form : ℕ) → Asked
  write_marks : (marks : List ℕ) → Asked
  read_marks : Asked
  synchronise : Asked
  read_setting : (number which : ℕ) → Asked
  clear_log : (log : ℕ) (password : List ℕ) → Asked
  log_state : (log : ℕ) → Asked
  log_records : (log index count : ℕ) → Asked
  write_configuration : (bits : ℕ) (events : List ℕ) (inputs debounce : ℕ) → Asked
  read_configuration : Asked
  write_output_mask : (number : ℕ) (mask : List ℕ) → Asked

-- Parameter i of P1 to P9, and n parameters from parameter i on.
abbrev pub parameter : List ℕ → ℕ → ℕ
parameter ps i = slice_index ps (i - 1)

abbrev pub parameters : List ℕ → ℕ → ℕ → List ℕ
parameters ps i n = take n (drop (i - 1) ps)

-- A number of two bytes, low byte first.
abbrev pub word : List ℕ → ℕ → ℕ
word ps i = parameter ps i + 256 * parameter ps (i + 1)

-- What a command with its nine parameters asks; parameters that the row does not name are not looked at.
abbrev pub asked : ℕ → List ℕ → Option Asked
asked command ps =
    cond (command == 0x01) (Some (prepare (parameter ps 1)))
    (cond (command == 0x02) (Some (change_address (parameters ps 1 2) (parameters ps 3 2)))
    (cond (command == 0x03) (Some read_address)
    (cond (command == 0x04) (Some (change_password (parameter ps 1) (parameters ps 2 4) (parameters ps 6 4)))
    (cond (command == 0x06) (Some (permit (parameters ps 1 4) (parameter ps 5)))
    (cond (command == 0x07) (Some (readings (parameters ps 1 3)))
    (cond (command == 0x12) (Some (write_setpoint (parameter ps 1) (parameters ps 2 8)))
    (cond (command == 0x15) (Some (set_speed (parameter ps 1)))
    (cond (command == 0x17) (Some (set_clock (parameters ps 1 6) (parameter ps 9)))
    (cond (command == 0x18) (Some (read_clock (parameter ps 1)))
    (cond (command == 0x19) (Some (write_marks (parameters ps 1 6)))
    (cond (command == 0x1A) (Some read_marks)
    (cond (command == 0x1B) (Some synchronise)
    (cond (command == 0x1C) (Some (read_setting (parameter ps 1) (parameter ps 2)))
    (cond (command == 0x1D) (Some (clear_log (parameter ps 1) (parameters ps 2 4)))
    (cond (command == 0x1E) (Some (log_state (parameter ps 1)))
    (cond (command == 0x1F) (Some (log_records (parameter ps 1) (word ps 2) (word ps 4)))
    (cond (command == 0x2B) (Some (write_configuration (parameter ps 1) (parameters ps 2 2) (parameter ps 7) (parameter ps 8)))
    (cond (command == 0x2C) (Some read_configuration)
    (cond (command == 0x2E) (Some (write_output_mask (parameter ps 1) (parameters ps 2 8)))
    None)))))))))))))))))))

-- What a request of the code means.
abbrev pub meant : Request → Asked
meant (Prepare key) = prepare key
meant (ChangeAddress own new) = change_address own.now new.now
meant ReadAddress = read_address
meant (ChangePassword kind old new) = change_password kind old.now new.now
meant (Permit password kind) = permit password.now kind
meant (Readings mask) = readings mask.now
meant (WriteSetpoint number setpoint) = write_setpoint number setpoint.now
meant (SetSpeed code) = set_speed code
meant (SetClock date season) = set_clock date.now season
meant (ReadClock form) = read_clock form
meant (WriteMarks marks) = write_marks marks.now
meant ReadMarks = read_marks
meant Synchronise = synchronise
meant (ReadSetting number which) = read_setting number which
meant (ClearLog log password) = clear_log log password.now
meant (LogState log) = log_state log
meant (LogRecords log index count) = log_records log index count
meant (WriteConfiguration bits events inputs debounce) = write_configuration bits events.now inputs debounce
meant ReadConfiguration = read_configuration
meant (WriteOutputMask number mask) = write_output_mask number mask.now

-- The code of the command.
abbrev pub command_of : Asked → ℕ
command_of (prepare key) = 0x01
command_of (change_address own new) = 0x02
command_of read_address = 0x03
command_of (change_password kind old new) = 0x04
command_of (permit password kind) = 0x06
command_of (readings mask) = 0x07
command_of (write_setpoint number setpoint) = 0x12
command_of (set_speed code) = 0x15
command_of (set_clock date season) = 0x17
command_of (read_clock form) = 0x18
command_of (write_marks marks) = 0x19
command_of read_marks = 0x1A
command_of synchronise = 0x1B
command_of (read_setting number which) = 0x1C
command_of (clear_log log password) = 0x1D
command_of (log_state log) = 0x1E
command_of (log_records log index count) = 0x1F
command_of (write_configuration bits events inputs debounce) = 0x2B
command_of read_configuration = 0x2C
command_of (write_output_mask number mask) = 0x2E
