-- Access: what stands, which requests it lets through, and how it moves.
use Rattle.std.specs.Prelude.{ℕ, ◌+◌, ◌*◌, Bool, true, false, cond, not, ◌&&◌, List, [], ◌∷◌, Some, None, Option, ◌==◌, nat_le, slice_index}
use Rattle.access.specs.declared.Access.{Access}
use Rattle.access.specs.declared.Destination.{Destination}
use Rattle.access.specs.declared.Destination.TheVariants.{Own, Broadcast, Foreign}
use Rattle.refusal.specs.Told.{Answer, granted, refused}
use Rattle.refusal.specs.declared.Company.TheVariants.{Alone}
use Rattle.request.specs.Asked.{Asked, command_of, prepare, change_address, read_address, change_password, permit, readings, write_setpoint, set_speed, set_clock, read_clock, write_marks, read_marks, synchronise, read_setting, clear_log, log_state, log_records, write_configuration, read_configuration, write_output_mask}
use Rattle.request.specs.Rows.{checked, needs, tries}
use Rattle.request.specs.declared.rows.Needs.{Needs}
use Rattle.request.specs.declared.rows.Needs.TheVariants.{Nothing, Preparation, PreparationAndPermission}
use Rattle.request.specs.Writes.{password_cell}
use Rattle.request.specs.declared.rows.PasswordKind.{PasswordKind}
use Rattle.request.specs.declared.rows.PasswordKind.TheVariants.{Setpoint, Counter}

-- Neither prepared nor permitted.
abbrev pub closed : Access
closed = record { prepared = false; permitted = None }

-- What stands is not what is needed: preparation, and permission of kind 0.
abbrev pub unprepared : Access → Needs → Bool
unprepared access Nothing = false
unprepared access Preparation = not access.prepared
unprepared access PreparationAndPermission = not access.prepared

abbrev pub permits_setpoints : Option PasswordKind → Bool
permits_setpoints None = false
permits_setpoints (Some Setpoint) = true
permits_setpoints (Some Counter) = false

abbrev pub unpermitted : Access → Needs → Bool
unpermitted access Nothing = false
unpermitted access Preparation = false
unpermitted access PreparationAndPermission = not (permits_setpoints access.permitted)

-- The index that a request for records begins at is not below the number of records held.
abbrev pub index_past : ℕ → Asked → Bool
index_past held (prepare key) = false
index_past held (change_address own new) = false
index_past held read_address = false
index_past held (change_password kind old new) = false
index_past held (permit password kind) = false
index_past held (readings mask) = false
index_past held (write_setpoint number setpoint) = false
index_past held (set_speed code) = false
index_past held (set_clock date season) = false
index_past held (read_clock form) = false
index_past held (write_marks marks) = false
index_past held read_marks = false
index_past held synchronise = false
index_past held (read_setting number which) = false
index_past held (clear_log log password) = false
index_past held (log_state log) = false
index_past held (log_records log index count) = nat_le held index
index_past held (write_configuration bits events inputs debounce) = false
index_past held read_configuration = false
index_past held (write_output_mask number mask) = false

-- Four neighbouring cells hold four bytes.
abbrev pub holds_four : (ℕ → ℕ) → ℕ → List ℕ → Bool
holds_four cells first bytes =
    (cells (first + 0) == slice_index bytes 0)
    && (cells (first + 1) == slice_index bytes 1
    && (cells (first + 2) == slice_index bytes 2
    && cells (first + 3) == slice_index bytes 3))

-- The password tried is the stored one of its kind; right, too, where none is tried.
abbrev pub right_for : (ℕ → ℕ) → Option (PasswordKind × List ℕ) → Bool
right_for cells None = true
right_for cells (Some tried) = holds_four cells (password_cell tried.0) tried.1

abbrev pub right : (ℕ → ℕ) → Asked → Bool
right cells asked = right_for cells (tries asked)

-- The converter's own address.
abbrev pub own : (ℕ → ℕ) → List ℕ
own cells = cells 0 ∷ cells 1 ∷ []

-- For whom a frame is: 0x00FF is always broadcast.
abbrev pub destination_of : (ℕ → ℕ) → ℕ → Destination
destination_of cells address = cond (address == 0x00FF) Broadcast (cond (address == cells 0 + 256 * cells 1) Own Foreign)

-- What is answered to a request for this converter or broadcast, by what stands, the converter's address,
-- the number of records held and whether the password tried is right: the least number that applies.
abbrev pub verdict : Access → List ℕ → ℕ → Bool → Asked → Answer Unit
verdict access address held is_right asked =
    cond (unprepared access (needs asked)) (refused 6 Alone)
    (cond (unpermitted access (needs asked)) (refused 7 Alone)
    (cond (not (checked address asked)) (refused 8 Alone)
    (cond (index_past held asked) (refused 9 Alone)
    (cond is_right (granted tt) (refused 10 Alone)))))

-- What a request to permit asks for: setpoints for kind 0, else counters.
abbrev pub kind_asked : Asked → Option PasswordKind
kind_asked (prepare key) = None
kind_asked (change_address own new) = None
kind_asked read_address = None
kind_asked (change_password kind old new) = None
kind_asked (permit password kind) = Some (cond (kind == 0) Setpoint Counter)
kind_asked (readings mask) = None
kind_asked (write_setpoint number setpoint) = None
kind_asked (set_speed code) = None
kind_asked (set_clock date season) = None
kind_asked (read_clock form) = None
kind_asked (write_marks marks) = None
kind_asked read_marks = None
kind_asked synchronise = None
kind_asked (read_setting number which) = None
kind_asked (clear_log log password) = None
kind_asked (log_state log) = None
kind_asked (log_records log index count) = None
kind_asked (write_configuration bits events inputs debounce) = None
kind_asked read_configuration = None
kind_asked (write_output_mask number mask) = None

-- How a granted command moves what stands: 0x01 prepares, 0x06 permits a kind in the place of an earlier
-- one, neither ends the other, and every other command ends both.
abbrev pub stepped : Access → ℕ → Option PasswordKind → Access
stepped access command kind =
    cond (command == 0x01) (record { prepared = true; permitted = access.permitted })
    (cond (command == 0x06) (record { prepared = access.prepared; permitted = kind }) closed)

-- A refused request ends both.
abbrev pub afterwards : {T : Type 0} → Answer T → Access → Asked → Access
afterwards (granted x) access asked = stepped access (command_of asked) (kind_asked asked)
afterwards (refused number company) access asked = closed

-- An answer without the value that it grants.
abbrev pub bare : {T : Type 0} → Answer T → Answer Unit
bare (granted x) = granted tt
bare (refused number company) = refused number company
