-- Which cells a granted request sets, and to what.
use Rattle.std.specs.Prelude.{ℕ, ◌+◌, ◌-◌, ◌*◌, ◌/◌, ◌%◌, cond, ◌&&◌, List, [], ◌∷◌, length, Some, None, Option, ◌==◌, nat_le, nat_lt, slice_index}
use Rattle.request.specs.Asked.{Asked, prepare, change_address, read_address, change_password, permit, readings, write_setpoint, set_speed, set_clock, read_clock, write_marks, read_marks, synchronise, read_setting, clear_log, log_state, log_records, write_configuration, read_configuration, write_output_mask}
use Rattle.request.specs.declared.rows.PasswordKind.{PasswordKind}
use Rattle.request.specs.declared.rows.PasswordKind.TheVariants.{Setpoint, Counter}
use Rattle.std.specs.Option.{option_or}

-- Bytes for neighbouring cells, from cell first on: the byte that they give cell k, if they give one.
abbrev pub put : ℕ → List ℕ → ℕ → Option ℕ
put first bytes k = cond (nat_le first k && nat_lt k (first + length bytes)) (Some (slice_index bytes (k - first))) None

-- The first cell of a password.
abbrev pub password_cell : PasswordKind → ℕ
password_cell Setpoint = 3
password_cell Counter = 7

-- Bit 0x01 of a configuration brings the event mask and the mask of inputs.
abbrev pub masks_given : ℕ → List ℕ → ℕ → ℕ → Option ℕ
masks_given bits events inputs k =
    cond (bits % 2 == 1) (put 17 (slice_index events 0 ∷ slice_index events 1 ∷ inputs ∷ []) k) None

-- Bit 0x10 brings the debounce time, which is 6 where none is given.
abbrev pub debounce_given : ℕ → ℕ → ℕ → Option ℕ
debounce_given bits debounce k = cond (bits / 16 % 2 == 1) (put 20 (cond (debounce == 0) 6 debounce ∷ []) k) None

-- The byte that a granted request gives cell k, if it gives one.
abbrev pub gives : Asked → ℕ → Option ℕ
gives (prepare key) k = None
gives (change_address own new) k = put 0 new k
gives read_address k = None
gives (change_password kind old new) k = put (password_cell (cond (kind == 1) Setpoint Counter)) new k
gives (permit password kind) k = None
gives (readings mask) k = None
gives (write_setpoint number setpoint) k = put (33 + 8 * number) setpoint k
gives (set_speed code) k = put 2 (code ∷ []) k
gives (set_clock date season) k = None
gives (read_clock form) k = None
gives (write_marks marks) k = put 11 marks k
gives read_marks k = None
gives synchronise k = None
gives (read_setting number which) k = None
gives (clear_log log password) k = None
gives (log_state log) k = None
gives (log_records log index count) k = None
gives (write_configuration bits events inputs debounce) k = option_or (debounce_given bits debounce k) (masks_given bits events inputs k)
gives read_configuration k = None
gives (write_output_mask number mask) k = put (161 + 8 * number) mask k
