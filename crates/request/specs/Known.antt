-- What is known of a request is known in one way.
use Rattle.std.proofs.Math.Bool.{Bool-set}
use Rattle.std.proofs.Math.Nat.{ℕ_set}
use Rattle.std.specs.Coded.{×_prop, Unit-prop, le_prop}
use Rattle.request.specs.Asked.{Asked, change_address, change_password, permit, readings, write_setpoint, set_clock, write_marks, read_setting, clear_log, write_configuration, write_output_mask}
use Rattle.request.specs.Rows.{Numbered, NumberedRead, Sized}

pub Numbered-prop : (a : Asked) → IsProp (Numbered a)
Numbered-prop (write_setpoint number setpoint) = le_prop
Numbered-prop (write_output_mask number mask) = le_prop
Numbered-prop _ = Unit-prop

pub NumberedRead-prop : (a : Asked) → IsProp (NumberedRead a)
NumberedRead-prop (read_setting number which) = Bool-set _ _
NumberedRead-prop _ = Unit-prop

pub Sized-prop : (a : Asked) → IsProp (Sized a)
Sized-prop (change_address own new) = ×_prop (ℕ_set _ _) (ℕ_set _ _)
Sized-prop (change_password kind old new) = ×_prop (ℕ_set _ _) (ℕ_set _ _)
Sized-prop (permit password kind) = ℕ_set _ _
Sized-prop (readings mask) = ℕ_set _ _
Sized-prop (write_setpoint number setpoint) = ℕ_set _ _
Sized-prop (set_clock date season) = ℕ_set _ _
Sized-prop (write_marks marks) = ℕ_set _ _
Sized-prop (clear_log log password) = ℕ_set _ _
Sized-prop (write_configuration bits events inputs debounce) = ℕ_set _ _
Sized-prop (write_output_mask number mask) = ℕ_set _ _
Sized-prop _ = Unit-prop
