-- The password in the code's answer.
use Rattle.std.specs.Prelude.{ℕ, List, Option}
use Rattle.request.specs.declared.rows.PasswordKind.{PasswordKind}
use Rattle.request.specs.declared.rows.Tried.{Tried}
use Rattle.std.specs.Option.{option_map}

abbrev pub tried_in : Option Tried → Option (PasswordKind × List ℕ)
tried_in o = option_map (λ t. (t.kind, t.bytes.now)) o
