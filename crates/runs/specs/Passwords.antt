-- What the answers of a run tell of the stored passwords.
use Rattle.std.specs.Prelude.{◌≡◌, ℕ, ◌<◌, Bool, true, false, ◌&&◌, ◌||◌, List, [], ◌∷◌, map, Some, None, Option, ◌==◌, nat_le}
use Rattle.access.specs.Decision.{right}
use Rattle.converter.specs.Calls.{Call, Grant}
use Rattle.device.specs.Life.{Life}
use Rattle.refusal.specs.Told.{Answer, granted, refused}
use Rattle.request.specs.Asked.{Asked}
use Rattle.request.specs.Rows.{tries}
use Rattle.runs.specs.History.{Turn, last_given, request_of}

-- The cells of both passwords.
abbrev pub secret : ℕ → Bool
secret k = nat_le 3 k && nat_le k 10

-- Two converters differ in stored passwords alone, if at all: all else of the 256 cells is the same, and all
-- memory of their logs, too.
pub record Alike (l m : Life) : Type 0 where
  pub cells : (k : ℕ) → k < 256 → secret k ≡ false → l.cells k ≡ m.cells k
  pub access : l.access ≡ m.access
  pub time : l.time ≡ m.time
  pub readings : l.readings ≡ m.readings
  pub events : l.events ≡ m.events
  pub gaps : l.gaps ≡ m.gaps

-- By the answer no refusal before 10 applied: it is a grant or 10.
abbrev pub reached : Answer Grant → Bool
reached (granted g) = true
reached (refused n company) = n == 10

-- The row of what was asked names a password.
abbrev pub is_some : {A : Type 0} → Option A → Bool
is_some None = false
is_some (Some x) = true

abbrev pub names : Option Asked → Bool
names None = false
names (Some a) = is_some (tries a)

-- The request of a turn tried a password.
abbrev pub tries_in : Turn → Bool
tries_in t = names (request_of t.call t.came.result) && reached t.came.result

-- The password tried is right by these cells.
abbrev pub right_by : (ℕ → ℕ) → Option Asked → Bool
right_by cells None = true
right_by cells (Some a) = right cells a

abbrev pub right_in : (ℕ → ℕ) → Turn → Bool
right_in cells t = right_by cells (request_of t.call t.came.result)

-- No turn of two histories tries a password that is right for one converter and wrong for the other, by the
-- cells as they stood at that turn: what the last granted writes before it gave them.
abbrev pub Untold : (ℕ → ℕ) → (ℕ → ℕ) → List Turn → List Turn → Type 0
Untold f g [] others = Unit {0}
Untold f g (t ∷ earlier) [] = Unit {0}
Untold f g (t ∷ earlier) (u ∷ others) =
    Untold f g earlier others
    × ((tries_in t || tries_in u) ≡ true → right_in (last_given f earlier) t ≡ right_in (last_given g others) u)

abbrev pub calls : List Turn → List Call
calls history = map (λ t. t.call) history

abbrev pub results : List Turn → List (Answer Grant)
results history = map (λ t. t.came.result) history

-- Two converters that differ only in stored passwords, given one list of calls: equal results at every place
-- tell that no password right for one and wrong for the other was tried; and where none was, all came
-- alike, results and all given memory.
pub record Tells (f g : ℕ → ℕ) (history other : List Turn) : Type 0 where
  pub told : results history ≡ results other → Untold f g history other
  pub untold : Untold f g history other → history ≡ other
