-- What a frame of the line asks.
use Rattle.std.specs.Prelude.{◌≡◌, ℕ, cond, List, length, Some, None, Ok, Err, Option, Result, ◌==◌}
use Rattle.refusal.specs.Told.{told}
use Rattle.refusal.specs.declared.Company.TheVariants.{Alone}
use Rattle.refusal.specs.declared.Refusal.{Refusal}
use Rattle.request.specs.Asked.{Asked, asked, meant}
use Rattle.request.specs.Rows.{Sized}
use Rattle.request.specs.declared.Request.{Request}

-- What a command with its parameters asks, if there are nine of them and a row has the command.
abbrev pub asked_in : ℕ → List ℕ → Option Asked
asked_in command ps = cond (length ps == 9) (asked command ps) None

-- A frame is read as what it asks; a command that no row has is refused with 5.
abbrev pub Asks : ℕ → List ℕ → Result Request Refusal → Type 0
Asks command ps (Ok request) = (asked_in command ps ≡ Some (meant request)) × Sized (meant request)
Asks command ps (Err e) = (asked_in command ps ≡ None) × (told e ≡ (5, Alone))
