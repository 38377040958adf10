-- The request that an answer speaks of is the one that was found, and the one that was granted.
use Rattle.std.proofs.Common.{◌≡◌, ℕ, ◌+◌, ◌-◌, Bool, true, false, cond, List, take, drop, Some, None, Option, sym, ap, ◌∙◌, ap₂, arith}
use Rattle.access.specs.declared.Destination.{Destination}
use Rattle.access.specs.declared.Destination.TheVariants.{Own, Broadcast, Foreign}
use Rattle.converter.specs.Hearing.{Finds, Found, behind, carried, destination, in_row, judged, judged_for, ruled}
use Rattle.device.specs.Life.{Life}
use Rattle.refusal.specs.Told.{Answer, granted, refused}
use Rattle.refusal.specs.declared.Company.{Company}
use Rattle.refusal.specs.declared.Company.TheVariants.{Alone}
use Rattle.request.specs.Asked.{Asked, asked}
use Rattle.request_frame.proofs.Frame.{reading}
use Rattle.request_frame.specs.Requests.{window}
use Rattle.runs.specs.History.{frame_asks, frame_before}
use Rattle.std.proofs.lemmas.Bool.{false≢true}

-- the 18 bytes before the place behind a frame are the frame
pub frame_asked : (line : List ℕ) (f : Found) → Finds line (Some f) → frame_asks (frame_before line (behind f)) ≡ asked f.command f.parameters
frame_asked line f finds =
    let r = reading (window line f.place) f.address f.command f.parameters finds.0 in
    let at : f.place + 18 - 18 ≡ f.place = omega arith in
    ap (λ (k : ℕ). frame_asks (take 18 (drop k line))) at ∙ ap₂ asked (sym r.command_is) (sym r.parameters_are)

-- whether an answer is a grant
abbrev pub is_grant : {T : Type 0} → Answer T → Bool
is_grant (granted x) = true
is_grant (refused n company) = false

-- a refusal is no grant
pub never : {T : Type 0} {A : Type 0} {n : ℕ} {company : Company} {x : T} → refused n company ≡ granted x → A
never e = let z : ◌≡◌ {A = Bool} false true = ap is_grant e in absurd (false≢true z)

ruled_asked : (a b : Asked) (v : Answer Unit) → ruled a v ≡ granted b → a ≡ b
ruled_asked a b (granted x) e = cc
ruled_asked a b (refused n company) e = never e

row_asked : (l : Life) (o : Option Asked) (a : Asked) → in_row l o ≡ granted a → o ≡ Some a
row_asked l None a e = never e
row_asked l (Some b) a e = ap Some (ruled_asked b a _ e)

carried_asked : (b : Bool) (l : Life) (o : Option Asked) (a : Asked) → cond b (in_row l o) (refused 4 Alone) ≡ granted a → o ≡ Some a
carried_asked true l o a e = row_asked l o a e
carried_asked false l o a e = never e

for_asked : (l : Life) (d : Destination) (command : ℕ) (ps : List ℕ) (a : Asked) → judged_for l d command ps ≡ granted a → asked command ps ≡ Some a
for_asked l Foreign command ps a e = never e
for_asked l Broadcast command ps a e = carried_asked (carried command) l (asked command ps) a e
for_asked l Own command ps a e = row_asked l (asked command ps) a e

-- what was granted was asked
pub granted_asked : (l : Life) (f : Found) (a : Asked) → judged l f ≡ granted a → asked f.command f.parameters ≡ Some a
granted_asked l f a e = for_asked l (destination l f) f.command f.parameters a e
