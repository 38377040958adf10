-- What a converter makes of a line: the request found, the decision on it, the reply, and what then is.
use Rattle.std.specs.Prelude.{ℕ, ◌+◌, ◌<◌, Bool, cond, ◌||◌, List, ◌++◌, length, drop, Some, None, Option, ◌==◌}
use Rattle.access.specs.Decision.{closed, destination_of, kind_asked, own, right, stepped, verdict}
use Rattle.access.specs.declared.Access.{Access}
use Rattle.access.specs.declared.Destination.{Destination}
use Rattle.access.specs.declared.Destination.TheVariants.{Own, Broadcast, Foreign}
use Rattle.device.specs.Life.{Life}
use Rattle.device.specs.Rows.{data_of, held_for, obeyed}
use Rattle.refusal.specs.Told.{Answer, granted, refused, used}
use Rattle.refusal.specs.declared.Company.TheVariants.{Alone, Used}
use Rattle.reply_frame.specs.Replies.{data_len, on_line, reply}
use Rattle.request.specs.Asked.{Asked, asked, command_of}
use Rattle.request_frame.specs.Requests.{Requests, Valid, window}

-- A request in a line: where it begins, and its fields.
pub record Found : Type 0 where
  pub place : ℕ
  pub address : ℕ
  pub command : ℕ
  pub parameters : List ℕ

-- The place behind its frame.
abbrev pub behind : Found → ℕ
behind f = f.place + 18

-- The first valid request of a line: it begins at its place, and none begins before; or none at all does.
abbrev pub Finds : List ℕ → Option Found → Type 0
Finds line None = (k : ℕ) → Valid (window line k) → ⊥
Finds line (Some f) =
    Requests (window line f.place) f.address f.command f.parameters
    × ((k : ℕ) → k < f.place → Valid (window line k) → ⊥)

-- Broadcast carries these commands only.
abbrev pub carried : ℕ → Bool
carried command = command == 0x17 || command == 0x1B

-- A verdict on a request, with the request where it is granted.
abbrev pub ruled : Asked → Answer Unit → Answer Asked
ruled a (granted x) = granted a
ruled a (refused n company) = refused n company

-- The decision on what was asked of this converter: 5 where no row has the command, else by the row.
abbrev pub in_row : Life → Option Asked → Answer Asked
in_row l None = refused 5 Alone
in_row l (Some a) = ruled a (verdict l.access (own l.cells) (held_for l a) (right l.cells a) a)

-- The decision on a request: 3 where it is for another, 4 where broadcast does not carry it.
abbrev pub judged_for : Life → Destination → ℕ → List ℕ → Answer Asked
judged_for l Foreign command parameters = refused 3 Alone
judged_for l Broadcast command parameters = cond (carried command) (in_row l (asked command parameters)) (refused 4 Alone)
judged_for l Own command parameters = in_row l (asked command parameters)

abbrev pub destination : Life → Found → Destination
destination l f = destination_of l.cells f.address

abbrev pub judged : Life → Found → Answer Asked
judged l f = judged_for l (destination l f) f.command f.parameters

-- The same converter with another access.
abbrev pub with_access : Life → Access → Life
with_access l access = record {
  cells = l.cells;
  access = access;
  time = l.time;
  readings = l.readings;
  events = l.events;
  gaps = l.gaps;
}

-- What stands after a request: a granted one moves it, a refused one ends preparation and permission, and
-- one for another leaves both.
abbrev pub standing : Answer Asked → Access → Access
standing (granted a) access = stepped access (command_of a) (kind_asked a)
standing (refused n company) access = closed

abbrev pub standing_for : Destination → Answer Asked → Access → Access
standing_for Foreign decision access = access
standing_for Broadcast decision access = standing decision access
standing_for Own decision access = standing decision access

-- A granted request is obeyed.
abbrev pub did : Life → Answer Asked → Life
did l (granted a) = obeyed l a
did l (refused n company) = l

abbrev pub moved_by : Life → Destination → Answer Asked → Life
moved_by l d decision = with_access (did l decision) (standing_for d decision l.access)

-- The length of the reply with these data, and what the reply memory then holds: broadcast is never
-- replied to.
abbrev pub reply_length : Destination → List ℕ → ℕ
reply_length Own bytes = on_line (data_len (length bytes))
reply_length Broadcast bytes = 0
reply_length Foreign bytes = 0

abbrev pub replied : Destination → ℕ → List ℕ → List ℕ → List ℕ
replied Own address bytes memory = reply address bytes ++ drop (on_line (data_len (length bytes))) memory
replied Broadcast address bytes memory = memory
replied Foreign address bytes memory = memory

-- What a call that heard grants: the place behind the frame and the length of the reply.
pub record Hearing : Type 0 where
  pub used : ℕ
  pub reply : ℕ

-- What is answered, of a line of so many bytes; what the reply memory holds then; and what the converter is
-- then.
abbrev pub result_by : Life → ℕ → Found → Answer Asked → Answer Hearing
result_by l line f (granted a) = granted (record { used = behind f; reply = reply_length (destination l f) (data_of l a) })
result_by l line f (refused n company) = refused n (Used (used n line (behind f)))

abbrev pub reply_by : Life → Found → Answer Asked → List ℕ → List ℕ
reply_by l f (granted a) memory = replied (destination l f) f.address (data_of l a) memory
reply_by l f (refused n company) memory = memory

abbrev pub result_to : Life → ℕ → Option Found → Answer Hearing
result_to l line None = refused 2 (Used (used 2 line 0))
result_to l line (Some f) = result_by l line f (judged l f)

abbrev pub reply_to : Life → Option Found → List ℕ → List ℕ
reply_to l None memory = memory
reply_to l (Some f) memory = reply_by l f (judged l f) memory

abbrev pub life_after : Life → Option Found → Life
life_after l None = l
life_after l (Some f) = moved_by l (destination l f) (judged l f)
