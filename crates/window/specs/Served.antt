-- What a converter does not hold against the frames of one window.
use Rattle.std.specs.Prelude.{◌≡◌, ℕ, Bool, true, List, [], ◌∷◌, ◌++◌, length, replicate, Some, ◌≢◌}
use Rattle.access.specs.Decision.{afterwards, verdict}
use Rattle.access.specs.declared.Access.{Access}
use Rattle.refusal.specs.Told.{granted, refused}
use Rattle.refusal.specs.declared.Company.TheVariants.{Alone}
use Rattle.request.specs.Asked.{Asked, asked, command_of, permit, prepare, read_address}
use Rattle.window.specs.Frames.{open_writes, permitted_writes}

-- What the frames of one window ask, in turn: those before, and the next.
pub data Turn : List Asked → Asked → Type 0 where
  opens : Turn [] (prepare 0xA5)
  permits : (password : List ℕ) → Turn (prepare 0xA5 ∷ []) (permit password 0)
  writes : (next : Asked) → open_writes (command_of next) ≡ true → Turn (prepare 0xA5 ∷ []) next
  closes : Turn (prepare 0xA5 ∷ []) read_address
  writes_permitted : (password : List ℕ) (asked : Asked) → permitted_writes (command_of asked) ≡ true →
      Turn (prepare 0xA5 ∷ permit password 0 ∷ []) asked
  closes_permitted : (password : List ℕ) → Turn (prepare 0xA5 ∷ permit password 0 ∷ []) read_address

-- What stands after requests that were all granted, one right behind another.
abbrev pub after_all : Access → List Asked → Access
after_all access [] = access
after_all access (first ∷ later) = after_all (afterwards {T = Unit {0}} (granted tt) access first) later

-- What the frames of a window ask: by the key and the password that they carry, and by their command.
pub record Frames : Type 0 where
  pub opening : asked 0x01 (0xA5 ∷ replicate 8 0) ≡ Some (prepare 0xA5)
  pub permitting : (password : List ℕ) → length password ≡ 4 → asked 0x06 (password ++ replicate 5 0) ≡ Some (permit password 0)
  pub closing : asked 0x03 (replicate 9 0) ≡ Some read_address
  pub writing : (command : ℕ) (parameters : List ℕ) (request : Asked) → asked command parameters ≡ Some request →
      command_of request ≡ command

-- Whatever stood when a window was opened, the next of its frames is refused neither with 6 nor with 7,
-- where all before it were granted and nothing came between.
pub record Served : Type 0 where
  pub frames : Frames
  pub turns :
      (access : Access) (before : List Asked) (next : Asked) → Turn before next →
      (address : List ℕ) (held : ℕ) (right : Bool) →
      (verdict (after_all access before) address held right next ≢ refused 6 Alone)
      × (verdict (after_all access before) address held right next ≢ refused 7 Alone)
