-- The frames of a window, and what its calls tell.
use Rattle.std.specs.Prelude.{◌≡◌, ℕ, Bool, cond, ◌||◌, List, ◌∷◌, ◌++◌, length, drop, replicate, Ok, Err, Result, ◌==◌, nat_lt}
use Rattle.refusal.specs.Told.{Answer, company, granted, number, refused}
use Rattle.refusal.specs.declared.Company.TheVariants.{Alone}
use Rattle.request_frame.specs.Requests.{request}
use Rattle.window.specs.declared.Kept.{Kept}
use Rattle.window.specs.declared.Window.{Window}

-- The commands that an open window writes, and those that a permitted one does.
abbrev pub open_writes : ℕ → Bool
open_writes command = command == 0x02 || (command == 0x04 || (command == 0x15 || (command == 0x1D || command == 0x2B)))

abbrev pub permitted_writes : ℕ → Bool
permitted_writes command = command == 0x12 || command == 0x2E

-- The frame that opens a window: the key in P1.
abbrev pub preparing : ℕ → List ℕ
preparing address = request address 0x01 (0xA5 ∷ replicate 8 0)

-- The frame that permits writes of kind 0: the password in P1 to P4, the kind in P5.
abbrev pub permitting : ℕ → List ℕ → List ℕ
permitting address password = request address 0x06 (password ++ replicate 5 0)

-- The frame that closes a window and writes nothing.
abbrev pub closing : ℕ → List ℕ
closing address = request address 0x03 (replicate 9 0)

-- What a call is to tell that puts a frame into memory: 5 where the command is not one of the window's,
-- then 16 where the frame finds no room, and else what it grants.
abbrev pub verdict : {T : Type 0} → Bool → List ℕ → T → Answer T
verdict lawful memory grant =
    cond lawful (cond (nat_lt (length memory) 18) (refused 16 Alone) (granted grant)) (refused 5 Alone)

-- What the memory holds then: the frame and what stood behind it, or all that stood.
abbrev pub filled : Bool → List ℕ → List ℕ → List ℕ
filled lawful memory frame =
    cond lawful (cond (nat_lt (length memory) 18) memory (frame ++ drop 18 memory)) memory

-- The answer of a window's call as its caller is told it, without the window kept.
abbrev pub told : {T : Type 0} {state : ℕ} → Result T (Kept state) → Answer T
told (Ok x) = granted x
told (Err kept) = refused (number kept.refusal) (company kept.refusal)

-- A refusal keeps the window as it was.
abbrev pub Keeps : {T : Type 0} {state : ℕ} → Result T (Kept state) → Window state → Type 0
Keeps (Ok x) window = Unit {0}
Keeps (Err kept) window = kept.window ≡ window
