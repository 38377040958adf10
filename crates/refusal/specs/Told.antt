-- What a caller is told: that the call is granted, or a refusal's number and what comes with it.
use Rattle.std.specs.Prelude.{ℕ, ◌-◌, cond, Ok, Err, Result, ◌==◌}
use Rattle.refusal.specs.declared.Company.{Company}
use Rattle.refusal.specs.declared.Company.TheVariants.{Alone, Block}
use Rattle.refusal.specs.declared.Refusal.{Refusal}
use Rattle.refusal.specs.declared.Refusal.TheVariants.{LittleMemory, NoRequest, ForeignAddress, NotForBroadcast, UnknownCommand, NotPrepared, NotPermitted, Parameter, LogIndex, WrongPassword, PastLastYear, EventReason, NoVolume, NoReply, CheckWord, NoRoom}

-- Each refusal's number and what comes with it. The calls that look through a line put a used count
-- in the place of Alone.
abbrev pub told : Refusal → ℕ × Company
told LittleMemory = (1, Alone)
told NoRequest = (2, Alone)
told ForeignAddress = (3, Alone)
told NotForBroadcast = (4, Alone)
told UnknownCommand = (5, Alone)
told NotPrepared = (6, Alone)
told NotPermitted = (7, Alone)
told Parameter = (8, Alone)
told LogIndex = (9, Alone)
told WrongPassword = (10, Alone)
told PastLastYear = (11, Alone)
told EventReason = (12, Alone)
told NoVolume = (13, Alone)
told NoReply = (14, Alone)
told (CheckWord block) = (15, Block block)
told NoRoom = (16, Alone)

abbrev pub number : Refusal → ℕ
number refusal = (told refusal).0

abbrev pub company : Refusal → Company
company refusal = (told refusal).1

-- The used count that comes with a refusal's number from a call that looks through a line: none of the
-- line where memory is short, all but the last 17 bytes where the line has no valid request, and else
-- all up to the place behind the frame that was refused.
abbrev pub used : ℕ → ℕ → ℕ → ℕ
used n line behind = cond (n == 1) 0 (cond (n == 2) (line - 17) behind)

-- The answer of a call as its caller is told it.
pub data Answer (T : Type 0) : Type 0 where
  granted : T → Answer T
  refused : ℕ → Company → Answer T

abbrev pub answer : {T : Type 0} → Result T Refusal → Answer T
answer (Ok x) = granted x
answer (Err refusal) = refused (number refusal) (company refusal)
