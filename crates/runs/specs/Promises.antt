-- What holds over a whole run from a fresh converter, beside every other run.
use Rattle.std.specs.Prelude.{◌≡◌, ℕ, ◌<◌, ◌↔◌, List, ◌++◌, ◌≢◌}
use Rattle.device.specs.Life.{Life, fresh}
use Rattle.records.specs.declared.Event.{Event}
use Rattle.records.specs.declared.PowerGap.{PowerGap}
use Rattle.runs.specs.History.{Ran, Turn, last_given}
use Rattle.runs.specs.Passwords.{Alike, Tells, calls}
use Rattle.runs.specs.Records.{AnswerAlike, HeardSo, HoldAlike, LogsOf, address_of}

-- What a run begins with: the cells of a store, the volumes of both logs, and their memories.
pub record Start : Type 0 where
  pub cells : ℕ → ℕ
  pub volume : ℕ
  pub volume_of_gaps : ℕ
  pub events : List Event
  pub gaps : List PowerGap

abbrev pub start_of : (ℕ → ℕ) → ℕ → ℕ → List Event → List PowerGap → Start
start_of cells volume volume_of_gaps events gaps =
    record { cells = cells; volume = volume; volume_of_gaps = volume_of_gaps; events = events; gaps = gaps }

abbrev pub fresh_of : Start → Life
fresh_of s = fresh s.cells s.volume s.volume_of_gaps s.events s.gaps

-- A fresh converter went through this history and is l.
abbrev pub Lives : Start → List Turn → Life → Type 0
Lives s history l = Ran (fresh_of s) history l

-- Settings: each cell has the byte that its last granted write gave it, and so between any two moments. From this it
-- follows that two stores are equal exactly when the last granted writes gave equal bytes, cell by cell.
pub record SettingsOf (s : Start) (history : List Turn) (l : Life) : Type 0 where
  pub each : (k : ℕ) → l.cells k ≡ last_given s.cells history k
  pub since : (m n : Life) (between : List Turn) → Ran m between n → (k : ℕ) → n.cells k ≡ last_given m.cells between k
  pub equal :
      (r : Start) (other : List Turn) (m : Life) → Lives r other m →
      ((k : ℕ) → k < 256 → l.cells k ≡ m.cells k) ↔ ((k : ℕ) → k < 256 → last_given s.cells history k ≡ last_given r.cells other k)

-- Passwords: from every moment of the run on, beside every other converter that then differs only in stored
-- passwords, whatever run led to it, and is given the same calls.
abbrev pub PasswordsOf : Start → List Turn → Life → Type 0
PasswordsOf s history l =
    (earlier later : List Turn) (m : Life) → history ≡ later ++ earlier → Lives s earlier m → Ran m later l →
    (r : Start) (before other : List Turn) (n o : Life) → Lives r before n → Ran n other o → Alike m n → calls later ≡ calls other →
    Tells m.cells n.cells later other

-- Records: what the logs hold and what requests for records are answered, here and beside every other run, that
-- every converter hears them so, and that two converters answer them alike exactly when their logs hold equal records.
pub record RecordsOf (s : Start) (history : List Turn) (l : Life) : Type 0 where
  pub logs : LogsOf s.volume s.volume_of_gaps history l
  pub beside : (r : Start) (other : List Turn) (m : Life) → Lives r other m → LogsOf r.volume r.volume_of_gaps other m
  pub heard : (m : Life) → HeardSo m
  pub equal :
      (r : Start) (other : List Turn) (m : Life) → Lives r other m → (address_of l ≢ 0x00FF) → (address_of m ≢ 0x00FF) →
      AnswerAlike l m ↔ HoldAlike l m

-- Whatever the history of a run is that began so and led to l: the store follows its last granted writes, its
-- answers tell of no password beyond right or wrong, and requests for records give those that it noted.
abbrev pub SettingsFollow : Start → Life → Type 0
SettingsFollow s l = (history : List Turn) → Lives s history l → SettingsOf s history l

abbrev pub PasswordsHide : Start → Life → Type 0
PasswordsHide s l = (history : List Turn) → Lives s history l → PasswordsOf s history l

abbrev pub RecordsShow : Start → Life → Type 0
RecordsShow s l = (history : List Turn) → Lives s history l → RecordsOf s history l
