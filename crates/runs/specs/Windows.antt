-- The frames of one write window, heard in turn.
use Rattle.std.specs.Prelude.{◌≡◌, ℕ, Bool, true, false, List, [], ◌∷◌, ◌++◌, length, Some, ◌≢◌}
use Rattle.converter.specs.Calls.{Call, Grant, Outcome, Steps, hear}
use Rattle.converter.specs.Hearing.{Finds, Found}
use Rattle.device.specs.Life.{Life}
use Rattle.refusal.specs.Told.{Answer, granted, refused}
use Rattle.refusal.specs.declared.Company.{Company}
use Rattle.request.specs.Asked.{Asked, asked}
use Rattle.request_frame.specs.Requests.{request}
use Rattle.runs.specs.History.{Ran, Turn}
use Rattle.runs.specs.Records.{address_of}
use Rattle.window.specs.Served.{Turn as WindowTurn}

-- A call hears one frame alone in a line, under that address; what the frame asks.
pub record HearsAlone (address : ℕ) (call : Call) (a : Asked) : Type 0 where
  pub command : ℕ
  pub parameters : List ℕ
  pub memory : List ℕ
  pub events : ℕ
  pub gaps : ℕ
  pub nine : length parameters ≡ 9
  pub asks : asked command parameters ≡ Some a
  pub is : call ≡ hear (request address command parameters) memory events gaps

-- A call hears a line whose first valid request is under that address, whatever else the line has; what that request asks.
pub record HearsFirst (address : ℕ) (call : Call) (a : Asked) : Type 0 where
  pub line : List ℕ
  pub found : Found
  pub memory : List ℕ
  pub events : ℕ
  pub gaps : ℕ
  pub finds : Finds line (Some found)
  pub under : found.address ≡ address
  pub asks : asked found.command found.parameters ≡ Some a
  pub is : call ≡ hear line memory events gaps

abbrev pub is_granted : Answer Grant → Bool
is_granted (granted g) = true
is_granted (refused n company) = false

-- A history is of calls that hear in such a way alone, all granted, one right behind another; what they asked, oldest first.
abbrev pub HeardBy : (ℕ → Call → Asked → Type 0) → ℕ → List Turn → List Asked → Type 0
HeardBy Hears address [] asks = asks ≡ []
HeardBy Hears address (t ∷ earlier) asks =
    (before : List Asked) × (a : Asked) × HeardBy Hears address earlier before × Hears address t.call a
    × (is_granted t.came.result ≡ true) × (asks ≡ before ++ a ∷ [])

-- Whatever came before a window was opened, the next of its frames is refused neither with 6 nor with 7,
-- where all before it were granted and nothing came between.
abbrev pub WindowsBy : (ℕ → Call → Asked → Type 0) → Type 0
WindowsBy Hears =
    (l m n : Life) (history : List Turn) (asks : List Asked) (next : Asked) (call : Call) (o : Outcome) →
    Ran l history m → HeardBy Hears (address_of l) history asks → WindowTurn asks next → Hears (address_of l) call next →
    Steps m call o n → (company : Company) → (o.result ≢ refused 6 company) × (o.result ≢ refused 7 company)

-- Frames that are heard each alone in a line.
abbrev pub Windows : Type 0
Windows = WindowsBy HearsAlone

-- Frames that are heard in any lines: behind noise, or with more frames behind.
abbrev pub WindowsInLines : Type 0
WindowsInLines = WindowsBy HearsFirst
