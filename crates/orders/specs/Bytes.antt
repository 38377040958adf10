-- Nine parameters from what a text says.
use Rattle.std.specs.Prelude.{◌≡◌, ℕ, ◌≤◌, List, ◌++◌, length, drop, replicate, Ok, Result}
use Rattle.hex_text.specs.declared.Fault.{Fault}
use Rattle.hex_text.specs.declared.Fault.TheVariants.{Memory as NoMemory, NoDigit, HalfPair}
use Rattle.orders.specs.declared.Fault.{Fault as Missed}
use Rattle.orders.specs.declared.Fault.TheVariants.{Bytes, Memory}

-- The bytes that a text says, at most nine, and zeros behind them.
abbrev pub Filled : Result (List ℕ) Fault → List ℕ → Type 0
Filled said nine = (bytes : List ℕ) × (said ≡ Ok bytes) × (length bytes ≤ 9) × (nine ≡ bytes ++ drop (length bytes) (replicate 9 0))

-- What a fault of a text of bytes is in a line: no memory, or no bytes.
abbrev pub fault_of : Fault → Missed
fault_of (NoDigit _) = Bytes
fault_of (HalfPair _) = Bytes
fault_of NoMemory = Memory
