-- Requests on the line.
use Rattle.std.specs.Prelude.{◌≡◌, ℕ, ◌<◌, Bool, true, false, ◌&&◌, ◌||◌, List, ◌∷◌, length, take, drop, Some, None, Option, ◌==◌, nat_lt, slice_index}
use Rattle.block.specs.Block.{opening}

-- The 18 bytes of a request: an opening of DataLen 0 whose ten bytes are the command and P1 to P9.
abbrev pub request : ℕ → ℕ → List ℕ → List ℕ
request address command parameters = opening 0 address (command ∷ parameters)

-- Bytes are the request of an address of two bytes, a command and nine parameters.
pub record Requests (bytes : List ℕ) (address command : ℕ) (parameters : List ℕ) : Type 0 where
  pub fits : address < 65536
  pub nine : length parameters ≡ 9
  pub is : bytes ≡ request address command parameters

-- Bytes are a valid request.
abbrev pub Valid : List ℕ → Type 0
Valid bytes = (address : ℕ) × (command : ℕ) × (parameters : List ℕ) × Requests bytes address command parameters

-- Bytes are the request of these fields and of no others.
pub record ReadsAs (bytes : List ℕ) (address command : ℕ) (parameters : List ℕ) : Type 0 where
  pub reads : Requests bytes address command parameters
  pub alone : (a c : ℕ) (ps : List ℕ) → Requests bytes a c ps → (a ≡ address) × (c ≡ command) × (ps ≡ parameters)

-- The 18 bytes of a line from a place on, or fewer where the line ends.
abbrev pub window : List ℕ → ℕ → List ℕ
window line place = take 18 (drop place line)

-- The least place at which a valid request begins, with its command: one begins there, and none before.
abbrev pub Least : List ℕ → Option (ℕ × ℕ) → Type 0
Least line None = (k : ℕ) → Valid (window line k) → ⊥
Least line (Some found) =
    ((address : ℕ) × (parameters : List ℕ) × Requests (window line found.0) address found.1 parameters)
    × ((k : ℕ) → k < found.0 → Valid (window line k) → ⊥)

-- The first four bytes are those of a request.
abbrev pub headed : List ℕ → Bool
headed bytes = slice_index bytes 0 == 5 && (slice_index bytes 1 == 100 && (slice_index bytes 2 == 0 && slice_index bytes 3 == 0))

-- The end of a line may be the beginning of a request: 05 alone, or 05 64 and fewer than 16 bytes more.
abbrev pub begun : List ℕ → Bool
begun rest =
    nat_lt 0 (length rest)
    && (nat_lt (length rest) 18
    && (slice_index rest 0 == 5
    && (length rest == 1 || slice_index rest 1 == 100)))

-- The least place from which a line's end may be the beginning of a request.
abbrev pub FirstBegun : List ℕ → Option ℕ → Type 0
FirstBegun line None = (k : ℕ) → begun (drop k line) ≡ false
FirstBegun line (Some place) = (begun (drop place line) ≡ true) × ((k : ℕ) → k < place → begun (drop k line) ≡ false)
