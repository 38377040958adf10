-- Cells: from a cell's number to the byte that it holds.
use Rattle.std.specs.Prelude.{◌≡◌, ℕ, zero, suc, ◌+◌, ◌-◌, ◌<◌, cond, ◌&&◌, List, [], ◌∷◌, length, ◌==◌, nat_le, nat_lt, slice_index}

-- Cells that hold a list of bytes, from cell 0 on.
abbrev pub holding : List ℕ → ℕ → ℕ
holding bytes k = slice_index bytes k

-- The cells after a byte is written to cell i.
abbrev pub upd : (ℕ → ℕ) → ℕ → ℕ → ℕ → ℕ
upd cells i byte k = cond (k == i) byte (cells k)

-- The cells after bytes are written to neighbouring cells, from cell first on.
abbrev pub laid : ℕ → List ℕ → (ℕ → ℕ) → ℕ → ℕ
laid first bytes cells k = cond (nat_le first k && nat_lt k (first + length bytes)) (slice_index bytes (k - first)) (cells k)

-- The bytes of n neighbouring cells, from cell first on.
abbrev pub span : (ℕ → ℕ) → ℕ → ℕ → List ℕ
span cells first zero = []
span cells first (suc n) = cells first ∷ span cells (first + 1) n

-- The cells from cell first on hold these bytes.
abbrev pub Hold : (ℕ → ℕ) → ℕ → List ℕ → Type 0
Hold cells first bytes = (i : ℕ) → i < length bytes → cells (first + i) ≡ slice_index bytes i
