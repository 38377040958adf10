-- Cells that are compared.
use Rattle.std.specs.Prelude.{◌≡◌, ℕ, ◌<◌}

-- The cells below n hold the same bytes in both.
abbrev pub SameCells : ℕ → (ℕ → ℕ) → (ℕ → ℕ) → Type 0
SameCells n a b = (k : ℕ) → k < n → a k ≡ b k
