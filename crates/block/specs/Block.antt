-- Blocks on the line.
use Rattle.std.specs.Prelude.{◌≡◌, ℕ, ◌/◌, ◌%◌, List, [], ◌∷◌, ◌++◌}
use Rattle.check_word.specs.CheckWord.{check_word}

-- The block of a list of bytes: the bytes, then their check word, high byte first.
unfoldable pub sealed : List ℕ → List ℕ
sealed bytes = bytes ++ check_word bytes / 256 ∷ check_word bytes % 256 ∷ []

-- Bytes are a block: some bytes with their check word behind.
abbrev pub Block : List ℕ → Type 0
Block bytes = (covered : List ℕ) × (bytes ≡ sealed covered)

-- The 18 bytes that open every frame: the head 05 64, then the block of DataLen, ControlByte 0, the
-- address, low byte first, and ten bytes more.
abbrev pub opening : ℕ → ℕ → List ℕ → List ℕ
opening data_len address ten = 5 ∷ 100 ∷ sealed (data_len ∷ 0 ∷ address % 256 ∷ address / 256 ∷ ten)
