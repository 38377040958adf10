-- Bytes as programs show them.
use Rattle.std.specs.Prelude.{ℕ, ◌/◌, ◌%◌, false, List, [], ◌∷◌}
use Rattle.std.specs.Fmt.{digit_glyph}
use Rattle.std.specs.List.{flat_map}

-- A blank and the two hexadecimal digits of a byte.
abbrev pub pair : ℕ → List ℕ
pair byte = 32 ∷ digit_glyph false (byte / 16) ∷ digit_glyph false (byte % 16) ∷ []

-- The text of bytes.
abbrev pub pairs : List ℕ → List ℕ
pairs bytes = flat_map pair bytes
