-- The check word, bit by bit: a register of 16 bits, the polynomial 0x3D65, each byte's highest bit first.
use Rattle.std.specs.Prelude.{ℕ, zero, suc, ◌-◌, ◌*◌, ◌/◌, ◌%◌, Bool, true, ◌&&◌, List, [], ◌∷◌, ◌==◌, bit_xor, slice_index}

-- One bit more: the register moves up by one place. Where the bit that falls out differs from the bit
-- that comes in, the polynomial 0x3D65 is joined in.
unfoldable pub bit_in : ℕ → ℕ → ℕ
bit_in register bit = bit_xor (register * 2 % 65536) (15717 * bit_xor (register / 32768 % 2) bit)

-- One byte more: its eight bits, the highest first.
unfoldable pub byte_in : ℕ → ℕ → ℕ
byte_in register byte =
    bit_in (bit_in (bit_in (bit_in (bit_in (bit_in (bit_in (bit_in register
    (byte / 128 % 2)) (byte / 64 % 2)) (byte / 32 % 2)) (byte / 16 % 2))
    (byte / 8 % 2)) (byte / 4 % 2)) (byte / 2 % 2)) (byte % 2)

-- The register after a list of bytes.
unfoldable pub after : ℕ → List ℕ → ℕ
after register [] = register
after register (byte ∷ bytes) = after (byte_in register byte) bytes

-- The check word of a list of bytes: all bits of the register after them turned over.
unfoldable pub check_word : List ℕ → ℕ
check_word bytes = 65535 - after 0 bytes

-- The first n entries of a table are what their place, taken in as a byte, leaves in an empty register.
unfoldable pub holds : List ℕ → ℕ → Bool
holds table zero = true
holds table (suc n) = slice_index table n == byte_in 0 n && holds table n
