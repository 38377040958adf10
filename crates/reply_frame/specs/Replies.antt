-- Replies on the line.
use Rattle.std.specs.Prelude.{◌≡◌, ℕ, ◌+◌, ◌-◌, ◌*◌, ◌/◌, ◌%◌, ◌<◌, ◌≤◌, max, Bool, ◌&&◌, List, ◌∷◌, ◌++◌, length, replicate, ◌==◌, nat_le, slice_index}
use Rattle.block.specs.Chain.{chained, parts}

-- Data of fewer than ten bytes are filled with zeros to ten.
abbrev pub filled : List ℕ → List ℕ
filled payload = payload ++ replicate (10 - length payload) 0

-- DataLen for so many data bytes.
abbrev pub data_len : ℕ → ℕ
data_len n = max n 10 + 4

-- The bytes of a reply: the head 05 64, then the blocks of DataLen, ControlByte 0, the address, low byte
-- first, and the data. So the first block has ten data bytes, and each block its own check word.
abbrev pub reply : ℕ → List ℕ → List ℕ
reply address payload = 5 ∷ 100 ∷ chained (data_len (length payload) ∷ 0 ∷ address % 256 ∷ address / 256 ∷ filled payload)

-- How long a reply with this DataLen is: the head, the bytes, and a check word for each part of 14.
abbrev pub on_line : ℕ → ℕ
on_line n = 2 + (n + 2 * parts n)

-- So many data bytes go into a reply, and the reply into so much memory.
abbrev pub fits : ℕ → ℕ → Bool
fits n room = nat_le n 251 && nat_le (on_line (data_len n)) room

-- Bytes are the reply of an address of two bytes and of 10 to 251 data bytes, the filling counted as data.
pub record Replies (bytes : List ℕ) (address : ℕ) (payload : List ℕ) : Type 0 where
  pub address_fits : address < 65536
  pub ten : 10 ≤ length payload
  pub most : length payload ≤ 251
  pub is : bytes ≡ reply address payload

-- Bytes are the reply of this address and these data, and of no others.
pub record ReadsAs (bytes : List ℕ) (address : ℕ) (payload : List ℕ) : Type 0 where
  pub reads : Replies bytes address payload
  pub alone : (a : ℕ) (d : List ℕ) → Replies bytes a d → (a ≡ address) × (d ≡ payload)

-- Bytes have the shape of a reply: 18 of them at least, the head 05 64, DataLen 14 at least,
-- ControlByte 0, and the length that DataLen tells.
abbrev pub shaped : List ℕ → Bool
shaped bytes =
    nat_le 18 (length bytes)
    && (slice_index bytes 0 == 5
    && (slice_index bytes 1 == 100
    && (nat_le 14 (slice_index bytes 2)
    && (slice_index bytes 3 == 0
    && length bytes == on_line (slice_index bytes 2)))))
