-- Blocks written one behind another.
use Rattle.std.specs.Prelude.{◌≡◌, ℕ, zero, suc, ◌+◌, ◌*◌, ◌/◌, ◌<◌, ◌≤◌, List, [], ◌++◌, length, take, drop}
use Rattle.block.specs.Block.{Block, sealed}

-- n blocks: bytes cut into parts of 14, each followed by its check word.
unfoldable pub chain : ℕ → List ℕ → List ℕ
chain zero bytes = []
chain (suc n) bytes = sealed (take 14 bytes) ++ chain n (drop 14 bytes)

-- How many parts of 14 so many bytes make, a shorter last one counted.
abbrev pub parts : ℕ → ℕ
parts n = (n + 13) / 14

-- The blocks of a list of bytes; the last may be shorter than the others.
unfoldable pub chained : List ℕ → List ℕ
chained bytes = chain (parts (length bytes)) bytes

-- Blocks hold at most so many bytes.
abbrev pub Holds : List ℕ → ℕ → Type 0
Holds blocks most = (bytes : List ℕ) × (blocks ≡ chained bytes) × (length bytes ≤ most)

-- The block with number k, from 0: a full one has 14 bytes and a check word.
abbrev pub block_at : List ℕ → ℕ → List ℕ
block_at blocks k = take 16 (drop (16 * k) blocks)

-- Every check word is right.
abbrev pub AllRight : List ℕ → Type 0
AllRight blocks = (k : ℕ) → 16 * k < length blocks → Block (block_at blocks k)

-- The first block with a wrong check word has number k.
pub record FirstWrong (blocks : List ℕ) (k : ℕ) : Type 0 where
  pub within : 16 * k < length blocks
  pub wrong : Block (block_at blocks k) → ⊥
  pub before : (j : ℕ) → j < k → Block (block_at blocks j)
