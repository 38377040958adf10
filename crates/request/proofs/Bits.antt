-- The bit that brings the debounce time.
use Rattle.std.proofs.Common.{◌≡◌, ℕ, ◌*◌, ◌/◌, ◌%◌, bit_and}
use Rattle.std.proofs.lemmas.Nat.Bits.{and_pow}

pub debounce_bit : (n : ℕ) → bit_and n 16 ≡ n / 16 % 2 * 16
debounce_bit n = and_pow n 4
