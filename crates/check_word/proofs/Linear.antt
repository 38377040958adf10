-- The register's step is linear over the exclusive or, so a byte is taken in by one look at the table.
use Rattle.std.proofs.Common.{◌≡◌, ℕ, zero, suc, ◌+◌, ◌*◌, ◌/◌, ◌%◌, ◌^◌, ◌<◌, refl, ap, ◌∙◌, arith}
use lib.Bits.{bit_xor, xor_assoc, xor_block, xor_comm, xor_lt, xor_mod, xor_self, xor_shifted, xor_shr, xor_zero_l, xor_zero_r}
use Rattle.check_word.specs.CheckWord.{bit_in, byte_in}

-- the middle two of four change places
swap : (a b c d : ℕ) → bit_xor (bit_xor a b) (bit_xor c d) ≡ bit_xor (bit_xor a c) (bit_xor b d)
swap a b c d =
    let e₁ = xor_assoc a b (bit_xor c d) in
    let e₂ = xor_assoc b c d in
    let e₃ = xor_comm b c in
    let e₄ = xor_assoc c b d in
    let e₅ = xor_assoc a c (bit_xor b d) in
    cc

double : (a b : ℕ) → bit_xor a b * 2 ≡ bit_xor (a * 2) (b * 2)
double a b =
    let e : bit_xor (a * 2 + 0) (b * 2 + 0) ≡ bit_xor a b * 2 + 0 = xor_block 1 a b 0 0 (omega arith) (omega arith) in
    let f : a * 2 + 0 ≡ a * 2 = omega arith in
    let g : b * 2 + 0 ≡ b * 2 = omega arith in
    let h : bit_xor a b * 2 + 0 ≡ bit_xor a b * 2 = omega arith in
    cc

scaled : (p q : ℕ) → p < 2 → q < 2 → 15717 * bit_xor p q ≡ bit_xor (15717 * p) (15717 * q)
scaled zero zero hp hq = refl
scaled zero (suc zero) hp hq = refl
scaled zero (suc (suc q)) hp hq = omega arith
scaled (suc zero) zero hp hq = refl
scaled (suc zero) (suc zero) hp hq = refl
scaled (suc zero) (suc (suc q)) hp hq = omega arith
scaled (suc (suc p)) q hp hq = omega arith

bit_linear : (r s b d : ℕ) → b < 2 → d < 2 → bit_in (bit_xor r s) (bit_xor b d) ≡ bit_xor (bit_in r b) (bit_in s d)
unfolding bit_in
bit_linear r s b d hb hd =
    let up : bit_xor r s * 2 % 65536 ≡ bit_xor (r * 2 % 65536) (s * 2 % 65536) =
    ap (λ (n : ℕ). n % 65536) (double r s) ∙ xor_mod (r * 2) (s * 2) 16 in
    let out : bit_xor r s / 32768 % 2 ≡ bit_xor (r / 32768 % 2) (s / 32768 % 2) =
    ap (λ (n : ℕ). n % 2) (xor_shr r s 15) ∙ xor_mod (r / 32768) (s / 32768) 1 in
    let p : ℕ = bit_xor (r / 32768 % 2) b in
    let q : ℕ = bit_xor (s / 32768 % 2) d in
    let met = swap (r / 32768 % 2) (s / 32768 % 2) b d in
    let joined = scaled p q (xor_lt 1 (r / 32768 % 2) b (omega arith) hb) (xor_lt 1 (s / 32768 % 2) d (omega arith) hd) in
    let last = swap (r * 2 % 65536) (s * 2 % 65536) (15717 * p) (15717 * q) in
    cc

-- the bit of weight 2 ^ k of an exclusive or
bit_in-xor : (k b d : ℕ) → bit_xor b d / 2 ^ k % 2 ≡ bit_xor (b / 2 ^ k % 2) (d / 2 ^ k % 2)
bit_in-xor k b d = ap (λ (n : ℕ). n % 2) (xor_shr b d k) ∙ xor_mod (b / 2 ^ k) (d / 2 ^ k) 1

byte_linear : (r s b d : ℕ) → byte_in (bit_xor r s) (bit_xor b d) ≡ bit_xor (byte_in r b) (byte_in s d)
unfolding byte_in
byte_linear r s b d =
    let r₇ = bit_in r (b / 128 % 2) in
    let s₇ = bit_in s (d / 128 % 2) in
    let r₆ = bit_in r₇ (b / 64 % 2) in
    let s₆ = bit_in s₇ (d / 64 % 2) in
    let r₅ = bit_in r₆ (b / 32 % 2) in
    let s₅ = bit_in s₆ (d / 32 % 2) in
    let r₄ = bit_in r₅ (b / 16 % 2) in
    let s₄ = bit_in s₅ (d / 16 % 2) in
    let r₃ = bit_in r₄ (b / 8 % 2) in
    let s₃ = bit_in s₄ (d / 8 % 2) in
    let r₂ = bit_in r₃ (b / 4 % 2) in
    let s₂ = bit_in s₃ (d / 4 % 2) in
    let r₁ = bit_in r₂ (b / 2 % 2) in
    let s₁ = bit_in s₂ (d / 2 % 2) in
    let e₇ = bit_linear r s (b / 128 % 2) (d / 128 % 2) (omega arith) (omega arith) in
    let e₆ = bit_linear r₇ s₇ (b / 64 % 2) (d / 64 % 2) (omega arith) (omega arith) in
    let e₅ = bit_linear r₆ s₆ (b / 32 % 2) (d / 32 % 2) (omega arith) (omega arith) in
    let e₄ = bit_linear r₅ s₅ (b / 16 % 2) (d / 16 % 2) (omega arith) (omega arith) in
    let e₃ = bit_linear r₄ s₄ (b / 8 % 2) (d / 8 % 2) (omega arith) (omega arith) in
    let e₂ = bit_linear r₃ s₃ (b / 4 % 2) (d / 4 % 2) (omega arith) (omega arith) in
    let e₁ = bit_linear r₂ s₂ (b / 2 % 2) (d / 2 % 2) (omega arith) (omega arith) in
    let e₀ = bit_linear r₁ s₁ (b % 2) (d % 2) (omega arith) (omega arith) in
    let x₇ = bit_in-xor 7 b d in
    let x₆ = bit_in-xor 6 b d in
    let x₅ = bit_in-xor 5 b d in
    let x₄ = bit_in-xor 4 b d in
    let x₃ = bit_in-xor 3 b d in
    let x₂ = bit_in-xor 2 b d in
    let x₁ = bit_in-xor 1 b d in
    let x₀ = xor_mod b d 1 in
    cc

-- while the highest bit is 0, zeros only move the register up
zero_in : (r : ℕ) → r < 32768 → bit_in r 0 ≡ r * 2
unfolding bit_in
zero_in r h =
    let out : r / 32768 % 2 ≡ 0 = omega arith in
    let up : r * 2 % 65536 ≡ r * 2 = omega arith in
    let x : bit_xor (r / 32768 % 2) 0 ≡ 0 = ap (λ (n : ℕ). bit_xor n 0) out in
    let z = xor_zero_r (r * 2) in
    cc

low_passes : (r : ℕ) → r < 256 → byte_in r 0 ≡ r * 256
unfolding byte_in
low_passes r h =
    let e₇ : bit_in r 0 ≡ r * 2 = zero_in r (omega arith) in
    let e₆ : bit_in (r * 2) 0 ≡ r * 4 = zero_in (r * 2) (omega arith) ∙ omega arith in
    let e₅ : bit_in (r * 4) 0 ≡ r * 8 = zero_in (r * 4) (omega arith) ∙ omega arith in
    let e₄ : bit_in (r * 8) 0 ≡ r * 16 = zero_in (r * 8) (omega arith) ∙ omega arith in
    let e₃ : bit_in (r * 16) 0 ≡ r * 32 = zero_in (r * 16) (omega arith) ∙ omega arith in
    let e₂ : bit_in (r * 32) 0 ≡ r * 64 = zero_in (r * 32) (omega arith) ∙ omega arith in
    let e₁ : bit_in (r * 64) 0 ≡ r * 128 = zero_in (r * 64) (omega arith) ∙ omega arith in
    let e₀ : bit_in (r * 128) 0 ≡ r * 256 = zero_in (r * 128) (omega arith) ∙ omega arith in
    cc

-- a bit equal to the one that falls out cancels it
same_in : (r bit : ℕ) → r / 32768 % 2 ≡ bit → bit_in r bit ≡ r * 2 % 65536
unfolding bit_in
same_in r bit e =
    let x : bit_xor (r / 32768 % 2) bit ≡ 0 = ap (λ (n : ℕ). bit_xor n bit) e ∙ xor_self bit in
    let z = xor_zero_r (r * 2 % 65536) in
    let m : 15717 * bit_xor (r / 32768 % 2) bit ≡ 0 = ap (λ (n : ℕ). 15717 * n) x in
    cc

high_cancels : (h : ℕ) → h < 256 → byte_in (h * 256) h ≡ 0
unfolding byte_in
high_cancels h lt =
    let e₇ : bit_in (h * 256) (h / 128 % 2) ≡ h % 128 * 512 = same_in (h * 256) (h / 128 % 2) (omega arith) ∙ omega arith in
    let e₆ : bit_in (h % 128 * 512) (h / 64 % 2) ≡ h % 64 * 1024 = same_in (h % 128 * 512) (h / 64 % 2) (omega arith) ∙ omega arith in
    let e₅ : bit_in (h % 64 * 1024) (h / 32 % 2) ≡ h % 32 * 2048 = same_in (h % 64 * 1024) (h / 32 % 2) (omega arith) ∙ omega arith in
    let e₄ : bit_in (h % 32 * 2048) (h / 16 % 2) ≡ h % 16 * 4096 = same_in (h % 32 * 2048) (h / 16 % 2) (omega arith) ∙ omega arith in
    let e₃ : bit_in (h % 16 * 4096) (h / 8 % 2) ≡ h % 8 * 8192 = same_in (h % 16 * 4096) (h / 8 % 2) (omega arith) ∙ omega arith in
    let e₂ : bit_in (h % 8 * 8192) (h / 4 % 2) ≡ h % 4 * 16384 = same_in (h % 8 * 8192) (h / 4 % 2) (omega arith) ∙ omega arith in
    let e₁ : bit_in (h % 4 * 16384) (h / 2 % 2) ≡ h % 2 * 32768 = same_in (h % 4 * 16384) (h / 2 % 2) (omega arith) ∙ omega arith in
    let e₀ : bit_in (h % 2 * 32768) (h % 2) ≡ 0 = same_in (h % 2 * 32768) (h % 2) (omega arith) ∙ omega arith in
    cc

-- one look at the table for the high byte with the byte that comes in; the low byte moves up
pub by_table : (register byte : ℕ) → register < 65536 →
    byte_in register byte ≡ bit_xor (byte_in 0 (bit_xor (register / 256) byte)) (register % 256 * 256)
by_table register byte fits =
    let high : ℕ = register / 256 in
    let low : ℕ = register % 256 in
    let lt : low < 256 = omega arith in
    let ht : high < 256 = omega arith in
    let x : ℕ = bit_xor high byte in
    let whole : bit_xor (high * 256) low ≡ register = xor_shifted high 8 low lt ∙ omega arith in
    let back₁ = xor_assoc high high byte in
    let back₂ = xor_self high in
    let back₃ = xor_zero_l byte in
    let back₄ = xor_zero_r byte in
    let none = xor_zero_r (high * 256) in
    let one = byte_linear (high * 256) low byte 0 in
    let two = byte_linear (high * 256) 0 high x in
    let three = high_cancels high ht in
    let four = low_passes low lt in
    let five = xor_zero_l (byte_in 0 x) in
    cc
