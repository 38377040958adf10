-- The value of digits.
use Rattle.std.specs.Prelude.{◌≡◌, ℕ, ◌+◌, ◌*◌, ◌≤◌, Bool, cond, ◌&&◌, List, [], ◌∷◌, length, drop, Some, None, Option, ◌==◌, nat_lt, slice_index}
use Rattle.hex_text.specs.Text.{mark_of}
use Rattle.hex_text.specs.declared.Mark.{Mark}
use Rattle.hex_text.specs.declared.Mark.TheVariants.{Blank, Comment, Digit, Other}

-- The digit that a character of text is to a base, if it is one.
abbrev pub digit_of : ℕ → Mark → Option ℕ
digit_of base Blank = None
digit_of base Comment = None
digit_of base (Digit d) = cond (nat_lt d base) (Some d) None
digit_of base Other = None

-- What a digit makes of the text behind it.
abbrev pub onward : Option ℕ → (ℕ → Option ℕ) → Option ℕ
onward None behind = None
onward (Some d) behind = behind d

-- The value of digits behind others of a value, if all of them are digits: each digit counts the base times as
-- much as the next.
unfoldable pub worth : ℕ → ℕ → List ℕ → Option ℕ
worth base before [] = Some before
worth base before (c ∷ text) = onward (digit_of base (mark_of c)) (λ d. worth base (before * base + d) text)

-- Something stands behind 0x.
abbrev pub hexadecimal : List ℕ → Bool
hexadecimal word = nat_lt 2 (length word) && (slice_index word 0 == 48 && slice_index word 1 == 120)

-- The number that a word is: decimal, or hexadecimal behind 0x.
abbrev pub number_of : List ℕ → Option ℕ
number_of word = cond (length word == 0) None (cond (hexadecimal word) (worth 16 0 (drop 2 word)) (worth 10 0 word))

-- The answer of a reader that takes numbers up to the greatest: the number, or that there is none up to it.
abbrev pub Within : ℕ → Option ℕ → Option ℕ → Type 0
Within greatest value None = (v : ℕ) → value ≡ Some v → v ≤ greatest → ⊥
Within greatest value (Some v) = (value ≡ Some v) × (v ≤ greatest)
