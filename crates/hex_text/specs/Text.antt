-- What a line of hexadecimal text says.
use Rattle.std.specs.Prelude.{◌≡◌, ℕ, ◌+◌, ◌-◌, ◌*◌, ◌<◌, Bool, cond, ◌&&◌, ◌||◌, List, [], ◌∷◌, ◌++◌, Some, None, Ok, Err, Option, Result, ◌==◌, nat_le}
use Rattle.hex_text.specs.declared.Fault.{Fault}
use Rattle.hex_text.specs.declared.Fault.TheVariants.{HalfPair, Memory, NoDigit}
use Rattle.hex_text.specs.declared.Mark.{Mark}
use Rattle.hex_text.specs.declared.Mark.TheVariants.{Blank, Comment, Digit, Other}

abbrev pub between : ℕ → ℕ → ℕ → Bool
between low high c = nat_le low c && nat_le c high

-- A space, a tab and a carriage return are blanks; the digits are 0 to 9, a to f and A to F.
abbrev pub mark_of : ℕ → Mark
mark_of c =
    cond (c == 32 || (c == 9 || c == 13)) Blank
    (cond (c == 35) Comment
    (cond (between 48 57 c) (Digit (c - 48))
    (cond (between 97 102 c) (Digit (c - 97 + 10))
    (cond (between 65 70 c) (Digit (c - 65 + 10)) Other))))

-- A digit is below 16.
abbrev pub Small : Mark → Type 0
Small Blank = Unit {0}
Small Comment = Unit {0}
Small (Digit d) = d < 16
Small Other = Unit {0}

-- bytes before those that the rest says, where the rest says any
abbrev pub after : List ℕ → Result (List ℕ) Fault → Result (List ℕ) Fault
after first (Ok bytes) = Ok (first ++ bytes)
after first (Err fault) = Err fault

-- What the character in a column makes of the text behind it: `rest` is what that says by itself, and
-- `begun d` what it says behind the first digit d of a pair. Digits come in pairs, with blanks between
-- the pairs, and a comment ends the text.
abbrev pub next : Option ℕ → ℕ → Mark → Result (List ℕ) Fault → (ℕ → Result (List ℕ) Fault) → Result (List ℕ) Fault
next None column Blank rest begun = rest
next None column Comment rest begun = Ok []
next None column (Digit d) rest begun = begun d
next None column Other rest begun = Err (NoDigit column)
next (Some high) column Blank rest begun = Err (HalfPair column)
next (Some high) column Comment rest begun = Err (HalfPair column)
next (Some high) column (Digit d) rest begun = after ((16 * high + d) ∷ []) rest
next (Some high) column Other rest begun = Err (HalfPair column)

-- The bytes that the text from a column on says behind what has begun, or the first fault in it.
unfoldable pub says : Option ℕ → ℕ → List ℕ → Result (List ℕ) Fault
says None column [] = Ok []
says (Some high) column [] = Err (HalfPair column)
says high column (c ∷ text) = next high column (mark_of c) (says None (column + 1) text) (λ d. says (Some d) (column + 1) text)

-- What reading a line leaves: the bytes that it says behind those that were there, or the fault in it.
-- Where the memory does not take the bytes, or the text is bad, those that were there stay.
abbrev pub Reads : List ℕ → List ℕ → List ℕ → Result (Unit {0}) Fault → Type 0
Reads text old new (Ok _) = (bytes : List ℕ) × (says None 1 text ≡ Ok bytes) × (new ≡ old ++ bytes)
Reads text old new (Err (NoDigit column)) = (says None 1 text ≡ Err (NoDigit column)) × ((bytes : List ℕ) × (new ≡ old ++ bytes))
Reads text old new (Err (HalfPair column)) = (says None 1 text ≡ Err (HalfPair column)) × ((bytes : List ℕ) × (new ≡ old ++ bytes))
Reads text old new (Err Memory) = (bytes : List ℕ) × (new ≡ old ++ bytes)
