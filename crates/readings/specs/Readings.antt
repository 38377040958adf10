-- The readings of a converter, and those that a mask chooses.
use Rattle.std.specs.Prelude.{ℕ, ◌/◌, ◌%◌, cond, List, [], ◌∷◌, ◌++◌, take, drop, ◌==◌}

-- The lengths of the 19 structures of the readings, in the order of the mask bits. They make 175 bytes.
abbrev pub lengths : List ℕ
lengths = 8 ∷ 8 ∷ 8 ∷ 8 ∷ 8 ∷ 8 ∷ 24 ∷ 10 ∷ 44 ∷ 2 ∷ 5 ∷ 2 ∷ 2 ∷ 6 ∷ 4 ∷ 10 ∷ 10 ∷ 4 ∷ 4 ∷ []

-- The structures, of these lengths one behind another in the bytes, whose mask bits are set, from bit 0 on.
abbrev pub chosen : ℕ → List ℕ → List ℕ → List ℕ
chosen mask [] bytes = []
chosen mask (n ∷ ns) bytes = cond (mask % 2 == 1) (take n bytes) [] ++ chosen (mask / 2) ns (drop n bytes)

-- The readings whose mask bits are set.
abbrev pub masked : ℕ → List ℕ → List ℕ
masked mask readings = chosen mask lengths readings
