-- Laws of neighbouring cells, one cell more at a time.
use Rattle.std.proofs.Common.{◌≡◌, ℕ, zero, suc, ◌+◌, ◌-◌, ◌<◌, ◌≤◌, Bool, true, false, List, [], ◌∷◌, ◌++◌, length, get_or, refl, sym, ap, ◌∙◌, subst, ◌⊎◌, inl, inr, ◌↔◌, ⊎_elim, arith}
use lib.Bits.{bit_or, bit_xor, and_le_l, and_le_r, or_add_and, xor_add_and, xor_self}
use Rattle.std.proofs.lemmas.Bool.Decides.{nat_tests}
use Rattle.std.specs.Range.{range_inclusive_end, range_inclusive_exhausted, range_inclusive_left, range_inclusive_len, range_inclusive_start}
use Rattle.std.specs.declared.ops.RangeInclusive.{RangeInclusive}
use Rattle.store.specs.Cells.{Hold, laid, span, upd}

pub span_more : (cells : ℕ → ℕ) (first n : ℕ) → span cells first (n + 1) ≡ span cells first n ++ cells (first + n) ∷ []
span_more cells first zero = ap (λ (i : ℕ). cells i ∷ []) (omega arith)
span_more cells first (suc n) =
    let step : first + 1 + n ≡ first + suc n = omega arith in
    let rest = span_more cells (first + 1) n in
    let e : suc n + 1 ≡ suc (n + 1) = omega arith in
    cc

-- cells that fit a byte
pub span_fits : (cells : ℕ → ℕ) (first n : ℕ) → ((j : ℕ) → j < n → cells (first + j) < 256) → (i : ℕ) → get_or (span cells first n) i 0 < 256
span_fits cells first zero fit i = omega arith
span_fits cells first (suc n) fit zero =
    let here : first + 0 ≡ first = omega arith in
    subst (λ (k : ℕ). cells k < 256) here (fit 0 (omega arith))
span_fits cells first (suc n) fit (suc i) =
    span_fits cells (first + 1) n
    (λ j h.
    let step : first + suc j ≡ first + 1 + j = omega arith in
    subst (λ (k : ℕ). cells k < 256) step (fit (suc j) (omega arith)))
    i

next_or_none : (spent : Bool) (cell n next last : ℕ) → n ≤ range_inclusive_len (λ a b. b - a) next last spent →
    (spent ≡ false → next ≡ cell + 1) → (n ≡ 0) ⊎ (next ≡ cell + 1)
next_or_none true cell n next last h f = inl (omega arith)
next_or_none false cell n next last h f = inr (f refl)

-- a range of cells that has n left behind a cell goes on at the next cell, unless n is 0
pub goes_on : (range : RangeInclusive ℕ) (cell n : ℕ) → n ≤ range_inclusive_left (λ a b. b - a) range →
    (range_inclusive_exhausted range ≡ false → range_inclusive_start range ≡ cell + 1) → (n ≡ 0) ⊎ (range_inclusive_start range ≡ cell + 1)
goes_on range cell n = next_or_none (range_inclusive_exhausted range) cell n (range_inclusive_start range) (range_inclusive_end range)

-- one byte written leaves the others to be laid
pub laid_more : (cell next byte : ℕ) (later : List ℕ) (cells : ℕ → ℕ) (k : ℕ) → (length later ≡ 0) ⊎ (next ≡ cell + 1) →
    laid next later (upd cells cell byte) k ≡ laid cell (byte ∷ later) cells k
laid_more cell next byte [] cells k h = grind (arith, nat_tests)
laid_more cell next byte (x ∷ later) cells k h = grind (arith, nat_tests)

-- a difference joined in stays 0 exactly where both are alike
alike : (a x y : ℕ) → bit_or a (bit_xor x y) ≡ 0 → (a ≡ 0) × (x ≡ y)
alike a x y e =
    let o = or_add_and a (bit_xor x y) in
    let ol = and_le_l a (bit_xor x y) in
    let or' = and_le_r a (bit_xor x y) in
    let u = xor_add_and x y in
    let ul = and_le_l x y in
    let ur = and_le_r x y in
    (omega arith, omega arith)

held_more : (cell next byte : ℕ) (later : List ℕ) (cells : ℕ → ℕ) → (length later ≡ 0) ⊎ (next ≡ cell + 1) →
    cells cell ≡ byte → Hold cells next later → Hold cells cell (byte ∷ later)
held_more cell next byte later cells h here rest zero l =
    let place : cell + 0 ≡ cell = omega arith in
    ap cells place ∙ here
held_more cell next byte later cells h here rest (suc i) l =
    ⊎_elim
    (λ e. absurd (omega arith))
    (λ e. let place : cell + suc i ≡ next + i = omega arith in ap cells place ∙ rest i (omega arith))
    h

held_later : (cell next byte : ℕ) (later : List ℕ) (cells : ℕ → ℕ) → (length later ≡ 0) ⊎ (next ≡ cell + 1) →
    Hold cells cell (byte ∷ later) → Hold cells next later
held_later cell next byte later cells h all i l =
    ⊎_elim
    (λ e. absurd (omega arith))
    (λ e. let place : next + i ≡ cell + suc i = omega arith in ap cells place ∙ all (suc i) (omega arith))
    h

-- one byte compared leaves the others to be compared
pub alike_more : (W : Type 0) (difference cell next x byte : ℕ) (left later : List ℕ) (cells : ℕ → ℕ) →
    x ≡ cells cell → left ≡ byte ∷ later → (length later ≡ 0) ⊎ (next ≡ cell + 1) →
    ((difference ≡ 0) × Hold cells cell left ↔ W) → ((bit_or difference (bit_xor x byte) ≡ 0) × Hold cells next later ↔ W)
alike_more W difference cell next x byte left later cells is took h so_far = (
  (λ t.
      let both = alike difference x byte t.0 in
      so_far.0 (both.0, subst (Hold cells cell) (sym took) (held_more cell next byte later cells h (sym is ∙ both.1) t.1))),
  (λ w.
      let none = (so_far.1 w).0 in
      let all = subst (Hold cells cell) took (so_far.1 w).1 in
      let place : cell ≡ cell + 0 = omega arith in
      let here : x ≡ byte = is ∙ ap cells place ∙ all 0 (omega arith) in
      let zeros = xor_self byte in
      let same : bit_or difference (bit_xor x byte) ≡ bit_or 0 0 = cc in
      (same, held_later cell next byte later cells h all)),
)
