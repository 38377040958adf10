-- What searches over a line answer: for a valid request, and for a beginning at the line's end.
use Rattle.std.proofs.Common.{◌≡◌, ℕ, ◌+◌, ◌-◌, ◌<◌, ◌≤◌, true, false, List, length, get_or, take, drop, Some, None, Option, Decides, MatchOption, sym, refl, ap, ◌∙◌, ⊎_elim, subst, arith, length-drop}
use Rattle.std.specs.List.{AllWithin, HoldsAt, range_with_len}
use Rattle.request_frame.specs.Requests.{FirstBegun, Least, Requests, Valid, begun, window}
use Rattle.request_frame.proofs.Frame.{fields, past_end}
use Rattle.std.proofs.lemmas.Bool.{and_left, and_right, cases_lt, false≢true, le-ltb}
use Rattle.std.proofs.lemmas.List.{get_or-drop, get_or-take}
use Rattle.std.proofs.lemmas.List.FromFn.{get_or-range_with_len, length-range_with_len}

-- the part of a line that is looked at is the 18 bytes from its place on
cut : (line : List ℕ) (at : ℕ) → take (at + 18 - at) (drop at line) ≡ window line at
cut line at = let e : at + 18 - at ≡ 18 = omega arith in ap (λ (n : ℕ). take n (drop at line)) e

module _ (line : List ℕ) where
  abbrev pub ValidAt : ℕ → Type 0
  ValidAt k = Valid (window line k)

  abbrev pub NotValidAt : ℕ → Type 0
  NotValidAt k = Valid (window line k) → ⊥

pub valid_there : (line : List ℕ) (k : ℕ) → Decides true (Valid (take (k + 18 - k) (drop k line))) → ValidAt line k
valid_there line k d = subst Valid (cut line k) (d.0 refl)

pub none_there : (line : List ℕ) (k : ℕ) → Decides false (Valid (take (k + 18 - k) (drop k line))) → NotValidAt line k
none_there line k d v = false≢true (d.1 (subst Valid (sym (cut line k)) v))

-- the place that a search for a valid request answers
abbrev pub LeastPlace : List ℕ → Option ℕ → Type 0
LeastPlace line r =
    MatchOption r ((k : ℕ) → Valid (window line k) → ⊥) (λ k. Valid (window line k) × ((j : ℕ) → j < k → Valid (window line j) → ⊥))

-- what a search over the places answers
pub found : (line : List ℕ) (m : ℕ) (r : Option ℕ) → m ≡ length line - 17 →
    MatchOption r ((k : ℕ) → 0 ≤ k → k < m → NotValidAt line k)
    (λ i. (0 ≤ i) × (i < m) × ValidAt line i × ((k : ℕ) → 0 ≤ k → k < i → NotValidAt line k)) →
    LeastPlace line r
found line m None count none = λ k. ⊎_elim (none k (omega arith)) (λ h. past_end line k (omega arith)) (cases_lt k m)
found line m (Some place) count (from, within, here, before) = (here, λ k. before k (omega arith))

-- the command stands six bytes behind the place
pub with_command : (line : List ℕ) (k : ℕ) → LeastPlace line (Some k) → Least line (Some (k, get_or line (k + 6) 0))
with_command line k (valid, before) =
    let q = fields (window line k) valid in
    let six : get_or (window line k) 6 0 ≡ get_or line (k + 6) 0 = get_or-take 18 (drop k line) 6 0 (omega arith) ∙ get_or-drop k line 6 0 in
    let R : ℕ → Type 0 = λ command. (address : ℕ) × (parameters : List ℕ) × Requests (window line k) address command parameters in
    (subst R six (_, _, q), before)

-- 18 bytes and more are no beginning, nor are none
too_long : (rest : List ℕ) → 18 ≤ length rest → begun rest ≡ false
too_long rest h = and_right _ _ (and_left _ _ (le-ltb (length rest) 18 h))

empty : (rest : List ℕ) → length rest ≤ 0 → begun rest ≡ false
empty rest h = and_left _ _ (le-ltb 0 (length rest) h)

module _ (line : List ℕ) where
  abbrev pub Begun : ℕ → Type 0
  Begun k = begun (drop k line) ≡ true

  abbrev pub NotBegun : ℕ → Type 0
  NotBegun k = begun (drop k line) ≡ false

none_below : (line : List ℕ) (from m n : ℕ) → from ≡ length line - 17 → n ≤ m → AllWithin (NotBegun line) (range_with_len from m) 0 n →
    (k : ℕ) → k < from + n → NotBegun line k
none_below line from m n near within none k h =
    ⊎_elim (λ early. too_long (drop k line) (omega (arith, length-drop k line)))
    (λ late.
    let e : get_or (range_with_len from m) (k - from) 0 ≡ k = get_or-range_with_len from m (k - from) 0 (omega arith) ∙ omega arith in
    let P : ℕ → Type 0 = λ x. NotBegun line x in
    subst P e (none (k - from) 0 (omega arith) (omega arith))) (cases_lt k from)

-- what a search from a place near the end answers
pub first_begun : (line : List ℕ) (from m : ℕ) (r : Option ℕ) → from ≡ length line - 17 → m ≡ length line - from →
    MatchOption r (AllWithin (NotBegun line) (range_with_len from m) 0 (length (range_with_len from m)))
    (λ x. Begun line x × (i : ℕ) × (i < length (range_with_len from m)) × HoldsAt (λ y. y ≡ x) (range_with_len from m) i
    × AllWithin (NotBegun line) (range_with_len from m) 0 i) →
    FirstBegun line r
first_begun line from m None near count none =
    let N : ℕ → Type 0 = λ n. AllWithin (NotBegun line) (range_with_len from m) 0 n in
    let all = subst N (length-range_with_len from m) none in
    λ k. ⊎_elim (none_below line from m m near (omega arith) all k) (λ h. empty (drop k line) (omega (arith, length-drop k line)))
    (cases_lt k (from + m))
first_begun line from m (Some place) near count (here, i, within, at, before) =
    let inside : i < m = omega (arith, within, length-range_with_len from m) in
    let e : from + i ≡ place = sym (get_or-range_with_len from m i 0 inside) ∙ at 0 in
    (here, λ k h. none_below line from m i near (omega arith) before k (omega arith))
