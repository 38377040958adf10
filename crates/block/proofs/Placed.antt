-- Laws of lists that are cut into parts and written part by part.
use Rattle.std.proofs.Common.{◌≡◌, ℕ, ◌+◌, ◌-◌, ◌≤◌, min, List, [], ◌++◌, length, take, drop, sym, refl, ap, ◌∙◌, ⊎_elim, append_assoc, append-nil, arith, length-append, length-drop, take-append-drop, length-take}
use borrow.Rule.Slice.PartMut.{put_mid}
use Rattle.std.proofs.lemmas.List.{drop_all, drop_at, drop-drop, length-take-le, nil_from_length, take_all, take_at, take_rest}
use Rattle.std.proofs.lemmas.Bool.{cases_lt}

-- two ways to cut a list after equally many elements are one
pub same_cut : (x y z w : List ℕ) → x ++ z ≡ y ++ w → length x ≡ length y → (x ≡ y) × (z ≡ w)
same_cut x y z w e n = (
  sym (take_at x z (length y) n) ∙ ap (take (length y)) e ∙ take_at y w (length y) refl,
  sym (drop_at x z (length y) n) ∙ ap (drop (length y)) e ∙ drop_at y w (length y) refl,
)

-- a first part of at most n elements is what `take n` gives
pub first_part : (n : ℕ) (whole x rest : List ℕ) → whole ≡ x ++ rest → length x ≡ min n (length whole) →
    (take n whole ≡ x) × (drop n whole ≡ rest)
first_part n whole x rest e long =
    let sum : length whole ≡ length x + length rest = ap length e ∙ length-append x rest in
    ⊎_elim
    (λ h.
    let none : rest ≡ [] = nil_from_length rest (omega arith) in
    let all : whole ≡ x = e ∙ ap (λ (l : List ℕ). x ++ l) none ∙ append-nil x in
    (take_all n whole (omega arith) ∙ all, drop_all n whole (omega arith) ∙ sym none))
    (λ h.
    let full : length x ≡ n = omega arith in
    (ap (take n) e ∙ take_at x rest n full, ap (drop n) e ∙ drop_at x rest n full))
    (cases_lt (length whole) n)

-- a part written into the rest of a list, from a place on
pub placed : (at n : ℕ) (out block part : List ℕ) → at ≤ length out → n ≡ length block →
    part ≡ block ++ drop n (take (length out - at) (drop at out)) →
    put_mid at (length out - at) out part ≡ take at out ++ (block ++ drop (at + n) out)
placed at n out block part h e is =
    let tr = take_rest out at in
    let dd = drop-drop n at out in
    let none = drop_all (length out - at) (drop at out) (simp length-drop (omega arith)) in
    let nil = append-nil part in
    cc

-- what then stands before the end of the part, and behind it
pub placed_front : (at n : ℕ) (out block rest : List ℕ) → at ≤ length out → n ≡ length block →
    take (at + n) (take at out ++ (block ++ rest)) ≡ take at out ++ block
placed_front at n out block rest h e =
    let assoc = append_assoc (take at out) block rest in
    let long : length (take at out ++ block) ≡ at + n = simp (length-append, length-take) (omega arith) in
    ap (take (at + n)) (sym assoc) ∙ take_at (take at out ++ block) rest (at + n) long

pub placed_rest : (at n : ℕ) (out block rest : List ℕ) → at ≤ length out → n ≡ length block →
    drop (at + n) (take at out ++ (block ++ rest)) ≡ rest
placed_rest at n out block rest h e =
    let assoc = append_assoc (take at out) block rest in
    let long : length (take at out ++ block) ≡ at + n = simp (length-append, length-take) (omega arith) in
    ap (drop (at + n)) (sym assoc) ∙ drop_at (take at out ++ block) rest (at + n) long

-- One part more of a whole that is written part by part: `more` is still to come, and behind what is
-- written the memory is as it was.
pub record Step (at : ℕ) (out entry whole more : List ℕ) : Type 0 where
  pub front : take at out ++ more ≡ whole
  pub behind : drop at out ≡ drop at entry
  pub within : at ≤ length out

pub step : (at n : ℕ) (out entry whole block more part : List ℕ) → Step at out entry whole (block ++ more) →
    n ≡ length block → length whole ≤ length out → part ≡ block ++ drop n (take (length out - at) (drop at out)) →
    Step (at + n) (put_mid at (length out - at) out part) entry whole more
step at n out entry whole block more part s e fits is =
    let w = s.within in
    let put = placed at n out block part w e is in
    let f = placed_front at n out block (drop (at + n) out) w e in
    let r = placed_rest at n out block (drop (at + n) out) w e in
    let assoc = append_assoc (take at out) block more in
    let g = s.front in
    let moved : drop (at + n) out ≡ drop (at + n) entry =
    sym (drop-drop n at out) ∙ ap (drop n) s.behind ∙ drop-drop n at entry in
    let long : length whole ≡ at + (n + length more) = sym (ap length g) ∙ simp (length-append, length-take) (omega arith) in
    record {
      front = cc;
      behind = ap (drop (at + n)) put ∙ r ∙ moved;
      within = rw put (simp (length-append, length-take, length-drop) (omega arith));
    }

pub done : (at : ℕ) (out entry whole : List ℕ) → Step at out entry whole [] → (at ≡ length whole) × (out ≡ whole ++ drop at entry)
done at out entry whole s =
    let w = s.within in
    let g = s.front in
    let b = s.behind in
    let nil = append-nil (take at out) in
    let all = take-append-drop at out in
    (sym (length-take-le at out w) ∙ ap length (sym nil ∙ g), cc)
