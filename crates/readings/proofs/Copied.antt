-- Laws of structures that are copied one behind another.
use Rattle.std.proofs.Common.{◌≡◌, ℕ, ◌+◌, ◌/◌, ◌%◌, ◌≤◌, eqb, List, [], ◌∷◌, ◌++◌, length, take, drop, sum, sym, ap, ◌∙◌, subst, append_assoc, append-nil, arith, length-drop, take-append-drop}
use borrow.Rule.Slice.PartMut.{put_mid}
use Rattle.readings.specs.Readings.{chosen}
use Rattle.std.proofs.lemmas.List.{drop-drop, length-take-le}
use Rattle.std.proofs.lemmas.Slice.{drop-put_mid, take-put_mid}
use Rattle.std.proofs.lemmas.List.Sums.{sum_by-cons}
use Rattle.std.proofs.lemmas.Bool.{cond-false, cond-true, eq-eqb, ne_eqb}

-- Some structures are copied. Those of the lengths `left` are still to come, and behind what is copied the
-- memory is as it was.
pub record Copied (bits from at : ℕ) (left readings out entry whole : List ℕ) : Type 0 where
  pub front : take at out ++ chosen bits left (drop from readings) ≡ whole
  pub behind : drop at out ≡ drop at entry
  pub before : at ≤ from
  pub within : from + sum left ≡ 175

-- what is said of a place and memory holds of their equals
pub same : {bits from at at' : ℕ} {left readings out out' entry whole : List ℕ} → Copied bits from at left readings out entry whole →
    at' ≡ at → out' ≡ out → Copied bits from at' left readings out' entry whole
same {bits} {from} {at} {at'} {left} {readings} {out} {out'} {entry} {whole} s a o =
    let moved : Copied bits from at' left readings out entry whole =
    subst (λ (k : ℕ). Copied bits from k left readings out entry whole) (sym a) s in
    subst (λ (l : List ℕ). Copied bits from at' left readings l entry whole) (sym o) moved

-- the next structure ends within the readings
pub next_within : {bits from at : ℕ} {readings out entry whole : List ℕ} (n : ℕ) (ns : List ℕ) →
    Copied bits from at (n ∷ ns) readings out entry whole → from + n ≤ 175
next_within n ns s = omega (arith, s.within, sum_by-cons (λ (x : ℕ). x) n ns)

-- what a structure leaves to the others
others : (from n : ℕ) (ns : List ℕ) → from + sum (n ∷ ns) ≡ 175 → from + n + sum ns ≡ 175
others from n ns e = omega (arith, sum_by-cons (λ (x : ℕ). x) n ns)

-- a structure whose mask bit is not set is passed by
pub passed : {bits from at : ℕ} {readings out entry whole : List ℕ} (n : ℕ) (ns : List ℕ) →
    Copied bits from at (n ∷ ns) readings out entry whole → (bits % 2 ≡ 1 → ⊥) → Copied (bits / 2) (from + n) at ns readings out entry whole
passed {bits} {from} {at} {readings} {out} {entry} {whole} n ns s clear =
    let none = cond-false (eqb (bits % 2) 1) (take n (drop from readings)) [] (ne_eqb (bits % 2) 1 clear) in
    let rest = drop-drop n from readings in
    let f = s.front in
    let b = s.before in
    record { front = cc; behind = s.behind; before = omega arith; within = others from n ns s.within }

-- a structure whose mask bit is set is copied behind those before
pub copied : {bits from at : ℕ} {readings out entry whole : List ℕ} (n k : ℕ) (ns part : List ℕ) →
    Copied bits from at (n ∷ ns) readings out entry whole → bits % 2 ≡ 1 → k ≡ n → part ≡ take n (drop from readings) →
    length readings ≡ 175 → 175 ≤ length out → Copied (bits / 2) (from + n) (at + n) ns readings (put_mid at k out part) entry whole
copied {bits} {from} {at} {readings} {out} {entry} {whole} n k ns part s set e is all room =
    let one = cond-true (eqb (bits % 2) 1) (take n (drop from readings)) [] (eq-eqb (bits % 2) 1 set) in
    let rest = drop-drop n from readings in
    let f = s.front in
    let b = s.before in
    let end = next_within n ns s in
    let long : length part ≡ n = ap length is ∙ length-take-le n (drop from readings) (simp length-drop (omega arith)) in
    let t = take-put_mid at k out part (at + n) (omega arith) (omega arith) in
    let d = drop-put_mid at k out part (at + n) (omega arith) (omega arith) (omega arith) in
    let moved : drop (at + n) out ≡ drop (at + n) entry =
    sym (drop-drop n at out) ∙ ap (drop n) s.behind ∙ drop-drop n at entry in
    let assoc = append_assoc (take at out) part (chosen (bits / 2) ns (drop (from + n) readings)) in
    record { front = cc; behind = d ∙ moved; before = omega arith; within = others from n ns s.within }

-- where no structure is left, the whole is copied
pub done : {bits from at : ℕ} {readings out entry whole : List ℕ} → Copied bits from at [] readings out entry whole →
    175 ≤ length out → (at ≡ length whole) × (out ≡ whole ++ drop (length whole) entry) × (at ≤ 175)
done {bits} {from} {at} {readings} {out} {entry} {whole} s room =
    let w = s.within in
    let b = s.before in
    let g = s.behind in
    let f = sym (append-nil (take at out)) ∙ s.front in
    let all = take-append-drop at out in
    let long : at ≡ length whole = sym (length-take-le at out (omega arith)) ∙ ap length f in
    (long, cc, omega arith)
