use Rattle.std.proofs.Common.{◌≡◌, ℕ, ◌+◌, ◌-◌, ◌<◌, ◌≤◌, List, [], ◌∷◌, length, get_or, take, drop, ap, ◌∙◌, subst, arith, rules}
use Rattle.readings.proofs.copy_readings.Goals as goal
use Rattle.readings.proofs.copy_readings.Goals.{then-bits-eq1, else-bits-eq1}
use Rattle.readings.proofs.Copied.{Copied, copied, done, next_within, passed, same}
use Rattle.readings.specs.Readings.{lengths}
use Rattle.std.proofs.lemmas.List.{drop_all, drop_more}

-- the next structure is the one whose number the loop has come to
at_next : {bits from at i : ℕ} {readings out entry whole : List ℕ} → Copied bits from at (drop i lengths) readings out entry whole →
    i < 19 → Copied bits from at (get_or lengths i 0 ∷ drop (i + 1) lengths) readings out entry whole
at_next {bits} {from} {at} {i} {readings} {out} {entry} {whole} s h =
    subst (λ (l : List ℕ). Copied bits from at l readings out entry whole) (drop_more lengths i 0 h) s

-- it ends within the readings
next-end : {bits from at i : ℕ} {readings out entry whole : List ℕ} → Copied bits from at (drop i lengths) readings out entry whole →
    i < 19 → from + get_or lengths i 0 ≤ 175
next-end {bits} {from} {at} {i} s h = next_within (get_or lengths i 0) (drop (i + 1) lengths) (at_next s h)

-- behind the last number no structure is left
at_end : {bits from at i : ℕ} {readings out entry whole : List ℕ} → Copied bits from at (drop i lengths) readings out entry whole →
    19 ≤ i → Copied bits from at [] readings out entry whole
at_end {bits} {from} {at} {i} {readings} {out} {entry} {whole} s h =
    subst (λ (l : List ℕ). Copied bits from at l readings out entry whole) (drop_all i lengths h) s

pub slice_bounds-copy_from_slice-end : goal.slice_bounds-copy_from_slice-end
slice_bounds-copy_from_slice-end c = let end = next-end c.loop-n.invariant c.loop-n-test.true in search rules

pub slice_bounds-copy_from_slice-end-then-bits-eq1 : goal.slice_bounds-copy_from_slice-end-then-bits-eq1
slice_bounds-copy_from_slice-end-then-bits-eq1 c = let end = next-end c.loop-n.invariant c.loop-n-test.true in search rules

pub loop-n-preserved : goal.loop-n-preserved
loop-n-preserved c =
    let i = c.loop-n.n-index in
    let n : ℕ = get_or lengths i 0 in
    let left : List ℕ = drop (i + 1) lengths in
    let s = at_next c.loop-n.invariant c.loop-n-test.true in
    let into : c.loop-n.at + n - c.loop-n.at ≡ n = omega arith in
    let out_of : c.loop-n.from + n - c.loop-n.from ≡ n = omega arith in
    let room : 175 ≤ length c.loop-n.out = search rules in
    elim c.if-bits-eq1.branch [
      | then-bits-eq1 w ↦
          let part = w.copy_from_slice.ensures.after ∙ ap (λ (k : ℕ). take k (drop c.loop-n.from c.args.readings.now)) out_of in
          same
          (copied n (c.loop-n.at + n - c.loop-n.at) left w.copy_from_slice.new.self s w.if-bits-eq1.true into part (search rules) room)
          w.at-is w.out-is
      | else-bits-eq1 w ↦ same (passed n left s w.if-bits-eq1.false) w.at-is w.out-is
    ]

pub returns : goal.returns
returns c =
    let d = done (at_end c.loop-n.invariant c.loop-n-test.false) (search rules) in
    record { long = d.0; written = d.1; most = d.2 }
