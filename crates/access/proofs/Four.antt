-- Four cells compared one by one hold the four bytes. (Without this, search closes the goal only near its limits.)
use Rattle.std.proofs.Common.{◌≡◌, ℕ, zero, suc, ◌+◌, ◌<◌, Bool, true, List, length, get_or, Decides, arith}
use Rattle.access.specs.Decision.{holds_four}
use Rattle.std.proofs.lemmas.Bool.{and_from, and_parts, eq-eqb, eqb-true}
use Rattle.std.proofs.lemmas.Bool.Decides.{same_from_decides}
use Rattle.store.specs.Cells.{Hold}

below_four : (P : ℕ → Type 0) → P 0 → P 1 → P 2 → P 3 → (i : ℕ) → i < 4 → P i
below_four P p₀ p₁ p₂ p₃ zero h = p₀
below_four P p₀ p₁ p₂ p₃ (suc zero) h = p₁
below_four P p₀ p₁ p₂ p₃ (suc (suc zero)) h = p₂
below_four P p₀ p₁ p₂ p₃ (suc (suc (suc zero))) h = p₃
below_four P p₀ p₁ p₂ p₃ (suc (suc (suc (suc i)))) h = absurd (omega arith)

holds : (cells : ℕ → ℕ) (first : ℕ) (bytes : List ℕ) → length bytes ≡ 4 → holds_four cells first bytes ≡ true → Hold cells first bytes
holds cells first bytes long t i h =
    let p = and_parts _ _ t in
    let q = and_parts _ _ p.1 in
    let r = and_parts _ _ q.1 in
    below_four (λ j. cells (first + j) ≡ get_or bytes j 0) (eqb-true _ _ p.0) (eqb-true _ _ q.0) (eqb-true _ _ r.0) (eqb-true _ _ r.1) i
    (omega arith)

pub four : (cells : ℕ → ℕ) (first : ℕ) (bytes : List ℕ) (r : Bool) → length bytes ≡ 4 → Decides r (Hold cells first bytes) →
    r ≡ holds_four cells first bytes
four cells first bytes r long d =
    same_from_decides r (holds_four cells first bytes) d (
      holds cells first bytes long,
      (λ h.
          and_from _ _ (eq-eqb _ _ (h 0 (omega arith)))
          (and_from _ _ (eq-eqb _ _ (h 1 (omega arith)))
          (and_from _ _ (eq-eqb _ _ (h 2 (omega arith))) (eq-eqb _ _ (h 3 (omega arith)))))),
    )
