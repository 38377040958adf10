-- What a test of each number from 0 to a last one tells.
use Rattle.std.proofs.Common.{◌≡◌, ℕ, ◌+◌, ◌<◌, Bool, true, false, Some, None, Option, refl, ap, ◌∙◌, subst, subst₂, arith}
use Rattle.std.proofs.iter.runs.Sources.{inclusive_listed, nat_range_inclusive_steps}
use Rattle.std.specs.Bool.{IsTrue, MatchBool}
use Rattle.std.specs.Fn.{Called}
use Rattle.std.specs.Iterator.Runs.{AllItemsGive, AnyItemGives, CallKeepsClosure, ItemsCountUp, Run, SomeRun}
use Rattle.std.specs.Option.{IfSome, IsSomeAnd, option_map}
use Rattle.std.specs.Range.{range_inclusive_end, range_inclusive_exhausted, range_inclusive_start}
use Rattle.std.specs.declared.ops.RangeInclusive.{RangeInclusive}
use denote.Param.Members.{Mut}

-- what holds of the item at a place holds of the number that stands there
at_place : (o : Option ℕ) (k : ℕ) (P : ℕ → Type 0) → option_map (λ y. y) o ≡ Some k → IfSome o P → P k
at_place None k P e h = absurd cc
at_place (Some x) k P e h = let same : x ≡ k = cc in subst P same h

-- an item that fails is one of the numbers
at_item : (o : Option ℕ) (n : ℕ) (P Q : ℕ → Type 0) → IfSome o (λ x. P x × (x < n)) → IsSomeAnd o Q → (x : ℕ) × (x < n) × Q x
at_item None n P Q h q = absurd q
at_item (Some x) n P Q h q = (x, h.1, q)

module _ {F : Type 0} (g : Mut F (ℕ × Unit {0}) Bool) (f : F) (s : RangeInclusive ℕ) (last : ℕ) (P : ℕ → Type 0)
    (first : range_inclusive_start s ≡ 0) (end : range_inclusive_end s ≡ last) (fresh : range_inclusive_exhausted s ≡ false) (keeps : CallKeepsClosure g f)
    (yes : (x : ℕ) → Called g f (x, tt) true f → P x) (no : (x : ℕ) → Called g f (x, tt) false f → P x → ⊥) where
  -- the items of a run are the numbers from 0 on
  counts : (p : Run nat_range_inclusive_steps) → p.from ≡ s → ItemsCountUp p 0 (last + 1)
  counts p from =
      let (a, b, low, high, up) = inclusive_listed p p.seen in
      let zero : a ≡ 0 = low ∙ ap range_inclusive_start from ∙ first in
      let past : b ≡ last + 1 = high ∙ ap (λ n. n + 1) (ap range_inclusive_end from ∙ end) in
      subst₂ (λ x y. ItemsCountUp p x y) zero past (up (ap range_inclusive_exhausted from ∙ fresh)).0

  pub all_counted : (r : Bool) → SomeRun nat_range_inclusive_steps s (λ p. MatchBool r (IsTrue p.whole × AllItemsGive p g f true) (AnyItemGives p g f false)) →
      (r ≡ true → (k : ℕ) → k < last + 1 → P k) × (((k : ℕ) → k < last + 1 → P k) → r ≡ true)
  all_counted true (p, from, gives) =
      let up = counts p from in (
        λ t k below.
            let here : 0 + k ≡ k = omega arith in
            let place = up.3 k (omega (arith, up.1 gives.0)) ∙ ap Some here in
            yes k (at_place (p.at k) k (λ x. Called g f (x, tt) true f) place (gives.1 keeps k)),
        λ all. refl,
      )
  all_counted false (p, from, gives) =
      let (k, within, failed) = gives keeps in
      let (x, below, fails) = at_item (p.at k) (last + 1) (λ x. x ≡ 0 + k) (λ x. Called g f (x, tt) false f) ((counts p from).2 k) failed in
      (λ t. cc, λ all. absurd (no x fails (all x below)))
