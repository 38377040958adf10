-- Days counted off by number, months or years alike: the number that a day falls into.
use Rattle.std.proofs.Common.{◌≡◌, ℕ, zero, suc, ◌+◌, ◌<◌, ◌≤◌, leb, map, sum, sym, refl, ap, ◌∙◌, ⊎_elim, add-one, arith}
use Rattle.std.specs.List.{range_with_len}
use Rattle.std.proofs.lemmas.List.FromFn.{sum_by-map-range_with_len_more}
use Rattle.calendar.specs.Dates.{before, reached}
use Rattle.std.proofs.lemmas.Bool.{cases_lt, cond_both, cond-false, cond-true, le-leb, leb-false, leb-true, lt-leb}

pub before_none : (days : ℕ → ℕ) → before days 0 ≡ 0
unfolding before
before_none days = refl

pub before_more : (days : ℕ → ℕ) (n : ℕ) → before days (suc n) ≡ before days n + days n
unfolding before
before_more days n = refl

-- the same as a loop has it
pub before_next : (days : ℕ → ℕ) (n : ℕ) → before days (n + 1) ≡ before days n + days n
before_next days n = ap (before days) (add-one n) ∙ before_more days n

-- and as a sum over the numbers before
pub before_sum : (days : ℕ → ℕ) (n : ℕ) → sum (map days (range_with_len 0 n)) ≡ before days n
before_sum days zero = sym (before_none days)
before_sum days (suc n) =
    let more = sum_by-map-range_with_len_more (λ (x : ℕ). x) days 0 n n (omega arith) in
    let all = before_more days n in
    let rest = before_sum days n in
    let one : suc n ≡ n + 1 = omega arith in
    cc

pub before_grows : (days : ℕ → ℕ) (m n : ℕ) → m ≤ n → before days m ≤ before days n
before_grows days m zero h =
    let none : m ≡ 0 = omega arith in
    omega (arith, ap (before days) none)
before_grows days m (suc n) h =
    ⊎_elim
    (λ lt. omega (arith, before_grows days m n (omega arith), before_more days n))
    (λ ge. let all : m ≡ suc n = omega arith in omega (arith, ap (before days) all))
    (cases_lt m (suc n))

-- the number whose days the n-th day is among
pub reached_is : (days : ℕ → ℕ) (most n k : ℕ) → k ≤ most → before days k ≤ n → n < before days (suc k) → reached days most n ≡ k
unfolding reached
reached_is days zero n k within from to = omega arith
reached_is days (suc most) n k within from to =
    ⊎_elim
    (λ lt.
    let grows = before_grows days (suc k) (suc most) (omega arith) in
    cond-false _ _ _ (lt-leb (before days (suc most)) n (omega arith)) ∙ reached_is days most n k (omega arith) from to)
    (λ ge.
    let all : k ≡ suc most = omega arith in
    let same = ap (before days) all in
    cond-true _ _ _ (le-leb (before days (suc most)) n (omega arith)) ∙ sym all)
    (cases_lt k (suc most))

-- the n-th day is among the days of the number that is reached
pub record Among (days : ℕ → ℕ) (most n k : ℕ) : Type 0 where
  pub within : k ≤ most
  pub from : before days k ≤ n
  pub to : n < before days k + days k

pub reached_at : (days : ℕ → ℕ) (most n : ℕ) → n < before days (suc most) → Among days most n (reached days most n)
unfolding reached before
reached_at days zero n h = record { within = omega arith; from = omega arith; to = h }
reached_at days (suc most) n h =
    cond_both (leb (before days (suc most)) n) (suc most) (reached days most n) (λ k. Among days (suc most) n k)
    (λ test. record { within = omega arith; from = leb-true _ _ test; to = h })
    (λ test.
    let rest = reached_at days most n (leb-false _ _ test) in
    record { within = omega (arith, rest.within); from = rest.from; to = rest.to })
