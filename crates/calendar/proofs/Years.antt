-- The days of months and years in numbers.
use Rattle.std.proofs.Common.{◌≡◌, ℕ, zero, suc, ◌+◌, ◌*◌, ◌/◌, ◌%◌, ◌<◌, ◌≤◌, sym, ap, ⊎_elim, arith}
use Rattle.calendar.specs.Dates.{before, day_of_month, month_days, month_lengths, month_of, year_days, year_of}
use Rattle.calendar.proofs.Counts.{before_grows, before_more, before_none, reached_is}
use Rattle.std.proofs.lemmas.List.{get_or_past}
use Rattle.std.proofs.lemmas.Bool.{cases_eq, cases_lt, cond-false, cond-true, eq-eqb, ne_eqb}

pub leap : (year : ℕ) → year % 4 ≡ 0 → month_days year 2 ≡ 29
unfolding month_days
leap year h = cond-true _ _ _ (eq-eqb _ _ h)

pub common : (year : ℕ) → (year % 4 ≡ 0 → ⊥) → month_days year 2 ≡ 28
unfolding month_days
common year h = cond-false _ _ _ (ne_eqb _ _ h)

pub no_month : (year month : ℕ) → 12 < month → month_days year month ≡ 0
unfolding month_days
no_month year month h = get_or_past (month_lengths year) month 0 h

year_long : (year : ℕ) → year_days year ≡ 337 + month_days year 2
unfolding year_days before month_days
year_long year = omega arith

-- the days before a year, in numbers
pub before_year : (year : ℕ) → before year_days year ≡ 365 * year + (year + 3) / 4
before_year zero = before_none year_days
before_year (suc year) =
    let last = before_year year in
    let more = before_more year_days year in
    let long = year_long year in
    ⊎_elim
    (λ h. omega (arith, leap year h))
    (λ h. omega (arith, common year h))
    (cases_eq (year % 4) 0)

-- no more days come before any month than a leap year has
pub before_most : (year month : ℕ) → before (month_days year) month ≤ 366
unfolding year_days
before_most year zero = omega (arith, before_none (month_days year))
before_most year (suc month) =
    let more = before_more (month_days year) month in
    ⊎_elim
    (λ lt.
    let grows = before_grows (month_days year) (suc month) 13 (omega arith) in
    omega (arith, before_year year, before_year (suc year), before_more year_days year))
    (λ ge. omega (arith, before_most year month, no_month year month (omega arith)))
    (cases_lt month 13)

-- the year among whose days a day is
pub in_years : (days : ℕ) → days ≤ 36524 →
    let year = 4 * days / 1461 in
    (year ≤ 99) × (year ≡ year_of days) × (before year_days year ≤ days) × (days < before year_days year + year_days year)
in_years days h =
    let year : ℕ = 4 * days / 1461 in
    let now = before_year year in
    let next = before_year (suc year) in
    let more = before_more year_days year in
    (omega arith, sym (reached_is year_days 99 days year (omega arith) (omega arith) (omega arith)), omega arith, omega arith)

-- the month among whose days a day of the year is
pub in_month : (year month left day : ℕ) → month ≤ 12 → before (month_days year) month + left ≡ day → left < month_days year month →
    (month ≡ month_of year day) × (left + 1 ≡ day_of_month year day)
in_month year month left day within sum lt =
    let more = before_more (month_days year) month in
    let is = reached_is (month_days year) 12 day month within (omega arith) (omega arith) in
    (sym is, omega (arith, ap (before (month_days year)) is))

-- what is left behind November is in December
pub in_december : (year month left day : ℕ) → 12 ≤ month → month ≤ 12 → before (month_days year) month + left ≡ day → day < year_days year →
    (left < 31) × (12 ≡ month_of year day) × (left + 1 ≡ day_of_month year day)
unfolding year_days month_days
in_december year month left day from to sum lt =
    let last : month ≡ 12 = omega arith in
    let same = ap (before (month_days year)) last in
    let more = before_more (month_days year) 12 in
    let there = in_month year 12 left day (omega arith) (omega arith) (omega arith) in
    (omega arith, there.0, there.1)
