-- Dates and seconds tell each other.
use Rattle.std.proofs.Common.{◌≡◌, ℕ, zero, suc, ◌+◌, ◌-◌, ◌/◌, ◌%◌, ◌<◌, ◌≤◌, true, ap, arith}
use Rattle.calendar.specs.Dates.{EveryDate, EverySecond, before, date_of, day_number, day_of_year, is_lawful, moment, month_days, month_of, year_days, year_of}
use Rattle.calendar.specs.declared.DateTime.{DateTime}
use Rattle.calendar.proofs.Counts.{before_grows, before_more, reached_at, reached_is}
use Rattle.calendar.proofs.Years.{before_year, in_month}
use Rattle.std.proofs.lemmas.Bool.{and_from, and_parts, le-leb, leb-true, lt-ltb, ltb-true}

-- what makes a date lawful, part by part
pub record Parts (date : DateTime) : Type 0 where
  pub year : date.year ≤ 99
  pub month : (1 ≤ date.month) × (date.month ≤ 12)
  pub day : (1 ≤ date.day) × (date.day ≤ month_days date.year date.month)
  pub hour : date.hour < 24
  pub minute : date.minute < 60
  pub second : date.second < 60

pub parts : (date : DateTime) → is_lawful date ≡ true → Parts date
unfolding is_lawful
parts date h =
    let both = and_parts _ _ h in
    let d₄ = and_parts _ _ both.0 in
    let d₃ = and_parts _ _ d₄.0 in
    let d₂ = and_parts _ _ d₃.0 in
    let d₁ = and_parts _ _ d₂.0 in
    let t₂ = and_parts _ _ both.1 in
    let t₁ = and_parts _ _ t₂.0 in
    record {
      year = leb-true _ _ d₁.0;
      month = (leb-true _ _ d₁.1, leb-true _ _ d₂.1);
      day = (leb-true _ _ d₃.1, leb-true _ _ d₄.1);
      hour = ltb-true _ _ t₁.0;
      minute = ltb-true _ _ t₁.1;
      second = ltb-true _ _ t₂.1;
    }

lawful : (date : DateTime) → Parts date → is_lawful date ≡ true
unfolding is_lawful
lawful date p =
    let d₁ = and_from _ _ (le-leb _ _ p.year) (le-leb _ _ p.month.0) in
    let d₂ = and_from _ _ d₁ (le-leb _ _ p.month.1) in
    let d₃ = and_from _ _ d₂ (le-leb _ _ p.day.0) in
    let d₄ = and_from _ _ d₃ (le-leb _ _ p.day.1) in
    let t₁ = and_from _ _ (lt-ltb _ _ p.hour) (lt-ltb _ _ p.minute) in
    let t₂ = and_from _ _ t₁ (lt-ltb _ _ p.second) in
    and_from _ _ d₄ t₂

-- a lawful date's day is among those of its year, and before 2100
pub in_year-is : (date : DateTime) → Parts date →
    (before (month_days date.year) date.month + date.day ≤ year_days date.year)
    × (before year_days date.year + before (month_days date.year) date.month + date.day ≤ 36525)
unfolding year_days
in_year-is date p =
    let more = before_more (month_days date.year) date.month in
    let grows = before_grows (month_days date.year) (suc date.month) 13 (omega (arith, p.month.1)) in
    let next = before_more year_days date.year in
    let end = before_year (suc date.year) in
    (omega (arith, p.day.1), omega (arith, p.day, p.year))

-- what the sums of a lawful date's seconds need
pub bounds : (date : DateTime) → is_lawful date ≡ true →
    Parts date × (before year_days date.year + before (month_days date.year) date.month + date.day ≤ 36525)
bounds date h = let p = parts date h in (p, (in_year-is date p).1)

abbrev made : ℕ → ℕ → ℕ → ℕ → ℕ → ℕ → DateTime
made y m d h i s = record { year = y; month = m; day = d; hour = h; minute = i; second = s }

same_date : {y y' m m' d d' h h' i i' s s' : ℕ} → y ≡ y' → m ≡ m' → d ≡ d' → h ≡ h' → i ≡ i' → s ≡ s' → made y m d h i s ≡ made y' m' d' h' i' s'
same_date ey em ed eh ei es = cc

year_rest : (year day : ℕ) → day < year_days year → day < before (month_days year) 13
unfolding year_days
year_rest year day h = h

-- no day is in month 0
some_month : (year day month : ℕ) → day < before (month_days year) month + month_days year month → 1 ≤ month
unfolding before month_days
some_month year day zero h = omega arith
some_month year day (suc month) h = omega arith

pub every_date : EveryDate
unfolding date_of moment
every_date date h =
    let p = parts date h in
    let within = in_year-is date p in
    let next = before_more year_days date.year in
    let seconds : ℕ = moment date in
    let days : seconds / 86400 ≡ day_number date = omega (arith, p.hour, p.minute, p.second) in
    let year : year_of (day_number date) ≡ date.year =
    reached_is year_days 99 (day_number date) date.year p.year (omega arith) (omega (arith, p.day.0)) in
    let left : before (month_days date.year) date.month + (date.day - 1) ≡ day_of_year (day_number date) =
    omega (arith, ap (before year_days) year) in
    let month = in_month date.year date.month (date.day - 1) (day_of_year (day_number date)) p.month.1 left (omega (arith, p.day)) in
    let day : date.day - 1 + 1 ≡ date.day = omega (arith, p.day.0) in
    let hour : seconds / 3600 % 24 ≡ date.hour = omega (arith, p.hour, p.minute, p.second) in
    let minute : seconds / 60 % 60 ≡ date.minute = omega (arith, p.hour, p.minute, p.second) in
    let second : seconds % 60 ≡ date.second = omega (arith, p.hour, p.minute, p.second) in
    let month_is = month.0 in
    let day_is = month.1 in
    (omega (arith, within.1, p.hour, p.minute, p.second), same_date (cc) (cc) (cc) hour minute second)

pub every_second : EverySecond
unfolding date_of moment
every_second seconds h =
    let days : ℕ = seconds / 86400 in
    let end = before_year 100 in
    let in_years = reached_at year_days 99 days (omega arith) in
    let year : ℕ = year_of days in
    let day : ℕ = day_of_year days in
    let in_months = reached_at (month_days year) 12 day (year_rest year day (omega (arith, in_years.from, in_years.to))) in
    let month = some_month year day (month_of year day) in_months.to in (
      lawful (date_of seconds) (record {
        year = in_years.within;
        month = (month, in_months.within);
        day = (omega arith, omega (arith, in_months.from, in_months.to));
        hour = omega arith;
        minute = omega arith;
        second = omega arith;
      }),
      omega (arith, in_years.from, in_months.from),
    )
