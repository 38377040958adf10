-- Dates from 2000 to 2099, and the seconds since 2000-01-01 00:00:00 at which they stand.
use Rattle.std.specs.Prelude.{◌≡◌, ℕ, zero, suc, ◌+◌, ◌-◌, ◌*◌, ◌/◌, ◌%◌, ◌≤◌, Bool, true, cond, ◌&&◌, List, [], ◌∷◌, ◌==◌, nat_le, nat_lt, slice_index}
use Rattle.calendar.specs.declared.DateTime.{DateTime}

-- The days of the months 1 to 12 in a year counted from 2000, behind a 0 for month 0, which is none.
-- February has 29 days in every fourth year, from 2000 on.
abbrev pub month_lengths : ℕ → List ℕ
month_lengths year =
    0 ∷ 31 ∷ cond (year % 4 == 0) 29 28 ∷ 31 ∷ 30 ∷ 31 ∷ 30 ∷ 31 ∷ 31 ∷ 30 ∷ 31 ∷ 30 ∷ 31 ∷ []

unfoldable pub month_days : ℕ → ℕ → ℕ
month_days year month = slice_index (month_lengths year) month

-- How many days come before number n, where number k has `days k` of them.
unfoldable pub before : (ℕ → ℕ) → ℕ → ℕ
before days zero = 0
before days (suc n) = before days n + days n

-- The days of a year are those of its months.
unfoldable pub year_days : ℕ → ℕ
year_days year = before (month_days year) 13

-- The last number, up to `most`, that has at most n days before it.
unfoldable pub reached : (ℕ → ℕ) → ℕ → ℕ → ℕ
reached days zero n = 0
reached days (suc most) n = cond (nat_le (before days (suc most)) n) (suc most) (reached days most n)

-- Whether there is such a day, such a time of day, such a date.
abbrev pub is_day : DateTime → Bool
is_day date =
    nat_le date.year 99 && nat_le 1 date.month && nat_le date.month 12
    && nat_le 1 date.day && nat_le date.day (month_days date.year date.month)

abbrev pub is_time : DateTime → Bool
is_time date = nat_lt date.hour 24 && nat_lt date.minute 60 && nat_lt date.second 60

unfoldable pub is_lawful : DateTime → Bool
is_lawful date = is_day date && is_time date

-- The days before a date since 2000-01-01.
abbrev pub day_number : DateTime → ℕ
day_number date = before year_days date.year + before (month_days date.year) date.month + (date.day - 1)

-- The seconds from the start of 2000 to a date.
unfoldable pub moment : DateTime → ℕ
moment date = 86400 * day_number date + 3600 * date.hour + 60 * date.minute + date.second

-- The year of a day number, and the day in that year, from 0.
abbrev pub year_of : ℕ → ℕ
year_of days = reached year_days 99 days

abbrev pub day_of_year : ℕ → ℕ
day_of_year days = days - before year_days (year_of days)

-- The month of a day of a year, and the day in that month, from 1.
abbrev pub month_of : ℕ → ℕ → ℕ
month_of year day = reached (month_days year) 12 day

abbrev pub day_of_month : ℕ → ℕ → ℕ
day_of_month year day = day - before (month_days year) (month_of year day) + 1

-- The minute of the hour, and the second of the minute.
abbrev pub minute_of : ℕ → ℕ
minute_of seconds = seconds / 60 % 60

abbrev pub second_of : ℕ → ℕ
second_of seconds = seconds % 60

-- The date at so many seconds from the start of 2000.
unfoldable pub date_of : ℕ → DateTime
date_of seconds =
    let days = seconds / 86400 in
    record {
      year = year_of days;
      month = month_of (year_of days) (day_of_year days);
      day = day_of_month (year_of days) (day_of_year days);
      hour = seconds / 3600 % 24;
      minute = minute_of seconds;
      second = second_of seconds;
    }

-- 2000-01-01 was a Saturday; Monday is 1, Sunday 7.
abbrev pub weekday : ℕ → ℕ
weekday seconds = (seconds / 86400 + 5) % 7 + 1

-- Every lawful date is the date of its moment, which is not past the last second of 2099.
abbrev pub EveryDate : Type 0
EveryDate = (date : DateTime) → is_lawful date ≡ true → (moment date ≤ 3155759999) × (date_of (moment date) ≡ date)

-- Every second up to the last of 2099 is the moment of its date, which is lawful.
abbrev pub EverySecond : Type 0
EverySecond = (seconds : ℕ) → seconds ≤ 3155759999 → (is_lawful (date_of seconds) ≡ true) × (moment (date_of seconds) ≡ seconds)
