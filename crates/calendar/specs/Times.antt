-- What the clock shows, and what each call makes of it.
use Rattle.std.specs.Prelude.{ℕ, ◌+◌, ◌-◌, ◌*◌, ◌/◌, ◌%◌, Bool, cond, ◌||◌, List, [], ◌∷◌, ◌==◌, nat_le, slice_index}
use Rattle.calendar.specs.Dates.{date_of, minute_of, moment, second_of, weekday}
use Rattle.calendar.specs.declared.Clock.{Clock}
use Rattle.calendar.specs.declared.DateTime.{DateTime}
use Rattle.calendar.specs.declared.Season.{Season}
use Rattle.calendar.specs.declared.Season.TheVariants.{Winter, Summer}

-- Seconds since the start of 2000, 1/256 seconds and the season.
pub record Time : Type 0 where
  pub seconds : ℕ
  pub ticks : ℕ
  pub season : Season

abbrev pub shown : Clock → Time
shown clock = record { seconds = clock.seconds; ticks = clock.ticks; season = clock.season }

abbrev pub start : Time
start = record { seconds = 0; ticks = 0; season = Winter }

-- The season's bit, and the season of a byte by its bit 0.
abbrev pub season_bit : Season → ℕ
season_bit Winter = 0
season_bit Summer = 1

abbrev pub season_of : ℕ → Season
season_of byte = cond (byte % 2 == 0) Winter Summer

-- All 1/256 seconds since the start of 2000, and the time at so many of them.
abbrev pub all_ticks : Time → ℕ
all_ticks time = 256 * time.seconds + time.ticks

abbrev pub later : Time → ℕ → Time
later time ticks =
    record { seconds = (all_ticks time + ticks) / 256; ticks = (all_ticks time + ticks) % 256; season = time.season }

-- Whether so many 1/256 seconds more reach the year 2100, which begins 3155760000 seconds after 2000.
abbrev pub passes : Time → ℕ → Bool
passes time ticks = nat_le (256 * 3155760000) (all_ticks time + ticks)

-- The time that a date and the byte with the season set.
abbrev pub set_to : DateTime → ℕ → Time
set_to date byte = record { seconds = moment date; ticks = 0; season = season_of byte }

-- The time at the nearest whole minute, from second 30 on the next one; in minutes 0 and 59 the time as it is.
abbrev pub synchronised : Time → Time
synchronised time =
    let minute = minute_of time.seconds in
    let second = second_of time.seconds in
    cond (minute == 0 || minute == 59)
    time
    (record { seconds = time.seconds - second + cond (nat_le 30 second) 60 0; ticks = 0; season = time.season })

-- A date of six bytes: year, month, day, hour, minute, second.
abbrev pub date_in : List ℕ → DateTime
date_in bytes =
    record {
      year = slice_index bytes 0;
      month = slice_index bytes 1;
      day = slice_index bytes 2;
      hour = slice_index bytes 3;
      minute = slice_index bytes 4;
      second = slice_index bytes 5;
    }

-- A time as nine bytes: year, month, day, hour, minute, second, 1/256 seconds, weekday, season.
abbrev pub nine_bytes : Time → List ℕ
nine_bytes time =
    let date = date_of time.seconds in
    date.year ∷ date.month ∷ date.day ∷ date.hour ∷ date.minute ∷ date.second
    ∷ time.ticks ∷ weekday time.seconds ∷ season_bit time.season ∷ []
