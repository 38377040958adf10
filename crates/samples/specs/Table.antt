-- One table of samples: dates, records, replies and logs as they were worked out by hand.
use Rattle.std.specs.Prelude.{◌≡◌, ℕ, true, false, List, [], ◌∷◌, length, slice_index, slice_index_or}
use Rattle.calendar.specs.Dates.{is_lawful}
use Rattle.calendar.specs.Times.{Time, date_in, nine_bytes, synchronised}
use Rattle.calendar.specs.declared.DateTime.{DateTime}
use Rattle.calendar.specs.declared.Season.TheVariants.{Winter}
use Rattle.ring_log.specs.Logs.{newest, told_count, told_max}
use Rattle.readings.specs.Readings.{masked}
use Rattle.records.specs.Records.{event_bytes, gap_bytes}
use Rattle.records.specs.declared.PowerGap.{PowerGap}
use Rattle.reply_frame.specs.Replies.{reply}

-- A time at a whole second, in winter.
abbrev pub at : ℕ → Time
at seconds = record { seconds = seconds; ticks = 0; season = Winter }

-- The last date of the clock.
abbrev pub last_date : DateTime
last_date = date_in (99 ∷ 12 ∷ 31 ∷ 23 ∷ 59 ∷ 59 ∷ [])

-- A mask of readings worked out by hand.
pub record Masks : Type 0 where
  -- mask 0x000440 gives 29 data bytes
  pub mask : (readings : List ℕ) → length readings ≡ 175 → length (masked 0x000440 readings) ≡ 29

pub record Table : Type 0 where
  -- 0 s is 2000-01-01 00:00:00, weekday 6
  pub start : nine_bytes (at 0) ≡ 0 ∷ 1 ∷ 1 ∷ 0 ∷ 0 ∷ 0 ∷ 0 ∷ 6 ∷ 0 ∷ []
  -- 5,184,000 s is 2000-03-01 00:00:00, weekday 3
  pub march : nine_bytes (at 5184000) ≡ 0 ∷ 3 ∷ 1 ∷ 0 ∷ 0 ∷ 0 ∷ 0 ∷ 3 ∷ 0 ∷ []
  -- 3,155,759,999 s is 2099-12-31 23:59:59, weekday 4
  pub end : nine_bytes (at 3155759999) ≡ 99 ∷ 12 ∷ 31 ∷ 23 ∷ 59 ∷ 59 ∷ 0 ∷ 4 ∷ 0 ∷ []
  -- 29 February is in 2024 and not in 2023
  pub leap_day : is_lawful (date_in (24 ∷ 2 ∷ 29 ∷ 0 ∷ 0 ∷ 0 ∷ [])) ≡ true
  pub no_leap_day : is_lawful (date_in (23 ∷ 2 ∷ 29 ∷ 0 ∷ 0 ∷ 0 ∷ [])) ≡ false
  -- synchronised, 12:58:29 becomes 12:58:00 and 12:58:30 becomes 12:59:00
  pub minute_stays : nine_bytes (synchronised (at 46709)) ≡ 0 ∷ 1 ∷ 1 ∷ 12 ∷ 58 ∷ 0 ∷ 0 ∷ 6 ∷ 0 ∷ []
  pub minute_added : nine_bytes (synchronised (at 46710)) ≡ 0 ∷ 1 ∷ 1 ∷ 12 ∷ 59 ∷ 0 ∷ 0 ∷ 6 ∷ 0 ∷ []
  -- the power off at 1 and on at 2
  pub gap : gap_bytes (record { off = 1; on = 2 }) ≡ 0x01 ∷ 0x00 ∷ 0x00 ∷ 0x00 ∷ 0x02 ∷ 0x00 ∷ 0x00 ∷ 0x00 ∷ 0xFC ∷ []
  -- an event of reason 0x83, all else 0, has CSum 0x7C
  pub event :
      slice_index (event_bytes (record { reason = 0x83; seconds = 0; ticks = 0; tu = 0; tc = 0; value = 0; period = 0 })) 12 ≡ 0x7C
  -- 10, 11 and 251 data bytes make replies of 18, 21 and 295 bytes
  pub one_block : (address : ℕ) (payload : List ℕ) → length payload ≡ 10 → length (reply address payload) ≡ 18
  pub two_blocks : (address : ℕ) (payload : List ℕ) → length payload ≡ 11 → length (reply address payload) ≡ 21
  pub most_blocks : (address : ℕ) (payload : List ℕ) → length payload ≡ 251 → length (reply address payload) ≡ 295
  -- volume 3 with four records: RecordCount 1, RecordMax 0x8003, and index 0 is the second record
  pub record_count : told_count 3 4 ≡ 1
  pub record_max : told_max 3 4 ≡ 0x8003
  pub oldest_held : (a b c d : PowerGap) → slice_index_or (newest 3 (a ∷ b ∷ c ∷ d ∷ [])) 0 a ≡ b
  -- what a mask gives
  pub masks : Masks
