use Rattle.std.proofs.Common.{◌≡◌, ℕ, refl, ap, ◌∙◌, arith, length-append, length-drop, length-take, rules}
use Rattle.calendar.specs.Dates.{before, date_of, is_lawful, month_days, reached, year_days}
use Rattle.reply_frame.proofs.Parts.{length-reply}
use Rattle.reply_frame.specs.Replies.{data_len, on_line}
use Rattle.samples.specs.Table.{Masks, Table, last_date}
use Rattle.samples.proofs.last_date.Goals as goal

masks : Masks
masks = record { mask = λ readings all. simp (length-append, length-take, length-drop) (omega arith) }

table : Table
unfolding before date_of is_lawful month_days reached year_days
table =
    record {
      start = refl;
      march = refl;
      end = refl;
      leap_day = refl;
      no_leap_day = refl;
      minute_stays = refl;
      minute_added = refl;
      gap = refl;
      event = refl;
      one_block = λ a p e. length-reply a p ∙ ap (λ (n : ℕ). on_line (data_len n)) e;
      two_blocks = λ a p e. length-reply a p ∙ ap (λ (n : ℕ). on_line (data_len n)) e;
      most_blocks = λ a p e. length-reply a p ∙ ap (λ (n : ℕ). on_line (data_len n)) e;
      record_count = refl;
      record_max = refl;
      oldest_held = λ a b c d. refl;
      masks = masks;
    }

last : date_of 3155759999 ≡ last_date
unfolding before date_of month_days reached year_days
last = refl

pub returns : goal.returns
returns c = record { told = search (last, rules); table = table; masks = masks }
