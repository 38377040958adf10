-- Two converters that differ in stored passwords alone: what they answer and become alike.
use Rattle.std.proofs.Common.{◌≡◌, ℕ, zero, suc, ◌+◌, ◌*◌, ◌<◌, ◌≤◌, Bool, true, false, cond, ◌||◌, eqb, ltb, leb, List, [], ◌∷◌, length, take, Some, None, Option, unwrap_or, refl, ap, ◌∙◌, ap₂, subst₂, arith}
use Rattle.access.specs.Decision.{index_past, own, right, unpermitted, unprepared, verdict}
use Rattle.access.specs.declared.Destination.{Destination}
use Rattle.access.specs.declared.Destination.TheVariants.{Own, Broadcast, Foreign}
use Rattle.calendar.specs.Times.{nine_bytes}
use Rattle.converter.specs.Calls.{no_room, outcome, Grant, short}
use Rattle.converter.specs.Hearing.{Found, behind, carried, destination, in_row, judged, judged_for, moved_by, replied, reply_by, reply_length, result_by, ruled, standing_for}
use Rattle.device.specs.Life.{Life, held_in, held_number}
use Rattle.device.specs.Rows.{clears, data_of, events_after, gaps_after, held_at, held_for, is_events, mask_of, reads_log, setting_cell, state_bytes, time_after}
use Rattle.ring_log.specs.Reading.{sent_bytes}
use Rattle.readings.specs.Readings.{masked}
use Rattle.records.specs.Records.{event_bytes, gap_bytes}
use Rattle.refusal.specs.Told.{Answer, granted, refused}
use Rattle.refusal.specs.declared.Company.TheVariants.{Alone}
use Rattle.request.specs.Asked.{Asked, asked, prepare, change_address, read_address, change_password, permit, readings, write_setpoint, set_speed, set_clock, read_clock, write_marks, read_marks, synchronise, read_setting, clear_log, log_state, log_records, write_configuration, read_configuration, write_output_mask}
use Rattle.request.specs.Rows.{NumberedRead, checked, is_setting, needs}
use Rattle.request.specs.Writes.{gives}
use Rattle.runs.proofs.Verdicts.{ranked, ranked_alike, reaches}
use Rattle.runs.specs.Passwords.{Alike, right_by, secret}
use Rattle.std.proofs.lemmas.Bool.{and_right, lt-leb}
use Rattle.std.proofs.lemmas.Bool.Decides.{nat_tests}
use Rattle.store.specs.Cells.{span}

-- a cell past the passwords is not secret
open_cell : (k : ℕ) → 11 ≤ k → secret k ≡ false
open_cell k h = and_right (leb 3 k) (leb k 10) (lt-leb k 10 (omega arith))

-- neighbouring cells past the passwords
span_alike : (f g : ℕ → ℕ) → ((k : ℕ) → k < 256 → secret k ≡ false → f k ≡ g k) → (first n : ℕ) → 11 ≤ first → first + n ≤ 256 →
    span f first n ≡ span g first n
span_alike f g h first zero past within = refl
span_alike f g h first (suc n) past within =
    ap₂ ◌∷◌ (h first (omega arith) (open_cell first past)) (span_alike f g h (first + 1) n (omega arith) (omega arith))

-- setpoints and output masks are past the passwords
setting_past : (b : Bool) (number : ℕ) → 11 ≤ cond b (33 + 8 * number) (161 + 8 * number)
setting_past true number = omega arith
setting_past false number = omega arith

-- those that are read stand within the cells
setting_fits : (number which : ℕ) → is_setting number which ≡ true → setting_cell number which + 8 ≤ 256
setting_fits number which h = grind (arith, nat_tests)

-- what is checked of a setting that is read
checked_reads : (address : List ℕ) (a : Asked) → checked address a ≡ true → NumberedRead a
checked_reads address (read_setting number which) h = h
checked_reads address a h = tt

-- a granted request that reads a setting was checked
abbrev pub ReadsWithin : Answer Asked → Type 0
ReadsWithin (granted a) = NumberedRead a
ReadsWithin (refused n company) = Unit {0}

ranked_reads : (a : Asked) (p q c i r : Bool) → (c ≡ true → NumberedRead a) → ReadsWithin (ruled a (ranked p q c i r))
ranked_reads a true q c i r h = tt
ranked_reads a false true c i r h = tt
ranked_reads a false false false i r h = tt
ranked_reads a false false true true r h = tt
ranked_reads a false false true false true h = h refl
ranked_reads a false false true false false h = tt

row_reads : (l : Life) (o : Option Asked) → ReadsWithin (in_row l o)
row_reads l None = tt
row_reads l (Some a) =
    ranked_reads a (unprepared l.access (needs a)) (unpermitted l.access (needs a)) (checked (own l.cells) a) (index_past (held_for l a) a)
    (right l.cells a) (checked_reads (own l.cells) a)

carried_reads : (l : Life) (b : Bool) (o : Option Asked) → ReadsWithin (cond b (in_row l o) (refused 4 Alone))
carried_reads l true o = row_reads l o
carried_reads l false o = tt

for_reads : (l : Life) (d : Destination) (command : ℕ) (ps : List ℕ) → ReadsWithin (judged_for l d command ps)
for_reads l Foreign command ps = tt
for_reads l Broadcast command ps = carried_reads l (carried command) (asked command ps)
for_reads l Own command ps = row_reads l (asked command ps)

pub judged_reads : (l : Life) (f : Found) → ReadsWithin (judged l f)
judged_reads l f = for_reads l (destination l f) f.command f.parameters

module _ (l m : Life) (like : Alike l m) where
  -- the same memory is short
  pub room_alike : (reply : List ℕ) (events gaps : ℕ) → no_room l reply events gaps ≡ no_room m reply events gaps
  room_alike reply events gaps =
      λ i. ltb (length reply) 295
      || (ltb (length (take events (like.events i).memory)) (like.events i).volume
      || ltb (length (take gaps (like.gaps i).memory)) (like.gaps i).volume)

  -- the same log memory is short
  pub short_alike : (events gaps : ℕ) → short l events gaps ≡ short m events gaps
  short_alike events gaps =
      λ i. ltb (length (take events (like.events i).memory)) (like.events i).volume
      || ltb (length (take gaps (like.gaps i).memory)) (like.gaps i).volume

  -- a request is for the same
  destination_alike : (f : Found) → destination l f ≡ destination m f
  destination_alike f =
      ap₂ (λ (a b : ℕ). cond (eqb f.address 0x00FF) Broadcast (cond (eqb f.address (a + 256 * b)) Own Foreign))
      (like.cells 0 (omega arith) refl) (like.cells 1 (omega arith) refl)

  -- both have one address
  own_alike : own l.cells ≡ own m.cells
  own_alike = ap₂ (λ (a b : ℕ). a ∷ b ∷ []) (like.cells 0 (omega arith) refl) (like.cells 1 (omega arith) refl)

  -- as many records are held
  held_alike : (o : Option ℕ) → held_at l o ≡ held_at m o
  held_alike None = refl
  held_alike (Some log) = λ i. cond (is_events log) (held_number (like.events i)) (held_number (like.gaps i))

  -- the same data are sent
  data_alike : (a : Asked) → NumberedRead a → data_of l a ≡ data_of m a
  data_alike (prepare key) within = refl
  data_alike (change_address own new) within = refl
  data_alike read_address within = refl
  data_alike (change_password kind old new) within = refl
  data_alike (permit password kind) within = refl
  data_alike (readings mask) within = ap (masked (mask_of mask)) like.readings
  data_alike (write_setpoint number setpoint) within = refl
  data_alike (set_speed code) within = refl
  data_alike (set_clock date season) within = refl
  data_alike (read_clock form) within = ap nine_bytes like.time
  data_alike (write_marks marks) within = refl
  data_alike read_marks within = span_alike l.cells m.cells like.cells 11 6 (omega arith) (omega arith)
  data_alike synchronise within = refl
  data_alike (read_setting number which) within =
      span_alike l.cells m.cells like.cells (setting_cell number which) 8 (setting_past (eqb which 0) number)
      (setting_fits number which within)
  data_alike (clear_log log password) within = refl
  data_alike (log_state log) within = λ i. cond (is_events log) (state_bytes 13 (like.events i)) (state_bytes 9 (like.gaps i))
  data_alike (log_records log index count) within =
      λ i. cond (is_events log) (sent_bytes 13 event_bytes (held_in (like.events i)) index count) (sent_bytes 9 gap_bytes (held_in (like.gaps i)) index count)
  data_alike (write_configuration bits events inputs debounce) within = refl
  data_alike read_configuration within =
      let event_low = like.cells 17 (omega arith) refl in
      let event_high = like.cells 18 (omega arith) refl in
      let inputs = like.cells 19 (omega arith) refl in
      let debounce = like.cells 20 (omega arith) refl in
      λ i. 0 ∷ event_low i ∷ event_high i ∷ 0 ∷ 0 ∷ 0 ∷ inputs i ∷ debounce i ∷ 0 ∷ []
  data_alike (write_output_mask number mask) within = refl

  -- the same verdict where the password is as right
  verdict_alike : (a : Asked) (r : Bool) →
      verdict l.access (own l.cells) (held_for l a) r a ≡ verdict m.access (own m.cells) (held_for m a) r a
  verdict_alike a r = λ i. verdict (like.access i) (own_alike i) (held_alike (reads_log a) i) r a

  -- the same decision in a row, unless its password is reached and right for one alone
  row_alike : (o : Option Asked) → (reaches (in_row l o) ≡ true → right_by l.cells o ≡ right_by m.cells o) → in_row l o ≡ in_row m o
  row_alike None h = refl
  row_alike (Some a) h =
      ap (ruled a)
      (ranked_alike a (unprepared l.access (needs a)) (unpermitted l.access (needs a)) (checked (own l.cells) a) (index_past (held_for l a) a)
      (right l.cells a) (right m.cells a) h
      ∙ verdict_alike a (right m.cells a))

  -- the same of a request that broadcast carries or not
  carried_alike : (b : Bool) (o : Option Asked) →
      (reaches (cond b (in_row l o) (refused 4 Alone)) ≡ true → right_by l.cells o ≡ right_by m.cells o) →
      cond b (in_row l o) (refused 4 Alone) ≡ cond b (in_row m o) (refused 4 Alone)
  carried_alike true o h = row_alike o h
  carried_alike false o h = refl

  -- the same of a request for any destination
  for_alike : (d : Destination) (command : ℕ) (ps : List ℕ) →
      (reaches (judged_for l d command ps) ≡ true → right_by l.cells (asked command ps) ≡ right_by m.cells (asked command ps)) →
      judged_for l d command ps ≡ judged_for m d command ps
  for_alike Foreign command ps h = refl
  for_alike Broadcast command ps h = carried_alike (carried command) (asked command ps) h
  for_alike Own command ps h = row_alike (asked command ps) h

  -- the same decision, unless no refusal before 10 applied and the password is right for one alone
  pub judged_alike : (f : Found) →
      (reaches (judged l f) ≡ true →
      right_by l.cells (asked f.command f.parameters) ≡ right_by m.cells (asked f.command f.parameters)) →
      judged l f ≡ judged m f
  judged_alike f h =
      for_alike (destination l f) f.command f.parameters h ∙ ap (λ d. judged_for m d f.command f.parameters) (destination_alike f)

  -- by one decision the same is answered
  pub result_alike : (line : ℕ) (f : Found) (j : Answer Asked) → ReadsWithin j → result_by l line f j ≡ result_by m line f j
  result_alike line f (granted a) within =
      λ i. granted (record { used = behind f; reply = reply_length (destination_alike f i) (data_alike a within i) })
  result_alike line f (refused n company) within = refl

  -- by one decision the same is replied
  pub reply_alike : (f : Found) (j : Answer Asked) (memory : List ℕ) → ReadsWithin j → reply_by l f j memory ≡ reply_by m f j memory
  reply_alike f (granted a) memory within =
      λ i. replied (destination_alike f i) f.address (data_alike a within i) memory
  reply_alike f (refused n company) memory within = refl

  -- by one decision, for one destination, both stay alike
  moved_alike : (d : Destination) (j : Answer Asked) → Alike (moved_by l d j) (moved_by m d j)
  moved_alike d (granted a) =
      record {
        cells = λ k within shown. ap (unwrap_or (gives a k)) (like.cells k within shown);
        access = ap (standing_for d (granted a)) like.access;
        time = ap (λ t. time_after t a) like.time;
        readings = like.readings;
        events = ap₂ (λ t r. events_after (clears a) (nine_bytes t) r) like.time like.events;
        gaps = ap₂ (λ t r. gaps_after (clears a) (nine_bytes t) r) like.time like.gaps;
      }
  moved_alike d (refused n company) =
      record {
        cells = like.cells;
        access = ap (standing_for d (refused n company)) like.access;
        time = like.time;
        readings = like.readings;
        events = like.events;
        gaps = like.gaps;
      }

  -- by equal decisions on a request found both stay alike
  pub life_alike : (f : Found) (j k : Answer Asked) → j ≡ k → Alike (moved_by l (destination l f) j) (moved_by m (destination m f) k)
  life_alike f j k e = subst₂ (λ d x. Alike (moved_by l (destination l f) j) (moved_by m d x)) (destination_alike f) e (moved_alike (destination l f) j)

-- the same comes of a call with the same result and reply, where both then are alike
pub outcome_alike : (l m : Life) → Alike l m → {r s : Answer Grant} {x y : List ℕ} → r ≡ s → x ≡ y → outcome l r x ≡ outcome m s y
outcome_alike l m like e p = λ i. record { result = e i; reply = p i; events = (like.events i).memory; gaps = (like.gaps i).memory }
