-- A call that is lent a part of the log memories is the call with all of them.
use Rattle.std.proofs.Common.{◌≡◌, ℕ, ◌<◌, ◌≤◌, Bool, true, false, cond, ◌||◌, eqb, ltb, List, [], ◌++◌, length, take, drop, set, Some, None, Option, sym, refl, ap, ◌∙◌, subst, ap₂, arith, take-append-drop, length-take}
use Rattle.access.specs.declared.Destination.{Destination}
use Rattle.access.specs.declared.Destination.TheVariants.{Own, Broadcast, Foreign}
use Rattle.access.specs.Decision.{own, right, verdict}
use Rattle.calendar.specs.Times.{nine_bytes}
use Rattle.converter.specs.Calls.{Grant, Hears, Steps, event_noted, event_now, event_result, gap_noted, gap_result, hear, no_room, note_event, note_gap, note_result, of_done, of_hearing, outcome, short}
use Rattle.converter.specs.Hearing.{Found, behind, carried, destination, in_row, judged, judged_for, life_after, moved_by, replied, reply_by, reply_length, reply_to, result_by, result_to, ruled, standing_for}
use Rattle.converter.specs.Told.{note_call}
use Rattle.converter.specs.declared.noting.Note.{Note}
use Rattle.converter.specs.declared.noting.Note.TheVariants.{Event as Noted, Gap}
use Rattle.device.specs.Life.{Life, Ring, emptied, held_in, place_after}
use Rattle.device.specs.Rows.{changed, clears, data_of, events_after, gaps_after, held_at, is_events, obeyed, reads_log}
use Rattle.ring_log.specs.Logs.{around}
use Rattle.ring_log.specs.Reading.{sent_bytes}
use Rattle.records.specs.Reasons.{lawful as sound}
use Rattle.records.specs.Records.{event_bytes, gap_bytes}
use Rattle.records.specs.declared.Event.{Event}
use Rattle.records.specs.declared.PowerGap.{PowerGap}
use Rattle.records.specs.declared.Report.{Report}
use Rattle.refusal.specs.Told.{Answer, granted, refused}
use Rattle.refusal.specs.declared.Company.TheVariants.{Alone}
use Rattle.request.specs.Asked.{Asked, asked, prepare, change_address, read_address, change_password, permit, readings, write_setpoint, set_speed, set_clock, read_clock, write_marks, read_marks, synchronise, read_setting, clear_log, log_state, log_records, write_configuration, read_configuration, write_output_mask}
use Rattle.std.proofs.Math.Seq.{take-length}
use Rattle.std.proofs.lemmas.List.{set-append_left, take-take}
use Rattle.std.proofs.lemmas.Bool.{or_parts}
use Rattle.std.proofs.lemmas.Bool.Decides.{nat_tests}

-- a log with another memory
abbrev pub over : {K : Type 0} → Ring K → List K → Ring K
over r memory = record { volume = r.volume; count = r.count; round = r.round; cleared = r.cleared; memory = memory }

-- a converter with other log memories
abbrev pub filled_with : Life → List Event → List PowerGap → Life
filled_with l events gaps = record {
  cells = l.cells;
  access = l.access;
  time = l.time;
  readings = l.readings;
  events = over l.events events;
  gaps = over l.gaps gaps;
}

-- a log holds the same records in a part of its memory that is not under its volume
held_part : {K : Type 0} (v c : ℕ) (r : Bool) (n : ℕ) (m : List K) → c ≤ v → v ≤ length (take n m) → around v c r (take n m) ≡ around v c r m
held_part v c r n m most room =
    let long : length (take n m) ≤ n = simp length-take (omega arith) in
    let counted = take-take c n m (omega arith) in
    let volume = take-take v n m (omega arith) in
    cc

-- the numbers of a log are lawful
abbrev pub Lawful : Life → Type 0
Lawful l = (l.events.count ≤ l.events.volume) × (l.gaps.count ≤ l.gaps.volume)

module _ (l : Life) (es : List Event) (gs : List PowerGap) where
  held_same : (o : Option ℕ) → held_at (filled_with l es gs) o ≡ held_at l o
  held_same None = refl
  held_same (Some log) = refl

  row_same : (o : Option Asked) → in_row (filled_with l es gs) o ≡ in_row l o
  row_same None = refl
  row_same (Some a) = ap (λ (n : ℕ). ruled a (verdict l.access (own l.cells) n (right l.cells a) a)) (held_same (reads_log a))

  -- the decision does not hang on the memories
  judged_for_same : (d : Destination) (command : ℕ) (ps : List ℕ) → judged_for (filled_with l es gs) d command ps ≡ judged_for l d command ps
  judged_for_same Foreign command ps = refl
  judged_for_same Broadcast command ps = ap (λ x. cond (carried command) x (refused 4 Alone)) (row_same (asked command ps))
  judged_for_same Own command ps = row_same (asked command ps)

  judged_same : (f : Found) → judged (filled_with l es gs) f ≡ judged l f
  judged_same f = judged_for_same (destination l f) f.command f.parameters

  events_after-is : (o : Option ℕ) (date : List ℕ) (m : List Event) → over (events_after o date (over l.events es)) m ≡ events_after o date (over l.events m)
  events_after-is None date m = refl
  events_after-is (Some log) date m = by (is_events log)
    where
      by : (b : Bool) → over (cond b (emptied (over l.events es) date) (over l.events es)) m ≡ cond b (emptied (over l.events m) date) (over l.events m)
      by true = refl
      by false = refl

  gaps_after-is : (o : Option ℕ) (date : List ℕ) (m : List PowerGap) → over (gaps_after o date (over l.gaps gs)) m ≡ gaps_after o date (over l.gaps m)
  gaps_after-is None date m = refl
  gaps_after-is (Some log) date m = by (is_events log)
    where
      by : (b : Bool) → over (cond b (over l.gaps gs) (emptied (over l.gaps gs) date)) m ≡ cond b (over l.gaps m) (emptied (over l.gaps m) date)
      by true = refl
      by false = refl

module _ (l : Life) (e g : ℕ) (lawful : Lawful l) where
  abbrev es : List Event
  es = l.events.memory

  abbrev gs : List PowerGap
  gs = l.gaps.memory

  -- the converter with the part that is lent
  abbrev pub partly : Life
  partly = filled_with l (take e es) (take g gs)

  pub short_same : short partly (length (take e es)) (length (take g gs)) ≡ short l e g
  short_same = ap₂ (λ (a b : ℕ). ltb a l.events.volume || ltb b l.gaps.volume) (ap length (take-length (take e es))) (ap length (take-length (take g gs)))

  -- the memory suffices
  enough : short l e g ≡ false → (l.events.volume ≤ length (take e es)) × (l.gaps.volume ≤ length (take g gs))
  enough h = (grind (arith, nat_tests), grind (arith, nat_tests))

  module _ (no : short l e g ≡ false) where
    events_held : held_in partly.events ≡ held_in l.events
    events_held = held_part l.events.volume l.events.count l.events.round e es lawful.0 (enough no).0

    gaps_held : held_in partly.gaps ≡ held_in l.gaps
    gaps_held = held_part l.gaps.volume l.gaps.count l.gaps.round g gs lawful.1 (enough no).1

    -- the data are the same
    data_same : (a : Asked) → data_of partly a ≡ data_of l a
    data_same (prepare key) = refl
    data_same (change_address own new) = refl
    data_same read_address = refl
    data_same (change_password kind old new) = refl
    data_same (permit password kind) = refl
    data_same (readings mask) = refl
    data_same (write_setpoint number setpoint) = refl
    data_same (set_speed code) = refl
    data_same (set_clock date season) = refl
    data_same (read_clock form) = refl
    data_same (write_marks marks) = refl
    data_same read_marks = refl
    data_same synchronise = refl
    data_same (read_setting number which) = refl
    data_same (clear_log log password) = refl
    data_same (log_state log) = refl
    data_same (log_records log index count) =
        ap₂ (λ (x : List Event) (y : List PowerGap). cond (is_events log) (sent_bytes 13 event_bytes x index count) (sent_bytes 9 gap_bytes y index count)) events_held gaps_held
    data_same (write_configuration bits events inputs debounce) = refl
    data_same read_configuration = refl
    data_same (write_output_mask number mask) = refl

    result_by-is : (n : ℕ) (f : Found) (j : Answer Asked) → result_by partly n f j ≡ result_by l n f j
    result_by-is n f (granted a) = ap (λ (x : List ℕ). granted (record { used = behind f; reply = reply_length (destination l f) x })) (data_same a)
    result_by-is n f (refused k company) = refl

    reply_by-is : (f : Found) (j : Answer Asked) (memory : List ℕ) → reply_by partly f j memory ≡ reply_by l f j memory
    reply_by-is f (granted a) memory = ap (λ (x : List ℕ). replied (destination l f) f.address x memory) (data_same a)
    reply_by-is f (refused k company) memory = refl

    result_same : (n : ℕ) (found : Option Found) → result_to partly n found ≡ result_to l n found
    result_same n None = refl
    result_same n (Some f) = ap (result_by partly n f) (judged_same l (take e es) (take g gs) f) ∙ result_by-is n f (judged l f)

    reply_same : (found : Option Found) (memory : List ℕ) → reply_to partly found memory ≡ reply_to l found memory
    reply_same None memory = refl
    reply_same (Some f) memory = ap (λ x. reply_by partly f x memory) (judged_same l (take e es) (take g gs) f) ∙ reply_by-is f (judged l f) memory

  -- what the converter then is, with all of its memory
  moved_same : (d : Destination) (j : Answer Asked) → filled_with (moved_by partly d j) es gs ≡ moved_by l d j
  moved_same d (granted a) = λ i. record {
    cells = (obeyed l a).cells;
    access = standing_for d (granted a) l.access;
    time = (obeyed l a).time;
    readings = l.readings;
    events = events_after-is l (take e es) (take g gs) (clears a) (nine_bytes l.time) es i;
    gaps = gaps_after-is l (take e es) (take g gs) (clears a) (nine_bytes l.time) gs i;
  }
  moved_same d (refused n company) = refl

  life_same : (found : Option Found) → filled_with (life_after partly found) es gs ≡ life_after l found
  life_same None = refl
  life_same (Some f) =
      ap (λ x. filled_with (moved_by partly (destination l f) x) es gs) (judged_same l (take e es) (take g gs) f) ∙ moved_same (destination l f) (judged l f)

  module _ (line reply : List ℕ) (m : Life) (r : Answer Grant) (after : List ℕ) where
    hears_whole : (b : Bool) → no_room l reply e g ≡ b → Hears b partly line reply (outcome m r after) m →
        Hears b l line reply (outcome (filled_with m es gs) r after) (filled_with m es gs)
    hears_whole true t (o, is) =
        (ap₂ (λ x y. outcome (filled_with m es gs) x y) (ap (λ x. x.result) o) (ap (λ x. x.reply) o), ap (λ x. filled_with x es gs) is)
    hears_whole false t (found, finds, o, is) =
        let no : short l e g ≡ false = (or_parts (ltb (length reply) 295) (short l e g) t).1 in (
          found,
          finds,
          ap₂ (λ x y. outcome (filled_with m es gs) x y) (ap (λ x. x.result) o ∙ ap of_hearing (result_same no (length line) found)) (ap (λ x. x.reply) o ∙ reply_same no found reply),
          ap (λ x. filled_with x es gs) is ∙ life_same found,
        )

    pub hear_whole : Steps partly (hear line reply (length (take e es)) (length (take g gs))) (outcome m r after) m →
        Steps l (hear line reply e g) (outcome (filled_with m es gs) r after) (filled_with m es gs)
    hear_whole s =
        let same : no_room partly reply (length (take e es)) (length (take g gs)) ≡ no_room l reply e g = ap (λ x. ltb (length reply) 295 || x) short_same in
        hears_whole (no_room l reply e g) refl (subst (λ b. Hears b partly line reply (outcome m r after) m) same s)

-- a record set in the part is set in the whole
set_part : {K : Type 0} (n p : ℕ) (xs : List K) (x : K) → p < length (take n xs) → set (take n xs) p x ++ drop n xs ≡ set xs p x
set_part {K} n p xs x h = sym (set-append_left (take n xs) (drop n xs) p x h) ∙ ap (λ (l : List K). set l p x) (take-append-drop n xs)

place_within : (v c : ℕ) → c ≤ v → eqb v 0 ≡ false → cond (eqb c v) 0 c < v
place_within v c most some = grind (arith, nat_tests)

module _ (l : Life) (e g : ℕ) (lawful : Lawful l) where
  -- the memories after a call that was lent a part, and what the converter then is
  abbrev pub wholly : Life → Life
  wholly m = filled_with m (m.events.memory ++ drop e l.events.memory) (m.gaps.memory ++ drop g l.gaps.memory)

  unchanged : wholly (partly l e g lawful) ≡ l
  unchanged = λ i. filled_with l (take-append-drop e l.events.memory i) (take-append-drop g l.gaps.memory i)

  abbrev result : Bool → Bool → Bool → Answer Unit
  result low ok zero = cond low (refused 1 Alone) (cond ok (cond zero (refused 13 Alone) (granted tt)) (refused 12 Alone))

  event_by : (low ok zero : Bool) (x : Event) → short l e g ≡ low → eqb l.events.volume 0 ≡ zero →
      wholly (changed (result low ok zero) (partly l e g lawful) (event_noted (partly l e g lawful) x)) ≡ changed (result low ok zero) l (event_noted l x)
  event_by true ok zero x s z = unchanged
  event_by false false zero x s z = unchanged
  event_by false true true x s z = unchanged
  event_by false true false x s z =
      let within = place_within l.events.volume l.events.count lawful.0 z in
      let room = (enough l e g lawful s).0 in
      let put = set_part e (place_after l.events) l.events.memory x (omega arith) in
      λ i. filled_with (event_noted l x) (put i) (take-append-drop g l.gaps.memory i)

  gap_by : (low zero : Bool) (x : PowerGap) → short l e g ≡ low → eqb l.gaps.volume 0 ≡ zero →
      wholly (changed (result low true zero) (partly l e g lawful) (gap_noted (partly l e g lawful) x)) ≡ changed (result low true zero) l (gap_noted l x)
  gap_by true zero x s z = unchanged
  gap_by false true x s z = unchanged
  gap_by false false x s z =
      let within = place_within l.gaps.volume l.gaps.count lawful.1 z in
      let room = (enough l e g lawful s).1 in
      let put = set_part g (place_after l.gaps) l.gaps.memory x (omega arith) in
      λ i. filled_with (gap_noted l x) (take-append-drop e l.events.memory i) (put i)

  module _ (m : Life) (r : Answer Grant) where
    event_whole : (report : Report) →
        Steps (partly l e g lawful) (note_event report (length (take e l.events.memory)) (length (take g l.gaps.memory))) (outcome m r []) m →
        Steps l (note_event report e g) (outcome (wholly m) r []) (wholly m)
    event_whole report (o, is) =
        let same : event_result (partly l e g lawful) report (length (take e l.events.memory)) (length (take g l.gaps.memory)) ≡ event_result l report e g =
        ap (λ b. note_result b (sound report.reason) l.events.volume) (short_same l e g lawful) in (
          ap (λ x. outcome (wholly m) x []) (ap (λ x. x.result) o ∙ ap of_done same),
          ap wholly is ∙ ap (λ a. wholly (changed a (partly l e g lawful) (event_noted (partly l e g lawful) (event_now l report)))) same
              ∙ event_by (short l e g) (sound report.reason) (eqb l.events.volume 0) (event_now l report) refl refl,
        )

    gap_whole : (gap : PowerGap) →
        Steps (partly l e g lawful) (note_gap gap (length (take e l.events.memory)) (length (take g l.gaps.memory))) (outcome m r []) m →
        Steps l (note_gap gap e g) (outcome (wholly m) r []) (wholly m)
    gap_whole gap (o, is) =
        let same : gap_result (partly l e g lawful) (length (take e l.events.memory)) (length (take g l.gaps.memory)) ≡ gap_result l e g =
        ap (λ b. note_result b true l.gaps.volume) (short_same l e g lawful) in (
          ap (λ x. outcome (wholly m) x []) (ap (λ x. x.result) o ∙ ap of_done same),
          ap wholly is ∙ ap (λ a. wholly (changed a (partly l e g lawful) (gap_noted (partly l e g lawful) gap))) same
              ∙ gap_by (short l e g) (eqb l.gaps.volume 0) gap refl refl,
        )

    pub note_whole : (note : Note) →
        Steps (partly l e g lawful) (note_call note (length (take e l.events.memory)) (length (take g l.gaps.memory))) (outcome m r []) m →
        Steps l (note_call note e g) (outcome (wholly m) r []) (wholly m)
    note_whole (Noted report) s = event_whole report s
    note_whole (Gap gap) s = gap_whole gap s
