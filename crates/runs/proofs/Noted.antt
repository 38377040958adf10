-- What a run leaves in the logs and on the clock, and what requests for log records then are answered.
use Rattle.std.proofs.Common.{◌≡◌, ℕ, ◌<◌, ◌≤◌, Bool, true, false, cond, not, eqb, ltb, leb, List, [], ◌∷◌, ◌++◌, length, take, Some, None, Option, sym, refl, ap, ◌∙◌, subst, subst₂, ⊎_elim, arith, length-take}
use Rattle.access.specs.Decision.{destination_of}
use Rattle.access.specs.declared.Access.{Access}
use Rattle.access.specs.declared.Destination.TheVariants.{Own}
use Rattle.calendar.specs.Times.{Time, later, nine_bytes, start}
use Rattle.converter.specs.Calls.{Call, Grant, Hears, Outcome, Steps, advance, advance_result, event_noted, event_now, event_result, gap_noted, gap_result, hear, heard, measure, measured, measure_result, no_room, note_event, note_gap, note_result, of_done, of_hearing, outcome, short, timed}
use Rattle.converter.specs.Hearing.{Finds, Found, behind, destination, judged, judged_for, life_after, moved_by, replied, reply_by, reply_length, reply_to, result_by, result_to, ruled, standing_for, with_access}
use Rattle.device.specs.Life.{Life, Ring, emptied, entered, fresh}
use Rattle.device.specs.Rows.{changed, clears, data_of, events_after, gaps_after, held_by, is_events, obeyed, time_after}
use Rattle.ring_log.proofs.Kept.{kept_none, kept_step}
use Rattle.records.specs.Reasons.{lawful}
use Rattle.records.specs.Records.{event_at}
use Rattle.records.specs.declared.Event.{Event}
use Rattle.records.specs.declared.PowerGap.{PowerGap}
use Rattle.records.specs.declared.Report.{Report}
use Rattle.refusal.specs.Told.{Answer, granted, refused, used}
use Rattle.refusal.specs.declared.Company.{Company}
use Rattle.refusal.specs.declared.Company.TheVariants.{Alone, Used}
use Rattle.request.specs.Asked.{Asked, log_records, parameter, word}
use Rattle.request.specs.Rows.{is_log}
use Rattle.request_frame.proofs.Frame.{length-request, past_end, reads_as}
use Rattle.request_frame.specs.Requests.{Requests, request, window}
use Rattle.runs.proofs.Asked.{frame_asked, granted_asked, never}
use Rattle.runs.specs.History.{Ran, Turn, frame_asks, cleared_by, clears_events, clears_gaps, clock_after, events_since, events_with, frame_before, gaps_since, gaps_with, ticked_by, time_by, unless_cleared}
use Rattle.runs.specs.Records.{HeardSo, Logged, Shows, address_of, asks_records, with_data}
use Rattle.std.proofs.lemmas.List.{take_all}
use Rattle.std.proofs.lemmas.Bool.{cases_eq, eq-eqb, false≢true, ltb-false, ne_eqb, or_parts}

-- the clock and the logs of a converter are these
pub record Stands (v w : ℕ) (time : Time) (es : List Event) (gs : List PowerGap) (l : Life) : Type 0 where
  pub clock : l.time ≡ time
  pub events : Logged v l.events es
  pub gaps : Logged w l.gaps gs

-- a fresh converter's clock is at its start and its logs are empty
starts : (cells : ℕ → ℕ) (v w : ℕ) (es : List Event) (gs : List PowerGap) → Stands v w start [] [] (fresh cells v w es gs)
starts cells v w es gs = record { clock = refl; events = (refl, kept_none _ es); gaps = (refl, kept_none _ gs) }

-- a log with room keeps one record more
one_more : {K : Type 0} (v : ℕ) (r : Ring K) (xs : List K) (x : K) → 0 < r.volume → r.volume ≤ length r.memory → Logged v r xs →
    Logged v (entered r x) (xs ++ x ∷ [])
one_more v r xs x some long k = (k.0, kept_step r.volume r.count r.round r.memory xs x some long k.1)

-- a log that is cleared keeps nothing, and one that is not stays
cleared_or_not : {K : Type 0} (b : Bool) (v : ℕ) (r : Ring K) (date : List ℕ) (xs : List K) → Logged v r xs →
    Logged v (cond b (emptied r date) r) (unless_cleared b xs)
cleared_or_not true v r date xs k = (k.0, kept_none r.volume r.memory)
cleared_or_not false v r date xs k = k

-- the same where the test means the other log
other_cleared : {K : Type 0} (b : Bool) (v : ℕ) (r : Ring K) (date : List ℕ) (xs : List K) → Logged v r xs →
    Logged v (cond b r (emptied r date)) (unless_cleared (not b) xs)
other_cleared true v r date xs k = k
other_cleared false v r date xs k = (k.0, kept_none r.volume r.memory)

-- a request clears the log of events or leaves it
events_cleared : (o : Option ℕ) (v : ℕ) (r : Ring Event) (date : List ℕ) (xs : List Event) → Logged v r xs →
    Logged v (events_after o date r) (unless_cleared (clears_events o) xs)
events_cleared None v r date xs k = k
events_cleared (Some log) v r date xs k = cleared_or_not (is_events log) v r date xs k

-- a request clears the log of power gaps or leaves it
gaps_cleared : (o : Option ℕ) (v : ℕ) (r : Ring PowerGap) (date : List ℕ) (xs : List PowerGap) → Logged v r xs →
    Logged v (gaps_after o date r) (unless_cleared (clears_gaps o) xs)
gaps_cleared None v r date xs k = k
gaps_cleared (Some log) v r date xs k = other_cleared (is_events log) v r date xs k

-- memory that is lent in full suffices for the volume
enough : {K : Type 0} (n v : ℕ) (m : List K) → ltb (length (take n m)) v ≡ false → v ≤ length m
enough n v m e = omega (arith, ltb-false (length (take n m)) v e, length-take n m)

-- 13 is not answered only where the volume is not 0
has_volume : (v : ℕ) (b : Bool) (x : Unit {0}) → eqb v 0 ≡ b → cond b (refused 13 Alone) (granted tt) ≡ granted x → 0 < v
has_volume v true x e g = never g
has_volume v false x e g =
    ⊎_elim
    (λ is. let z : ◌≡◌ {A = Bool} false true = sym e ∙ eq-eqb v 0 is in absurd (false≢true z))
    (λ no. omega arith)
    (cases_eq v 0)

-- a record is granted only where memory suffices and the volume is not 0
note_room : (s ok : Bool) (v : ℕ) (x : Unit {0}) → note_result s ok v ≡ granted x → (s ≡ false) × (0 < v)
note_room true ok v x e = never e
note_room false true v x e = (refl, has_volume v (eqb v 0) x refl e)
note_room false false v x e = never e

-- what stands after a call with that result
abbrev After : ℕ → ℕ → Time → List Event → List PowerGap → Call → Answer Grant → Life → Type 0
After v w time es gs call r l = Stands v w (ticked_by call r time) (events_with call r time es) (gaps_with call r gs) l

-- what stands after a granted request, or none
abbrev Obeys : ℕ → ℕ → Time → List Event → List PowerGap → Option Asked → Life → Type 0
Obeys v w time es gs q l = Stands v w (time_by q time) (unless_cleared (clears_events (cleared_by q)) es) (unless_cleared (clears_gaps (cleared_by q)) gs) l

module _ (v w : ℕ) (time : Time) (es : List Event) (gs : List PowerGap) (m : Life) (s : Stands v w time es gs m) where
  -- time goes on by a granted call of advance
  advanced : (ticks : ℕ) (a : Answer Unit) → After v w time es gs (advance ticks) (of_done a) (changed a m (timed m ticks))
  advanced ticks (granted x) = record { clock = ap (λ t. later t ticks) s.clock; events = s.events; gaps = s.gaps }
  advanced ticks (refused n company) = s

  -- readings move neither clock nor log
  metered : (readings : List ℕ) (a : Answer Unit) → After v w time es gs (measure readings) (of_done a) (changed a m (measured m readings))
  metered readings (granted x) = record { clock = s.clock; events = s.events; gaps = s.gaps }
  metered readings (refused n company) = s

  -- a granted event stands behind the others, with the clock of its moment
  event_noted-is : (report : Report) (events gaps : ℕ) (a : Answer Unit) → event_result m report events gaps ≡ a →
      After v w time es gs (note_event report events gaps) (of_done a) (changed a m (event_noted m (event_now m report)))
  event_noted-is report events gaps (granted x) e =
      let room = note_room (short m events gaps) (lawful report.reason) m.events.volume x e in
      let long = enough events m.events.volume m.events.memory (or_parts _ _ room.0).0 in
      let now : event_now m report ≡ event_at report time.seconds time.ticks = ap (λ t. event_at report t.seconds t.ticks) s.clock in
      record {
        clock = s.clock;
        events =
            subst (λ y. Logged v (entered m.events (event_now m report)) (es ++ y ∷ [])) now
            (one_more v m.events es (event_now m report) room.1 long s.events);
        gaps = s.gaps;
      }
  event_noted-is report events gaps (refused n company) e = s

  -- a granted power gap stands behind the others
  gap_noted-is : (gap : PowerGap) (events gaps : ℕ) (a : Answer Unit) → gap_result m events gaps ≡ a →
      After v w time es gs (note_gap gap events gaps) (of_done a) (changed a m (gap_noted m gap))
  gap_noted-is gap events gaps (granted x) e =
      let room = note_room (short m events gaps) true m.gaps.volume x e in
      let long = enough gaps m.gaps.volume m.gaps.memory (or_parts _ _ room.0).1 in
      record { clock = s.clock; events = s.events; gaps = one_more w m.gaps gs gap room.1 long s.gaps }
  gap_noted-is gap events gaps (refused n company) e = s

  -- a granted request moves the clock and the logs as its row tells
  obeys : (a : Asked) (access : Access) (q : Option Asked) → q ≡ Some a → Obeys v w time es gs q (with_access (obeyed m a) access)
  obeys a access q e =
      subst (λ p. Obeys v w time es gs p (with_access (obeyed m a) access)) (sym e)
      (record {
        clock = ap (λ t. time_after t a) s.clock;
        events = events_cleared (clears a) v m.events (nine_bytes m.time) es s.events;
        gaps = gaps_cleared (clears a) w m.gaps (nine_bytes m.time) gs s.gaps;
      })

  module _ (line memory : List ℕ) (events gaps : ℕ) where
    -- a request found moves them if it is granted
    answers_one : (f : Found) (finds : Finds line (Some f)) (j : Answer Asked) → judged m f ≡ j →
        After v w time es gs (hear line memory events gaps) (of_hearing (result_by m (length line) f j)) (moved_by m (destination m f) j)
    answers_one f finds (granted a) e =
        obeys a (standing_for (destination m f) (granted a) m.access) (frame_asks (frame_before line (behind f)))
        (frame_asked line f finds ∙ granted_asked m f a e)
    answers_one f finds (refused n company) e = record { clock = s.clock; events = s.events; gaps = s.gaps }

    -- what a line leaves of them, with or without a request
    answers : (found : Option Found) → Finds line found →
        After v w time es gs (hear line memory events gaps) (of_hearing (result_to m (length line) found)) (life_after m found)
    answers None finds = s
    answers (Some f) finds = answers_one f finds (judged m f) refl

  -- what stands after a call, by what came of it
  so : (call : Call) (o : Outcome) (n k : Life) (r : Answer Grant) (bytes : List ℕ) → o ≡ outcome n r bytes → n ≡ k →
      After v w time es gs call r k → After v w time es gs call o.result n
  so call o n k r bytes e_o e_n a =
      subst₂ (λ x y. After v w time es gs call x y) (sym (ap (λ x. x.result) e_o)) (sym e_n) a

  -- a line heard, with or without enough memory
  hears : (b : Bool) (line memory : List ℕ) (events gaps : ℕ) (o : Outcome) (n : Life) → Hears b m line memory o n →
      After v w time es gs (hear line memory events gaps) o.result n
  hears true line memory events gaps o n h = so (hear line memory events gaps) o n m _ _ h.0 h.1 s
  hears false line memory events gaps o n h =
      so (hear line memory events gaps) o n (life_after m h.0) _ _ h.2 h.3 (answers line memory events gaps h.0 h.1)

  -- one call
  steps : (call : Call) (o : Outcome) (n : Life) → Steps m call o n → After v w time es gs call o.result n
  steps (hear line memory events gaps) o n h = hears (no_room m memory events gaps) line memory events gaps o n h
  steps (advance ticks) o n h = so (advance ticks) o n _ _ _ h.0 h.1 (advanced ticks (advance_result m ticks))
  steps (measure readings) o n h = so (measure readings) o n _ _ _ h.0 h.1 (metered readings (measure_result readings))
  steps (note_event report events gaps) o n h =
      so (note_event report events gaps) o n _ _ _ h.0 h.1 (event_noted-is report events gaps (event_result m report events gaps) refl)
  steps (note_gap gap events gaps) o n h =
      so (note_gap gap events gaps) o n _ _ _ h.0 h.1 (gap_noted-is gap events gaps (gap_result m events gaps) refl)

-- after a whole run the clock and the logs are what its history tells
pub stood : (cells : ℕ → ℕ) (v w : ℕ) (es : List Event) (gs : List PowerGap) (history : List Turn) (l : Life) →
    Ran (fresh cells v w es gs) history l → Stands v w (clock_after history) (events_since history) (gaps_since history) l
stood cells v w es gs [] l e = subst (Stands v w start [] []) (sym e) (starts cells v w es gs)
stood cells v w es gs (t ∷ earlier) l (m, ran, h) =
    steps v w (clock_after earlier) (events_since earlier) (gaps_since earlier) m (stood cells v w es gs earlier m ran) t.call t.came l h

-- a request under a converter's own address is for it
for_own : (l : Life) → (address_of l ≡ 0x00FF → ⊥) → destination_of l.cells (address_of l) ≡ Own
for_own l other =
    let first = ne_eqb (address_of l) 0x00FF other in
    let second = eq-eqb (address_of l) (address_of l) refl in
    cc

-- what is answered to a request for records, by whether its log is known and its index is past the last
abbrev pub indexed : Bool → Bool → Answer Unit
indexed known past = cond (not known) (refused 8 Alone) (cond past (refused 9 Alone) (granted tt))

-- a request for records is judged so: only 8 and 9 refuse it
pub row_is : (l : Life) (ps : List ℕ) → (address_of l ≡ 0x00FF → ⊥) →
    judged l (asks_records l ps)
    ≡ ruled (log_records (parameter ps 1) (word ps 2) (word ps 4)) (indexed (is_log (parameter ps 1)) (leb (held_by l (parameter ps 1)) (word ps 2)))
row_is l ps other = ap (λ d. judged_for l d 0x1F ps) (for_own l other)

-- the number of a refusal, and 0 where there is none
abbrev number_of : {T : Type 0} → Answer T → ℕ
number_of (granted x) = 0
number_of (refused n company) = n

-- a refusal other than 1 and 2 uses the whole frame
later_number : (n line : ℕ) → 2 < n → used n line 18 ≡ 18
later_number n line h =
    let one = ne_eqb n 1 (λ e. omega arith) in
    let two = ne_eqb n 2 (λ e. omega arith) in
    cc

-- a refused request for records uses the whole frame
whole_used : (a : Asked) (known past : Bool) (n line : ℕ) (company : Company) → ruled a (indexed known past) ≡ refused n company → used n line 18 ≡ 18
whole_used a false past n line company e = later_number n line (omega (arith, ap number_of e))
whole_used a true true n line company e = later_number n line (omega (arith, ap number_of e))
whole_used a true false n line company e = never (sym e)

-- a request alone in a line
module _ (address command : ℕ) (ps : List ℕ) (fits : address < 65536) (nine : length ps ≡ 9) where
  -- it stands at the start
  alone_there : Requests (window (request address command ps) 0) address command ps
  alone_there =
      let long = length-request address command ps nine in
      record { fits = fits; nine = nine; is = take_all 18 (request address command ps) (omega arith) }

  -- no request is found behind the start
  alone_place : (f : Found) → Finds (request address command ps) (Some f) → f.place ≡ 0
  alone_place f finds =
      let long = length-request address command ps nine in
      ⊎_elim
      (λ at. at)
      (λ no. absurd (past_end (request address command ps) f.place (omega arith) (f.address, f.command, f.parameters, finds.0)))
      (cases_eq f.place 0)

  -- it is the one found
  alone_found : (found : Option Found) → Finds (request address command ps) found →
      found ≡ Some (record { place = 0; address = address; command = command; parameters = ps })
  alone_found None finds = absurd (finds 0 (address, command, ps, alone_there))
  alone_found (Some f) finds =
      let at = alone_place f finds in
      let here = subst (λ (k : ℕ). Requests (window (request address command ps) k) f.address f.command f.parameters) at finds.0 in
      let same = (reads_as _ address command ps alone_there).alone f.address f.command f.parameters here in
      let a = same.0 in
      let c = same.1 in
      let p = same.2 in
      λ i. Some (record { place = at i; address = a i; command = c i; parameters = p i })

-- what is shown of a decision on it
shows : (l : Life) (ps memory : List ℕ) (line : ℕ) (o : Outcome) (j : Answer Asked) → destination l (asks_records l ps) ≡ Own →
    ((n : ℕ) (company : Company) → j ≡ refused n company → used n line 18 ≡ 18) →
    o.result ≡ of_hearing (result_by l line (asks_records l ps) j) → o.reply ≡ reply_by l (asks_records l ps) j memory →
    Shows l memory (with_data l j) o
shows l ps memory line o (granted a) own whole e_result e_reply = (
  e_result ∙ ap (λ d. granted (heard (record { used = 18; reply = reply_length d (data_of l a) }))) own,
  e_reply ∙ ap (λ d. replied d (address_of l) (data_of l a) memory) own,
)
shows l ps memory line o (refused n company) own whole e_result e_reply =
    (e_result ∙ ap (λ (k : ℕ). refused n (Used k)) (whole n company refl), e_reply)

-- alone in a line, a request for records is heard so
pub heard_so : (l : Life) → HeardSo l
heard_so l ps memory events gaps o m nine fits other room h =
    let line : List ℕ = request (address_of l) 0x1F ps in
    let f : Found = asks_records l ps in
    let hears = subst (λ b. Hears b l line memory o m) room h in
    let found = alone_found (address_of l) 0x1F ps fits nine.nine hears.0 hears.1 in
    let row = row_is l ps other in
    shows l ps memory (length line) o (judged l f) (for_own l other)
    (λ n company e. whole_used (log_records (parameter ps 1) (word ps 2) (word ps 4)) (is_log (parameter ps 1)) (leb (held_by l (parameter ps 1)) (word ps 2)) n (length line) company (sym row ∙ e))
    (ap (λ x. x.result) hears.2 ∙ ap (λ x. of_hearing (result_to l (length line) x)) found)
    (ap (λ x. x.reply) hears.2 ∙ ap (λ x. reply_to l x memory) found)
