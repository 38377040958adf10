-- What the answers of a run tell of the stored passwords: whether each password tried was right, and no more.
use Rattle.std.proofs.Common.{◌≡◌, ℕ, Bool, true, false, cond, ◌&&◌, ◌||◌, List, [], ◌∷◌, length, Some, None, Option, sym, refl, ap, ◌∙◌, subst, ap₂, subst₂, arith}
use Rattle.calendar.specs.Times.{later, passes}
use Rattle.converter.specs.Calls.{Call, Grant, Hears, Outcome, Steps, advance, advance_result, event_noted, event_now, event_result, gap_noted, gap_result, hear, measure, measure_result, measured, no_room, note_event, note_gap, note_result, of_done, of_hearing, outcome, timed}
use Rattle.converter.specs.Hearing.{Finds, Found, judged, life_after, reply_by, reply_to, result_by, result_to}
use Rattle.device.specs.Life.{Life, entered}
use Rattle.device.specs.Rows.{changed}
use Rattle.records.specs.Reasons.{lawful}
use Rattle.records.specs.Records.{event_at}
use Rattle.records.specs.declared.PowerGap.{PowerGap}
use Rattle.records.specs.declared.Report.{Report}
use Rattle.refusal.specs.Told.{Answer, granted, refused}
use Rattle.refusal.specs.declared.Company.TheVariants.{Alone}
use Rattle.request.specs.Asked.{asked}
use Rattle.runs.proofs.Asked.{frame_asked, is_grant}
use Rattle.runs.proofs.Given.{cells_are}
use Rattle.runs.proofs.Likened.{judged_alike, judged_reads, life_alike, outcome_alike, reply_alike, result_alike, room_alike, short_alike}
use Rattle.runs.proofs.Single.{finds_unique}
use Rattle.runs.proofs.Verdicts.{judged_shows, judged_used, reaches, result_grants, result_reaches, right_alike}
use Rattle.runs.specs.History.{Ran, Turn, frame_asks, frame_before, last_given, request_of, used_by}
use Rattle.runs.specs.Passwords.{Alike, Tells, Untold, calls, names, reached, results, right_by, right_in, tries_in}
use Rattle.std.proofs.lemmas.Bool.{and_from, and_parts, false≢true, or_left}

-- a call and what came of it
abbrev turn : Call → Outcome → Turn
turn c o = record { call = c; came = o }

-- the answer on a request found speaks of that request
found_asked : (l : Life) (line reply : List ℕ) (events gaps : ℕ) (f : Found) → Finds line (Some f) → (r : Answer Grant) →
    r ≡ of_hearing (result_to l (length line) (Some f)) → request_of (hear line reply events gaps) r ≡ asked f.command f.parameters
found_asked l line reply events gaps f finds r e =
    ap (λ x. frame_asks (frame_before line (used_by x))) e
    ∙ ap (λ (n : ℕ). frame_asks (frame_before line n)) (judged_used l (length line) f)
    ∙ frame_asked line f finds

-- a password tried in a line is right just where the answer is a grant
found_shows : (l : Life) (line reply : List ℕ) (events gaps : ℕ) (found : Option Found) → Finds line found → (r : Answer Grant) →
    r ≡ of_hearing (result_to l (length line) found) → reached r ≡ true →
    right_by l.cells (request_of (hear line reply events gaps) r) ≡ is_grant r
found_shows l line reply events gaps None finds r e t = absurd (false≢true (sym (ap reached e) ∙ t))
found_shows l line reply events gaps (Some f) finds r e t =
    let reach : reaches (judged l f) ≡ true = sym (result_reaches l (length line) f (judged l f)) ∙ sym (ap reached e) ∙ t in
    ap (right_by l.cells) (found_asked l line reply events gaps f finds r e)
    ∙ judged_shows l f reach ∙ sym (result_grants l (length line) f (judged l f)) ∙ sym (ap is_grant e)

-- the same of a line heard, with too little memory and with enough
heard_shows : (l n : Life) (line reply : List ℕ) (events gaps : ℕ) (o : Outcome) (b : Bool) → Hears b l line reply o n → reached o.result ≡ true →
    right_by l.cells (request_of (hear line reply events gaps) o.result) ≡ is_grant o.result
heard_shows l n line reply events gaps o true (e, moves) t = absurd (false≢true (sym (ap (λ x. reached x.result) e) ∙ t))
heard_shows l n line reply events gaps o false (found, finds, e, moves) t =
    found_shows l line reply events gaps found finds o.result (ap (λ x. x.result) e) t

-- a password tried in a turn is right just where the turn is granted
step_shows : (l n : Life) (c : Call) (o : Outcome) → Steps l c o n → tries_in (turn c o) ≡ true → right_in l.cells (turn c o) ≡ is_grant o.result
step_shows l n (hear line reply events gaps) o steps t =
    heard_shows l n line reply events gaps o (no_room l reply events gaps) steps (and_parts _ _ t).1
step_shows l n (advance ticks) o steps t = absurd (false≢true t)
step_shows l n (measure readings) o steps t = absurd (false≢true t)
step_shows l n (note_event report events gaps) o steps t = absurd (false≢true t)
step_shows l n (note_gap gap events gaps) o steps t = absurd (false≢true t)

-- what is tried in one of two turns alike is tried in both
both_try : (x y : Bool) → x ≡ y → (x || y) ≡ true → (x ≡ true) × (y ≡ true)
both_try true y e t = (refl, sym e)
both_try false y e t = (e ∙ t, t)

-- the cells at a turn are what the last granted writes before it gave
cells_at : (l n : Life) (history : List Turn) → Ran l history n → last_given l.cells history ≡ n.cells
cells_at l n history ran = λ i k. sym (cells_are l n history ran k) i

-- two turns of one call and one result: a password tried is right for both or wrong for both
turns_tell : (l m n o : Life) (t u : Turn) → Steps l t.call t.came n → Steps m u.call u.came o → t.call ≡ u.call →
    t.came.result ≡ u.came.result → (tries_in t || tries_in u) ≡ true → right_in l.cells t ≡ right_in m.cells u
turns_tell l m n o t u steps others e_call e_result tried =
    let alike : tries_in t ≡ tries_in u = ap₂ (λ c r. names (request_of c r) && reached r) e_call e_result in
    let both = both_try (tries_in t) (tries_in u) alike tried in
    step_shows l n t.call t.came steps both.0 ∙ ap is_grant e_result ∙ sym (step_shows m o u.call u.came others both.1)

-- equal results tell that no password right for one alone was tried
tells : (l m n o : Life) (history other : List Turn) → Ran l history n → Ran m other o → calls history ≡ calls other →
    results history ≡ results other → Untold l.cells m.cells history other
tells l m n o [] other ran ran' e_calls e_results = tt
tells l m n o (t ∷ earlier) [] ran ran' e_calls e_results = tt
tells l m n o (t ∷ earlier) (u ∷ others) (l', ran, steps) (m', ran', steps') e_calls e_results =
    let e_call : t.call ≡ u.call = cc in
    let e_result : t.came.result ≡ u.came.result = cc in
    let before : calls earlier ≡ calls others = cc in
    let came : results earlier ≡ results others = cc in (
      tells l m l' m' earlier others ran ran' before came,
      (λ tried.
          ap (λ cells. right_in cells t) (cells_at l l' earlier ran)
          ∙ turns_tell l' m' n o t u steps steps' e_call e_result tried
          ∙ sym (ap (λ cells. right_in cells u) (cells_at m m' others ran'))),
    )

-- what came of two calls, and what both converters then are
abbrev Together : Outcome → Outcome → Life → Life → Type 0
Together x y n o = (x ≡ y) × Alike n o

-- equal results and replies of converters that then are alike
joined : (n o n' o' : Life) (x y : Outcome) {r s : Answer Grant} {p q : List ℕ} → n ≡ n' → o ≡ o' → Alike n' o' →
    x ≡ outcome n r p → y ≡ outcome o s q → r ≡ s → p ≡ q → Together x y n o
joined n o n' o' x y e_n e_o like e_x e_y e_r e_p =
    let a : Alike n o = subst₂ Alike (sym e_n) (sym e_o) like in
    (e_x ∙ outcome_alike n o a e_r e_p ∙ sym e_y, a)

-- the password tried in two turns is right for both or wrong for both, if one is tried
abbrev Same : Life → Life → Turn → Turn → Type 0
Same l m t u = (tries_in t || tries_in u) ≡ true → right_in l.cells t ≡ right_in m.cells u

module _ (l m n o : Life) (like : Alike l m) (x y : Outcome) where
  -- one request found by both
  found_together : (line reply : List ℕ) (events gaps : ℕ) (found : Option Found) → Finds line found →
      x ≡ outcome n (of_hearing (result_to l (length line) found)) (reply_to l found reply) → n ≡ life_after l found →
      y ≡ outcome o (of_hearing (result_to m (length line) found)) (reply_to m found reply) → o ≡ life_after m found →
      Same l m (turn (hear line reply events gaps) x) (turn (hear line reply events gaps) y) → Together x y n o
  found_together line reply events gaps None finds e_x e_n e_y e_o same = joined n o l m x y e_n e_o like e_x e_y refl refl
  found_together line reply events gaps (Some f) finds e_x e_n e_y e_o same =
      let in_x = found_asked l line reply events gaps f finds x.result (ap (λ z. z.result) e_x) in
      let in_y = found_asked m line reply events gaps f finds y.result (ap (λ z. z.result) e_y) in
      let one : judged l f ≡ judged m f =
      judged_alike l m like f
      (λ reach. right_alike l.cells m.cells (asked f.command f.parameters)
      (λ named.
      let tried : tries_in (turn (hear line reply events gaps) x) ≡ true =
      and_from _ _ (ap names in_x ∙ named) (ap (λ z. reached z.result) e_x ∙ result_reaches l (length line) f (judged l f) ∙ reach) in
      sym (ap (right_by l.cells) in_x) ∙ same (or_left _ _ tried) ∙ ap (right_by m.cells) in_y)) in
      joined n o (life_after l (Some f)) (life_after m (Some f)) x y e_n e_o (life_alike l m like f (judged l f) (judged m f) one) e_x e_y
      (ap of_hearing (result_alike l m like (length line) f (judged l f) (judged_reads l f) ∙ ap (result_by m (length line) f) one))
      (reply_alike l m like f (judged l f) reply (judged_reads l f) ∙ ap (λ j. reply_by m f j reply) one)

  -- one line heard by both
  heard_together : (line reply : List ℕ) (events gaps : ℕ) (b : Bool) → Hears b l line reply x n → Hears b m line reply y o →
      Same l m (turn (hear line reply events gaps) x) (turn (hear line reply events gaps) y) → Together x y n o
  heard_together line reply events gaps true (e_x, e_n) (e_y, e_o) same = joined n o l m x y e_n e_o like e_x e_y refl refl
  heard_together line reply events gaps false (found, finds, e_x, e_n) (also, finds', e_y, e_o) same =
      let one : also ≡ found = finds_unique line also found finds' finds in
      found_together line reply events gaps found finds e_x e_n
      (e_y ∙ ap (λ z. outcome o (of_hearing (result_to m (length line) z)) (reply_to m z reply)) one) (e_o ∙ ap (life_after m) one) same

-- a call that changes both alike or neither
changed_alike : (v : Answer Unit) (l m l' m' : Life) → Alike l m → Alike l' m' → Alike (changed v l l') (changed v m m')
changed_alike (granted z) l m l' m' like like' = like'
changed_alike (refused k company) l m l' m' like like' = like

-- the same comes of it
done_together : (l m l' m' n o : Life) (x y : Outcome) (v w : Answer Unit) → Alike l m → Alike l' m' → v ≡ w →
    x ≡ outcome n (of_done v) [] → n ≡ changed v l l' → y ≡ outcome o (of_done w) [] → o ≡ changed w m m' → Together x y n o
done_together l m l' m' n o x y v w like like' e e_x e_n e_y e_o =
    joined n o (changed v l l') (changed v m m') x y e_n (e_o ∙ ap (λ z. changed z m m') (sym e)) (changed_alike v l m l' m' like like') e_x e_y
    (ap of_done e) refl

module _ (l m : Life) (like : Alike l m) where
  -- a clock that went on
  timed_alike : (ticks : ℕ) → Alike (timed l ticks) (timed m ticks)
  timed_alike ticks =
      record {
        cells = like.cells;
        access = like.access;
        time = ap (λ t. later t ticks) like.time;
        readings = like.readings;
        events = like.events;
        gaps = like.gaps;
      }

  -- other readings
  measured_alike : (readings : List ℕ) → Alike (measured l readings) (measured m readings)
  measured_alike readings =
      record { cells = like.cells; access = like.access; time = like.time; readings = refl; events = like.events; gaps = like.gaps }

  -- one event more, at the clock of that moment
  event_alike : (report : Report) → Alike (event_noted l (event_now l report)) (event_noted m (event_now m report))
  event_alike report =
      record {
        cells = like.cells;
        access = like.access;
        time = like.time;
        readings = like.readings;
        events = ap₂ (λ t r. entered r (event_at report t.seconds t.ticks)) like.time like.events;
        gaps = like.gaps;
      }

  -- one power gap more
  gap_alike : (gap : PowerGap) → Alike (gap_noted l gap) (gap_noted m gap)
  gap_alike gap =
      record {
        cells = like.cells;
        access = like.access;
        time = like.time;
        readings = like.readings;
        events = like.events;
        gaps = ap (λ r. entered r gap) like.gaps;
      }

-- one step: the same comes of one call, and both stay alike, unless a password right for one alone is tried
step_together : (l m n o : Life) → Alike l m → (c : Call) (x y : Outcome) → Steps l c x n → Steps m c y o →
    Same l m (turn c x) (turn c y) → Together x y n o
step_together l m n o like (hear line reply events gaps) x y steps steps' same =
    heard_together l m n o like x y line reply events gaps (no_room l reply events gaps) steps
    (subst (λ b. Hears b m line reply y o) (sym (room_alike l m like reply events gaps)) steps') same
step_together l m n o like (advance ticks) x y (e_x, e_n) (e_y, e_o) same =
    let e : advance_result l ticks ≡ advance_result m ticks = ap (λ t. cond (passes t ticks) (refused 11 Alone) (granted tt)) like.time in
    done_together l m (timed l ticks) (timed m ticks) n o x y (advance_result l ticks) (advance_result m ticks) like (timed_alike l m like ticks) e
    e_x e_n e_y e_o
step_together l m n o like (measure readings) x y (e_x, e_n) (e_y, e_o) same =
    done_together l m (measured l readings) (measured m readings) n o x y (measure_result readings) (measure_result readings) like
    (measured_alike l m like readings) refl e_x e_n e_y e_o
step_together l m n o like (note_event report events gaps) x y (e_x, e_n) (e_y, e_o) same =
    let e : event_result l report events gaps ≡ event_result m report events gaps =
    λ i. note_result (short_alike l m like events gaps i) (lawful report.reason) (like.events i).volume in
    done_together l m (event_noted l (event_now l report)) (event_noted m (event_now m report)) n o x y (event_result l report events gaps)
    (event_result m report events gaps) like (event_alike l m like report) e e_x e_n e_y e_o
step_together l m n o like (note_gap gap events gaps) x y (e_x, e_n) (e_y, e_o) same =
    let e : gap_result l events gaps ≡ gap_result m events gaps =
    λ i. note_result (short_alike l m like events gaps i) true (like.gaps i).volume in
    done_together l m (gap_noted l gap) (gap_noted m gap) n o x y (gap_result l events gaps) (gap_result m events gaps) like
    (gap_alike l m like gap) e e_x e_n e_y e_o

-- two turns of equal calls are one turn
turns_together : (l m n o : Life) → Alike l m → (t u : Turn) → Steps l t.call t.came n → Steps m u.call u.came o →
    t.call ≡ u.call → Same l m t u → (t ≡ u) × Alike n o
turns_together l m n o like t u steps steps' e same =
    let there : Steps m t.call u.came o = subst (λ c. Steps m c u.came o) (sym e) steps' in
    let path : turn t.call u.came ≡ u = λ i. record { call = e i; came = u.came } in
    let step = step_together l m n o like t.call t.came u.came steps there (subst (λ z. Same l m t z) (sym path) same) in
    ((λ i. record { call = e i; came = step.0 i }), step.1)

-- histories of unequal length are not of the same calls
longer : {A : Type 0} (t : Turn) (earlier : List Turn) → calls [] ≡ calls (t ∷ earlier) → A
longer t earlier e = let z : ◌≡◌ {A = ℕ} 0 (length (calls (t ∷ earlier))) = ap length e in absurd (omega arith)

-- where no password right for one alone was tried, all came alike
together : (l m n o : Life) (history other : List Turn) → Ran l history n → Ran m other o → Alike l m → calls history ≡ calls other →
    Untold l.cells m.cells history other → (history ≡ other) × Alike n o
together l m n o [] [] ran ran' like e untold = (refl, subst₂ Alike (sym ran) (sym ran') like)
together l m n o [] (u ∷ others) ran ran' like e untold = longer u others e
together l m n o (t ∷ earlier) [] ran ran' like e untold = longer t earlier (sym e)
together l m n o (t ∷ earlier) (u ∷ others) (l', ran, steps) (m', ran', steps') like e (before, now) =
    let e_call : t.call ≡ u.call = cc in
    let e_calls : calls earlier ≡ calls others = cc in
    let past = together l m l' m' earlier others ran ran' like e_calls before in
    let same : Same l' m' t u =
    (λ tried.
    sym (ap (λ cells. right_in cells t) (cells_at l l' earlier ran)) ∙ now tried ∙ ap (λ cells. right_in cells u) (cells_at m m' others ran')) in
    let last = turns_together l' m' n o past.1 t u steps steps' e_call same in
    (ap₂ ◌∷◌ last.0 past.0, last.1)

-- beside each other, from any two lives that differ in stored passwords alone
abbrev pub Passwords : Type 0
Passwords =
    (l m n o : Life) (history other : List Turn) → Ran l history n → Ran m other o → Alike l m → calls history ≡ calls other →
    Tells l.cells m.cells history other

-- both directions of the theorem
pub passwords : Passwords
passwords l m n o history other ran ran' like e =
    record {
      told = λ same. tells l m n o history other ran ran' e same;
      untold = λ same. (together l m n o history other ran ran' like e same).0;
    }
