-- The frames of a window, each heard alone or first in its line: what stands after those granted, and that the next is refused neither
-- with 6 nor with 7.
use Rattle.std.proofs.Common.{◌≡◌, ℕ, Bool, true, false, cond, not, List, [], ◌∷◌, ◌++◌, length, get_or, take, drop, Some, None, Option, sym, refl, ap, ◌∙◌, subst, ap₂, arith, length-drop, length-take}
use Rattle.access.specs.Decision.{afterwards, index_past, own, right, stepped, kind_asked, unpermitted, unprepared, verdict}
use Rattle.access.specs.declared.Access.{Access}
use Rattle.access.specs.declared.Destination.{Destination}
use Rattle.access.specs.declared.Destination.TheVariants.{Own, Broadcast, Foreign}
use Rattle.converter.specs.Calls.{Call, Hears, Outcome, Steps, hear, no_room, of_hearing}
use Rattle.converter.specs.Hearing.{Finds, Found, carried, destination, in_row, judged, judged_for, life_after, result_by, result_to, ruled, standing, standing_for}
use Rattle.device.specs.Life.{Life}
use Rattle.device.specs.Rows.{held_for}
use Rattle.refusal.specs.Told.{Answer, granted, refused}
use Rattle.refusal.specs.declared.Company.TheVariants.{Alone}
use Rattle.request.specs.Asked.{Asked, asked, command_of}
use Rattle.request.specs.Rows.{checked, needs}
use Rattle.request_frame.proofs.Frame.{of_request, reading}
use Rattle.request_frame.specs.Requests.{request, window}
use Rattle.runs.proofs.Asked.{granted_asked, is_grant}
use Rattle.runs.specs.History.{Ran, Turn}
use Rattle.runs.specs.Records.{address_of}
use Rattle.runs.proofs.Single.{finds_unique}
use Rattle.runs.specs.Windows.{HeardBy, HearsAlone, HearsFirst, Windows, WindowsBy, WindowsInLines, is_granted}
use Rattle.std.proofs.lemmas.List.{take_all}
use Rattle.std.proofs.lemmas.Option.{same_Some}
use Rattle.std.proofs.lemmas.Bool.{false≢true}
use Rattle.window.proofs.Turns.{served}
use Rattle.window.specs.Served.{Turn as WindowTurn, after_all}

-- what is found in a line that is one request has its command and its parameters
fields_found : (address command : ℕ) (ps : List ℕ) → length ps ≡ 9 → (f : Found) → Finds (request address command ps) (Some f) →
    (f.command ≡ command) × (f.parameters ≡ ps)
fields_found address command ps nine f finds =
    let line : List ℕ = request address command ps in
    let sent = of_request address command ps nine in
    let r = reading (window line f.place) f.address f.command f.parameters finds.0 in
    let long : length line ≡ 18 = sent.long in
    let start : f.place ≡ 0 = omega (arith, long, r.long, length-take 18 (drop f.place line), length-drop f.place line) in
    let whole : window line f.place ≡ line = ap (window line) start ∙ take_all 18 line (omega arith) in (
      r.command_is ∙ (ap (λ (bytes : List ℕ). get_or bytes 6 0) whole ∙ sym sent.command_is),
      r.parameters_are ∙ (ap (λ (bytes : List ℕ). take 9 (drop 7 bytes)) whole ∙ sym sent.parameters_are),
    )

-- what is found in such a line asks what the request asks
asked_found : (address command : ℕ) (ps : List ℕ) (a : Asked) → length ps ≡ 9 → asked command ps ≡ Some a → (f : Found) →
    Finds (request address command ps) (Some f) → asked f.command f.parameters ≡ Some a
asked_found address command ps a nine asks f finds =
    let same = fields_found address command ps nine f finds in ap₂ asked same.0 same.1 ∙ asks

abbrev number_of : {T : Type 0} → Answer T → ℕ
number_of (granted x) = 0
number_of (refused n company) = n

-- a grant grants something
grants : {T : Type 0} (answer : Answer T) → is_grant answer ≡ true → (x : T) × (answer ≡ granted x)
grants (granted x) e = (x, refl)
grants (refused n company) e = absurd (false≢true e)

-- a granted request moves what stands as its command does, since none for another is granted
stood_for : (l : Life) (d : Destination) (command : ℕ) (ps : List ℕ) (a : Asked) → judged_for l d command ps ≡ granted a →
    standing_for d (judged_for l d command ps) l.access ≡ stepped l.access (command_of a) (kind_asked a)
stood_for l Foreign command ps a e = let z : ◌≡◌ {A = Bool} false true = ap is_grant e in absurd (false≢true z)
stood_for l Broadcast command ps a e = ap (λ (decision : Answer Asked). standing decision l.access) e
stood_for l Own command ps a e = ap (λ (decision : Answer Asked). standing decision l.access) e

-- the same for the request found, by what it asks
stood : (l : Life) (f : Found) (a : Asked) → asked f.command f.parameters ≡ Some a → is_grant (judged l f) ≡ true →
    (life_after l (Some f)).access ≡ stepped l.access (command_of a) (kind_asked a)
stood l f a asks g =
    let (b, is) = grants (judged l f) g in
    let asks' : asked f.command f.parameters ≡ Some b = granted_asked l f b is in
    let same : b ≡ a = cc in
    stood_for l (destination l f) f.command f.parameters b is ∙ ap (λ (x : Asked). stepped l.access (command_of x) (kind_asked x)) same

-- a call of hear grants what was decided to grant
decided : (l : Life) (line : ℕ) (f : Found) (decision : Answer Asked) → is_granted (of_hearing (result_by l line f decision)) ≡ true →
    is_grant decision ≡ true
decided l line f (granted a) e = refl
decided l line f (refused n company) e = absurd (false≢true e)

-- after a call that granted the request found what stands is moved as its command does
stood_after : (l : Life) (line : ℕ) (found : Option Found) (a : Asked) →
    ((f : Found) → found ≡ Some f → asked f.command f.parameters ≡ Some a) →
    is_granted (of_hearing (result_to l line found)) ≡ true → (life_after l found).access ≡ stepped l.access (command_of a) (kind_asked a)
stood_after l line None a asks g = absurd (false≢true g)
stood_after l line (Some f) a asks g = stood l f a (asks f refl) (decided l line f (judged l f) g)

-- what is found in a line of one request, if anything, asks what the request asks
asked_if : (address command : ℕ) (ps : List ℕ) (a : Asked) → length ps ≡ 9 → asked command ps ≡ Some a → (found : Option Found) →
    Finds (request address command ps) found → (f : Found) → found ≡ Some f → asked f.command f.parameters ≡ Some a
asked_if address command ps a nine asks found finds f is =
    asked_found address command ps a nine asks f (subst (Finds (request address command ps)) is finds)

-- whatever is found in a line asks that
abbrev AsksIn : List ℕ → Asked → Type 0
AsksIn line a = (found : Option Found) → Finds line found → (f : Found) → found ≡ Some f → asked f.command f.parameters ≡ Some a

-- the same whether memory is short or not: a call with short memory grants nothing
stood_hearing : (is_short : Bool) (l m : Life) (line memory : List ℕ) (a : Asked) (o : Outcome) → AsksIn line a →
    Hears is_short l line memory o m → is_granted o.result ≡ true → m.access ≡ stepped l.access (command_of a) (kind_asked a)
stood_hearing true l m line memory a o asks (came, is) g =
    let z : false ≡ true = sym (ap (λ (x : Outcome). is_granted x.result) came) ∙ g in absurd (false≢true z)
stood_hearing false l m line memory a o asks (found, finds, came, is) g =
    ap (λ (x : Life). x.access) is
    ∙ stood_after l (length line) found a (asks found finds) (sym (ap (λ (x : Outcome). is_granted x.result) came) ∙ g)

-- a call that hears a line, and in it what is asked
record Heard (call : Call) (a : Asked) : Type 0 where
  line : List ℕ
  memory : List ℕ
  events : ℕ
  gaps : ℕ
  asks : AsksIn line a
  is : call ≡ hear line memory events gaps

alone_heard : (address : ℕ) (call : Call) (a : Asked) → HearsAlone address call a → Heard call a
alone_heard address call a h = record {
  line = request address h.command h.parameters;
  memory = h.memory;
  events = h.events;
  gaps = h.gaps;
  asks = asked_if address h.command h.parameters a h.nine h.asks;
  is = h.is;
}

first_heard : (address : ℕ) (call : Call) (a : Asked) → HearsFirst address call a → Heard call a
first_heard address call a h = record {
  line = h.line;
  memory = h.memory;
  events = h.events;
  gaps = h.gaps;
  asks = λ found finds f is.
      let same : Some h.found ≡ Some f = finds_unique h.line (Some h.found) (Some f) h.finds (subst (Finds h.line) is finds) in
      subst (λ (x : Found). asked x.command x.parameters ≡ Some a) (same_Some h.found f same) h.asks;
  is = h.is;
}

-- a call is the hearing that it is said to be
heard_step : (l m : Life) (call : Call) (a : Asked) (o : Outcome) (h : Heard call a) → Steps l call o m →
    Hears (no_room l h.memory h.events h.gaps) l h.line h.memory o m
heard_step l m call a o h steps = subst (λ (c : Call). Steps l c o m) h.is steps

-- one granted frame of a window moves what stands as its command does
moved : (l m : Life) (call : Call) (a : Asked) (o : Outcome) → Heard call a → Steps l call o m → is_granted o.result ≡ true →
    m.access ≡ stepped l.access (command_of a) (kind_asked a)
moved l m call a o h steps g = stood_hearing _ l m h.line h.memory a o h.asks (heard_step l m call a o h steps) g

-- one request more at the end moves what stood after those before
after_last : (access : Access) (before : List Asked) (a : Asked) →
    after_all access (before ++ a ∷ []) ≡ stepped (after_all access before) (command_of a) (kind_asked a)
after_last access [] a = refl
after_last access (b ∷ later) a = after_last (afterwards {T = Unit {0}} (granted tt) access b) later a

-- after granted frames one right behind another there stands what they left, one after the other
stands : (H : ℕ → Call → Asked → Type 0) → ((address : ℕ) (call : Call) (a : Asked) → H address call a → Heard call a) →
    (l m : Life) (address : ℕ) (history : List Turn) (asks : List Asked) → Ran l history m → HeardBy H address history asks →
    m.access ≡ after_all l.access asks
stands H hears l m address [] asks ran heard = ap (λ (x : Life). x.access) ran ∙ sym (ap (after_all l.access) heard)
stands H hears l m address (t ∷ earlier) asks (k, ran, steps) (before, a, heard, one, g, all) =
    let stood = stands H hears l k address earlier before ran heard in
    moved k m t.call a t.came (hears address t.call a one) steps g
    ∙ (ap (λ (x : Access). stepped x (command_of a) (kind_asked a)) stood
    ∙ (sym (after_last l.access before a) ∙ sym (ap (after_all l.access) all)))

-- an answer that is neither of two refusals, and a number that is neither of their numbers
abbrev Neither : Answer Unit → Type 0
Neither v = (v ≡ refused 6 Alone → ⊥) × (v ≡ refused 7 Alone → ⊥)

abbrev Other : ℕ → Type 0
Other n = (n ≡ 6 → ⊥) × (n ≡ 7 → ⊥)

-- the verdict by what it looks at
abbrev ruling : Bool → Bool → Bool → Bool → Bool → Answer Unit
ruling unready barred ok past is_right =
    cond unready (refused 6 Alone)
    (cond barred (refused 7 Alone)
    (cond (not ok) (refused 8 Alone) (cond past (refused 9 Alone) (cond is_right (granted tt) (refused 10 Alone)))))

-- a verdict that is neither refusal has neither number
numbered : (unready barred ok past is_right : Bool) → Neither (ruling unready barred ok past is_right) →
    Other (number_of (ruling unready barred ok past is_right))
numbered true barred ok past is_right neither = ((λ e. neither.0 refl), (λ e. omega (arith, e)))
numbered false true ok past is_right neither = ((λ e. omega (arith, e)), (λ e. neither.1 refl))
numbered false false false past is_right neither = ((λ e. omega (arith, e)), (λ e. omega (arith, e)))
numbered false false true true is_right neither = ((λ e. omega (arith, e)), (λ e. omega (arith, e)))
numbered false false true false true neither = ((λ e. omega (arith, e)), (λ e. omega (arith, e)))
numbered false false true false false neither = ((λ e. omega (arith, e)), (λ e. omega (arith, e)))

-- the verdict on a request keeps its number when the request is put to it
ruled_number : (a : Asked) (v : Answer Unit) → number_of (ruled a v) ≡ number_of v
ruled_number a (granted x) = refl
ruled_number a (refused n company) = refl

-- what a converter says by the row of the next frame has neither number
row_number : (l : Life) (access : Access) (before : List Asked) (next : Asked) → l.access ≡ after_all access before → WindowTurn before next →
    Other (number_of (in_row l (Some next)))
row_number l access before next is turn =
    let no = served.turns access before next turn (own l.cells) (held_for l next) (right l.cells next) in
    let V : Access → Answer Unit = λ x. verdict x (own l.cells) (held_for l next) (right l.cells next) next in
    let here : Neither (V l.access) = subst (λ (x : Access). Neither (V x)) (sym is) no in
    let other =
    numbered (unprepared l.access (needs next)) (unpermitted l.access (needs next)) (checked (own l.cells) next)
    (index_past (held_for l next) next) (right l.cells next) here in
    subst Other (sym (ruled_number next (V l.access))) other

-- refused for broadcast, it has neither number
carried_number : (b : Bool) (decision : Answer Asked) → Other (number_of decision) → Other (number_of (cond b decision (refused 4 Alone)))
carried_number true decision other = other
carried_number false decision other = ((λ e. omega (arith, e)), (λ e. omega (arith, e)))

-- whoever it is for, the decision has neither number
judged_number : (l : Life) (d : Destination) (command : ℕ) (ps : List ℕ) → Other (number_of (in_row l (asked command ps))) →
    Other (number_of (judged_for l d command ps))
judged_number l Foreign command ps other = ((λ e. omega (arith, e)), (λ e. omega (arith, e)))
judged_number l Broadcast command ps other = carried_number (carried command) (in_row l (asked command ps)) other
judged_number l Own command ps other = other

-- a call of hear refuses with the number of the decision
result_number : (l : Life) (line : ℕ) (f : Found) (decision : Answer Asked) →
    number_of decision ≡ number_of (of_hearing (result_by l line f decision))
result_number l line f (granted a) = refl
result_number l line f (refused n company) = refl

-- what is answered to the request found has neither number, nor has the 2 where none is found
found_number : (l : Life) (line : ℕ) (found : Option Found) (next : Asked) →
    ((f : Found) → found ≡ Some f → asked f.command f.parameters ≡ Some next) → Other (number_of (in_row l (Some next))) →
    Other (number_of (of_hearing (result_to l line found)))
found_number l line None next asks other = ((λ e. omega (arith, e)), (λ e. omega (arith, e)))
found_number l line (Some f) next asks other =
    let row = subst (λ (x : Option Asked). Other (number_of (in_row l x))) (sym (asks f refl)) other in
    subst Other (result_number l line f (judged l f)) (judged_number l (destination l f) f.command f.parameters row)

-- the same whether memory is short or not: short memory is refused with 1
hearing_number : (is_short : Bool) (l m : Life) (line memory : List ℕ) (next : Asked) (o : Outcome) → AsksIn line next →
    Other (number_of (in_row l (Some next))) → Hears is_short l line memory o m → Other (number_of o.result)
hearing_number true l m line memory next o asks other (came, is) =
    subst (λ (x : Outcome). Other (number_of x.result)) (sym came) ((λ e. omega (arith, e)), (λ e. omega (arith, e)))
hearing_number false l m line memory next o asks other (found, finds, came, is) =
    subst (λ (x : Outcome). Other (number_of x.result)) (sym came) (found_number l (length line) found next (asks found finds) other)

-- the next frame of a window is refused neither with 6 nor with 7, in whichever way all are heard
served_by : (H : ℕ → Call → Asked → Type 0) → ((address : ℕ) (call : Call) (a : Asked) → H address call a → Heard call a) → WindowsBy H
served_by H hears l m n history asks next call o ran heard turn one steps company =
    let is = stands H hears l m (address_of l) history asks ran heard in
    let row = row_number m l.access asks next is turn in
    let h = hears (address_of l) call next one in
    let other = hearing_number _ m n h.line h.memory next o h.asks row (heard_step m n call next o h steps) in
    ((λ e. other.0 (ap number_of e)), (λ e. other.1 (ap number_of e)))

pub windows : Windows
windows = served_by HearsAlone alone_heard

pub windows_in_lines : WindowsInLines
windows_in_lines = served_by HearsFirst first_heard
