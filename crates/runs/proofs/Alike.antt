-- Converters answer requests for log records alike where their logs hold equal records, and only there.
use Rattle.std.proofs.Common.{◌≡◌, ℕ, zero, suc, ◌-◌, ◌/◌, ◌%◌, ◌<◌, ◌≤◌, Bool, true, false, cond, not, leb, ◌⊎◌, ◌↔◌, List, [], ◌∷◌, length, get_or, take, sym, refl, ap, ◌∙◌, subst, ap₂, inl, inr, arith, lit<, lit≤, length-drop}
use Rattle.converter.specs.Hearing.{ruled}
use Rattle.device.specs.Life.{Life, Ring, fresh, held_in, held_number}
use Rattle.device.specs.Rows.{data_of, held_by, is_events}
use Rattle.ring_log.proofs.Kept.{kept_number}
use Rattle.ring_log.specs.Reading.{sent_bytes, sent_count}
use Rattle.records.specs.Records.{event_bytes, gap_bytes}
use Rattle.records.specs.declared.Event.{Event}
use Rattle.records.specs.declared.PowerGap.{PowerGap}
use Rattle.refusal.specs.Told.{Answer, granted, refused}
use Rattle.refusal.specs.declared.Company.TheVariants.{Alone}
use Rattle.request.specs.Asked.{Asked, log_records, parameter, word}
use Rattle.request.specs.Rows.{is_log}
use Rattle.runs.proofs.Asked.{never}
use Rattle.runs.proofs.Noted.{indexed, row_is, stood}
use Rattle.runs.specs.History.{Ran, Turn, events_since, gaps_since}
use Rattle.runs.specs.Records.{AnswerAlike, HoldAlike, Logged, LogsOf, NineBytes, address_of, answer_from, records_answer, with_data}
use Rattle.std.proofs.lemmas.List.{append-nil, drop_more, same_lists}
use Rattle.std.proofs.lemmas.Bool.{cases_order, cond-false, cond-true, le-leb, lt-leb}
use Rattle.std.specs.List.{flat_map}

-- a number is told by its two bytes
two_told : (a b : ℕ) → a % 256 ≡ b % 256 → a / 256 ≡ b / 256 → a ≡ b
two_told a b low high = omega arith

-- a number is told by its four bytes
four_told : (a b : ℕ) → a % 256 ≡ b % 256 → a / 256 % 256 ≡ b / 256 % 256 → a / 65536 % 256 ≡ b / 65536 % 256 → a / 16777216 ≡ b / 16777216 → a ≡ b
four_told a b first second third fourth = omega arith

-- an event is told by its bytes
event_told : (x y : Event) → event_bytes x ≡ event_bytes y → x ≡ y
event_told x y e =
    let reason : x.reason ≡ y.reason = ap (λ bs. get_or bs 0 0) e in
    let seconds : x.seconds ≡ y.seconds = four_told x.seconds y.seconds (ap (λ bs. get_or bs 1 0) e) (ap (λ bs. get_or bs 2 0) e) (ap (λ bs. get_or bs 3 0) e) (ap (λ bs. get_or bs 4 0) e) in
    let ticks : x.ticks ≡ y.ticks = ap (λ bs. get_or bs 5 0) e in
    let tu : x.tu ≡ y.tu = ap (λ bs. get_or bs 6 0) e in
    let tc : x.tc ≡ y.tc = ap (λ bs. get_or bs 7 0) e in
    let value : x.value ≡ y.value = two_told x.value y.value (ap (λ bs. get_or bs 8 0) e) (ap (λ bs. get_or bs 9 0) e) in
    let period : x.period ≡ y.period = two_told x.period y.period (ap (λ bs. get_or bs 10 0) e) (ap (λ bs. get_or bs 11 0) e) in
    λ i. record { reason = reason i; seconds = seconds i; ticks = ticks i; tu = tu i; tc = tc i; value = value i; period = period i }

-- a power gap is told by its bytes
gap_told : (x y : PowerGap) → gap_bytes x ≡ gap_bytes y → x ≡ y
gap_told x y e =
    let off : x.off ≡ y.off = four_told x.off y.off (ap (λ bs. get_or bs 0 0) e) (ap (λ bs. get_or bs 1 0) e) (ap (λ bs. get_or bs 2 0) e) (ap (λ bs. get_or bs 3 0) e) in
    let on : x.on ≡ y.on = four_told x.on y.on (ap (λ bs. get_or bs 4 0) e) (ap (λ bs. get_or bs 5 0) e) (ap (λ bs. get_or bs 6 0) e) (ap (λ bs. get_or bs 7 0) e) in
    λ i. record { off = off i; on = on i }

-- logs of one kind, asked for one record at a time
module _ {K : Type 0} (size : ℕ) (bytes : K → List ℕ) (told : (x y : K) → bytes x ≡ bytes y → x ≡ y) (whole : 1 ≤ 251 / size) where
  -- what a request for record i alone is answered
  abbrev one : List K → ℕ → Answer (List ℕ)
  one xs i = cond (leb (length xs) i) (refused 9 Alone) (granted (sent_bytes size bytes xs i 1))

  -- below the number held it is granted
  one_in : (xs : List K) (i : ℕ) → i < length xs → one xs i ≡ granted (sent_bytes size bytes xs i 1)
  one_in xs i h = cond-false _ _ _ (lt-leb (length xs) i h)

  -- else it is refused
  one_out : (xs : List K) (i : ℕ) → length xs ≤ i → one xs i ≡ refused 9 Alone
  one_out xs i h = cond-true _ _ _ (le-leb (length xs) i h)

  -- the record is sent by itself
  sent_one : (xs : List K) (i : ℕ) (d : K) → i < length xs → sent_bytes size bytes xs i 1 ≡ bytes (get_or xs i d)
  sent_one xs i d h =
      let count : sent_count size (length xs - i) 1 ≡ 1 = omega arith in
      ap₂ (λ (n : ℕ) (ys : List K). flat_map bytes (take n ys)) count (drop_more xs i d h) ∙ append-nil (bytes (get_or xs i d))

  -- a longer log grants what a shorter refuses
  longer : (xs ys : List K) → length xs < length ys → one xs (length xs) ≡ one ys (length xs) → ⊥
  longer xs ys h e = never (sym (one_out xs (length xs) (omega arith)) ∙ e ∙ one_in ys (length xs) h)

  -- equal answers tell of equal records
  inside : (xs ys : List K) (i : ℕ) (d : K) → i < length xs → i < length ys → one xs i ≡ one ys i → get_or xs i d ≡ get_or ys i d
  inside xs ys i d h k e =
      let p = one_in xs i h in
      let q = one_in ys i k in
      let same : sent_bytes size bytes xs i 1 ≡ sent_bytes size bytes ys i 1 = cc in
      told _ _ (sym (sent_one xs i d h) ∙ same ∙ sent_one ys i d k)

  -- so logs that answer alike are equal
  same_log : (xs ys : List K) → length xs < 65536 → length ys < 65536 → ((i : ℕ) → i < 65536 → one xs i ≡ one ys i) → xs ≡ ys
  same_log xs ys a b h = go (cases_order (length xs) (length ys))
    where
      go : (length xs ≡ length ys) ⊎ ((length xs < length ys) ⊎ (length ys < length xs)) → xs ≡ ys
      go (inl e) = same_lists xs ys e (λ i d s. inside xs ys i d s (omega arith) (h i (omega arith)))
      go (inr (inl s)) = absurd (longer xs ys s (h (length xs) a))
      go (inr (inr s)) = absurd (longer ys xs s (sym (h (length ys) b)))

-- the parameters that ask for record i of a log alone
abbrev asking : ℕ → ℕ → List ℕ
asking log i = log ∷ i % 256 ∷ i / 256 ∷ 1 ∷ 0 ∷ 0 ∷ 0 ∷ 0 ∷ 0 ∷ []

-- they are bytes
asking_small : (log i : ℕ) → log < 256 → i < 65536 → (j : ℕ) → get_or (asking log i) j 0 < 256
asking_small log i a b zero = a
asking_small log i a b (suc zero) = omega arith
asking_small log i a b (suc (suc zero)) = omega arith
asking_small log i a b (suc (suc (suc zero))) = lit< tt
asking_small log i a b (suc (suc (suc (suc zero)))) = lit< tt
asking_small log i a b (suc (suc (suc (suc (suc zero))))) = lit< tt
asking_small log i a b (suc (suc (suc (suc (suc (suc zero)))))) = lit< tt
asking_small log i a b (suc (suc (suc (suc (suc (suc (suc zero))))))) = lit< tt
asking_small log i a b (suc (suc (suc (suc (suc (suc (suc (suc zero)))))))) = lit< tt
asking_small log i a b (suc (suc (suc (suc (suc (suc (suc (suc (suc j))))))))) = lit< tt

-- they are nine bytes
asking_nine : (log i : ℕ) → log < 256 → i < 65536 → NineBytes (asking log i)
asking_nine log i a b = record { nine = refl; bytes = asking_small log i a b }

-- they name that index
asking_is : (log i : ℕ) → word (asking log i) 2 ≡ i
asking_is log i = omega arith

-- a verdict with its data
data_of-is : (l : Life) (a : Asked) (known past : Bool) →
    with_data l (ruled a (indexed known past)) ≡ cond (not known) (refused 8 Alone) (cond past (refused 9 Alone) (granted (data_of l a)))
data_of-is l a false past = refl
data_of-is l a true true = refl
data_of-is l a true false = refl

-- a converter with an address of its own, whose logs tell how many records they hold, and hold few
record Counting (l : Life) : Type 0 where
  own : address_of l ≡ 0x00FF → ⊥
  events : held_number l.events ≡ length (held_in l.events)
  gaps : held_number l.gaps ≡ length (held_in l.gaps)
  few : length (held_in l.events) < 65536
  few_gaps : length (held_in l.gaps) < 65536

-- it answers by the records held
answer_is : (l : Life) (ps : List ℕ) → Counting l →
    records_answer l ps ≡ answer_from (held_in l.events) (held_in l.gaps) (parameter ps 1) (word ps 2) (word ps 4)
answer_is l ps c =
    ap (with_data l) (row_is l ps c.own) ∙ data_of-is l (log_records (parameter ps 1) (word ps 2) (word ps 4)) (is_log (parameter ps 1)) (leb (held_by l (parameter ps 1)) (word ps 2))
    ∙ ap₂
    (λ (a b : ℕ).
    cond (not (is_log (parameter ps 1))) (refused 8 Alone)
    (cond (leb (cond (is_events (parameter ps 1)) a b) (word ps 2)) (refused 9 Alone)
    (granted (data_of l (log_records (parameter ps 1) (word ps 2) (word ps 4))))))
    c.events c.gaps

-- a log after a run tells how many records it holds
number_held : {K : Type 0} (v : ℕ) (r : Ring K) (xs : List K) → Logged v r xs → held_number r ≡ length (held_in r)
number_held v r xs k = kept_number r.volume r.count r.round r.memory xs k.1

-- it holds at most 32,767
few_held : {K : Type 0} (v : ℕ) (r : Ring K) (xs : List K) → Logged v r xs → length (held_in r) < 65536
few_held v r xs k =
    let long : length (held_in r) ≡ length xs - (length xs - r.volume) = ap length k.1.holds ∙ length-drop (length xs - r.volume) xs in
    omega (arith, k.0)

-- a converter after a run is such a one
counting : (f : ℕ → ℕ) (v w : ℕ) (es : List Event) (gs : List PowerGap) (history : List Turn) (l : Life) → Ran (fresh f v w es gs) history l →
    (address_of l ≡ 0x00FF → ⊥) → Counting l
counting f v w es gs history l ran other =
    let s = stood f v w es gs history l ran in
    record {
      own = other;
      events = number_held v l.events (events_since history) s.events;
      gaps = number_held w l.gaps (gaps_since history) s.gaps;
      few = few_held v l.events (events_since history) s.events;
      few_gaps = few_held w l.gaps (gaps_since history) s.gaps;
    }

module _ (m n : Life) (c : Counting m) (d : Counting n) where
  -- equal records are answered alike
  answered : HoldAlike m n → AnswerAlike m n
  answered same ps nine =
      answer_is m ps c
      ∙ ap₂ (λ es gs. answer_from es gs (parameter ps 1) (word ps 2) (word ps 4)) same.0 same.1
      ∙ sym (answer_is n ps d)

  -- the answers to a request for one record
  ask_one : AnswerAlike m n → (log i : ℕ) → log < 256 → i < 65536 →
      answer_from (held_in m.events) (held_in m.gaps) log i 1 ≡ answer_from (held_in n.events) (held_in n.gaps) log i 1
  ask_one alike log i a b =
      subst (λ (k : ℕ). answer_from (held_in m.events) (held_in m.gaps) log k 1 ≡ answer_from (held_in n.events) (held_in n.gaps) log k 1) (asking_is log i)
      (sym (answer_is m (asking log i) c) ∙ alike (asking log i) (asking_nine log i a b) ∙ answer_is n (asking log i) d)

  -- what is answered alike is equal
  held_alike : AnswerAlike m n → HoldAlike m n
  held_alike alike = (
    same_log 13 event_bytes event_told (lit≤ tt) (held_in m.events) (held_in n.events) c.few d.few (λ i h. ask_one alike 0x04 i (lit< tt) h),
    same_log 9 gap_bytes gap_told (lit≤ tt) (held_in m.gaps) (held_in n.gaps) c.few_gaps d.few_gaps (λ i h. ask_one alike 0x0E i (lit< tt) h),
  )

-- after runs from fresh converters, answers are alike where the logs hold equal records, and only there
abbrev pub Records : Type 0
Records =
    (f g : ℕ → ℕ) (v w x y : ℕ) (es fs : List Event) (gs hs : List PowerGap) (history other : List Turn) (m n : Life) →
    Ran (fresh f v w es gs) history m → Ran (fresh g x y fs hs) other n → (address_of m ≡ 0x00FF → ⊥) → (address_of n ≡ 0x00FF → ⊥) →
    AnswerAlike m n ↔ HoldAlike m n

pub records : Records
records f g v w x y es fs gs hs history other m n ran ran' own own' =
    let c = counting f v w es gs history m ran own in
    let d = counting g x y fs hs other n ran' own' in
    (held_alike m n c d, answered m n c d)

-- the logs after a run, and what requests for their records are answered
abbrev pub Logs : Type 0
Logs =
    (cells : ℕ → ℕ) (v w : ℕ) (es : List Event) (gs : List PowerGap) (history : List Turn) (l : Life) →
    Ran (fresh cells v w es gs) history l → LogsOf v w history l

pub logs : Logs
logs cells v w es gs history l ran =
    let s = stood cells v w es gs history l ran in
    record {
      events = s.events;
      gaps = s.gaps;
      answers = λ other ps.
          answer_is l ps (counting cells v w es gs history l ran other)
          ∙ ap₂ (λ (x : List Event) (y : List PowerGap). answer_from x y (parameter ps 1) (word ps 2) (word ps 4)) s.events.1.holds s.gaps.1.holds;
    }
