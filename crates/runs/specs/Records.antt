-- What requests for log records are answered, and which records a log holds.
use Rattle.std.specs.Prelude.{◌≡◌, ℕ, ◌+◌, ◌*◌, ◌<◌, min, false, cond, not, List, ◌++◌, length, drop, ◌≢◌, nat_le, slice_index}
use Rattle.converter.specs.Calls.{Outcome, Steps, hear, heard, no_room}
use Rattle.converter.specs.Hearing.{Found, judged}
use Rattle.device.specs.Life.{Life, Ring, held_in}
use Rattle.device.specs.Rows.{data_of, is_events}
use Rattle.ring_log.specs.Logs.{Kept, newest}
use Rattle.ring_log.specs.Reading.{sent_bytes}
use Rattle.records.specs.Records.{event_bytes, gap_bytes}
use Rattle.records.specs.declared.Event.{Event}
use Rattle.records.specs.declared.PowerGap.{PowerGap}
use Rattle.refusal.specs.Told.{Answer, granted, refused}
use Rattle.refusal.specs.declared.Company.TheVariants.{Alone, Used}
use Rattle.reply_frame.specs.Replies.{data_len, on_line, reply}
use Rattle.request.specs.Asked.{Asked, parameter, word}
use Rattle.request.specs.Rows.{is_log}
use Rattle.request_frame.specs.Requests.{request}
use Rattle.runs.specs.History.{Turn, events_since, gaps_since}

-- The address of a converter, in cells 0 and 1.
abbrev pub address_of : Life → ℕ
address_of l = l.cells 0 + 256 * l.cells 1

-- Nine parameter bytes.
pub record NineBytes (ps : List ℕ) : Type 0 where
  pub nine : length ps ≡ 9
  pub bytes : (i : ℕ) → slice_index ps i < 256

-- A request for log records with these parameters, under the converter's own address.
abbrev pub asks_records : Life → List ℕ → Found
asks_records l ps = record { place = 0; address = address_of l; command = 0x1F; parameters = ps }

-- The data before filling, or the refusal.
abbrev pub with_data : Life → Answer Asked → Answer (List ℕ)
with_data l (granted a) = granted (data_of l a)
with_data l (refused n company) = refused n company

abbrev pub records_answer : Life → List ℕ → Answer (List ℕ)
records_answer l ps = with_data l (judged l (asks_records l ps))

-- What comes of the request is this answer: the data in a reply from the converter's address, or the
-- refusal's number, with all 18 bytes of the line used.
abbrev pub Shows : Life → List ℕ → Answer (List ℕ) → Outcome → Type 0
Shows l memory (granted bytes) o =
    (o.result ≡ granted (heard (record { used = 18; reply = on_line (data_len (length bytes)) })))
    × (o.reply ≡ reply (address_of l) bytes ++ drop (on_line (data_len (length bytes))) memory)
Shows l memory (refused n company) o = (o.result ≡ refused n (Used 18)) × (o.reply ≡ memory)

-- Alone in a line, with enough memory, it is heard so.
abbrev pub HeardSo : Life → Type 0
HeardSo l =
    (ps memory : List ℕ) (events gaps : ℕ) (o : Outcome) (m : Life) → NineBytes ps → address_of l < 65536 → (address_of l ≢ 0x00FF) →
    no_room l memory events gaps ≡ false → Steps l (hear (request (address_of l) 0x1F ps) memory events gaps) o m →
    Shows l memory (records_answer l ps) o

-- A log holds the newest records noted since its last granted clearing, up to its volume, and counts all of
-- them.
abbrev pub Logged : {K : Type 0} → ℕ → Ring K → List K → Type 0
Logged volume r noted = (r.volume ≡ min volume 32767) × Kept r.volume r.count r.round r.memory noted

-- What a request for records is answered by logs that hold these: 8 where the code is no log's, 9 where the
-- index is not below the number of records held, and else their bytes from the index on, counted and cut.
abbrev pub answer_from : List Event → List PowerGap → ℕ → ℕ → ℕ → Answer (List ℕ)
answer_from events gaps log index count =
    cond (not (is_log log)) (refused 8 Alone)
    (cond (nat_le (cond (is_events log) (length events) (length gaps)) index) (refused 9 Alone)
    (granted (cond (is_events log) (sent_bytes 13 event_bytes events index count) (sent_bytes 9 gap_bytes gaps index count))))

-- Every request for records is answered so by the newest records since clearing.
abbrev pub Answers : Life → List Event → List PowerGap → Type 0
Answers l events gaps =
    (address_of l ≢ 0x00FF) → (ps : List ℕ) →
    records_answer l ps
    ≡ answer_from (newest l.events.volume events) (newest l.gaps.volume gaps) (parameter ps 1) (word ps 2) (word ps 4)

-- Two converters answer every next request for log records alike.
abbrev pub AnswerAlike : Life → Life → Type 0
AnswerAlike m n = (ps : List ℕ) → NineBytes ps → records_answer m ps ≡ records_answer n ps

-- Their logs hold equal records.
abbrev pub HoldAlike : Life → Life → Type 0
HoldAlike m n = (held_in m.events ≡ held_in n.events) × (held_in m.gaps ≡ held_in n.gaps)

-- A run from a fresh converter, and what its logs then are and tell.
pub record LogsOf (volume volume_of_gaps : ℕ) (history : List Turn) (l : Life) : Type 0 where
  pub events : Logged volume l.events (events_since history)
  pub gaps : Logged volume_of_gaps l.gaps (gaps_since history)
  pub answers : Answers l (events_since history) (gaps_since history)
