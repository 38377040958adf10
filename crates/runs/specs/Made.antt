-- The history that a run of the code made.
use Rattle.std.specs.Prelude.{◌≡◌, ℕ, min, List, [], ◌∷◌, ◌++◌, length, take, drop, None, Some, Option, Ok, Err, Result}
use Rattle.converter.specs.Calls.{Call, Grant, Outcome, advance, done, hear, heard, measure}
use Rattle.converter.specs.Told.{note_call}
use Rattle.converter.specs.declared.Heard.{Heard}
use Rattle.converter.specs.declared.Unheard.{Unheard}
use Rattle.records.specs.declared.Event.{Event}
use Rattle.records.specs.declared.PowerGap.{PowerGap}
use Rattle.refusal.specs.Told.{Answer, granted, number, refused}
use Rattle.runs.specs.History.{Turn}
use Rattle.runs.specs.declared.Call.{Call as Order}
use Rattle.runs.specs.declared.Call.TheVariants.{Hear, Advance, Measure, Note}
use Rattle.runs.specs.declared.Slot.{Slot}

-- A call of the code, with the memory for its reply as it was.
abbrev pub call_of : Order → Slot → Call
call_of (Hear line room lent) slot = hear line.now (take room slot.reply) lent.events lent.gaps
call_of (Advance ticks) slot = advance ticks
call_of (Measure readings) slot = measure readings.now
call_of (Note note lent) slot = note_call note lent.events lent.gaps

-- The result of a call.
abbrev pub result_of : Result (Option Heard) Unheard → Answer Grant
result_of (Ok None) = granted done
result_of (Ok (Some h)) = granted (heard (record { used = h.used; reply = h.reply }))
result_of (Err e) = refused (number e.refusal) e.company

-- The reply memory that a call was given: the others are given none.
abbrev pub reply_of : Order → Slot → List ℕ
reply_of (Hear line room lent) slot = take room slot.reply
reply_of (Advance ticks) slot = []
reply_of (Measure readings) slot = []
reply_of (Note note lent) slot = []

-- Of a slot's memory, what no call was given.
abbrev pub rest_of : Order → Slot → List ℕ
rest_of (Hear line room lent) slot = drop room slot.reply
rest_of (Advance ticks) slot = slot.reply
rest_of (Measure readings) slot = slot.reply
rest_of (Note note lent) slot = slot.reply

abbrev pub outcome_of : Order → Slot → List Event → List PowerGap → Outcome
outcome_of order slot events gaps =
    record { result = result_of slot.result; reply = reply_of order slot; events = events; gaps = gaps }

-- A turn is what an order made of a slot that was b and then is a.
pub record Made (order : Order) (b a : Slot) (t : Turn) : Type 0 where
  pub call : t.call ≡ call_of order b
  pub result : t.came.result ≡ result_of a.result
  pub reply : t.came.reply ≡ reply_of order a
  pub rest : rest_of order a ≡ rest_of order b

-- A history, newest first, is what these orders made of these slots, oldest first.
abbrev pub MadeAll : List Order → List Slot → List Slot → List Turn → Type 0
MadeAll [] before after history = history ≡ []
MadeAll (o ∷ os) [] after history = ⊥
MadeAll (o ∷ os) (b ∷ bs) [] history = ⊥
MadeAll (o ∷ os) (b ∷ bs) (a ∷ rest) history =
    (t : Turn) × (later : List Turn) × Made o b a t × MadeAll os bs rest later × (history ≡ later ++ t ∷ [])

abbrev pub least : List Order → List Slot → ℕ
least orders slots = min (length orders) (length slots)

-- As many orders are made as there are slots for; the slots behind stay.
pub record MadeBy (orders : List Order) (before after : List Slot) (history : List Turn) : Type 0 where
  pub made : MadeAll (take (least orders before) orders) (take (least orders before) before) (take (least orders before) after) history
  pub behind : drop (least orders before) after ≡ drop (least orders before) before
