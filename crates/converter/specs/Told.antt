-- The answers of the code, as callers are told them.
use Rattle.std.specs.Prelude.{ℕ, List, Ok, Err, Result}
use Rattle.converter.specs.Hearing.{Found, Hearing}
use Rattle.converter.specs.declared.Converter.{Converter}
use Rattle.converter.specs.Calls.{Call, note_event, note_gap}
use Rattle.converter.specs.declared.Heard.{Heard}
use Rattle.converter.specs.declared.finding.Placed.{Placed}
use Rattle.converter.specs.declared.noting.Note.{Note}
use Rattle.converter.specs.declared.noting.Note.TheVariants.{Event, Gap}
use Rattle.converter.specs.declared.Unheard.{Unheard}
use Rattle.device.specs.Life.{Life, seen}
use Rattle.records.specs.declared.Event.{Event as Noted}
use Rattle.records.specs.declared.PowerGap.{PowerGap}
use Rattle.refusal.specs.Told.{Answer, company, granted, number, refused}
use Rattle.refusal.specs.declared.Refusal.{Refusal}
use Rattle.request.specs.Asked.{Asked, meant}
use Rattle.request.specs.declared.Request.{Request}
use Rattle.request.specs.declared.checked.Checked.{Checked}

-- What a converter of the code is, with the memories of its logs.
abbrev pub view : {S : Type 0} → (S → ℕ → ℕ) → Converter S → List Noted → List PowerGap → Life
view cells converter events gaps = seen cells converter.inner events gaps

-- A request cut out of a line, with the place where it begins.
abbrev pub placed_found : Placed → Found
placed_found p =
    record {
      place = p.place;
      address = p.frame.address;
      command = p.frame.command;
      parameters = p.frame.parameters.now;
    }

-- The call that notes a record.
abbrev pub note_call : Note → ℕ → ℕ → Call
note_call (Event report) events gaps = note_event report events gaps
note_call (Gap gap) events gaps = note_gap gap events gaps

-- A decision of the code on a request.
abbrev pub judgement : Result Request Refusal → Answer Asked
judgement (Ok request) = granted (meant request)
judgement (Err refusal) = refused (number refusal) (company refusal)

-- The same decision where the request that is granted comes with what is known of it.
abbrev pub requested : Result Checked Refusal → Result Request Refusal
requested (Ok checked) = Ok checked.row.request
requested (Err refusal) = Err refusal

-- The answer of hear.
abbrev pub hearing : Result Heard Unheard → Answer Hearing
hearing (Ok h) = granted (record { used = h.used; reply = h.reply })
hearing (Err e) = refused (number e.refusal) e.company
