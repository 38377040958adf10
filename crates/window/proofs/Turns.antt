-- No frame of a window wants for preparation or permission.
use Rattle.std.proofs.Common.{◌≡◌, ℕ, Bool, true, false, List, replicate, refl, arith}
use Rattle.access.specs.Decision.{unpermitted, verdict}
use Rattle.access.specs.declared.Access.{Access}
use Rattle.refusal.specs.Told.{refused}
use Rattle.refusal.specs.declared.Company.TheVariants.{Alone}
use Rattle.request.specs.Asked.{Asked, command_of, write_setpoint, write_output_mask}
use Rattle.request.specs.Rows.{needs}
use Rattle.std.proofs.lemmas.Grind.{common_steps}
use Rattle.std.proofs.lemmas.List.{get_or_at, take_at}
use Rattle.window.specs.Frames.{open_writes}
use Rattle.window.specs.Served.{Served, Turn, after_all, opens, permits, writes, closes, writes_permitted, closes_permitted}

-- What an open window writes needs no permission.
open_needs : (access : Access) (next : Asked) → open_writes (command_of next) ≡ true → unpermitted access (needs next) ≡ false
open_needs access (write_setpoint number setpoint) e = cc
open_needs access (write_output_mask number mask) e = cc
open_needs access next e = refl

turns : (access : Access) (before : List Asked) (next : Asked) → Turn before next → (address : List ℕ) (held : ℕ) (right : Bool) →
    (verdict (after_all access before) address held right next ≡ refused 6 Alone → ⊥)
    × (verdict (after_all access before) address held right next ≡ refused 7 Alone → ⊥)
turns access _ _ opens address held right = grind (arith, common_steps)
turns access _ _ (permits password) address held right = grind (arith, common_steps)
turns access _ _ (writes next e) address held right = grind (arith, common_steps, open_needs)
turns access _ _ closes address held right = grind (arith, common_steps)
turns access _ _ (writes_permitted password next e) address held right = grind (arith, common_steps)
turns access _ _ (closes_permitted password) address held right = grind (arith, common_steps)

pub served : Served
served =
    record {
      frames =
          record {
            opening = refl;
            permitting = λ password four.
                let front = take_at password (replicate 5 0) 4 four in
                let fifth = get_or_at password 0 (replicate 4 0) 0 4 four in
                cc;
            closing = refl;
            writing = λ command parameters request is. grind (arith, common_steps);
          };
      turns = turns;
    }
