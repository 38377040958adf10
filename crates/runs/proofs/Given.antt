-- The settings law: each cell holds what the last granted write of it gave, or what it held at the start.
use Rattle.std.proofs.Common.{◌≡◌, ℕ, Bool, true, false, List, [], ◌∷◌, length, Some, None, Option, unwrap_or, sym, refl, ap, ◌∙◌}
use Rattle.converter.specs.Calls.{Call, Grant, Hears, Outcome, Steps, advance, heard, hear, measure, no_room, note_event, note_gap, of_hearing}
use Rattle.converter.specs.Hearing.{Finds, Found, behind, destination, judged, life_after, moved_by, reply_length, result_by, result_to}
use Rattle.device.specs.Life.{Life}
use Rattle.device.specs.Rows.{changed, data_of}
use Rattle.refusal.specs.Told.{Answer, granted, refused}
use Rattle.refusal.specs.declared.Company.{Company}
use Rattle.request.specs.Asked.{Asked}
use Rattle.runs.proofs.Asked.{frame_asked, granted_asked}
use Rattle.runs.specs.History.{Ran, Turn, given_by, granted_of, last_given, request_of}

-- the byte of a cell after a call with this answer
abbrev cell_after : Call → Answer Grant → ℕ → ℕ → ℕ
cell_after c r k old = unwrap_or (given_by (granted_of c r) k) old

-- a refusal writes nothing
refused_cell : (c : Call) (r : Answer Grant) (n : ℕ) (company : Company) → r ≡ refused n company → (k old : ℕ) → cell_after c r k old ≡ old
refused_cell c r n company e k old = ap (λ x. cell_after c x k old) e

-- a granted request writes what its row gives
granted_cell : (line reply : List ℕ) (events gaps : ℕ) (r : Answer Grant) (g : Grant) (a : Asked) → r ≡ granted g →
    request_of (hear line reply events gaps) (granted g) ≡ Some a → (k old : ℕ) →
    cell_after (hear line reply events gaps) r k old ≡ unwrap_or (given_by (Some a) k) old
granted_cell line reply events gaps r g a e is k old =
    ap (λ x. cell_after (hear line reply events gaps) x k old) e ∙ ap (λ x. unwrap_or (given_by x k) old) is

-- a request found: its cells by the decision on it
decided_cell : (m n : Life) (line reply : List ℕ) (events gaps : ℕ) (f : Found) → Finds line (Some f) → (r : Answer Grant) (j : Answer Asked) →
    judged m f ≡ j → r ≡ of_hearing (result_by m (length line) f j) → n ≡ moved_by m (destination m f) j → (k : ℕ) →
    n.cells k ≡ cell_after (hear line reply events gaps) r k (m.cells k)
decided_cell m n line reply events gaps f finds r (granted a) j e moves k =
    ap (λ x. x.cells k) moves
    ∙ sym (granted_cell line reply events gaps r (heard (record { used = behind f; reply = reply_length (destination m f) (data_of m a) })) a e
    (frame_asked line f finds ∙ granted_asked m f a j) k (m.cells k))
decided_cell m n line reply events gaps f finds r (refused number company) j e moves k =
    ap (λ x. x.cells k) moves ∙ sym (refused_cell (hear line reply events gaps) r number _ e k (m.cells k))

-- a request found or not
found_cell : (m n : Life) (line reply : List ℕ) (events gaps : ℕ) (found : Option Found) → Finds line found → (r : Answer Grant) →
    r ≡ of_hearing (result_to m (length line) found) → n ≡ life_after m found → (k : ℕ) →
    n.cells k ≡ cell_after (hear line reply events gaps) r k (m.cells k)
found_cell m n line reply events gaps None finds r e moves k =
    ap (λ x. x.cells k) moves ∙ sym (refused_cell (hear line reply events gaps) r 2 _ e k (m.cells k))
found_cell m n line reply events gaps (Some f) finds r e moves k =
    decided_cell m n line reply events gaps f finds r (judged m f) refl e moves k

-- a line heard, with too little memory and with enough
heard_cell : (m n : Life) (line reply : List ℕ) (events gaps : ℕ) (o : Outcome) (b : Bool) → Hears b m line reply o n → (k : ℕ) →
    n.cells k ≡ cell_after (hear line reply events gaps) o.result k (m.cells k)
heard_cell m n line reply events gaps o true (e, moves) k =
    ap (λ x. x.cells k) moves ∙ sym (refused_cell (hear line reply events gaps) o.result 1 _ (ap (λ x. x.result) e) k (m.cells k))
heard_cell m n line reply events gaps o false (found, finds, e, moves) k =
    found_cell m n line reply events gaps found finds o.result (ap (λ x. x.result) e) moves k

-- a call that asks nothing writes nothing
unasked : (c : Call) → ((r : Answer Grant) → request_of c r ≡ None) → (r : Answer Grant) (k old : ℕ) → cell_after c r k old ≡ old
unasked c none (granted g) k old = ap (λ x. unwrap_or (given_by x k) old) (none (granted g))
unasked c none (refused n company) k old = refl

-- a call that leaves the cells leaves them, granted or refused
same_cells-is : (v : Answer Unit) (before after : Life) → after.cells ≡ before.cells → (k : ℕ) → (changed v before after).cells k ≡ before.cells k
same_cells-is (granted x) before after e k = ap (λ cells. cells k) e
same_cells-is (refused n company) before after e k = refl

-- one step: a cell holds what the turn wrote there, or what it held before
pub step_cell : (m n : Life) (c : Call) (o : Outcome) → Steps m c o n → (k : ℕ) → n.cells k ≡ cell_after c o.result k (m.cells k)
step_cell m n (hear line reply events gaps) o steps k = heard_cell m n line reply events gaps o (no_room m reply events gaps) steps k
step_cell m n (advance ticks) o (e, moves) k =
    ap (λ x. x.cells k) moves ∙ same_cells-is _ m _ refl k ∙ sym (unasked (advance ticks) (λ r. refl) o.result k (m.cells k))
step_cell m n (measure readings) o (e, moves) k =
    ap (λ x. x.cells k) moves ∙ same_cells-is _ m _ refl k ∙ sym (unasked (measure readings) (λ r. refl) o.result k (m.cells k))
step_cell m n (note_event report events gaps) o (e, moves) k =
    ap (λ x. x.cells k) moves ∙ same_cells-is _ m _ refl k ∙ sym (unasked (note_event report events gaps) (λ r. refl) o.result k (m.cells k))
step_cell m n (note_gap gap events gaps) o (e, moves) k =
    ap (λ x. x.cells k) moves ∙ same_cells-is _ m _ refl k ∙ sym (unasked (note_gap gap events gaps) (λ r. refl) o.result k (m.cells k))

-- a run: a cell holds what the last granted write of it gave, or what it held at the start
pub cells_are : (l n : Life) (h : List Turn) → Ran l h n → (k : ℕ) → n.cells k ≡ last_given l.cells h k
cells_are l n [] ran k = ap (λ x. x.cells k) ran
cells_are l n (t ∷ earlier) (m, ran, steps) k =
    step_cell m n t.call t.came steps k ∙ ap (λ (x : ℕ). cell_after t.call t.came.result k x) (cells_are l m earlier ran k)
