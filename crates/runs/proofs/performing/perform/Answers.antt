use Rattle.std.proofs.Common.{◌≡◌, ℕ, List, ◌++◌, length, drop, Ok, Err, Some, Option, Result, sym, ap, subst, ap₂, subst₂, rules}
use Rattle.converter.specs.Calls.{Grant, Outcome, Steps, hear, of_hearing}
use Rattle.converter.specs.Told.{hearing, view}
use Rattle.converter.specs.declared.Heard.{Heard}
use Rattle.converter.specs.declared.Unheard.{Unheard}
use Rattle.records.specs.declared.Event.{Event}
use Rattle.records.specs.declared.PowerGap.{PowerGap}
use Rattle.refusal.specs.Told.{Answer}
use Rattle.runs.proofs.Slots.{part_given, part_lent, rest_kept}
use Rattle.runs.proofs.performing.perform.Goals as goal
use Rattle.runs.specs.Made.{call_of, outcome_of, rest_of, result_of}
use Rattle.runs.specs.declared.Call.{Call}
use Rattle.runs.specs.declared.Slot.{Slot}
use Rattle.std.specs.Result.{IsOkAnd, MatchResult}

-- what hearing came to
heard : (x : Result Heard Unheard) (r : Result (Option Heard) Unheard) → MatchResult x (λ h. IsOkAnd r (λ o. o ≡ Some h)) (λ e. r ≡ Err e) →
    result_of r ≡ of_hearing (hearing x)
heard (Ok h) (Ok o) is = ap (λ (x : Option Heard). result_of (Ok x)) is
heard (Ok h) (Err e) is = absurd is
heard (Err e) r is = ap result_of is

pub returns-in-Hear : goal.returns-in-Hear
returns-in-Hear g c =
    let cells = g.S.Store.cells in
    let es : List Event = c.args.events.now in
    let gs : List PowerGap = c.args.gaps.now in
    let l = view cells c.args.converter.now es gs in
    let m = view cells c.hear_lent.new.converter es gs in
    let before : List ℕ = c.args.slot.reply in
    let after : List ℕ = c.hear_lent.new.reply in
    let room = c.in-Hear.room in
    let n = c.min.result in
    let long : length before ≡ 295 = search rules in
    let same : length after ≡ n = search rules in
    let lent = part_lent room n before after c.min.ensures long same in
    let given = part_given room n before after c.min.ensures long same in
    let kept = rest_kept room n before after c.min.ensures long same in
    let slot : Slot = record { result = c.map-result.result; reply = after ++ drop n before } in
    let told = heard c.hear_lent.result c.map-result.result (search rules) in
    let came = ap₂ (λ (r : Answer Grant) (b : List ℕ). record { result = r; reply = b; events = es; gaps = gs }) (sym told) (sym given) in
    let step =
    subst₂ (λ (p : List ℕ) (o : Outcome). Steps l (hear c.in-Hear.line.now p c.in-Hear.lent.events c.in-Hear.lent.gaps) o m) lent came c.hear_lent.ensures in
    record {
      steps = subst (λ (x : Call). Steps l (call_of x c.args.slot) (outcome_of x slot es gs) m) (sym c.in-Hear.is) step;
      rest = subst (λ (x : Call). rest_of x slot ≡ rest_of x c.args.slot) (sym c.in-Hear.is) kept;
    }
