use Rattle.std.proofs.Common.{ℕ, List, [], ◌++◌, length, take, drop, sym, ap, ◌∙◌, subst₂}
use Rattle.converter.specs.Calls.{Steps, of_done, outcome}
use Rattle.converter.specs.Told.{note_call, view}
use Rattle.device.specs.Life.{position_at}
use Rattle.records.specs.declared.Event.{Event}
use Rattle.records.specs.declared.PowerGap.{PowerGap}
use Rattle.refusal.specs.Told.{answer}
use Rattle.runs.proofs.Widened.{note_whole}
use Rattle.runs.proofs.performing.note_lent.Goals as goal
use Rattle.std.proofs.lemmas.List.{drop_min, take_min}

pub returns : goal.returns
returns g c =
    let cells = g.S.Store.cells in
    let es : List Event = c.args.events.now in
    let gs : List PowerGap = c.args.gaps.now in
    let e = c.args.lent.events in
    let k = c.args.lent.gaps in
    let note = c.args.note in
    let before = c.args.converter.now in
    let after = c.note.new.self in
    let es' : List Event = c.note.new.events in
    let gs' : List PowerGap = c.note.new.gaps in
    let r = of_done (answer c.note.result) in
    let ps = before.inner.positions in
    let m = view cells after es' gs' in
    let events = ap (λ (n : ℕ). take n es) c.within-lent.ensures.events ∙ take_min e es in
    let gaps = ap (λ (n : ℕ). take n gs) c.within-lent.ensures.gaps ∙ take_min k gs in
    let step =
    subst₂ (λ (x : List Event) (y : List PowerGap). Steps (view cells before x y) (note_call note (length x) (length y)) (outcome m r []) m)
    events gaps c.note.ensures in
    let whole = note_whole (view cells before es gs) e k ((position_at ps 0).lawful.1, (position_at ps 1).lawful.1) m r note step in
    let rest = ap (λ (n : ℕ). drop n es) c.within-lent.ensures.events ∙ drop_min e es in
    let others = ap (λ (n : ℕ). drop n gs) c.within-lent.ensures.gaps ∙ drop_min k gs in
    subst₂
    (λ (x : List Event) (y : List PowerGap).
    Steps (view cells before es gs) (note_call note e k) (outcome (view cells after (es' ++ x) (gs' ++ y)) r []) (view cells after (es' ++ x) (gs' ++ y)))
    (sym rest) (sym others) whole
