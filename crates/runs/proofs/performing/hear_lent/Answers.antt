use Rattle.std.proofs.Common.{ℕ, List, length, take, ap, ◌∙◌, subst₂}
use Rattle.converter.specs.Calls.{Steps, hear, of_hearing, outcome}
use Rattle.converter.specs.Told.{hearing, view}
use Rattle.device.specs.Life.{position_at}
use Rattle.records.specs.declared.Event.{Event}
use Rattle.records.specs.declared.PowerGap.{PowerGap}
use Rattle.runs.proofs.Widened.{hear_whole}
use Rattle.runs.proofs.performing.hear_lent.Goals as goal
use Rattle.std.proofs.lemmas.List.{take_min}

pub returns : goal.returns
returns g c =
    let cells = g.S.Store.cells in
    let es : List Event = c.args.events.now in
    let gs : List PowerGap = c.args.gaps.now in
    let e = c.args.lent.events in
    let k = c.args.lent.gaps in
    let line = c.args.line.now in
    let reply = c.args.reply.now in
    let before = c.args.converter.now in
    let after = c.hear.new.self in
    let r = of_hearing (hearing c.hear.result) in
    let ps = before.inner.positions in
    let events = ap (λ (n : ℕ). take n es) c.within-lent.ensures.events ∙ take_min e es in
    let gaps = ap (λ (n : ℕ). take n gs) c.within-lent.ensures.gaps ∙ take_min k gs in
    let step =
    subst₂ (λ (x : List Event) (y : List PowerGap). Steps (view cells before x y) (hear line reply (length x) (length y)) (outcome (view cells after x y) r c.hear.new.reply) (view cells after x y))
    events gaps c.hear.ensures in
    hear_whole (view cells before es gs) e k ((position_at ps 0).lawful.1, (position_at ps 1).lawful.1) line reply (view cells after (take e es) (take k gs)) r c.hear.new.reply step
