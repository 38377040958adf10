use Rattle.std.proofs.Common.{◌≡◌, ◌≤◌, ◌+◌, not, length, Some, Ok, Err, MatchResult, sym, ap, ◌∙◌, subst, rules}
use Rattle.converter.proofs.Together.{hears_err, hears_granted, room_lent, tested}
use Rattle.converter.proofs.Converter.hear.Goals as goal
use Rattle.converter.specs.Hearing.{Finds, judged_for, standing_for, with_access}
use Rattle.converter.specs.Told.{judgement, placed_found, requested, view}
use Rattle.device.specs.Life.{Life, seen}
use Rattle.refusal.specs.Told.{granted, number, used}
use Rattle.refusal.specs.declared.Company.TheVariants.{Used}
use Rattle.request.specs.Asked.{meant}

pub returns-in_err-checked : goal.returns-in_err-checked
returns-in_err-checked g c =
    let cells = g.S.Store.cells in
    let es = c.args.events.now in
    let gs = c.args.gaps.now in
    let l = view cells c.args.self.now es gs in
    let no = room_lent l c.args.reply.now c.has_room.result c.has_room.ensures ∙ ap not c.if-not-has_room.false in
    let found = placed_found c.in_ok-found.found in
    let finds : Finds c.args.line.now (Some found) = search rules in
    let d = c.destination_of-destination in
    let e = c.judge.ensures in
    let is : MatchResult c.judge.result (λ x. ⊥) (λ e. c.in_err-checked.field-0.0 ≡ record { refusal = e; company = Used (used (number e) (length c.args.line.now) (c.in_ok-found.found.place + 18)) }) = search rules in
    let same : c.from_residual-in_err-checked.result ≡ Err c.in_err-checked.field-0.0 = search rules in
    rw same
    (hears_err l c.args.line.now c.args.reply.now _ no found finds d.result d.ensures (seen cells c.judge.new.inner es gs) c.judge.result c.in_err-checked.field-0.0 is (e.told es gs) (e.moves es gs))

pub returns : goal.returns
returns g c =
    let cells = g.S.Store.cells in
    let es = c.args.events.now in
    let gs = c.args.gaps.now in
    let l = view cells c.args.self.now es gs in
    let no = room_lent l c.args.reply.now c.has_room.result c.has_room.ensures ∙ ap not c.if-not-has_room.false in
    let found = placed_found c.in_ok-found.found in
    let finds : Finds c.args.line.now (Some found) = search rules in
    let d = c.destination_of-destination in
    let e = c.judge.ensures in
    let is : c.judge.result ≡ Ok c.in_ok-checked.checked = search rules in
    let a = meant c.in_ok-checked.checked.row.request in
    let told : granted a ≡ judged_for l d.result found.command found.parameters = ap (λ r. judgement (requested r)) (sym is) ∙ e.told es gs in
    let moves : seen cells c.judge.new.inner es gs ≡ with_access l (standing_for d.result (granted a) l.access) =
    e.moves es gs ∙ ap (λ r. with_access l (standing_for d.result (judgement (requested r)) l.access)) is in
    hears_granted l c.args.line.now c.args.reply.now _ no found finds d.result d.ensures
    (seen cells c.judge.new.inner es gs) (seen cells c.act-reply.new.inner es gs) a c.act-reply.result c.act-reply.new.reply told moves (c.act-reply.ensures.obeyed es gs) c.act-reply.ensures.long c.act-reply.ensures.written

pub act-reply-requires : goal.act-reply-requires
act-reply-requires g c =
    let cells = g.S.Store.cells in
    let es = c.args.events.now in
    let gs = c.args.gaps.now in
    let l = view cells c.args.self.now es gs in
    let same = c.judge.ensures.moves es gs in
    let t = tested c.has_room.result (length c.args.reply.now) (length es) (length gs) l.events.volume l.gaps.volume c.has_room.ensures c.if-not-has_room.false in
    record {
      events = subst (λ (k : Life). k.events.volume ≤ length es) (sym same) t.1;
      gaps = subst (λ (k : Life). k.gaps.volume ≤ length gs) (sym same) t.2;
      room = t.0;
    }
