use Rattle.std.proofs.Common.{◌+◌, ◌-◌, true, take, drop, Decides, None, Some, rules}
use Rattle.request_frame.specs.Requests.{Valid}
use Rattle.request_frame.proofs.search.Goals as goal
use Rattle.request_frame.proofs.Found.{NotValidAt, ValidAt, found, none_there, valid_there, with_command}
use Rattle.std.proofs.lemmas.Iterator.{first_from_Range}

pub returns-in_err-at-clause-least : goal.returns-in_err-at-clause-least
returns-in_err-at-clause-least c =
    let line = c.args.line.now in
    rw c.from_residual.ensures
    (found line c.saturating_sub.result None c.saturating_sub.ensures
    (first_from_Range _ c.find.new.self _ None (ValidAt line) (NotValidAt line) c.in_err-at.ensures.ran
    (λ x q k. search (rules, valid_there)) (λ x q k. search (rules, none_there))))

pub returns-clause-least : goal.returns-clause-least
returns-clause-least c =
    let line = c.args.line.now in
    with_command line c.in_ok-at.at
    (found line c.saturating_sub.result (Some c.in_ok-at.at) c.saturating_sub.ensures
    (first_from_Range _ c.find.new.self _ (Some c.in_ok-at.at) (ValidAt line) (NotValidAt line) c.in_ok-at.ensures.ran
    (λ x q k.
    let yes : Decides true (Valid (take (x + 18 - x) (drop x line))) = search rules in
    valid_there line x yes) (λ x q k. search (rules, none_there))))
