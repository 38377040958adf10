use Rattle.std.proofs.Common.{ℕ, ◌-◌, length, refl, rules}
use Rattle.request_frame.proofs.unfinished.Goals as goal
use Rattle.request_frame.proofs.Found.{Begun, NotBegun, first_begun}
use Rattle.std.proofs.lemmas.Iterator.{YieldsList-from_range, first_from_find}
use Rattle.std.proofs.lemmas.List.{take_rest}

pub returns : goal.returns
returns c =
    let line = c.args.line.now in
    let from = c.saturating_sub.result in
    let n : ℕ = length line - from in
    first_begun line from n c.find.result c.saturating_sub.ensures refl
    (first_from_find c.find.new.self _ c.find.result (Begun line) (NotBegun line) c.find.ensures.ran
    (YieldsList-from_range from (length line) n refl refl) (λ x q k. search (rules, take_rest)) (λ x q k. search (rules, take_rest)))
