use Rattle.std.proofs.Common.{◌≡◌, ℕ, List, take, refl, ap, ◌∙◌, arith}
use Rattle.request_frame.specs.Requests.{window}
use Rattle.request_frame.proofs.Frame.{here, moved, past_end}
use Rattle.request_frame.proofs.read_request.Goals as goal
use Rattle.std.proofs.lemmas.List.{take_rest}

pub returns-in_err-frame : goal.returns-in_err-frame
returns-in_err-frame c =
    let short = c.in_err-frame.ensures.lookup in
    let rest = c.in_ok-get.ensures.lookup in
    rw c.from_residual-in_err-frame.ensures (past_end c.args.line.now c.args.at (omega arith))

pub returns : goal.returns
returns c =
    let line : List ℕ = c.args.line.now in
    let at = c.args.at in
    let rest = c.in_ok-get.ensures.lookup in
    let cut = c.in_ok-frame.ensures.lookup in
    let is : c.in_ok-frame.frame.now ≡ window line at = cut.0.2 ∙ ap (take 18) (rest.0.2 ∙ take_rest line at) in
    moved (here line at is c.if-not-is_request.false c.is_request.ensures) (omega (arith, c.from_le_bytes.ensures)) refl refl
