use Rattle.std.proofs.Common.{◌≡◌, ◌++◌, length, take, drop, ap, ◌∙◌, rules}
use Rattle.request_frame.specs.Requests.{request}
use Rattle.request_frame.proofs.Frame.{length-request, reads_as}
use Rattle.request_frame.proofs.write_request.Goals as goal
use Rattle.std.proofs.lemmas.List.{take_at}

pub returns-clause-reads_back : goal.returns-clause-reads_back
returns-clause-reads_back c =
    let out = c.args.out.now in
    let parameters = c.args.parameters.now in
    let frame = request c.args.address c.args.command parameters in
    let written : c.put_opening.new.out ≡ frame ++ drop 18 out = cc in
    let nine : length parameters ≡ 9 = search rules in
    let all = take_at frame (drop 18 out) 18 (length-request c.args.address c.args.command parameters nine) in
    λ _. reads_as _ _ _ _ (record { fits = search rules; nine = nine; is = ap (take 18) written ∙ all })
