use Rattle.std.proofs.Common.{◌≡◌, ℕ, ◌+◌, ◌-◌, ◌++◌, length, get_or, ap, arith, length-drop, take-append-drop, rules}
use Rattle.block.proofs.is_block.Goals as goal
use Rattle.block.proofs.Sealed.{decides, too_short}
use Rattle.std.proofs.lemmas.List.{get_or-drop}

pub returns-in_default : goal.returns-in_default
returns-in_default c = too_short c.args.bytes.now (search rules)

pub returns : goal.returns
returns c =
    let bytes = c.args.bytes.now in
    let n : ℕ = length bytes - 2 in
    let cut = c.in-Some.ensures.cases in
    let both = take-append-drop n bytes in
    let whole : bytes ≡ c.in-Some.covered.now ++ c.in-Some.told.now = cc in
    let two : length c.in-Some.told.now ≡ 2 = omega (arith, cut.2, ap length cut.1, length-drop n bytes) in
    let low = get_or-drop n bytes 1 0 in
    let same : get_or c.in-Some.told.now 1 0 ≡ get_or bytes (n + 1) 0 = cc in
    let fits = c.type_inv.bytes (n + 1) in
    decides bytes c.in-Some.covered.now c.in-Some.told.now c.from_be_bytes.result c.check_word.result whole two
    (omega arith) c.from_be_bytes.ensures c.check_word.ensures
