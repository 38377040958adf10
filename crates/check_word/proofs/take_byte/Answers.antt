use Rattle.std.proofs.Common.{◌≡◌, ℕ, ◌+◌, ◌*◌, ◌/◌, ◌%◌, List, get_or, refl, ap, ◌∙◌, arith, rules}
use Rattle.check_word.specs.CheckWord.{bit_in, byte_in, holds}
use Rattle.check_word.proofs.Linear.{by_table}
use Rattle.check_word.proofs.take_byte.Goals as goal

pub remainder-requires : goal.remainder-requires
unfolding bit_in byte_in holds
remainder-requires c = refl

pub returns : goal.returns
returns c =
    let e = by_table c.args.register c.args.byte (search rules) in
    let fits = c.ranges.register.fits in
    let high : get_or c.to_be_bytes.result 0 0 ≡ c.args.register / 256 = ap (λ (l : List ℕ). get_or l 0 0) c.to_be_bytes.ensures ∙ omega arith in
    let low : get_or c.to_be_bytes.result 1 0 * 256 + 0 ≡ c.args.register % 256 * 256 = ap (λ (l : List ℕ). get_or l 1 0 * 256 + 0) c.to_be_bytes.ensures ∙ omega arith in
    cc
