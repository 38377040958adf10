use Rattle.std.proofs.Common.{◌<◌, [], take, sym, ◌∙◌, ap, get_or, false, arith, rules}
use Rattle.std.proofs.Output.{has_written_append, has_written_of_eq}
use Rattle.std.proofs.lemmas.Fmt.{hex_byte}
use Rattle.std.proofs.lemmas.List.{flat_map_more, take_more}
use Rattle.wording.specs.Pairs.{pair, pairs}
use Rattle.wording.proofs.HexDisplay.fmt.Goals as goal

pub loop-byte-preserved : goal.loop-byte-preserved
loop-byte-preserved g c = λ plain.
    let bytes = c.args.self.now.bytes.now in
    let i = c.loop-byte.byte-index in
    let b = get_or bytes i 0 in
    let small : b < 256 = omega arith in
    let so_far = c.loop-byte.invariant plain in
    let more = rw (c.laid_out.ensures, c.in_radix.ensures, hex_byte false b small) at c.write.ensures.writes in
    has_written_of_eq _ _ _ _ _ (flat_map_more pair [] (take i bytes) b ∙ sym (ap pairs (take_more bytes i 0 c.loop-byte-test.true)))
    (has_written_append _ _ _ _ _ _ so_far (more so_far.plain (search rules)))
