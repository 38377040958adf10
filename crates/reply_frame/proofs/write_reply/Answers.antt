use Rattle.std.proofs.Common.{◌≡◌, ℕ, ◌+◌, ◌≤◌, true, List, length, take, sym, ap, ◌∙◌, subst, arith}
use Rattle.refusal.specs.Told.{granted}
use Rattle.reply_frame.specs.Replies.{ReadsAs, data_len, filled, fits, on_line}
use Rattle.reply_frame.proofs.Parts.{rest_fits, written}
use Rattle.reply_frame.proofs.Whole.{written_is}
use Rattle.reply_frame.proofs.write_reply.Goals as goal
use Rattle.std.proofs.lemmas.Bool.{and_from, cond-true, le-leb}

pub put_blocks-requires : goal.put_blocks-requires
put_blocks-requires c =
    let len = c.max-data_len.ensures in
    let ten = c.fill.ensures in
    let put = c.put_opening.ensures in
    rest_fits c.args.address c.args.payload.now c.split_at.result.0.now c.split_at.result.1.now c.args.out.now
    c.put_opening.new.out c.split_at.ensures.by_index.0 (c.split_at.ensures.front_len ∙ c.min.ensures) (cc)
    (omega (arith, len, c.on_line-length.ensures))

pub returns : goal.returns
returns c =
    let payload : List ℕ = c.args.payload.now in
    let out : List ℕ = c.args.out.now in
    let len = c.max-data_len.ensures in
    let ten = c.fill.ensures in
    let put = c.put_opening.ensures in
    let total : c.on_line-length.result ≡ on_line (data_len (length payload)) = c.on_line-length.ensures ∙ ap (λ (n : ℕ). on_line (n + 4)) len in
    let room : on_line (data_len (length payload)) ≤ length out = omega (arith, total) in
    let yes : fits (length payload) (length out) ≡ true =
    and_from _ _ (le-leb (length payload) 251 c.if-payload-gt-MOST_DATA.false) (le-leb _ _ room) in
    let w =
    written c.args.address payload c.split_at.result.0.now c.split_at.result.1.now out c.put_opening.new.out
    c.split_at.ensures.by_index.0 (c.split_at.ensures.front_len ∙ c.min.ensures) (cc) room c.put_blocks.new.out
    c.put_blocks.ensures.written in
    let R : List ℕ → Type 0 = λ l. ReadsAs (take (on_line (data_len (length payload))) l) c.args.address (filled payload) in
    record {
      told = ap granted total ∙ sym (cond-true _ _ _ yes);
      written = w ∙ sym (cond-true _ _ _ yes);
      reads_back = λ _. subst R (sym w) (written_is c.args.address payload _ c.ranges.address.fits c.if-payload-gt-MOST_DATA.false);
    }
