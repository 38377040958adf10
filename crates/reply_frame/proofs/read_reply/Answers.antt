use Rattle.std.proofs.Common.{◌≡◌, ℕ, ◌+◌, ◌*◌, List, ◌++◌, length, get_or, drop, sym, refl, ap, ◌∙◌, subst, inl, inr, arith}
use Rattle.block.specs.Chain.{AllRight, FirstWrong}
use Rattle.reply_frame.proofs.read_reply.Goals as goal
use Rattle.reply_frame.proofs.Whole.{at_address, found, others_fit, put_together, tells, unique}
use Rattle.std.proofs.lemmas.List.{take_rest}
use Rattle.std.proofs.lemmas.Bool.{both_ways}

pub returns-then-not-is_shaped : goal.returns-then-not-is_shaped
returns-then-not-is_shaped c =
    let no = sym c.is_shaped.ensures ∙ c.if-not-is_shaped.true in
    record { reads = (inl (refl, no), refl); gives_back = λ a d r _. absurd (both_ways _ no (tells r).has_shape) }

pub returns-in-Some : goal.returns-in-Some
returns-in-Some c =
    let bytes : List ℕ = c.args.bytes.now in
    let yes = sym c.is_shaped.ensures ∙ c.if-not-is_shaped.false in
    let W : List ℕ → Type 0 = λ l. FirstWrong l c.in-Some.block in
    let wrong : FirstWrong (drop 2 bytes) c.in-Some.block = subst W (take_rest bytes 2) c.in-Some.ensures in
    record {
      reads = (inr (inl (c.in-Some.block, refl, yes, wrong)), refl);
      gives_back = λ a d r _. absurd (wrong.wrong ((tells r).right c.in-Some.block wrong.within));
    }

pub returns-then-payload-length : goal.returns-then-payload-length
returns-then-payload-length c =
    let yes = sym c.is_shaped.ensures ∙ c.if-not-is_shaped.false in
    let right : AllRight (drop 2 c.args.bytes.now) = subst AllRight (take_rest c.args.bytes.now 2) c.in_default.ensures in
    record {
      reads = (inr (inr (refl, yes, right, c.if-payload-length.true)), refl);
      gives_back = λ a d r room. absurd (omega (arith, c.if-payload-length.true, (tells r).count));
    }

pub take_bytes-requires : goal.take_bytes-requires
take_bytes-requires c =
    let bytes : List ℕ = c.args.bytes.now in
    let f = found bytes (sym c.is_shaped.ensures ∙ c.if-not-is_shaped.false) c.in_default.ensures c.type_inv.bytes in (
      drop 10 f.payload,
      take_rest bytes 18 ∙ f.others,
      others_fit f c.args.payload.now c.copy_from_slice.new.self c.if-payload-length.false c.copy_from_slice.ensures.after,
    )

pub returns : goal.returns
returns c =
    let bytes : List ℕ = c.args.bytes.now in
    let before : List ℕ = c.args.payload.now in
    let f = found bytes (sym c.is_shaped.ensures ∙ c.if-not-is_shaped.false) c.in_default.ensures c.type_inv.bytes in
    let address : get_or bytes 4 0 + 256 * get_or bytes 5 0 ≡ c.from_le_bytes-address.result = omega (arith, c.from_le_bytes-address.ensures) in
    let q = at_address f.replies address in
    let taken = c.take_bytes.ensures (drop 10 f.payload) (take_rest bytes 18 ∙ f.others) in
    let put = put_together f before c.copy_from_slice.new.self c.if-payload-length.false c.copy_from_slice.ensures.after c.take_bytes.new.out taken.1 in
    record {
      reads = (f.payload, q, sym f.count, omega (arith, f.count, c.if-payload-length.false), put);
      gives_back = λ a d r room.
          let u = unique q r in
          let same_address = u.0 in
          let same-payload = u.1 in
          let count = f.count in
          (cc, put ∙ ap (λ (l : List ℕ). l ++ drop (length l) before) same-payload);
    }
