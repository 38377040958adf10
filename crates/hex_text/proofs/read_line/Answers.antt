use Rattle.std.proofs.Common.{◌≡◌, ℕ, ◌+◌, ◌*◌, List, [], ◌∷◌, ◌++◌, length, Err, vec_items, sym, refl, ap, ◌∙◌, append-nil, arith}
use Rattle.hex_text.specs.declared.Fault.TheVariants.{HalfPair}
use Rattle.hex_text.specs.Text.{says}
use Rattle.hex_text.proofs.read_line.Goals as goal
use Rattle.hex_text.proofs.read_line.Goals.{in-None+in-Blank, in-None+in-Digit, in-Some+in-Digit-classify+in_ok-push-in-Some}
use Rattle.hex_text.proofs.Steps.{after_none, at_end, at_high, bad, commented, half, one_more}

pub returns-in-Comment : goal.returns-in-Comment
returns-in-Comment c =
    commented (at_high c.loop-i.invariant (sym c.in-None.ensures.value)) c.loop-i-test.true c.in-Comment.ensures.value refl

pub returns-in-Other : goal.returns-in-Other
returns-in-Other c = bad (at_high c.loop-i.invariant (sym c.in-None.ensures.value)) c.loop-i-test.true c.in-Other.ensures.value refl

pub returns-in_default : goal.returns-in_default
returns-in_default c =
    bad (at_high c.loop-i.invariant (sym c.in-Some.ensures.value)) c.loop-i-test.true c.classify-in-Some.ensures.value
    (half c.args.text.now c.loop-i.i c.in-Some.first c.classify-in-Some.result c.in_default.not-Digit)

pub loop-i-preserved : goal.loop-i-preserved
loop-i-preserved c =
    let items = vec_items c.loop-i.out in
    elim c.match-take.branch [
      | in-None+in-Blank w ↦
          at_high
          (one_more (at_high c.loop-i.invariant (sym w.in-None.ensures.value)) [] c.loop-i-test.true w.in-Blank.ensures.value
          (after_none _) (ap vec_items w.out-is ∙ sym (append-nil items)) tt)
          (sym c.take.ensures.after ∙ sym w.high-is)
      | in-None+in-Digit w ↦
          at_high
          (one_more (at_high c.loop-i.invariant (sym w.in-None.ensures.value)) [] c.loop-i-test.true w.in-Digit.ensures.value
          (after_none _) (ap vec_items w.out-is ∙ sym (append-nil items)) w.in-Digit.ensures.bound)
          (sym w.high-is)
      | in-Some+in-Digit-classify+in_ok-push-in-Some w ↦
          at_high
          (one_more (at_high c.loop-i.invariant (sym w.in-Some.ensures.value)) ((16 * w.in-Some.first + w.in-Digit-classify.second) ∷ [])
          c.loop-i-test.true w.in-Digit-classify.ensures.value refl (ap vec_items w.out-is ∙ w.in_ok-push-in-Some.ensures.items) tt)
          (sym c.take.ensures.after ∙ sym w.high-is)
    ]

pub returns-in-None-high : goal.returns-in-None-high
unfolding says
returns-in-None-high c =
    let so_far = at_high c.loop-i.invariant c.in-None-high.is in
    (so_far.done ++ [], at_end so_far c.loop-i-test.false, so_far.put ∙ ap (λ (l : List ℕ). vec_items c.args.out.now ++ l) (sym (append-nil so_far.done)))

pub returns-in-Some-high : goal.returns-in-Some-high
unfolding says
returns-in-Some-high c =
    let so_far = at_high c.loop-i.invariant c.in-Some-high.is in
    let end : c.loop-i.i ≡ length c.args.text.now = omega arith in
    (at_end so_far c.loop-i-test.false ∙ ap (λ (n : ℕ). Err (HalfPair (n + 1))) end, (so_far.done, so_far.put))
