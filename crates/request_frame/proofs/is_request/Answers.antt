use Rattle.std.proofs.Common.{◌≡◌, ℕ, ◌-◌, Bool, true, false, List, length, take, drop, Decides, sym, ap, ◌∙◌, subst, arith, rules}
use Rattle.request_frame.specs.Requests.{Valid, headed}
use Rattle.request_frame.proofs.Frame.{decides, headed_by, not_headed, not_long}
use Rattle.request_frame.proofs.is_request.Goals as goal
use Rattle.request_frame.proofs.is_request.Goals.{then-frame-eq-REQUEST_BYTES, else-frame-eq-REQUEST_BYTES}
use Rattle.std.proofs.lemmas.Bool.{eqb-true}

pub returns-then-starts_with : goal.returns-then-starts_with
returns-then-starts_with c =
    let frame : List ℕ = c.args.frame.now in
    elim c.if-frame-eq-REQUEST_BYTES.branch [
      | then-frame-eq-REQUEST_BYTES w ↦
          let long = w.if-frame-eq-REQUEST_BYTES.true in
          let head : headed frame ≡ true =
          sym (headed_by frame (omega arith)) ∙ sym w.starts_with.ensures.value ∙ sym w.value-is ∙ c.if-starts_with.true in
          let rest : length frame - 2 ≡ 16 = omega arith in
          decides frame _ c.is_block.result long head (ap (λ (n : ℕ). take n (drop 2 frame)) rest) c.is_block.ensures
          (search rules) (search rules)
      | else-frame-eq-REQUEST_BYTES w ↦
          absurd (w.if-frame-eq-REQUEST_BYTES.false (eqb-true _ _ (sym w.value-is ∙ c.if-starts_with.true)))
    ]

pub returns-else-starts_with : goal.returns-else-starts_with
returns-else-starts_with c =
    let frame : List ℕ = c.args.frame.now in
    let D : Bool → Type 0 = λ b. Decides b (Valid frame) in
    elim c.if-frame-eq-REQUEST_BYTES.branch [
      | then-frame-eq-REQUEST_BYTES w ↦
          let long = w.if-frame-eq-REQUEST_BYTES.true in
          let head : headed frame ≡ false =
          sym (headed_by frame (omega arith)) ∙ sym w.starts_with.ensures.value ∙ sym w.value-is ∙ c.if-starts_with.false in
          subst D (sym c.if-starts_with.false) (not_headed frame head)
      | else-frame-eq-REQUEST_BYTES w ↦ subst D (sym c.if-starts_with.false) (not_long frame w.if-frame-eq-REQUEST_BYTES.false)
    ]
