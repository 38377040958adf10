use Rattle.std.proofs.Common.{◌≡◌, ℕ, List, replicate, Decides, ap, subst}
use Rattle.checklist.proofs.answers.is_untouched.Goals as goal
use Rattle.runs.specs.declared.Slot.{Slot}
use Rattle.std.proofs.lemmas.Slice.Eq.{slice_eq-Decides}
use Rattle.std.proofs.lemmas.Bool.Decides.{Decides-eqb}

pub returns : goal.returns
returns c =
    let blank : c.blank.result.reply ≡ replicate 295 0xEE = ap (λ (s : Slot). s.reply) c.blank.ensures in
    subst (λ (m : List ℕ). Decides c.eq.result (c.args.memory.now ≡ m)) blank (slice_eq-Decides Decides-eqb _ _ _ c.eq.ensures)
