-- The decision on a request in its row.
use Rattle.std.proofs.Common.{◌≡◌, Ok, Err, Result, IfOk, sym, refl, ap, ◌∙◌}
use Rattle.access.specs.Decision.{afterwards, bare, kind_asked, stepped}
use Rattle.access.specs.declared.Access.{Access}
use Rattle.converter.specs.Hearing.{ruled, standing}
use Rattle.converter.specs.Told.{judgement, requested}
use Rattle.refusal.specs.Told.{Answer, answer, granted}
use Rattle.refusal.specs.declared.Refusal.{Refusal}
use Rattle.request.specs.Asked.{command_of, meant}
use Rattle.request.specs.declared.checked.Checked.{Checked}
use Rattle.request.specs.declared.checked.Row.{Row}

-- a decision on a request, where the request that is granted is the one decided on
module _ (row : Row) where
  pub ruled_as : (r : Result Checked Refusal) (v : Answer Unit) → bare (answer r) ≡ v → IfOk r (λ c. c.row ≡ row) →
      judgement (requested r) ≡ ruled (meant row.request) v
  ruled_as (Ok c) v told same = ap (λ (x : Row). granted (meant x.request)) same ∙ ap (ruled (meant row.request)) told
  ruled_as (Err e) v told same = ap (ruled (meant row.request)) told

  pub stands_as : (r : Result Checked Refusal) (access : Access) → IfOk r (λ c. c.row ≡ row) →
      afterwards (answer r) access (meant row.request) ≡ standing (judgement (requested r)) access
  stands_as (Ok c) access same = ap (λ (x : Row). stepped access (command_of (meant x.request)) (kind_asked (meant x.request))) (sym same)
  stands_as (Err e) access same = refl
