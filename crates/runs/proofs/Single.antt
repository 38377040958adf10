-- A line has one first valid request: what is found in it is found alone.
use Rattle.std.proofs.Common.{◌≡◌, ℕ, List, Some, None, Option, sym, refl, ap, subst, ⊎_elim}
use Rattle.converter.specs.Hearing.{Finds, Found}
use Rattle.request_frame.proofs.Frame.{reads_as}
use Rattle.request_frame.specs.Requests.{Requests, Valid, window}
use Rattle.std.proofs.lemmas.Bool.{cases_order}

-- a request found is valid at its place
valid : (line : List ℕ) (f : Found) → Finds line (Some f) → Valid (window line f.place)
valid line f finds = (f.address, f.command, f.parameters, finds.0)

-- two requests found at one place have the same fields
same_place : (line : List ℕ) (f g : Found) → Finds line (Some f) → Finds line (Some g) → f.place ≡ g.place → f ≡ g
same_place line f g at_f at_g e =
    let there : Requests (window line f.place) g.address g.command g.parameters =
    subst (λ (k : ℕ). Requests (window line k) g.address g.command g.parameters) (sym e) at_g.0 in
    let same = (reads_as (window line f.place) f.address f.command f.parameters at_f.0).alone g.address g.command g.parameters there in
    λ i. record { place = e i; address = sym same.0 i; command = sym same.1 i; parameters = sym same.2 i }

-- two first requests are one: neither begins before the other
both_first : (line : List ℕ) (f g : Found) → Finds line (Some f) → Finds line (Some g) → f ≡ g
both_first line f g at_f at_g =
    ⊎_elim (λ e. same_place line f g at_f at_g e)
    (λ o. absurd (⊎_elim (λ before. at_g.1 f.place before (valid line f at_f)) (λ before. at_f.1 g.place before (valid line g at_g)) o))
    (cases_order f.place g.place)

-- what is found in a line is found alone
pub finds_unique : (line : List ℕ) (x y : Option Found) → Finds line x → Finds line y → x ≡ y
finds_unique line None None none also = refl
finds_unique line None (Some g) none at_g = absurd (none g.place (valid line g at_g))
finds_unique line (Some f) None at_f none = absurd (none f.place (valid line f at_f))
finds_unique line (Some f) (Some g) at_f at_g = ap Some (both_first line f g at_f at_g)
