-- Hearing, put together: the room, the request found, the decision, the deed and the reply.
use Rattle.std.proofs.Common.{◌≡◌, ℕ, ◌≤◌, Bool, true, false, not, ◌||◌, ltb, List, length, take, Some, Option, Ok, Err, Result, MatchResult, sym, refl, ap, ◌∙◌, subst, ap₂, arith}
use Rattle.access.specs.declared.Access.{Access}
use Rattle.access.specs.declared.Destination.{Destination}
use Rattle.converter.specs.Calls.{Hears, heard, no_room, of_hearing, outcome}
use Rattle.converter.specs.Hearing.{Finds, Found, Hearing, behind, destination, judged, judged_for, life_after, moved_by, replied, reply_by, reply_length, reply_to, result_by, result_to, standing_for, with_access}
use Rattle.converter.specs.Told.{hearing, judgement, requested}
use Rattle.converter.specs.declared.Unheard.{Unheard}
use Rattle.device.specs.Life.{Life}
use Rattle.device.specs.Rows.{data_of, obeyed}
use Rattle.refusal.specs.Told.{Answer, company, granted, number, refused, used}
use Rattle.refusal.specs.declared.Company.{Company}
use Rattle.refusal.specs.declared.Company.TheVariants.{Used}
use Rattle.request.specs.Asked.{Asked, prepare}
use Rattle.request.specs.declared.checked.Checked.{Checked}
use Rattle.refusal.specs.declared.Refusal.{Refusal}
use Rattle.std.proofs.lemmas.List.{take_all}
use Rattle.std.proofs.lemmas.Bool.Decides.{nat_tests}

-- all of a memory lent is its length
lent : {K : Type 0} (memory : List K) → length (take (length memory) memory) ≡ length memory
lent memory = ap length (take_all (length memory) memory (omega arith))

pub room_lent : (l : Life) (reply : List ℕ) (r : Bool) →
    not r ≡ (ltb (length reply) 295 || (ltb (length l.events.memory) l.events.volume || ltb (length l.gaps.memory) l.gaps.volume)) →
    no_room l reply (length l.events.memory) (length l.gaps.memory) ≡ not r
room_lent l reply r e =
    ap₂ (λ (a b : ℕ). ltb (length reply) 295 || (ltb a l.events.volume || ltb b l.gaps.volume)) (lent l.events.memory) (lent l.gaps.memory) ∙ sym e

-- the data do not hang on what stands
data_same : (l : Life) (access : Access) (a : Asked) → data_of (with_access l access) a ≡ data_of l a
data_same l access (prepare key) = refl
data_same l access _ = refl

module _ (l : Life) (line reply : List ℕ) (b : Bool) (no : b ≡ false) where
  hears : (m : Life) (found : Option Found) (r : Answer Hearing) (after : List ℕ) → Finds line found → r ≡ result_to l (length line) found →
      after ≡ reply_to l found reply → m ≡ life_after l found → Hears b l line reply (outcome m (of_hearing r) after) m
  hears m found r after finds e_r e_reply e_m =
      subst (λ x. Hears x l line reply (outcome m (of_hearing r) after) m) (sym no)
      (found, finds, ap₂ (λ x y. outcome m (of_hearing x) y) e_r e_reply, e_m)

  module _ (f : Found) (finds : Finds line (Some f)) (d : Destination) (to : d ≡ destination l f) where
    decided : (j : Answer Asked) → j ≡ judged_for l d f.command f.parameters → j ≡ judged l f
    decided j e = e ∙ ap (λ x. judged_for l x f.command f.parameters) to

    hears_refused : (m : Life) (n : ℕ) (co : Company) (r : Answer Hearing) → refused n co ≡ judged_for l d f.command f.parameters →
        r ≡ refused n (Used (used n (length line) (behind f))) → m ≡ with_access l (standing_for d (refused n co) l.access) →
        Hears b l line reply (outcome m (of_hearing r) reply) m
    hears_refused m n co r j e_r e_m =
        let is = decided (refused n co) j in
        hears m (Some f) r reply finds (e_r ∙ ap (result_by l (length line) f) is) (ap (λ x. reply_by l f x reply) is)
        (e_m ∙ ap₂ (λ x y. moved_by l x y) to is)

    pub hears_err : (m : Life) (r : Result Checked Refusal) (u : Unheard) →
        MatchResult r (λ x. ⊥) (λ e. u ≡ record { refusal = e; company = Used (used (number e) (length line) (behind f)) }) →
        judgement (requested r) ≡ judged_for l d f.command f.parameters → m ≡ with_access l (standing_for d (judgement (requested r)) l.access) →
        Hears b l line reply (outcome m (of_hearing (hearing (Err u))) reply) m
    hears_err m (Ok x) u never told moves = absurd never
    hears_err m (Err e) u is told moves = hears_refused m (number e) (company e) (hearing (Err u)) told (ap (λ x. hearing (Err x)) is) moves

    pub hears_granted : (k m : Life) (a : Asked) (n : ℕ) (after : List ℕ) → granted a ≡ judged_for l d f.command f.parameters →
        k ≡ with_access l (standing_for d (granted a) l.access) → m ≡ obeyed k a → n ≡ reply_length d (data_of k a) →
        after ≡ replied d f.address (data_of k a) reply →
        Hears b l line reply (outcome m (granted (heard (record { used = behind f; reply = n }))) after) m
    hears_granted k m a n after j e_k e_m e_n e_after =
        let is = decided (granted a) j in
        let same : data_of k a ≡ data_of l a = ap (λ x. data_of x a) e_k ∙ data_same l (standing_for d (granted a) l.access) a in
        hears m (Some f) (granted (record { used = behind f; reply = n })) after finds
        (ap (λ (x : ℕ). granted (record { used = behind f; reply = x })) (e_n ∙ ap₂ reply_length to same) ∙ ap (result_by l (length line) f) is)
        (e_after ∙ ap₂ (λ x y. replied x f.address y reply) to same ∙ ap (λ x. reply_by l f x reply) is)
        (e_m ∙ ap (λ x. obeyed x a) e_k ∙ ap₂ (λ x y. moved_by l x y) to is)

-- what is tested before hearing
pub tested : (r : Bool) (x a b v w : ℕ) → not r ≡ (ltb x 295 || (ltb a v || ltb b w)) → r ≡ true → (295 ≤ x) × (v ≤ a) × (w ≤ b)
tested r x a b v w e t =
    let none : (ltb x 295 || (ltb a v || ltb b w)) ≡ false = sym e ∙ ap not t in
    (grind (arith, nat_tests), grind (arith, nat_tests), grind (arith, nat_tests))
