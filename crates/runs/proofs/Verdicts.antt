-- The decision on a request, by whether the password tried is right.
use Rattle.std.proofs.Common.{◌≡◌, ℕ, Bool, true, false, cond, not, eqb, List, Some, None, Option, refl, ap, ◌∙◌}
use Rattle.access.specs.Decision.{index_past, own, right, right_for, unpermitted, unprepared}
use Rattle.access.specs.declared.Destination.{Destination}
use Rattle.access.specs.declared.Destination.TheVariants.{Own, Broadcast, Foreign}
use Rattle.converter.specs.Calls.{of_hearing}
use Rattle.converter.specs.Hearing.{Found, behind, carried, destination, in_row, judged, judged_for, result_by, ruled}
use Rattle.device.specs.Life.{Life}
use Rattle.device.specs.Rows.{held_for}
use Rattle.refusal.specs.Told.{Answer, granted, refused, used}
use Rattle.refusal.specs.declared.Company.TheVariants.{Alone}
use Rattle.request.specs.Asked.{Asked, asked}
use Rattle.request.specs.Rows.{checked, needs, tries}
use Rattle.request.specs.declared.rows.PasswordKind.{PasswordKind}
use Rattle.runs.proofs.Asked.{is_grant}
use Rattle.runs.specs.History.{used_by}
use Rattle.runs.specs.Passwords.{is_some, names, reached, right_by}
use Rattle.std.proofs.lemmas.Bool.{false≢true}

-- the verdict by its tests: what stands, what is permitted, the parameters, the index, the password
abbrev pub ranked : Bool → Bool → Bool → Bool → Bool → Answer Unit
ranked p q c i r =
    cond p (refused 6 Alone) (cond q (refused 7 Alone) (cond (not c) (refused 8 Alone) (cond i (refused 9 Alone) (cond r (granted tt) (refused 10 Alone)))))

-- whether no refusal before 10 applied
abbrev pub reaches : {T : Type 0} → Answer T → Bool
reaches (granted x) = true
reaches (refused n company) = eqb n 10

-- the used count that a decision brings
abbrev pub used_for : {T : Type 0} → Answer T → ℕ → ℕ → ℕ
used_for (granted x) line place = place
used_for (refused n company) line place = used n line place

-- where no refusal before 10 applied, the password is right just where the request is granted
ranked_shows : (a : Asked) (p q c i r : Bool) → reaches (ruled a (ranked p q c i r)) ≡ true → r ≡ is_grant (ruled a (ranked p q c i r))
ranked_shows a true q c i r e = absurd (false≢true e)
ranked_shows a false true c i r e = absurd (false≢true e)
ranked_shows a false false false i r e = absurd (false≢true e)
ranked_shows a false false true true r e = absurd (false≢true e)
ranked_shows a false false true false true e = refl
ranked_shows a false false true false false e = refl

-- the password counts only where no refusal before 10 applied
pub ranked_alike : (a : Asked) (p q c i r s : Bool) → (reaches (ruled a (ranked p q c i r)) ≡ true → r ≡ s) → ranked p q c i r ≡ ranked p q c i s
ranked_alike a true q c i r s h = refl
ranked_alike a false true c i r s h = refl
ranked_alike a false false false i r s h = refl
ranked_alike a false false true true r s h = refl
ranked_alike a false false true false true s h = ap (λ x. cond x (granted tt) (refused 10 Alone)) (h refl)
ranked_alike a false false true false false s h = ap (λ x. cond x (granted tt) (refused 10 Alone)) (h refl)

-- every verdict counts up to the place behind the frame
ranked_used : (a : Asked) (p q c i r : Bool) (line place : ℕ) → used_for (ruled a (ranked p q c i r)) line place ≡ place
ranked_used a true q c i r line place = refl
ranked_used a false true c i r line place = refl
ranked_used a false false false i r line place = refl
ranked_used a false false true true r line place = refl
ranked_used a false false true false true line place = refl
ranked_used a false false true false false line place = refl

-- in a row: where no refusal before 10 applied, the password is right just where the request is granted
row_shows : (l : Life) (o : Option Asked) → reaches (in_row l o) ≡ true → right_by l.cells o ≡ is_grant (in_row l o)
row_shows l None e = absurd (false≢true e)
row_shows l (Some a) e =
    ranked_shows a (unprepared l.access (needs a)) (unpermitted l.access (needs a)) (checked (own l.cells) a) (index_past (held_for l a) a)
    (right l.cells a) e

-- in a row: every decision counts up to the place behind the frame
row_used : (l : Life) (o : Option Asked) (line place : ℕ) → used_for (in_row l o) line place ≡ place
row_used l None line place = refl
row_used l (Some a) line place =
    ranked_used a (unprepared l.access (needs a)) (unpermitted l.access (needs a)) (checked (own l.cells) a) (index_past (held_for l a) a)
    (right l.cells a) line place

-- the password of a request that broadcast carries or not
carried_shows : (b : Bool) (l : Life) (o : Option Asked) → reaches (cond b (in_row l o) (refused 4 Alone)) ≡ true →
    right_by l.cells o ≡ is_grant (cond b (in_row l o) (refused 4 Alone))
carried_shows true l o e = row_shows l o e
carried_shows false l o e = absurd (false≢true e)

-- the count of a request that broadcast carries or not
carried_used : (b : Bool) (l : Life) (o : Option Asked) (line place : ℕ) → used_for (cond b (in_row l o) (refused 4 Alone)) line place ≡ place
carried_used true l o line place = row_used l o line place
carried_used false l o line place = refl

-- the password of a request for any destination
for_shows : (l : Life) (d : Destination) (command : ℕ) (ps : List ℕ) → reaches (judged_for l d command ps) ≡ true →
    right_by l.cells (asked command ps) ≡ is_grant (judged_for l d command ps)
for_shows l Foreign command ps e = absurd (false≢true e)
for_shows l Broadcast command ps e = carried_shows (carried command) l (asked command ps) e
for_shows l Own command ps e = row_shows l (asked command ps) e

-- the count of a request for any destination
for_used : (l : Life) (d : Destination) (command : ℕ) (ps : List ℕ) (line place : ℕ) → used_for (judged_for l d command ps) line place ≡ place
for_used l Foreign command ps line place = refl
for_used l Broadcast command ps line place = carried_used (carried command) l (asked command ps) line place
for_used l Own command ps line place = row_used l (asked command ps) line place

-- where no refusal before 10 applied to a request found, its password is right just where it is granted
pub judged_shows : (l : Life) (f : Found) → reaches (judged l f) ≡ true →
    right_by l.cells (asked f.command f.parameters) ≡ is_grant (judged l f)
judged_shows l f e = for_shows l (destination l f) f.command f.parameters e

-- the answer on a request found counts as the decision does
result_used : (l : Life) (line : ℕ) (f : Found) (j : Answer Asked) → used_by (of_hearing (result_by l line f j)) ≡ used_for j line (behind f)
result_used l line f (granted a) = refl
result_used l line f (refused n company) = refl

-- it is a grant or 10 where the decision is
pub result_reaches : (l : Life) (line : ℕ) (f : Found) (j : Answer Asked) → reached (of_hearing (result_by l line f j)) ≡ reaches j
result_reaches l line f (granted a) = refl
result_reaches l line f (refused n company) = refl

-- it is a grant where the decision is
pub result_grants : (l : Life) (line : ℕ) (f : Found) (j : Answer Asked) → is_grant (of_hearing (result_by l line f j)) ≡ is_grant j
result_grants l line f (granted a) = refl
result_grants l line f (refused n company) = refl

-- the answer on a request found counts up to the place behind its frame
pub judged_used : (l : Life) (line : ℕ) (f : Found) → used_by (of_hearing (result_by l line f (judged l f))) ≡ behind f
judged_used l line f =
    result_used l line f (judged l f) ∙ for_used l (destination l f) f.command f.parameters line (behind f)

-- where no password is named, it is right for all
tried_alike : (f g : ℕ → ℕ) (x : Option (PasswordKind × List ℕ)) → (is_some x ≡ true → right_for f x ≡ right_for g x) → right_for f x ≡ right_for g x
tried_alike f g None h = refl
tried_alike f g (Some tried) h = h refl

-- what is asked is right for both or wrong for both, if that holds where it names a password
pub right_alike : (f g : ℕ → ℕ) (o : Option Asked) → (names o ≡ true → right_by f o ≡ right_by g o) → right_by f o ≡ right_by g o
right_alike f g None h = refl
right_alike f g (Some a) h = tried_alike f g (tries a) h
