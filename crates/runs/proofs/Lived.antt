-- One call more of a run that the code makes.
use Rattle.std.proofs.Common.{◌≡◌, ℕ, ◌+◌, ◌<◌, List, [], ◌∷◌, ◌++◌, length, get_or, take, drop, set, sym, refl, ap, ◌∙◌, subst, arith, length-drop, length-set}
use Rattle.converter.specs.Calls.{Steps}
use Rattle.device.specs.Life.{Life}
use Rattle.records.specs.declared.Event.{Event}
use Rattle.records.specs.declared.PowerGap.{PowerGap}
use Rattle.runs.specs.History.{Ran, Turn}
use Rattle.runs.specs.Made.{Made, MadeAll, call_of, outcome_of, rest_of}
use Rattle.runs.specs.declared.Call.{Call as Order}
use Rattle.runs.specs.declared.Slot.{Slot}
use Rattle.std.proofs.lemmas.List.{drop-drop, drop-set-lt, drop_more, get_or-drop, length-take-le, take_more, take_more_set}

-- the newest turn of a history is what the last order made
made_last : (os : List Order) (bs cs : List Slot) (h : List Turn) (o : Order) (b c : Slot) (t : Turn) → length bs ≡ length os → length cs ≡ length os →
    MadeAll os bs cs h → Made o b c t → MadeAll (os ++ o ∷ []) (bs ++ b ∷ []) (cs ++ c ∷ []) (t ∷ h)
made_last [] [] [] h o b c t l k e m = (t, [], m, refl, ap (λ (x : List Turn). t ∷ x) e)
made_last [] (x ∷ bs) cs h o b c t l k e m = absurd (omega arith)
made_last [] [] (x ∷ cs) h o b c t l k e m = absurd (omega arith)
made_last (p ∷ os) [] cs h o b c t l k e m = absurd (omega arith)
made_last (p ∷ os) (x ∷ bs) [] h o b c t l k e m = absurd (omega arith)
made_last (p ∷ os) (x ∷ bs) (y ∷ cs) h o b c t l k (u, later, made, rest, e) m =
    (u, t ∷ later, made, made_last os bs cs later o b c t (omega arith) (omega arith) rest m, ap (λ (z : List Turn). t ∷ z) e)

-- the order at place i makes the turn t of the slot there
made_more : (os : List Order) (bs cs : List Slot) (i : ℕ) (h : List Turn) (d : Order) (e c : Slot) (t : Turn) → i < length os → i < length bs →
    length cs ≡ length bs → MadeAll (take i os) (take i bs) (take i cs) h → Made (get_or os i d) (get_or bs i e) c t →
    MadeAll (take (i + 1) os) (take (i + 1) bs) (take (i + 1) (set cs i c)) (t ∷ h)
made_more os bs cs i h d e c t p q same made m =
    let orders = take_more os i d p in
    let before = take_more bs i e q in
    let after = take_more_set cs i c (omega arith) in
    let long = length-take-le i os (omega arith) in
    let long' = length-take-le i bs (omega arith) in
    let long'' = length-take-le i cs (omega arith) in
    let all = made_last (take i os) (take i bs) (take i cs) h (get_or os i d) (get_or bs i e) c t (omega arith) (omega arith) made m in
    subst (λ (x : List Order). MadeAll x (take (i + 1) bs) (take (i + 1) (set cs i c)) (t ∷ h)) (sym orders)
    (subst (λ (x : List Slot). MadeAll (take i os ++ get_or os i d ∷ []) x (take (i + 1) (set cs i c)) (t ∷ h)) (sym before)
    (subst (λ (x : List Slot). MadeAll (take i os ++ get_or os i d ∷ []) (take i bs ++ get_or bs i e ∷ []) x (t ∷ h)) (sym after) all))

-- the slots from place i on are as they were
slot_there : (bs cs : List Slot) (i : ℕ) (e : Slot) → drop i cs ≡ drop i bs → get_or cs i e ≡ get_or bs i e
slot_there bs cs i e same =
    let at : i + 0 ≡ i = omega arith in
    ap (λ (k : ℕ). get_or cs k e) (sym at) ∙ sym (get_or-drop i cs 0 e) ∙ ap (λ (l : List Slot). get_or l 0 e) same ∙ get_or-drop i bs 0 e ∙ ap (λ (k : ℕ). get_or bs k e) at

later_slots : (bs cs : List Slot) (i : ℕ) (c : Slot) → drop i cs ≡ drop i bs → drop (i + 1) (set cs i c) ≡ drop (i + 1) bs
later_slots bs cs i c same =
    drop-set-lt (i + 1) cs i c (omega arith) ∙ sym (drop-drop 1 i cs) ∙ ap (drop 1) same ∙ drop-drop 1 i bs

-- the order that the rest of the orders begins with
at_head : (os rest : List Order) (i : ℕ) (o : Order) → drop i os ≡ o ∷ rest → (i < length os) × (get_or os i o ≡ o) × (rest ≡ drop (i + 1) os)
at_head os rest i o is =
    let within : i < length os = omega (arith, length-drop i os, ap length is) in
    let whole : get_or os i o ∷ drop (i + 1) os ≡ o ∷ rest = sym (drop_more os i o within) ∙ is in
    (within, cc, cc)

-- one call more
module _ (first here next : Life) (os rest : List Order) (bs cs : List Slot) (i : ℕ) (o : Order) (e c : Slot) (es : List Event) (gs : List PowerGap) where
  pub run_more : drop i os ≡ o ∷ rest → i < length bs → length cs ≡ length bs → drop i cs ≡ drop i bs →
      ((h : List Turn) × MadeAll (take i os) (take i bs) (take i cs) h × Ran first h here) →
      Steps here (call_of o (get_or cs i e)) (outcome_of o c es gs) next → rest_of o c ≡ rest_of o (get_or cs i e) →
      (i < length os) × (rest ≡ drop (i + 1) os) × (length (set cs i c) ≡ length bs) × (drop (i + 1) (set cs i c) ≡ drop (i + 1) bs)
      × ((h : List Turn) × MadeAll (take (i + 1) os) (take (i + 1) bs) (take (i + 1) (set cs i c)) h × Ran first h next)
  run_more ahead q same from (h, made, ran) step kept =
      let (p, head, later) = at_head os rest i o ahead in
      let there = slot_there bs cs i e from in
      let t : Turn = record { call = call_of o (get_or cs i e); came = outcome_of o c es gs } in
      let m : Made o (get_or bs i e) c t =
      record { call = ap (call_of o) there; result = refl; reply = refl; rest = kept ∙ ap (rest_of o) there } in
      let m' = subst (λ (x : Order). Made x (get_or bs i e) c t) (sym head) m in
      (p, later, length-set cs i c ∙ same, later_slots bs cs i c from, (t ∷ h, made_more os bs cs i h o e c t p q same made m', (here, ran, step)))
