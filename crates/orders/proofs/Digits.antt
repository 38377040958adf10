-- What holds from digit to digit while a number is read.
use Rattle.std.proofs.Common.{◌≡◌, ℕ, ◌+◌, ◌*◌, ◌≤◌, List, [], ◌∷◌, Some, None, Option, MatchOption, sym, refl, ◌∙◌, ap, subst, arith}
use denote.Param.Members.{Mut}
use denote.Ref.{Bor}
use Rattle.hex_text.specs.Text.{mark_of}
use Rattle.orders.specs.Numbers.{Within, digit_of, number_of, onward, worth}
use Rattle.std.proofs.lemmas.Iterator.{YieldsList}
use Rattle.std.specs.ControlFlow.{continue_value}
use Rattle.std.specs.Fn.{Called}
use Rattle.std.specs.Iterator.{AlwaysYields, TryFoldTurn, TryFoldsItems, YieldsThen}
use Rattle.std.specs.List.{FoldsTo}
use Rattle.std.specs.declared.ops.ControlFlow.{ControlFlow}
use Rattle.std.specs.declared.ops.ControlFlow.TheVariants.{Break, Continue}

worth_next : (base before c : ℕ) (text : List ℕ) →
    worth base before (c ∷ text) ≡ onward (digit_of base (mark_of c)) (λ d. worth base (before * base + d) text)
unfolding worth
worth_next base before c text = refl

worth_end : (base before : ℕ) → worth base before [] ≡ Some before
unfolding worth
worth_end base before = refl

at_least : (base before d : ℕ) → 1 ≤ base → before ≤ before * base + d
at_least base before d h = grind arith

grows_on : (before n : ℕ) (o : Option ℕ) (behind : ℕ → Option ℕ) → ((d : ℕ) → behind d ≡ Some n → before ≤ n) → onward o behind ≡ Some n → before ≤ n
grows_on before n None behind all e = cc
grows_on before n (Some d) behind all e = all d e

-- Digits behind others make no smaller number.
pub grows : (base : ℕ) → 1 ≤ base → (text : List ℕ) (before n : ℕ) → worth base before text ≡ Some n → before ≤ n
grows base h [] before n e = let is : before ≡ n = cc (worth_end base before) in omega arith
grows base h (c ∷ text) before n e =
    grows_on before n (digit_of base (mark_of c)) (λ d. worth base (before * base + d) text)
    (λ d e'. let more = grows base h text (before * base + d) n e' in
    let least = at_least base before d h in
    omega (arith, more, least))
    (sym (worth_next base before c text) ∙ e)

-- what a value is with one digit more behind it
abbrev pub next : ℕ → ℕ → ℕ → Option ℕ
next base before c = onward (digit_of base (mark_of c)) (λ d. Some (before * base + d))

goes_on : (before base value : ℕ) (o : Option ℕ) (behind : ℕ → Option ℕ) → onward o (λ d. Some (before * base + d)) ≡ Some value →
    onward o (λ d. behind (before * base + d)) ≡ behind value
goes_on before base value None behind e = cc
goes_on before base value (Some d) behind e = let same : before * base + d ≡ value = cc in ap behind same

breaks_off : (before base greatest n : ℕ) (o : Option ℕ) (behind : ℕ → Option ℕ) → Within greatest (onward o (λ d. Some (before * base + d))) None →
    ((v : ℕ) → behind v ≡ Some n → v ≤ n) → onward o (λ d. behind (before * base + d)) ≡ Some n → n ≤ greatest → ⊥
breaks_off before base greatest n None behind over all e le = cc
breaks_off before base greatest n (Some d) behind over all e le =
    let more = all (before * base + d) e in over (before * base + d) refl (omega (arith, more, le))

-- Digits that `try_fold` takes one by one, each to the next value, up to one that is no digit or makes too much.
module _ {S F : Type 0} (E : Type 0) (steps : S → Option (Bor ℕ) → S → Type 0) {g : Mut F (ℕ × (Bor ℕ × Unit {0})) (Option ℕ)} {f : F}
    (base greatest : ℕ) (some : 1 ≤ base)
    (told : (b : ℕ) (x : Bor ℕ) (v : Option ℕ) (f' : F) → Called g f (b, (x, tt)) v f' → (f' ≡ f) × Within greatest (next base b x.now) v) where
  abbrev goes : Option ℕ → ControlFlow E ℕ → Type 0
  goes v r = v ≡ continue_value r

  abbrev Ends : Option (Bor ℕ) → F × ℕ → Option ℕ → Type 0
  Ends o q r = MatchOption o (goes r (Continue q.1))
      (λ x. (v : Option ℕ) × (h : F) × (e : E) × Called g q.0 (q.1, (x, tt)) v h × goes v (Break e) × (r ≡ None))

  at_end : (o : Option (Bor ℕ)) (text : List ℕ) (s u : S) (a : ℕ) (r : Option ℕ) → a ≤ greatest → AlwaysYields steps (λ y. y.now) s text →
      steps s o u → Ends o (f, a) r → Within greatest (worth base a text) r
  at_end None [] s u a r le all last ends = subst (Within greatest (worth base a [])) (sym ends) (worth_end base a, le)
  at_end None (y ∷ text) s u a r le all last ends = absurd (all.0 u last)
  at_end (Some x) [] s u a r le all last ends = absurd (all x u last)
  at_end (Some x) (y ∷ text) s u a r le all last (v, h, e, called, off, left) =
      let here = subst (λ c. Within greatest (next base a c) None) (all.1 x u last).0 (subst (Within greatest (next base a x.now)) off (told a x v h called).1) in
      subst (Within greatest (worth base a (y ∷ text))) (sym left)
      (λ n is below. breaks_off a base greatest n (digit_of base (mark_of y)) (λ w. worth base w text) here (λ w. grows base some text w n)
      (sym (worth_next base a y text) ∙ is) below)

  along : (xs : List (Bor ℕ)) (o : Option (Bor ℕ)) (text : List ℕ) (s u : S) (b : ℕ) (q : F × ℕ) (r : Option ℕ) → b ≤ greatest →
      AlwaysYields steps (λ y. y.now) s text → YieldsThen steps s xs o u → FoldsTo (TryFoldTurn g goes) (f, b) xs q → Ends o q r →
      Within greatest (worth base b text) r
  along [] o text s u b q r le all y c ends =
      at_end o text s u b r le all (subst (λ t. steps t o u) (sym y.1) y.2) (subst (λ p. Ends o p r) (sym c) ends)
  along (x ∷ xs) o [] s u b q r le all y c ends = absurd (all x y.1.0 y.1.1)
  along (x ∷ xs) o (z ∷ text) s u b q r le all y c ends =
      let one = told b x c.1.0 c.0.0 c.1.1 in
      let came = all.1 x y.1.0 y.1.1 in
      let within = subst (λ n. Within greatest (next base b n) (Some c.0.1)) came.0 (subst (Within greatest (next base b x.now)) c.1.2 one.1) in
      let rest = subst (λ (p : F × ℕ). FoldsTo (TryFoldTurn g goes) p xs q) {x = c.0} {y = (f, c.0.1)} (λ i. (one.0 i, c.0.1)) c.2 in
      subst (λ n. Within greatest n r)
      (sym (worth_next base b z text ∙ goes_on b base c.0.1 (digit_of base (mark_of z)) (λ w. worth base w text) within.0))
      (along xs o text y.1.0 u c.0.1 q r within.1 came.1 (y.0, y.1.2, y.2) rest ends)

  pub read : (text : List ℕ) (s u : S) (r : Option ℕ) → TryFoldsItems steps g goes (λ _ v. v ≡ None) s f 0 r u →
      YieldsList steps (λ y. y.now) s text → Within greatest (worth base 0 text) r
  read text s u r d all = along d.0 d.1 text s u 0 (d.2, d.3) r (omega arith) all.runs d.4 d.5 d.6

-- 0x with nothing behind it is no number.
pub nothing_behind : (v : ℕ) → number_of (48 ∷ 120 ∷ []) ≡ Some v → ⊥
unfolding worth
nothing_behind v e = cc
