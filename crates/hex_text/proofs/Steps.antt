-- What holds from character to character while a text is read.
use Rattle.std.proofs.Common.{◌≡◌, ℕ, ◌+◌, ◌<◌, ◌≤◌, List, [], ◌∷◌, ◌++◌, length, get_or, drop, IfSome, Some, None, Ok, Err, Option, Result, sym, refl, ap, ◌∙◌, subst, append_assoc, append-nil}
use Rattle.hex_text.specs.declared.Fault.{Fault}
use Rattle.hex_text.specs.declared.Fault.TheVariants.{HalfPair}
use Rattle.hex_text.specs.declared.Mark.{Mark}
use Rattle.hex_text.specs.declared.Mark.TheVariants.{Blank, Comment, Digit, Other}
use Rattle.hex_text.specs.Text.{after, mark_of, next, says}
use Rattle.std.proofs.lemmas.List.{at_drop_all, at_drop_more}

pub record Sofar (text old : List ℕ) (high : Option ℕ) (i : ℕ) (items : List ℕ) : Type 0 where
  pub done : List ℕ
  pub put : items ≡ old ++ done
  pub rest : says None 1 text ≡ after done (says high (i + 1) (drop i text))
  pub small : IfSome high (λ h. h < 16)

pub after_none : (o : Result (List ℕ) Fault) → o ≡ after [] o
after_none (Ok bytes) = refl
after_none (Err fault) = refl

after_after : (a b : List ℕ) (o : Result (List ℕ) Fault) → after a (after b o) ≡ after (a ++ b) o
after_after a b (Ok bytes) = ap Ok (sym (append_assoc a b bytes))
after_after a b (Err fault) = refl

says_next : (high : Option ℕ) (column c : ℕ) (text : List ℕ) →
    says high column (c ∷ text) ≡ next high column (mark_of c) (says None (column + 1) text) (λ d. says (Some d) (column + 1) text)
unfolding says
says_next None column c text = refl
says_next (Some high) column c text = refl

-- what the character at place i, marked m, makes of the text behind it
abbrev pub onward : List ℕ → ℕ → Option ℕ → Mark → Result (List ℕ) Fault
onward text i high m = next high (i + 1) m (says None (i + 1 + 1) (drop (i + 1) text)) (λ d. says (Some d) (i + 1 + 1) (drop (i + 1) text))

-- what is no digit leaves half a pair
pub half : (text : List ℕ) (i high : ℕ) (m : Mark) → ((d : ℕ) → m ≡ Digit d → ⊥) → onward text i (Some high) m ≡ Err (HalfPair (i + 1))
half text i high Blank none = refl
half text i high Comment none = refl
half text i high (Digit d) none = absurd (none d refl)
half text i high Other none = refl

module _ {text old items : List ℕ} {high : Option ℕ} {i : ℕ} (so_far : Sofar text old high i items) where
  marked : {m : Mark} → i < length text → m ≡ mark_of (get_or text i 0) → says None 1 text ≡ after so_far.done (onward text i high m)
  marked {m} h e =
      so_far.rest
      ∙ ap (after so_far.done)
      (at_drop_more (says high (i + 1)) text i 0 h ∙ says_next high (i + 1) (get_or text i 0) (drop (i + 1) text) ∙ ap (onward text i high) (sym e))

  pub bad : {m : Mark} {fault : Fault} → i < length text → m ≡ mark_of (get_or text i 0) → onward text i high m ≡ Err fault →
      (says None 1 text ≡ Err fault) × ((bytes : List ℕ) × (items ≡ old ++ bytes))
  bad h e none = (marked h e ∙ ap (after so_far.done) none, (so_far.done, so_far.put))

  pub commented : {m : Mark} → i < length text → m ≡ mark_of (get_or text i 0) → onward text i high m ≡ Ok [] →
      (bytes : List ℕ) × (says None 1 text ≡ Ok bytes) × (items ≡ old ++ bytes)
  commented h e some = (
    so_far.done ++ [],
    marked h e ∙ ap (after so_far.done) some,
    so_far.put ∙ ap (λ (l : List ℕ). old ++ l) (sym (append-nil so_far.done)),
  )

  pub one_more : {m : Mark} {high' : Option ℕ} {items' : List ℕ} (more : List ℕ) → i < length text → m ≡ mark_of (get_or text i 0) →
      onward text i high m ≡ after more (says high' (i + 1 + 1) (drop (i + 1) text)) → items' ≡ items ++ more → IfSome high' (λ d. d < 16) →
      Sofar text old high' (i + 1) items'
  one_more {high' = high'} more h e is put small =
      record {
        done = so_far.done ++ more;
        put = put ∙ ap (λ (l : List ℕ). l ++ more) so_far.put ∙ append_assoc old so_far.done more;
        rest = marked h e ∙ ap (after so_far.done) is ∙ after_after so_far.done more (says high' (i + 1 + 1) (drop (i + 1) text));
        small = small;
      }

  pub at_end : length text ≤ i → says None 1 text ≡ after so_far.done (says high (i + 1) [])
  at_end h = so_far.rest ∙ ap (after so_far.done) (at_drop_all (says high (i + 1)) text i h)

pub at_high : {text old items : List ℕ} {high high' : Option ℕ} {i : ℕ} → Sofar text old high i items → high ≡ high' → Sofar text old high' i items
at_high {text} {old} {items} {i = i} so_far e = let S : Option ℕ → Type 0 = λ o. Sofar text old o i items in subst S e so_far
