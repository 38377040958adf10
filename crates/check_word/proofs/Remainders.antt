-- The rule of the remainder table, at every entry, from one test over the whole table.
use Rattle.std.proofs.Common.{◌≡◌, ℕ, ◌<◌, true, eqb, List, get_or, refl}
use Rattle.check_word.specs.CheckWord.{byte_in, holds}
use Rattle.std.proofs.lemmas.Bool.Decides.{Decides-below_and, Decides-eqb}

pub rule : (table : List ℕ) (n : ℕ) → holds table n ≡ true → (k : ℕ) → k < n → get_or table k 0 ≡ byte_in 0 k
unfolding holds
rule table n test =
    (Decides-below_and (λ k. eqb (get_or table k 0) (byte_in 0 k)) (λ k. get_or table k 0 ≡ byte_in 0 k) (holds table)
    (λ k. Decides-eqb (get_or table k 0) (byte_in 0 k)) refl (λ _. refl) n).0 test
