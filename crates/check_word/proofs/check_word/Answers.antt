use Rattle.std.proofs.Common.{◌≡◌, ℕ, ◌-◌, List, [], ◌∷◌, refl, ap, ◌∙◌, rules}
use Rattle.std.specs.List.{fold}
use Rattle.check_word.specs.CheckWord.{after, byte_in, check_word}
use Rattle.check_word.proofs.check_word.Goals as goal

after_folds : (register : ℕ) (bytes : List ℕ) → fold byte_in register bytes ≡ after register bytes
unfolding after
after_folds register [] = refl
after_folds register (byte ∷ bytes) = after_folds (byte_in register byte) bytes

pub returns : goal.returns
unfolding check_word
returns c =
    let folded : c.fold.result ≡ fold byte_in 0 c.args.bytes.now = search rules in
    ap (λ (n : ℕ). 65535 - n) (folded ∙ after_folds 0 c.args.bytes.now)
