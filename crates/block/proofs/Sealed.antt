-- Laws of a block: its length, its parts, and the test that tells it.
use Rattle.std.proofs.Common.{◌≡◌, ℕ, ◌+◌, ◌*◌, ◌/◌, ◌%◌, ◌<◌, false, eqb, List, [], ◌∷◌, ◌++◌, length, get_or, take, drop, Decides, sym, ap, ◌∙◌, append_assoc, arith, length-append}
use borrow.Rule.Slice.PartMut.{put_mid}
use Rattle.block.specs.Block.{Block, sealed}
use Rattle.check_word.specs.CheckWord.{check_word}
use Rattle.block.proofs.Placed.{same_cut}
use Rattle.std.proofs.lemmas.List.{drop_at, drop-drop, get_or_append_left, take_at}
use Rattle.std.proofs.lemmas.Bool.{eq-eqb, eqb-true, false≢true}

pub length-sealed : (bytes : List ℕ) → length (sealed bytes) ≡ length bytes + 2
unfolding sealed
length-sealed bytes = simp length-append

-- the bytes that a block covers are its first ones
pub front : (bytes : List ℕ) (n : ℕ) → length bytes ≡ n → take n (sealed bytes) ≡ bytes
unfolding sealed
front bytes n long = take_at bytes (check_word bytes / 256 ∷ check_word bytes % 256 ∷ []) n long

pub slice_index-sealed : (bytes : List ℕ) (i : ℕ) → i < length bytes → get_or (sealed bytes) i 0 ≡ get_or bytes i 0
unfolding sealed
slice_index-sealed bytes i h = get_or_append_left bytes (check_word bytes / 256 ∷ check_word bytes % 256 ∷ []) 0 i h

-- bytes with two more behind them are a block exactly where those two are the check word's
pub decides : (bytes covered told : List ℕ) (n word : ℕ) → bytes ≡ covered ++ told → length told ≡ 2 → get_or told 1 0 < 256 →
    n ≡ get_or told 0 0 * 256 + get_or told 1 0 → word ≡ check_word covered → Decides (eqb n word) (Block bytes)
unfolding sealed
decides bytes covered [] n word is long small n_is word_is = absurd (omega arith)
decides bytes covered (h ∷ []) n word is long small n_is word_is = absurd (omega arith)
decides bytes covered (h ∷ l ∷ a ∷ rest) n word is long small n_is word_is = absurd (omega arith)
decides bytes covered (h ∷ l ∷ []) n word is long small n_is word_is = (
  (λ t.
      let same : n ≡ word = eqb-true _ _ t in
      let low_fits : l < 256 = small in
      let high : h ≡ word / 256 = omega arith in
      let low : l ≡ word % 256 = omega arith in
      (covered, cc)),
  (λ block.
      let bs : List ℕ = block.0 in
      let told : List ℕ = check_word bs / 256 ∷ check_word bs % 256 ∷ [] in
      let both = sym is ∙ block.1 in
      let sum : length covered ≡ length bs = omega (arith, ap length both, length-append covered (h ∷ l ∷ []), length-append bs told) in
      let cut = same_cut covered bs (h ∷ l ∷ []) told both sum in
      let high : h ≡ check_word bs / 256 = ap (λ (b : List ℕ). get_or b 0 0) cut.1 in
      let low : l ≡ check_word bs % 256 = ap (λ (b : List ℕ). get_or b 1 0) cut.1 in
      let w : word ≡ check_word bs = word_is ∙ ap check_word cut.0 in
      eq-eqb _ _ (omega arith)),
)

-- fewer than two bytes are no block
pub too_short : (bytes : List ℕ) → length bytes < 2 → Decides false (Block bytes)
too_short bytes h = (
  (λ t. absurd (false≢true t)),
  (λ block. absurd (omega (arith, ap length block.1 ∙ length-sealed block.0))),
)

-- bytes, then the two of their check word, written at the start of a list
pub put_behind : (out bytes told : List ℕ) (n k word : ℕ) → length bytes ≡ n → k ≡ 2 → word ≡ check_word bytes → word < 65536 →
    told ≡ word / 256 % 256 ∷ word % 256 ∷ [] → put_mid n k (bytes ++ drop n out) told ≡ sealed bytes ++ drop (n + 2) out
unfolding sealed
put_behind out bytes told n k word long two is fits told_is =
    let high : word / 256 % 256 ≡ word / 256 = omega arith in
    let front = take_at bytes (drop n out) n long in
    let behind = drop_at bytes (drop n out) n long in
    let rest = drop-drop k n out in
    let assoc = append_assoc bytes told (drop (n + 2) out) in
    cc
