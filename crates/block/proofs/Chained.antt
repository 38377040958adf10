-- Laws of blocks one behind another: their length, the first of them, and that they tell their bytes.
use Rattle.std.proofs.Common.{◌≡◌, ℕ, zero, suc, ◌+◌, ◌-◌, ◌*◌, ◌<◌, ◌≤◌, min, List, [], ◌++◌, length, take, drop, sym, refl, ap, ◌∙◌, subst, arith, length-append, length-drop, take-append-drop, length-take}
use Rattle.std.specs.Int.{div_ceil}
use Rattle.block.specs.Block.{Block, sealed}
use Rattle.block.specs.Chain.{AllRight, block_at, chain, chained, parts}
use Rattle.block.proofs.Placed.{Step, done, first_part, same_cut}
use Rattle.block.proofs.Sealed.{front, length-sealed}
use Rattle.std.proofs.lemmas.List.{drop-drop, length-take-le, nil_from_length, take-take}

pub length-chain : (n : ℕ) (bytes : List ℕ) → length (chain n bytes) ≡ min (14 * n) (length bytes) + 2 * n
unfolding chain
length-chain zero bytes = omega arith
length-chain (suc n) bytes =
    let rest = length-chain n (drop 14 bytes) in
    let one = length-sealed (take 14 bytes) in
    let sum = length-append (sealed (take 14 bytes)) (chain n (drop 14 bytes)) in
    omega (arith, rest, one, sum, length-take 14 bytes, length-drop 14 bytes)

pub length-chained : (bytes : List ℕ) → length (chained bytes) ≡ length bytes + 2 * parts (length bytes)
unfolding chained
length-chained bytes = omega (arith, length-chain (parts (length bytes)) bytes)

pub chained_none : chained [] ≡ []
unfolding chained chain
chained_none = refl

pub chained_more : (bytes : List ℕ) → 0 < length bytes → chained bytes ≡ sealed (take 14 bytes) ++ chained (drop 14 bytes)
unfolding chained chain
chained_more bytes h =
    let n : ℕ = parts (length (drop 14 bytes)) in
    let one : parts (length bytes) ≡ suc n = omega (arith, length-drop 14 bytes) in
    ap (λ (k : ℕ). chain k bytes) one

-- the first block of a chain that holds bytes, and the others
pub split : (bytes x rest : List ℕ) → chained bytes ≡ x ++ rest → length x ≡ min 16 (length (chained bytes)) →
    0 < length (chained bytes) → (x ≡ sealed (take 14 bytes)) × (rest ≡ chained (drop 14 bytes)) × (0 < length bytes)
split bytes x rest e long some =
    let whole = length-chained bytes in
    let more : 0 < length bytes = omega arith in
    let one = length-sealed (take 14 bytes) in
    let taken = length-take 14 bytes in
    let cut = same_cut x (sealed (take 14 bytes)) rest (chained (drop 14 bytes)) (sym e ∙ chained_more bytes more) (omega arith) in
    (cut.0, cut.1, more)

-- equally many bytes with equal blocks are equal
chain_tells : (n : ℕ) (a b : List ℕ) → length a ≤ 14 * n → length a ≡ length b → chain n a ≡ chain n b → a ≡ b
unfolding chain
chain_tells zero a b most same e = nil_from_length a (omega arith) ∙ sym (nil_from_length b (omega arith))
chain_tells (suc n) a b most same e =
    let la = length-take 14 a in
    let lb = length-take 14 b in
    let cut =
    same_cut (sealed (take 14 a)) (sealed (take 14 b)) (chain n (drop 14 a)) (chain n (drop 14 b)) e
    (omega (arith, length-sealed (take 14 a), length-sealed (take 14 b))) in
    let fronts : take 14 a ≡ take 14 b =
    sym (front (take 14 a) (length (take 14 a)) refl) ∙ ap (take (length (take 14 a))) cut.0
    ∙ front (take 14 b) (length (take 14 a)) (omega arith) in
    let rests : drop 14 a ≡ drop 14 b =
    chain_tells n (drop 14 a) (drop 14 b) (simp length-drop (omega arith)) (simp length-drop (omega arith)) cut.1 in
    let wa = take-append-drop 14 a in
    let wb = take-append-drop 14 b in
    cc

pub chained_tells : (a b : List ℕ) → chained a ≡ chained b → a ≡ b
unfolding chained
chained_tells a b e =
    let la = length-chained a in
    let lb = length-chained b in
    let lc = ap length e in
    let same : length a ≡ length b = omega arith in
    chain_tells (parts (length a)) a b (omega arith) same (e ∙ ap (λ (n : ℕ). chain (parts n) b) (sym same))

-- behind a block whose check word is right, the others stay right
right_behind : (blocks : List ℕ) → AllRight blocks → AllRight (drop 16 blocks)
right_behind blocks right k h =
    let step : 16 * (k + 1) ≡ 16 + 16 * k = omega arith in
    let e : block_at blocks (k + 1) ≡ block_at (drop 16 blocks) k =
    ap (λ (n : ℕ). take 16 (drop n blocks)) step ∙ ap (take 16) (sym (drop-drop (16 * k) 16 blocks)) in
    subst Block e (right (k + 1) (omega (arith, length-drop 16 blocks)))

-- one block put before the blocks of the bytes that follow
rejoin_step : (n m : ℕ) (blocks covered bytes : List ℕ) → length blocks ≡ m + 2 * suc n → m ≤ 14 * suc n → 14 * suc n < m + 14 →
    take 16 blocks ≡ sealed covered → length bytes ≡ m - 14 → drop 16 blocks ≡ chain n bytes →
    (length (covered ++ bytes) ≡ m) × (blocks ≡ chain (suc n) (covered ++ bytes))
unfolding chain
rejoin_step n m blocks covered bytes long most least is rest behind =
    let one = length-sealed covered in
    let taken = length-take 16 blocks in
    let count = ap length is in
    let sum = length-append covered bytes in
    let total : length (covered ++ bytes) ≡ m = omega arith in
    let cut = first_part 14 (covered ++ bytes) covered bytes refl (omega arith) in
    let whole = take-append-drop 16 blocks in
    let head = cut.0 in
    let tail = cut.1 in
    (total, cc)

-- blocks with right check words, and as long as m bytes in n blocks are, are the blocks of m bytes
rejoin : (n m : ℕ) (blocks : List ℕ) → length blocks ≡ m + 2 * n → m ≤ 14 * n → 14 * n < m + 14 → AllRight blocks →
    (bytes : List ℕ) × (length bytes ≡ m) × (blocks ≡ chain n bytes)
unfolding chain
rejoin zero m blocks long most least right = ([], omega arith, nil_from_length blocks (omega arith))
rejoin (suc n) m blocks long most least right =
    let first = right 0 (omega arith) in
    let next =
    rejoin n (m - 14) (drop 16 blocks) (simp length-drop (omega arith)) (omega arith) (omega arith) (right_behind blocks right) in
    let both = rejoin_step n m blocks first.0 next.0 long most least first.1 next.1 next.2 in
    (first.0 ++ next.0, both.0, both.1)

pub joined : (m : ℕ) (blocks : List ℕ) → length blocks ≡ m + 2 * parts m → AllRight blocks →
    (bytes : List ℕ) × (length bytes ≡ m) × (blocks ≡ chained bytes)
unfolding chained
joined m blocks long right =
    let j = rejoin (parts m) m blocks long (omega arith) (omega arith) right in
    (j.0, j.1, j.2 ∙ ap (λ (n : ℕ). chain (parts n) j.0) (sym j.1))

-- the first block and the others, by their place
cut : (bytes : List ℕ) → 0 < length (chained bytes) →
    (take 16 (chained bytes) ≡ sealed (take 14 bytes)) × (drop 16 (chained bytes) ≡ chained (drop 14 bytes))
cut bytes some =
    let whole = length-chained bytes in
    let one = length-sealed (take 14 bytes) in
    let taken = length-take 14 bytes in
    first_part 16 (chained bytes) (sealed (take 14 bytes)) (chained (drop 14 bytes)) (chained_more bytes (omega arith)) (omega arith)

-- a check word of two bytes for each block taken away, what is left counts the bytes
pub count : (blocks bytes : List ℕ) (n : ℕ) → blocks ≡ chained bytes → n ≡ div_ceil (length blocks) 16 →
    (2 * n ≤ length blocks) × (length blocks - 2 * n ≡ length bytes)
count blocks bytes n is e =
    let long = ap length is ∙ length-chained bytes in
    (omega arith, omega arith)

-- the first 14 bytes stand first
pub first_bytes : (bytes : List ℕ) → 14 ≤ length bytes → take 14 (chained bytes) ≡ take 14 bytes
first_bytes bytes h =
    let one = cut bytes (omega (arith, length-chained bytes)) in
    sym (take-take 14 16 (chained bytes) (omega arith)) ∙ ap (take 14) one.0
    ∙ front (take 14 bytes) 14 (length-take-le 14 bytes h)

-- behind the first block stand the blocks of the other bytes
pub other_blocks : (bytes : List ℕ) → 14 ≤ length bytes → drop 16 (chained bytes) ≡ chained (drop 14 bytes)
other_blocks bytes h = (cut bytes (omega (arith, length-chained bytes))).1

-- the blocks of bytes have right check words
pub all_right : (bytes : List ℕ) → AllRight (chained bytes)
all_right bytes zero h = (take 14 bytes, (cut bytes (omega arith)).0)
all_right bytes (suc k) h =
    let rest = (cut bytes (omega arith)).1 in
    let step : 16 * suc k ≡ 16 + 16 * k = omega arith in
    let e : block_at (chained (drop 14 bytes)) k ≡ block_at (chained bytes) (suc k) =
    ap (λ (l : List ℕ). block_at l k) (sym rest) ∙ ap (take 16) (drop-drop (16 * k) 16 (chained bytes))
    ∙ ap (λ (n : ℕ). take 16 (drop n (chained bytes))) (sym step) in
    subst Block e (all_right (drop 14 bytes) k (omega (arith, ap length rest, length-drop 16 (chained bytes))))

-- a first part of at most 14 bytes makes the first block
pub part_first : (n : ℕ) (bytes x rest : List ℕ) → n ≡ 14 → bytes ≡ x ++ rest → length x ≡ min n (length bytes) → 0 < length bytes →
    chained bytes ≡ sealed x ++ chained rest
part_first n bytes x rest e is long some =
    let count : length x ≡ min 14 (length bytes) = long ∙ ap (λ (k : ℕ). min k (length bytes)) e in
    let p = first_part 14 bytes x rest is count in
    let head = p.0 in
    let tail = p.1 in
    let more = chained_more bytes some in
    cc

-- while blocks are written, those to come begin with the block of the next part
pub coming : {at n : ℕ} {out entry whole bytes : List ℕ} (x rest : List ℕ) → Step at out entry whole (chained bytes) → n ≡ 14 →
    (bytes ≡ x ++ rest) × (length x ≡ min n (length bytes)) × (0 < length bytes) → Step at out entry whole (sealed x ++ chained rest)
coming {at} {n} {out} {entry} {whole} {bytes} x rest s e (is, long, some) =
    let f = part_first n bytes x rest e is long some in
    record { front = ap (λ (l : List ℕ). take at out ++ l) (sym f) ∙ s.front; behind = s.behind; within = s.within }

-- so the memory that takes the whole takes that block
pub coming_fits : {at : ℕ} {out entry whole : List ℕ} (x more : List ℕ) → Step at out entry whole (sealed x ++ more) →
    length whole ≤ length out → at + (length x + 2) ≤ length out
coming_fits {at} {out} {entry} {whole} x more s fits =
    let w = s.within in
    let sum = length-append (take at out) (sealed x ++ more) in
    let sum' = length-append (sealed x) more in
    omega (arith, ap length s.front, length-take at out, length-sealed x, sum, sum')

-- where no part is left, all is written
pub nothing_coming : {at : ℕ} {out entry whole : List ℕ} (bytes : List ℕ) → Step at out entry whole (chained bytes) → length bytes ≡ 0 →
    (at ≡ length whole) × (out ≡ whole ++ drop (length whole) entry)
nothing_coming {at} {out} {entry} {whole} bytes s none =
    let empty : chained bytes ≡ [] = ap chained (nil_from_length bytes none) ∙ chained_none in
    let d = done at out entry whole (record { front = ap (λ (l : List ℕ). take at out ++ l) (sym empty) ∙ s.front; behind = s.behind; within = s.within }) in
    (d.0, d.1 ∙ ap (λ (n : ℕ). whole ++ drop n entry) d.0)
