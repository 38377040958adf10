-- What holds from turn to turn while blocks are written, checked and read, one part at a time.
use Rattle.std.proofs.Common.{◌≡◌, ℕ, ◌+◌, ◌-◌, ◌*◌, ◌<◌, ◌≤◌, min, Bool, true, false, not, List, ◌++◌, length, take, drop, Some, None, Option, Decides, IsTrue, MatchOption, IfSome, IsSomeAnd, sym, refl, ap, ◌∙◌, ⊎_elim, subst, append_assoc, arith, length-append, length-drop, take-append-drop, length-take, take-add}
use borrow.Rule.Slice.PartMut.{put_mid}
use denote.Ref.{Bor}
use Rattle.std.specs.Fn.{Called, Mut}
use Rattle.std.specs.Iterator.Runs.{AllItemsGive, CallKeepsClosure, EveryRun, IsChunksRun, IsFirstToGive, Run, SomeRun, YieldsRun}
use Rattle.std.specs.List.{IsSubsliceAt}
use Rattle.std.specs.Slice.Iter.{chunks_rest, chunks_size, chunks_steps}
use Rattle.block.specs.Block.{Block, sealed}
use Rattle.block.specs.Chain.{AllRight, FirstWrong, block_at, chained}
use Rattle.block.proofs.Chained.{coming, coming_fits, length-chained, nothing_coming, split}
use Rattle.block.proofs.Placed.{Step, first_part, step}
use Rattle.block.proofs.Sealed.{front, length-sealed}
use Rattle.std.proofs.lemmas.Bool.{false≢true}
use Rattle.std.proofs.lemmas.List.{drop_at, drop-drop, length-take-le, take_all, take_at}
use Rattle.std.proofs.lemmas.Option.{slice_get_cases}

-- the next part of what is left
abbrev pub Part : ℕ → List ℕ → List ℕ → List ℕ → Type 0
Part n left x rest = (left ≡ x ++ rest) × (length x ≡ min n (length left)) × (0 < length left)

-- the item of a run at a place before its end
pub item : {S A : Type 0} {steps : S → Option A → S → Type 0} (p : Run steps) (k : ℕ) → k < p.len → (x : A) × (p.at k ≡ Some x)
unfolding YieldsRun
item p k h = ⊎_elim (λ f. (f.0, p.gave.1 k ∙ f.2)) (λ past. absurd (omega (arith, p.long))) (slice_get_cases p.items k).1

-- a run over the parts of at most 16 bytes of these blocks
pub parts_of : {s : _} {blocks : List ℕ} →
    EveryRun (chunks_steps {A = ℕ}) (λ p. 0 < chunks_size p.from → IsChunksRun p (chunks_size p.from) (chunks_rest p.from)) →
    chunks_size s ≡ 16 → chunks_rest s ≡ blocks → (p : Run (chunks_steps {A = ℕ})) → p.from ≡ s → IsChunksRun p 16 blocks
parts_of {s} {blocks} runs size rest p from =
    let n : chunks_size p.from ≡ 16 = ap chunks_size from ∙ size in
    let l : chunks_rest p.from ≡ blocks = ap chunks_rest from ∙ rest in
    let N : ℕ → Type 0 = λ m. IsChunksRun p m (chunks_rest p.from) in
    let L : List ℕ → Type 0 = λ bytes. IsChunksRun p 16 bytes in
    subst L l (subst N n (runs p p.seen (omega arith)))

module _ {F : Type 0} {g : Mut F (Bor (List ℕ) × Unit {0}) Bool} {f : F} (blocks : List ℕ)
    (told : (a : Bor (List ℕ) × Unit {0}) (b : Bool) (f' : F) → Called g f a b f' → (f' ≡ f) × Decides (not b) (Block a.0.now))
    (p : Run (chunks_steps {A = ℕ})) (chunks : IsChunksRun p 16 blocks) where
  at_place : (k : ℕ) (x : Bor (List ℕ)) → p.at k ≡ Some x → (x.now ≡ block_at blocks k) × (16 * k < length blocks)
  at_place k x e =
      let C : Option (Bor (List ℕ)) → Type 0 =
      λ o. IfSome o (λ y. (0 < length y.now) × (k * 16 < length blocks) × IsSubsliceAt 16 blocks (k * 16) y.now) in
      let c : C (Some x) = subst C e (chunks.2 k) in
      let place : k * 16 ≡ 16 * k = omega arith in
      (c.2.0 ∙ ap (λ (n : ℕ). take 16 (drop n blocks)) place, omega (arith, c.1))

  keeps : CallKeepsClosure g f
  keeps a b f' c = (told a b f' c).0

  all_right : p.whole ≡ true → AllItemsGive p g f false → AllRight blocks
  all_right whole gives k h =
      let i = item p k (omega (arith, chunks.1 whole)) in
      let G : Option (Bor (List ℕ)) → Type 0 = λ o. IfSome o (λ x. Called g f (x, tt) false f) in
      let called : G (Some i.0) = subst G i.1 (gives keeps k) in
      subst Block (at_place k i.0 i.1).0 ((told (i.0, tt) false f called).1.0 refl)

  wrong_at : (k : ℕ) → p.len ≡ k + 1 → IsFirstToGive p g f true false k → FirstWrong blocks k
  wrong_at k long gives =
      let i = item p k (omega arith) in
      let here = at_place k i.0 i.1 in
      let G : Option (Bor (List ℕ)) → Type 0 = λ o. IsSomeAnd o (λ x. Called g f (x, tt) true f) in
      let called : G (Some i.0) = subst G i.1 (gives keeps).0 in
      record {
        within = here.1;
        wrong = λ block. absurd (false≢true ((told (i.0, tt) true f called).1.1 (subst Block (sym here.0) block)));
        before = λ j h.
            let i' = item p j (omega arith) in
            let G' : Option (Bor (List ℕ)) → Type 0 = λ o. IsSomeAnd o (λ x. Called g f (x, tt) false f) in
            let called' : G' (Some i'.0) = subst G' i'.1 ((gives keeps).1 j h) in
            subst Block (at_place j i'.0 i'.1).0 ((told (i'.0, tt) false f called').1.0 refl);
      }

-- what a search for the first wrong block answers
pub found : {F : Type 0} {g : Mut F (Bor (List ℕ) × Unit {0}) Bool} {f : F} (blocks : List ℕ) {s : _} (r : Option ℕ) →
    SomeRun (chunks_steps {A = ℕ}) s
    (λ p. MatchOption r (IsTrue p.whole × AllItemsGive p g f false) (λ k. (p.len ≡ k + 1) × IsFirstToGive p g f true false k)) →
    ((p : Run (chunks_steps {A = ℕ})) → p.from ≡ s → IsChunksRun p 16 blocks) →
    ((a : Bor (List ℕ) × Unit {0}) (b : Bool) (f' : F) → Called g f a b f' → (f' ≡ f) × Decides (not b) (Block a.0.now)) →
    MatchOption r (AllRight blocks) (λ k. FirstWrong blocks k)
found blocks None (p, from, ends) parts told = all_right blocks told p (parts p from) ends.0 ends.1
found blocks (Some k) (p, from, ends) parts told = wrong_at blocks told p (parts p from) k ends.0 ends.1

-- the first k blocks are written, and the others are those of the bytes left
pub record Put (bytes entry out left : List ℕ) (n k : ℕ) : Type 0 where
  pub size : n ≡ 14
  pub at : ℕ
  pub step : Step at out entry (chained bytes) (chained left)
  pub place : 0 < length left → at ≡ 16 * k

module _ {bytes entry out left : List ℕ} {n k : ℕ} (so_far : Put bytes entry out left n k) (room : length (chained bytes) ≤ length out)
    (i : ℕ) (at_k : i ≡ k) where
  this_put : (x rest : List ℕ) → Part n left x rest → Step (16 * i) out entry (chained bytes) (sealed x ++ chained rest)
  this_put x rest part =
      let S : ℕ → Type 0 = λ at. Step at out entry (chained bytes) (sealed x ++ chained rest) in
      let place : so_far.at ≡ 16 * i = so_far.place part.2 ∙ ap (λ (m : ℕ). 16 * m) (sym at_k) in
      subst S place (coming x rest so_far.step so_far.size part)

  pub put_fits : (x rest : List ℕ) → Part n left x rest → 16 * i + (length x + 2) ≤ length out
  put_fits x rest part = coming_fits x (chained rest) (this_put x rest part) room

  pub one_more_put : (x rest block : List ℕ) (m : ℕ) {n' k' : ℕ} → Part n left x rest → m ≡ length x + 2 → n' ≡ n → k' ≡ k + 1 →
      block ≡ sealed x ++ drop m (take (length out - 16 * i) (drop (16 * i) out)) →
      Put bytes entry (put_mid (16 * i) (length out - 16 * i) out block) rest n' k'
  one_more_put x rest block m part e same more is =
      let long : m ≡ length (sealed x) = e ∙ sym (length-sealed x) in
      let sum = ap length part.0 ∙ length-append x rest in
      record {
        size = same ∙ so_far.size;
        at = 16 * i + m;
        step = step (16 * i) m out entry (chained bytes) (sealed x) (chained rest) block (this_put x rest part) long room is;
        place = λ some. omega (arith, part.1, so_far.size);
      }

pub all_put : {bytes entry out left : List ℕ} {n k : ℕ} → Put bytes entry out left n k → length left ≡ 0 →
    out ≡ chained bytes ++ drop (length (chained bytes)) entry
all_put {left = left} so_far none = (nothing_coming left so_far.step none).1

-- as many elements as the shorter of 14 and the whole are the first 14
same_ends : (m : ℕ) (l : List ℕ) → m ≡ min 14 (length l) → (take m l ≡ take 14 l) × (drop m l ≡ drop 14 l)
same_ends m l e =
    let p = first_part 14 l (take m l) (drop m l) (sym (take-append-drop m l)) (length-take m l ∙ omega arith) in
    (sym p.0, sym p.1)

-- the first `at` of the bytes are written, and the blocks left are those of the others
pub record Taken (bytes entry : List ℕ) (at : ℕ) (out left : List ℕ) : Type 0 where
  pub blocks_left : left ≡ chained (drop at bytes)
  pub written : out ≡ take at bytes ++ drop at entry
  pub within : at ≤ length bytes

module _ {bytes entry out left : List ℕ} {at n : ℕ} (so_far : Taken bytes entry at out left) (size : n ≡ 16) where
  -- the next part is the block of the next bytes
  this_taken : (x rest : List ℕ) → Part n left x rest →
      (x ≡ sealed (take 14 (drop at bytes))) × (rest ≡ chained (drop 14 (drop at bytes))) × (0 < length (drop at bytes))
  this_taken x rest (is, long, some) =
      let e = so_far.blocks_left in
      split (drop at bytes) x rest (sym e ∙ is)
      (long ∙ ap (λ (m : ℕ). min m (length left)) size ∙ ap (λ (l : List ℕ). min 16 (length l)) e) (omega (arith, ap length e))

  pub this_long : (x rest : List ℕ) → Part n left x rest → (2 ≤ length x) × (at + (length x - 2) ≤ length bytes)
  this_long x rest part =
      let t = this_taken x rest part in
      let w = so_far.within in
      let a = ap length t.0 ∙ length-sealed (take 14 (drop at bytes)) in
      let b = length-take 14 (drop at bytes) in
      let d = length-drop at bytes in
      (omega arith, omega arith)

  pub one_more_taken : (x rest part : List ℕ) (m k : ℕ) → Part n left x rest → m ≡ length x - 2 → k ≡ m → part ≡ take m x →
      Taken bytes entry (at + m) (put_mid at k out part) rest
  one_more_taken x rest part m k p e same_k is =
      let t = this_taken x rest p in
      let y : List ℕ = take 14 (drop at bytes) in
      let w = so_far.within in
      let ly = length-take 14 (drop at bytes) in
      let ld = length-drop at bytes in
      let long : length y ≡ m = omega (arith, ap length t.0 ∙ length-sealed y) in
      let part_is : part ≡ y = is ∙ ap (take m) t.0 ∙ front y m long in
      let same = same_ends m (drop at bytes) (omega arith) in
      let lt : length (take at bytes) ≡ at = length-take-le at bytes w in
      let f : take at out ≡ take at bytes = ap (take at) so_far.written ∙ take_at (take at bytes) (drop at entry) at lt in
      let r : drop at out ≡ drop at entry = ap (drop at) so_far.written ∙ drop_at (take at bytes) (drop at entry) at lt in
      let dd = drop-drop m at entry in
      let both = take-add at m bytes in
      let assoc = append_assoc (take at bytes) y (drop (at + m) entry) in
      let s₀ = same.0 in
      let s₁ = same.1 in
      record {
        blocks_left = t.1 ∙ ap chained (sym s₁ ∙ drop-drop m at bytes);
        written = cc;
        within = omega arith;
      }

  pub all_taken : length left ≡ 0 → (at ≡ length bytes) × (out ≡ bytes ++ drop (length bytes) entry)
  all_taken none =
      let w = so_far.within in
      let e = ap length so_far.blocks_left ∙ length-chained (drop at bytes) in
      let long : at ≡ length bytes = omega (arith, length-drop at bytes) in
      let all = take_all at bytes (omega arith) in
      let written = so_far.written in
      (long, cc)

-- the bytes of the first k blocks are written
pub record TakenFrom (bytes entry out left : List ℕ) (k : ℕ) : Type 0 where
  pub at : ℕ
  pub taken : Taken bytes entry at out left
  pub place : 0 < length left → at ≡ 14 * k

module _ {bytes entry out left : List ℕ} {k n : ℕ} (so_far : TakenFrom bytes entry out left k) (size : n ≡ 16) (i : ℕ) (at_k : i ≡ k) where
  at_block : 0 < length left → Taken bytes entry (14 * i) out left
  at_block some =
      let T : ℕ → Type 0 = λ at. Taken bytes entry at out left in
      subst T (so_far.place some ∙ ap (λ (m : ℕ). 14 * m) (sym at_k)) so_far.taken

  pub next_long : (x rest : List ℕ) → Part n left x rest → (2 ≤ length x) × (14 * i + (length x - 2) ≤ length bytes)
  next_long x rest part = this_long (at_block part.2) size x rest part

  pub next_taken : (x rest part : List ℕ) (m c : ℕ) {k' : ℕ} → Part n left x rest → k' ≡ k + 1 → m ≡ length x - 2 → c ≡ m → part ≡ take m x →
      TakenFrom bytes entry (put_mid (14 * i) c out part) rest k'
  next_taken x rest part m c p more e same is =
      let sum = ap length p.0 ∙ length-append x rest in
      let long = next_long x rest p in
      record {
        at = 14 * i + m;
        taken = one_more_taken (at_block p.2) size x rest part m c p e same is;
        place = λ some. omega (arith, p.1, size);
      }

pub all_read : {bytes entry out left : List ℕ} {k n : ℕ} → TakenFrom bytes entry out left k → n ≡ 16 → length left ≡ 0 →
    out ≡ bytes ++ drop (length bytes) entry
all_read so_far size none = (all_taken so_far.taken size none).1
