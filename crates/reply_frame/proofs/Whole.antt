-- Laws of a reply read whole: every reply has the shape and right check words, and these make a reply.
use Rattle.std.proofs.Common.{◌≡◌, ℕ, ◌+◌, ◌-◌, ◌*◌, ◌/◌, ◌%◌, ◌<◌, ◌≤◌, max, true, List, ◌++◌, length, get_or, take, drop, replicate, sym, refl, ap, ◌∙◌, subst, append_assoc, arith, length-append, length-drop, take-append-drop, length-take, w8, Fits}
use borrow.Rule.Slice.PartMut.{put_mid}
use lib.ListN.{length-replicate}
use Rattle.block.proofs.Chained.{all_right, chained_tells, first_bytes, joined, other_blocks}
use Rattle.block.proofs.Placed.{placed}
use Rattle.block.specs.Chain.{AllRight, chained}
use Rattle.reply_frame.specs.Replies.{ReadsAs, Replies, data_len, filled, on_line, reply, shaped}
use Rattle.reply_frame.proofs.Parts.{body, full, length-body, length-reply}
use Rattle.std.proofs.lemmas.List.{drop_at, drop-drop, drop_more, drop-take, get_or-drop, get_or-take, length-take-le, take_at, take_rest}
use Rattle.std.proofs.lemmas.Bool.{and_from, and_parts, eq-eqb, eqb-true, le-leb, leb-true}

-- what the test of the shape tells
pub record Shape (bytes : List ℕ) : Type 0 where
  pub long : 18 ≤ length bytes
  pub head : get_or bytes 0 0 ≡ 5
  pub mark : get_or bytes 1 0 ≡ 100
  pub least : 14 ≤ get_or bytes 2 0
  pub control : get_or bytes 3 0 ≡ 0
  pub whole : length bytes ≡ on_line (get_or bytes 2 0)

pub shape : (bytes : List ℕ) → shaped bytes ≡ true → Shape bytes
shape bytes t =
    let p = and_parts _ _ t in
    let q = and_parts _ _ p.1 in
    let r = and_parts _ _ q.1 in
    let s = and_parts _ _ r.1 in
    let u = and_parts _ _ s.1 in
    record {
      long = leb-true _ _ p.0;
      head = eqb-true _ _ q.0;
      mark = eqb-true _ _ r.0;
      least = leb-true _ _ s.0;
      control = eqb-true _ _ u.0;
      whole = eqb-true _ _ u.1;
    }

pub is_shaped : (bytes : List ℕ) → Shape bytes → shaped bytes ≡ true
is_shaped bytes s =
    and_from _ _ (le-leb _ _ s.long)
    (and_from _ _ (eq-eqb _ _ s.head)
    (and_from _ _ (eq-eqb _ _ s.mark)
    (and_from _ _ (le-leb _ _ s.least)
    (and_from _ _ (eq-eqb _ _ s.control) (eq-eqb _ _ s.whole)))))

-- a byte of the first block that is covered
covered_byte : (address : ℕ) (payload : List ℕ) (i : ℕ) → i < 14 → get_or (chained (body address payload)) i 0 ≡ get_or (body address payload) i 0
covered_byte address payload i h =
    let all : List ℕ = body address payload in
    sym (get_or-take 14 (chained all) i 0 h) ∙ ap (λ (l : List ℕ). get_or l i 0) (first_bytes all (omega (arith, length-body address payload)))
    ∙ get_or-take 14 all i 0 h

pub shape_of_reply : (address : ℕ) (payload : List ℕ) → Shape (reply address payload)
shape_of_reply address payload =
    let n = length-reply address payload in
    let len : get_or (chained (body address payload)) 0 0 ≡ data_len (length payload) = covered_byte address payload 0 (omega arith) in
    record {
      long = omega arith;
      head = refl;
      mark = refl;
      least = omega arith;
      control = covered_byte address payload 1 (omega arith);
      whole = n ∙ ap on_line (sym len);
    }

-- every reply has the shape, right check words, and as many data bytes as DataLen tells
pub record Told (bytes payload : List ℕ) : Type 0 where
  pub has_shape : shaped bytes ≡ true
  pub right : AllRight (drop 2 bytes)
  pub count : get_or bytes 2 0 ≡ length payload + 4

pub tells : {bytes payload : List ℕ} {address : ℕ} → Replies bytes address payload → Told bytes payload
tells {bytes} {payload} {address} r =
    let T : List ℕ → Type 0 = λ b. Told b payload in
    let ten = r.ten in
    let len : get_or (chained (body address payload)) 0 0 ≡ data_len (length payload) = covered_byte address payload 0 (omega arith) in
    subst T (sym r.is)
    (record {
      has_shape = is_shaped (reply address payload) (shape_of_reply address payload);
      right = all_right (body address payload);
      count = len ∙ omega arith;
    })

-- bytes are the reply of one address and one list of data only
pub unique : {bytes d e : List ℕ} {a b : ℕ} → Replies bytes a d → Replies bytes b e → (a ≡ b) × (d ≡ e)
unique {bytes} {d} {e} {a} {b} r s =
    let same : body a d ≡ body b e = chained_tells (body a d) (body b e) (ap (drop 2) (sym r.is ∙ s.is)) in
    let low : a % 256 ≡ b % 256 = ap (λ (l : List ℕ). get_or l 2 0) same in
    let high : a / 256 ≡ b / 256 = ap (λ (l : List ℕ). get_or l 3 0) same in
    (omega arith, sym (full d r.ten) ∙ ap (drop 4) same ∙ full e s.ten)

pub reads_as : {bytes payload : List ℕ} {address : ℕ} → Replies bytes address payload → ReadsAs bytes address payload
reads_as r = record { reads = r; alone = λ a d s. unique s r }

-- the shape and right check words make a reply of what stands in the bytes
pub record Found (bytes : List ℕ) : Type 0 where
  pub payload : List ℕ
  pub count : length payload ≡ get_or bytes 2 0 - 4
  pub replies : Replies bytes (get_or bytes 4 0 + 256 * get_or bytes 5 0) payload
  pub ten_first : take 10 (drop 6 bytes) ≡ take 10 payload
  pub others : drop 18 bytes ≡ chained (drop 10 payload)

found_in : (bytes all : List ℕ) → Shape bytes → length all ≡ get_or bytes 2 0 → drop 2 bytes ≡ chained all →
    get_or bytes 2 0 < 256 → get_or bytes 4 0 < 256 → get_or bytes 5 0 < 256 → Found bytes
found_in bytes all s count is fits low high =
    let long = s.long in
    let least = s.least in
    let tail : List ℕ = drop 2 bytes in
    let payload : List ℕ = drop 4 all in
    let address : ℕ = get_or bytes 4 0 + 256 * get_or bytes 5 0 in
    let more : length payload ≡ get_or bytes 2 0 - 4 = length-drop 4 all ∙ omega arith in
    let first : take 14 tail ≡ take 14 all = ap (take 14) is ∙ first_bytes all (omega arith) in
    let byte : (i : ℕ) → i < 14 → get_or all i 0 ≡ get_or bytes (2 + i) 0 =
    λ i h. sym (get_or-take 14 all i 0 h) ∙ ap (λ (l : List ℕ). get_or l i 0) (sym first) ∙ get_or-take 14 tail i 0 h ∙ get_or-drop 2 bytes i 0 in
    let b₀ : get_or all 0 0 ≡ data_len (length payload) = byte 0 (omega arith) ∙ omega arith in
    let b₁ : get_or all 1 0 ≡ 0 = byte 1 (omega arith) ∙ s.control in
    let b₂ : get_or all 2 0 ≡ address % 256 = byte 2 (omega arith) ∙ omega arith in
    let b₃ : get_or all 3 0 ≡ address / 256 = byte 3 (omega arith) ∙ omega arith in
    let a₀ = drop_more all 0 0 (omega arith) in
    let a₁ = drop_more all 1 0 (omega arith) in
    let a₂ = drop_more all 2 0 (omega arith) in
    let a₃ = drop_more all 3 0 (omega arith) in
    let f = full payload (omega arith) in
    let all_is : all ≡ body address payload = cc in
    let d₀ = drop_more bytes 0 0 (omega arith) in
    let d₁ = drop_more bytes 1 0 (omega arith) in
    let head = s.head in
    let mark = s.mark in
    record {
      payload = payload;
      count = more;
      replies = record { address_fits = omega arith; ten = omega arith; most = omega arith; is = cc };
      ten_first =
          ap (take 10) (sym (drop-drop 4 2 bytes)) ∙ sym (drop-take 4 10 tail) ∙ ap (drop 4) first ∙ drop-take 4 10 all;
      others =
          sym (drop-drop 16 2 bytes) ∙ ap (drop 16) is ∙ other_blocks all (omega arith) ∙ ap chained (sym (drop-drop 10 4 all));
    }

pub found : (bytes : List ℕ) → shaped bytes ≡ true → AllRight (take (length bytes - 2) (drop 2 bytes)) →
    ((i : ℕ) → Fits w8 (get_or bytes i 0)) → Found bytes
found bytes t right typed =
    let s = shape bytes t in
    let whole = s.whole in
    let j = joined (get_or bytes 2 0) (drop 2 bytes) (length-drop 2 bytes ∙ omega arith) (subst AllRight (take_rest bytes 2) right) in
    found_in bytes j.0 s j.1 j.2 (typed 2).fits (typed 4).fits (typed 5).fits

module _ {bytes : List ℕ} (f : Found bytes) (before ten : List ℕ) (room : get_or bytes 2 0 - 4 ≤ length before) (ten_is : ten ≡ take 10 (drop 6 bytes)) where
  -- the memory once the first ten data bytes are put into it
  begun : List ℕ
  begun = ten ++ drop 10 before

  ten_long : length ten ≡ 10
  ten_long = ap length (ten_is ∙ f.ten_first) ∙ length-take-le 10 f.payload f.replies.ten

  begun_long : length begun ≡ length before
  unfolding begun
  begun_long =
      length-append ten (drop 10 before) ∙ omega (arith, ten_long, length-drop 10 before, f.count, f.replies.ten)

  pub others_fit : length (drop 10 f.payload) ≤ length (take (length (ten ++ drop 10 before) - 10) (drop 10 (ten ++ drop 10 before)))
  unfolding begun
  others_fit =
      omega
      (arith, begun_long, length-drop 10 f.payload, f.count, length-take (length begun - 10) (drop 10 begun), length-drop 10 begun)

  -- then the other data bytes behind them
  pub put_together : (part : List ℕ) →
      part ≡ drop 10 f.payload ++ drop (length (drop 10 f.payload)) (take (length (ten ++ drop 10 before) - 10) (drop 10 (ten ++ drop 10 before))) →
      put_mid 10 (length (ten ++ drop 10 before) - 10) (ten ++ drop 10 before) part ≡ f.payload ++ drop (length f.payload) before
  unfolding begun
  put_together part written =
      let payload : List ℕ = f.payload in
      let n : ℕ = length (drop 10 payload) in
      let lt = ten_long in
      let lo = begun_long in
      let least = f.replies.ten in
      let put = placed 10 n begun (drop 10 payload) part (omega (arith, f.count)) refl written in
      let front = take_at ten (drop 10 before) 10 lt in
      let back : drop (10 + n) begun ≡ drop (length payload) before =
      sym (drop-drop n 10 begun) ∙ ap (drop n) (drop_at ten (drop 10 before) 10 lt) ∙ drop-drop n 10 before
      ∙ ap (λ (k : ℕ). drop k before) (omega (arith, length-drop 10 payload)) in
      let assoc = append_assoc (take 10 payload) (drop 10 payload) (drop (length payload) before) in
      let all = take-append-drop 10 payload in
      let first = f.ten_first in
      cc

pub at_address : {bytes payload : List ℕ} {a b : ℕ} → Replies bytes a payload → a ≡ b → Replies bytes b payload
at_address r e = record { address_fits = omega (arith, r.address_fits); ten = r.ten; most = r.most; is = r.is ∙ cc }

-- a reply at the start of a memory reads as its address and its data, filled to ten
pub written_is : (address : ℕ) (payload rest : List ℕ) → address < 65536 → length payload ≤ 251 →
    ReadsAs (take (on_line (data_len (length payload))) (reply address payload ++ rest)) address (filled payload)
written_is address payload rest fits most =
    let filled_long : length (filled payload) ≡ max (length payload) 10 =
    length-append payload (replicate (10 - length payload) 0) ∙ omega (arith, length-replicate {A = ℕ} (10 - length payload) 0) in
    let same_len : data_len (length (filled payload)) ≡ data_len (length payload) = omega arith in
    let f = full (filled payload) (omega arith) in
    reads_as
    (record {
      address_fits = fits;
      ten = omega arith;
      most = omega arith;
      is = take_at (reply address payload) rest _ (length-reply address payload) ∙ cc;
    })
