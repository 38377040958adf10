-- Laws of a reply's bytes: its length, its first block and the others, and that it tells its address and data.
use Rattle.std.proofs.Common.{◌≡◌, ℕ, ◌+◌, ◌-◌, ◌*◌, ◌/◌, ◌%◌, ◌≤◌, min, List, [], ◌∷◌, ◌++◌, length, take, drop, replicate, sym, refl, ap, ◌∙◌, ⊎_elim, append_assoc, append-nil, arith, length-append, length-drop, length-take}
use borrow.Rule.Slice.PartMut.{put_mid}
use lib.ListN.{length-replicate}
use Rattle.block.proofs.Chained.{chained_more, length-chained}
use Rattle.block.proofs.Placed.{placed}
use Rattle.block.proofs.Sealed.{length-sealed}
use Rattle.block.specs.Block.{opening}
use Rattle.block.specs.Chain.{chained}
use Rattle.reply_frame.specs.Replies.{data_len, filled, on_line, reply}
use Rattle.std.proofs.lemmas.List.{drop_all, drop_at, drop-drop, nil_from_length, take_all, take_at}
use Rattle.std.proofs.lemmas.Bool.{cases_lt}

-- the bytes that the blocks of a reply are made of
abbrev pub body : ℕ → List ℕ → List ℕ
body address payload = data_len (length payload) ∷ 0 ∷ address % 256 ∷ address / 256 ∷ filled payload

pub length-body : (address : ℕ) (payload : List ℕ) → length (body address payload) ≡ data_len (length payload)
length-body address payload =
    omega (arith, length-append payload (replicate (10 - length payload) 0), length-replicate {A = ℕ} (10 - length payload) 0)

pub length-reply : (address : ℕ) (payload : List ℕ) → length (reply address payload) ≡ on_line (data_len (length payload))
length-reply address payload =
    let n = length-body address payload in
    let e : length (chained (body address payload)) ≡ data_len (length payload) + 2 * ((data_len (length payload) + 13) / 14) =
    length-chained (body address payload) ∙ ap (λ (k : ℕ). k + 2 * ((k + 13) / 14)) n in
    omega arith

-- ten data bytes and more need no filling
pub full : (payload : List ℕ) → 10 ≤ length payload → filled payload ≡ payload
full payload h =
    let none : 10 - length payload ≡ 0 = omega arith in
    ap (λ (n : ℕ). payload ++ replicate n 0) none ∙ append-nil payload

-- the filling goes with the first ten
pub halves : (payload first rest : List ℕ) → payload ≡ first ++ rest → length first ≡ min (length payload) 10 →
    (take 10 (filled payload) ≡ filled first) × (drop 10 (filled payload) ≡ rest)
halves payload first rest e long =
    let sum = ap length e ∙ length-append first rest in
    ⊎_elim
    (λ h.
    let none : rest ≡ [] = nil_from_length rest (omega arith) in
    let whole : payload ≡ first = e ∙ ap (λ (l : List ℕ). first ++ l) none ∙ append-nil first in
    let ten : length (filled first) ≡ 10 =
    length-append first (replicate (10 - length first) 0) ∙ omega (arith, length-replicate {A = ℕ} (10 - length first) 0) in (
      ap (λ (l : List ℕ). take 10 (filled l)) whole ∙ take_all 10 (filled first) (omega arith),
      ap (λ (l : List ℕ). drop 10 (filled l)) whole ∙ drop_all 10 (filled first) (omega arith) ∙ sym none,
    ))
    (λ h.
    let ten : length first ≡ 10 = omega arith in
    let f = full first (omega arith) in
    let p = full payload h ∙ e in (
      ap (take 10) p ∙ take_at first rest 10 ten ∙ sym f,
      ap (drop 10) p ∙ drop_at first rest 10 ten,
    ))
    (cases_lt (length payload) 10)

-- a reply is the opening with the first ten, then the blocks of the rest
pub in_parts : (address : ℕ) (payload first rest : List ℕ) → payload ≡ first ++ rest → length first ≡ min (length payload) 10 →
    reply address payload ≡ opening (data_len (length payload)) address (filled first) ++ chained rest
in_parts address payload first rest e long =
    let h = halves payload first rest e long in
    let h₀ = h.0 in
    let h₁ = h.1 in
    let more = chained_more (body address payload) (omega (arith, length-body address payload)) in
    cc

-- a reply written in two goes: the opening, then the blocks of the rest behind it
module _ (address : ℕ) (payload first rest out opened : List ℕ) (e : payload ≡ first ++ rest) (long : length first ≡ min (length payload) 10)
    (opened_is : opened ≡ opening (data_len (length payload)) address (filled first) ++ drop 18 out)
    (room : on_line (data_len (length payload)) ≤ length out) where
  eighteen : length (opening (data_len (length payload)) address (filled first)) ≡ 18
  eighteen =
      let ten = length-append first (replicate (10 - length first) 0) in
      let zeros = length-replicate {A = ℕ} (10 - length first) 0 in
      let one = length-sealed (data_len (length payload) ∷ 0 ∷ address % 256 ∷ address / 256 ∷ filled first) in
      omega arith

  total : on_line (data_len (length payload)) ≡ 18 + length (chained rest)
  total =
      sym (length-reply address payload) ∙ ap length (in_parts address payload first rest e long)
      ∙ length-append (opening (data_len (length payload)) address (filled first)) (chained rest) ∙ omega (arith, eighteen)

  opened_long : length opened ≡ length out
  opened_long =
      ap length opened_is ∙ length-append (opening (data_len (length payload)) address (filled first)) (drop 18 out)
      ∙ omega (arith, eighteen, total, room, length-drop 18 out)

  pub rest_fits : length (chained rest) ≤ length (take (length opened - 18) (drop 18 opened))
  rest_fits = omega (arith, opened_long, total, room, length-take (length opened - 18) (drop 18 opened), length-drop 18 opened)

  pub written : (part : List ℕ) → part ≡ chained rest ++ drop (length (chained rest)) (take (length opened - 18) (drop 18 opened)) →
      put_mid 18 (length opened - 18) opened part ≡ reply address payload ++ drop (on_line (data_len (length payload))) out
  written part is =
      let n : ℕ = length (chained rest) in
      let head : List ℕ = opening (data_len (length payload)) address (filled first) in
      let put = placed 18 n opened (chained rest) part (omega (arith, opened_long, total, room)) refl is in
      let front : take 18 opened ≡ head = ap (take 18) opened_is ∙ take_at head (drop 18 out) 18 eighteen in
      let behind : drop 18 opened ≡ drop 18 out = ap (drop 18) opened_is ∙ drop_at head (drop 18 out) 18 eighteen in
      let back : drop (18 + n) opened ≡ drop (on_line (data_len (length payload))) out =
      sym (drop-drop n 18 opened) ∙ ap (drop n) behind ∙ drop-drop n 18 out ∙ ap (λ (k : ℕ). drop k out) (sym total) in
      let whole = in_parts address payload first rest e long in
      let assoc = append_assoc head (chained rest) (drop (on_line (data_len (length payload))) out) in
      cc
