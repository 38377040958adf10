-- Laws of a request's 18 bytes: its length, its fields, and the test that tells it.
use Rattle.std.proofs.Common.{◌≡◌, ℕ, ◌+◌, ◌*◌, ◌/◌, ◌%◌, ◌<◌, ◌≤◌, Bool, true, false, ◌&&◌, ◌==◌, nat_eq, List, [], ◌∷◌, length, get_or, take, drop, Decides, sym, ap, ◌∙◌, subst, arith, length-drop, length-take}
use Rattle.block.proofs.Sealed.{front, slice_index-sealed, length-sealed}
use Rattle.block.specs.Block.{Block, sealed}
use Rattle.request_frame.specs.Requests.{ReadsAs, Requests, Valid, headed, request, window}
use Rattle.std.specs.Cmp.Lexicographic.{pointwise}
use Rattle.std.proofs.lemmas.Bool.Decides.{nat_tests}
use Rattle.std.proofs.lemmas.List.{drop_more, drop-take, length-take-le, take_all}
use Rattle.std.proofs.lemmas.Bool.{and_from, and_parts, both_ways, eq-eqb, eqb-true, false≢true}

-- what the bytes of a request are, one by one
pub record Read (frame : List ℕ) (address command : ℕ) (parameters : List ℕ) : Type 0 where
  pub long : length frame ≡ 18
  pub head : headed frame ≡ true
  pub block : Block (take 16 (drop 2 frame))
  pub address_is : address ≡ get_or frame 4 0 + 256 * get_or frame 5 0
  pub command_is : command ≡ get_or frame 6 0
  pub parameters_are : parameters ≡ take 9 (drop 7 frame)

pub of_request : (address command : ℕ) (parameters : List ℕ) → length parameters ≡ 9 →
    Read (request address command parameters) address command parameters
of_request address command parameters nine =
    let bytes : List ℕ = 0 ∷ 0 ∷ address % 256 ∷ address / 256 ∷ command ∷ parameters in
    let fourteen : length bytes ≡ 14 = omega arith in
    let sixteen = length-sealed bytes in
    let first = slice_index-sealed bytes 0 (omega arith) in
    let second = slice_index-sealed bytes 1 (omega arith) in
    let low = slice_index-sealed bytes 2 (omega arith) in
    let high = slice_index-sealed bytes 3 (omega arith) in
    let e₂ = eq-eqb _ _ first in
    let e₃ = eq-eqb _ _ second in
    record {
      long = omega arith;
      head = and_from _ _ e₂ e₃;
      block = (bytes, take_all 16 (sealed bytes) (omega arith));
      address_is = omega arith;
      command_is = sym (slice_index-sealed bytes 4 (omega arith));
      parameters_are = ap (drop 5) (sym (front bytes 14 fourteen)) ∙ drop-take 5 9 (sealed bytes);
    }

pub length-request : (address command : ℕ) (parameters : List ℕ) → length parameters ≡ 9 → length (request address command parameters) ≡ 18
length-request address command parameters nine = (of_request address command parameters nine).long

pub reading : (frame : List ℕ) (address command : ℕ) (parameters : List ℕ) → Requests frame address command parameters →
    Read frame address command parameters
reading frame address command parameters q =
    let R : List ℕ → Type 0 = λ f. Read f address command parameters in
    subst R (sym q.is) (of_request address command parameters q.nine)

-- a head, and a block behind it, are the request of the fields that stand there
pub requests : (frame : List ℕ) → length frame ≡ 18 → headed frame ≡ true → Block (take 16 (drop 2 frame)) →
    get_or frame 4 0 < 256 → get_or frame 5 0 < 256 →
    Requests frame (get_or frame 4 0 + 256 * get_or frame 5 0) (get_or frame 6 0) (take 9 (drop 7 frame))
requests frame long head block low high =
    let h = and_parts _ _ head in
    let h' = and_parts _ _ h.1 in
    let h'' = and_parts _ _ h'.1 in
    let e₀ = eqb-true (get_or frame 0 0) 5 h.0 in
    let e₁ = eqb-true (get_or frame 1 0) 100 h'.0 in
    let e₂ = eqb-true (get_or frame 2 0) 0 h''.0 in
    let e₃ = eqb-true (get_or frame 3 0) 0 h''.1 in
    let d₀ = drop_more frame 0 0 (omega arith) in
    let d₁ = drop_more frame 1 0 (omega arith) in
    let d₂ = drop_more frame 2 0 (omega arith) in
    let d₃ = drop_more frame 3 0 (omega arith) in
    let d₄ = drop_more frame 4 0 (omega arith) in
    let d₅ = drop_more frame 5 0 (omega arith) in
    let d₆ = drop_more frame 6 0 (omega arith) in
    let address : ℕ = get_or frame 4 0 + 256 * get_or frame 5 0 in
    let parameters : List ℕ = take 9 (drop 7 frame) in
    let l : get_or frame 4 0 ≡ address % 256 = omega arith in
    let u : get_or frame 5 0 ≡ address / 256 = omega arith in
    let body : drop 2 frame ≡ 0 ∷ 0 ∷ address % 256 ∷ address / 256 ∷ get_or frame 6 0 ∷ drop 7 frame = cc in
    let is : drop 2 frame ≡ sealed block.0 = sym (take_all 16 (drop 2 frame) (simp length-drop (omega arith))) ∙ block.1 in
    let fourteen : length block.0 ≡ 14 = omega (arith, ap length is ∙ length-sealed block.0, length-drop 2 frame) in
    let covered : block.0 ≡ 0 ∷ 0 ∷ address % 256 ∷ address / 256 ∷ get_or frame 6 0 ∷ parameters =
    sym (front block.0 14 fourteen) ∙ ap (take 14) (sym is ∙ body) in
    record {
      fits = omega arith;
      nine = length-take-le 9 (drop 7 frame) (simp length-drop (omega arith));
      is = cc;
    }

-- a request's fields are those that stand in its bytes, so it has no others
pub reads_as : (frame : List ℕ) (address command : ℕ) (parameters : List ℕ) → Requests frame address command parameters →
    ReadsAs frame address command parameters
reads_as frame address command parameters q =
    let one = reading frame address command parameters q in
    record {
      reads = q;
      alone = λ a c ps q'.
          let two = reading frame a c ps q' in (
            two.address_is ∙ sym one.address_is,
            two.command_is ∙ sym one.command_is,
            two.parameters_are ∙ sym one.parameters_are,
          );
    }

-- equal fields are those of the same request
pub moved : {frame ps ps' : List ℕ} {a a' c c' : ℕ} → Requests frame a c ps → a ≡ a' → c ≡ c' → ps ≡ ps' → Requests frame a' c' ps'
moved q ea ec eps = record { fits = omega (arith, q.fits); nine = ap length (sym eps) ∙ q.nine; is = q.is ∙ cc }

-- a valid request is that of the fields that stand in its bytes
pub fields : (frame : List ℕ) → Valid frame → Requests frame (get_or frame 4 0 + 256 * get_or frame 5 0) (get_or frame 6 0) (take 9 (drop 7 frame))
fields frame (address, command, parameters, q) =
    let r = reading frame address command parameters q in
    moved q r.address_is r.command_is r.parameters_are

headed_four : (a b c d : ℕ) → nat_eq 5 a && (nat_eq 100 b && (nat_eq 0 c && (nat_eq 0 d && true)))
    ≡ (a == 5 && (b == 100 && (c == 0 && d == 0)))
headed_four a b c d = grind (arith, nat_tests)

-- the test that tells a valid request: its length, its first four bytes, and the block behind the head
pub decides : (frame behind : List ℕ) (r : Bool) → length frame ≡ 18 → headed frame ≡ true → behind ≡ take 16 (drop 2 frame) →
    Decides r (Block behind) → get_or frame 4 0 < 256 → get_or frame 5 0 < 256 → Decides r (Valid frame)
decides frame behind r long head is block low high = (
  (λ t. (_, _, _, requests frame long head (subst Block is (block.0 t)) low high)),
  (λ v. block.1 (subst Block (sym is) (reading frame v.0 v.1 v.2 v.3).block)),
)

-- the test of the first four bytes, in one go
pub headed_by : (frame : List ℕ) → 4 ≤ length frame → pointwise nat_eq (5 ∷ 100 ∷ 0 ∷ 0 ∷ []) (take 4 frame) ≡ headed frame
headed_by [] h = absurd (omega arith)
headed_by (a ∷ []) h = absurd (omega arith)
headed_by (a ∷ b ∷ []) h = absurd (omega arith)
headed_by (a ∷ b ∷ c ∷ []) h = absurd (omega arith)
headed_by (a ∷ b ∷ c ∷ d ∷ rest) h = headed_four a b c d

pub not_long : (frame : List ℕ) → (length frame ≡ 18 → ⊥) → Decides false (Valid frame)
not_long frame n = ((λ t. absurd (false≢true t)), (λ v. absurd (n (reading frame v.0 v.1 v.2 v.3).long)))

pub not_headed : (frame : List ℕ) → headed frame ≡ false → Decides false (Valid frame)
not_headed frame n = ((λ t. absurd (false≢true t)), (λ v. absurd (both_ways _ n (reading frame v.0 v.1 v.2 v.3).head)))

-- past the last place that leaves 18 bytes no valid request begins
pub past_end : (line : List ℕ) (at : ℕ) → length line < at + 18 → Valid (window line at) → ⊥
past_end line at short (address, command, parameters, q) =
    let long = (reading (window line at) address command parameters q).long in
    omega (arith, long, length-take 18 (drop at line), length-drop at line)

-- what the test of that part tells of the place
pub here : {frame : List ℕ} {r : Bool} (line : List ℕ) (at : ℕ) → frame ≡ window line at → r ≡ true → Decides r (Valid frame) →
    Requests (window line at) (get_or frame 4 0 + 256 * get_or frame 5 0) (get_or frame 6 0) (take 9 (drop 7 frame))
here {frame} line at is t d =
    let q = fields frame (d.0 t) in
    record { fits = q.fits; nine = q.nine; is = sym is ∙ q.is }
