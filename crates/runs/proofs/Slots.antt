-- The reply memory of a slot, a part of which is lent to a call of hear.
use Rattle.std.proofs.Common.{◌≡◌, ℕ, ◌≤◌, min, List, [], ◌++◌, length, take, drop, sym, ap, ◌∙◌, ⊎_elim, append-nil, arith}
use Rattle.std.proofs.lemmas.List.{drop_all, drop_at, drop_min, take_all, take_at, take_min}
use Rattle.std.proofs.lemmas.Bool.{cases_lt}

module _ (room n : ℕ) (before after : List ℕ) (least : n ≡ min room 295) (long : length before ≡ 295) (same : length after ≡ n) where
  lent : n ≡ min room (length before)
  lent = least ∙ ap (min room) (sym long)

  pub part_lent : take n before ≡ take room before
  part_lent = ap (λ (k : ℕ). take k before) lent ∙ take_min room before

  rest_lent : drop n before ≡ drop room before
  rest_lent = ap (λ (k : ℕ). drop k before) lent ∙ drop_min room before

  none_left : 295 ≤ room → drop n before ≡ []
  none_left all = drop_all n before (omega arith)

  pub part_given : take room (after ++ drop n before) ≡ after
  part_given =
      ⊎_elim
      (λ few. take_at after (drop n before) room (omega arith))
      (λ all. ap (λ (l : List ℕ). take room (after ++ l)) (none_left all) ∙ ap (take room) (append-nil after) ∙ take_all room after (omega arith))
      (cases_lt room 295)

  pub rest_kept : drop room (after ++ drop n before) ≡ drop room before
  rest_kept =
      ⊎_elim
      (λ few. drop_at after (drop n before) room (omega arith) ∙ rest_lent)
      (λ all.
      ap (λ (l : List ℕ). drop room (after ++ l)) (none_left all) ∙ ap (drop room) (append-nil after) ∙ drop_all room after (omega arith)
      ∙ sym (drop_all room before (omega arith)))
      (cases_lt room 295)
