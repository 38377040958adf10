-- Laws of a strip over a base: one more entry is one more write.
use Rattle.std.proofs.Common.{◌≡◌, ℕ, eqb, List, [], ◌∷◌, ◌++◌, reverse, refl, arith}
use Rattle.std.proofs.lemmas.Grind.{common_steps}
use Rattle.std.proofs.lemmas.List.Folds.{find-append}
use Rattle.std.specs.List.{find}
use Rattle.std.specs.Option.{option_map, option_or}
use Rattle.store.specs.Cells.{upd}
use Rattle.store.specs.Strip.{newest, over, says}
use Rattle.store.specs.declared.appending.Entry.{Entry}

-- the newest entry of a cell is the first of it from the back
pub newest_found : (strip : List Entry) (k : ℕ) →
    option_map (λ (e : Entry). e.byte) (find (λ (e : Entry). eqb e.cell k) (reverse strip)) ≡ newest strip k
newest_found [] k = refl
newest_found (x ∷ strip) k = grind (arith, common_steps, find-append (λ (e : Entry). eqb e.cell k) (reverse strip) (x ∷ []), newest_found strip k)

newest_push : (strip : List Entry) (e : Entry) (k : ℕ) → newest (strip ++ e ∷ []) k ≡ option_or (says e k) (newest strip k)
newest_push [] e k = grind (arith, common_steps)
newest_push (x ∷ strip) e k = grind (arith, common_steps, newest_push strip e k)

-- one more entry written
pub over_written : (base : List ℕ) (strip : List Entry) (e : Entry) (k : ℕ) → over base (strip ++ e ∷ []) k ≡ upd (over base strip) e.cell e.byte k
over_written base strip e k = grind (arith, common_steps, newest_push strip e k)
