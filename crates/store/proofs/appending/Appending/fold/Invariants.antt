use Rattle.std.proofs.Common.{◌≡◌, ℕ}
use Rattle.store.specs.Strip.{over}
use Rattle.store.proofs.appending.Appending.fold.Given as goal

-- the entries that are left, over the base so far, tell the cells
abbrev pub invariant-loop-entry : goal.invariant-loop-entry
invariant-loop-entry l = (k : ℕ) → over l.base l.entry-iterator.rest.now k ≡ over l.fn.self.base l.fn.self.strip.items k
