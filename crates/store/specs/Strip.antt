-- A strip of writes over cells, the oldest write first.
use Rattle.std.specs.Prelude.{ℕ, cond, List, [], ◌∷◌, Some, None, Option, ◌==◌, slice_index}
use Rattle.std.specs.Option.{option_or, unwrap_or}
use Rattle.store.specs.declared.appending.Entry.{Entry}

-- What one entry says of cell k.
abbrev pub says : Entry → ℕ → Option ℕ
says entry k = cond (k == entry.cell) (Some entry.byte) None

-- What the newest entry of cell k says; no entry may be of it.
abbrev pub newest : List Entry → ℕ → Option ℕ
newest [] k = None
newest (entry ∷ later) k = option_or (newest later k) (says entry k)

-- The cells: an entry counts before the base.
abbrev pub over : List ℕ → List Entry → ℕ → ℕ
over base strip k = unwrap_or (newest strip k) (slice_index base k)
