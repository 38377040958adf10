-- The words for what an order names.
use Rattle.std.specs.Prelude.{◌≡◌, ◌≢◌, ℕ, List, codes, Result, MatchResult}
use Rattle.orders.specs.declared.StoreKind.{StoreKind}
use Rattle.orders.specs.declared.StoreKind.TheVariants.{Flat, Appending}
use Rattle.orders.specs.declared.Shown.{Shown}
use Rattle.orders.specs.declared.Shown.TheVariants.{Cells, Clock, Access, Logs, Reply}

abbrev pub kind_word : StoreKind → List ℕ
kind_word Flat = codes "flat"
kind_word Appending = codes "appending"

abbrev pub shown_word : Shown → List ℕ
shown_word Cells = codes "cells"
shown_word Clock = codes "clock"
shown_word Access = codes "access"
shown_word Logs = codes "logs"
shown_word Reply = codes "reply"

-- The answer of a reader of words: what the word stands for, or that it stands for nothing.
abbrev pub Named : {T E : Type 0} → (T → List ℕ) → List ℕ → Result T E → Type 0
Named word_of word answer = MatchResult answer (λ t. word ≡ word_of t) (λ e. (t : _) → word ≢ word_of t)
