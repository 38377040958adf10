-- What reading a reply tells, and what it leaves in the memory for the data.
use Rattle.std.specs.Prelude.{◌≡◌, ℕ, ◌-◌, ◌<◌, ◌≤◌, true, false, ◌⊎◌, List, ◌++◌, length, drop, Ok, Err, Result, slice_index}
use Rattle.block.specs.Chain.{AllRight, FirstWrong}
use Rattle.refusal.specs.Told.{answer, granted, told}
use Rattle.refusal.specs.declared.Company.TheVariants.{Alone, Block}
use Rattle.refusal.specs.declared.Refusal.{Refusal}
use Rattle.reply_frame.specs.Replies.{Replies, shaped}
use Rattle.reply_frame.specs.declared.Reply.{Reply}

-- The data of a reply with this DataLen are so many bytes.
abbrev pub data_in : List ℕ → ℕ
data_in bytes = slice_index bytes 2 - 4

-- Why bytes are not read into so much memory: 14 where they have not the shape of a reply, 15 with the
-- number of the first block whose check word is wrong, 16 where the data do not fit.
abbrev pub Refuses : List ℕ → ℕ → Refusal → Type 0
Refuses bytes room e =
    ((told e ≡ (14, Alone)) × (shaped bytes ≡ false))
    ⊎ (((k : ℕ) × (told e ≡ (15, Block k)) × (shaped bytes ≡ true) × FirstWrong (drop 2 bytes) k)
    ⊎ ((told e ≡ (16, Alone)) × (shaped bytes ≡ true) × AllRight (drop 2 bytes) × (room < data_in bytes)))

-- What was read is what the bytes are the reply of; behind the data the memory stays, and a refusal
-- writes nothing.
abbrev pub Reads : List ℕ → List ℕ → List ℕ → Result Reply Refusal → Type 0
Reads bytes before after (Ok got) =
    (payload : List ℕ) × Replies bytes got.address payload × (got.length ≡ length payload) × (length payload ≤ length before)
    × (after ≡ payload ++ drop (length payload) before)
Reads bytes before after (Err e) = Refuses bytes (length before) e × (after ≡ before)

-- Every reply is read as what it is the reply of, where the memory takes its data.
abbrev pub GivesBack : List ℕ → List ℕ → List ℕ → Result Reply Refusal → Type 0
GivesBack bytes before after r =
    (address : ℕ) (payload : List ℕ) → Replies bytes address payload → length payload ≤ length before →
    (answer r ≡ granted (record { address = address; length = length payload })) × (after ≡ payload ++ drop (length payload) before)
