-- The messages of a house as the program keeps them: 64 places of 128 bytes, a length for each place, and how many are used.
-- Document 01, "Cases": "at most 64 messages, numbered from 0 as put out".
use Rattle.std.specs.Prelude.{ℕ, zero, suc, ◌*◌, min, List, [], ◌∷◌, ◌++◌, get_or, take, drop}
use Rattle.store.specs.declared.Store.{Store}

-- how many places there are, and how many bytes each has
abbrev pub most : ℕ
most = 64

abbrev pub room : ℕ
room = 128

-- the message in a place: no more than the place's bytes
abbrev pub message_in : List ℕ → List ℕ → ℕ → List ℕ
message_in store lengths k = take (min (get_or lengths k 0) room) (drop (k * room) store)

-- the messages in the first places
unfoldable pub first_messages : List ℕ → List ℕ → ℕ → List (List ℕ)
first_messages store lengths zero = []
first_messages store lengths (suc k) = first_messages store lengths k ++ (message_in store lengths k ∷ [])

-- the messages, where `count` places are used: 64 where it is more
abbrev pub messages_in : List ℕ → List ℕ → ℕ → List (List ℕ)
messages_in store lengths count = first_messages store lengths (min count most)

-- the messages that a store keeps
abbrev pub kept : Store → List (List ℕ)
kept s = messages_in s.places s.lengths s.count
