-- Cases of documents 01 and 02 as a C host sees them: what each call answers, and the bytes that the writer leaves. They are replayed from C
-- too (panel/cases.txt at the repository's root). The proof is in proofs/Computed.antt.
use Rattle.std.specs.Prelude.{◌≡◌, ℕ, List, [], ◌∷◌, ◌++◌, replicate}
use Rattle.panel.specs.Answers.{verdict_of, cue_test_of, data_answer, data_output}

-- a row: what is computed, and what the documents say
abbrev pub Row : Type 0
Row = ℕ × ℕ

abbrev pub Hold : List Row → Type 0
Hold [] = Unit {0}
Hold (row ∷ rows) = (row.0 ≡ row.1) × Hold rows

-- "lamp power 0..1000": a cue with this focus, two bytes, and this lamp power, two bytes
abbrev pub cue_of : ℕ → ℕ → ℕ → ℕ → List ℕ
cue_of focus1 focus2 lamp1 lamp2 = focus1 ∷ focus2 ∷ 0 ∷ 0 ∷ 0 ∷ 0 ∷ 0 ∷ 0 ∷ lamp1 ∷ lamp2 ∷ replicate 14 0

-- "Focus −2 is FF FE"; −2000 is F8 30, −2001 is F8 2F; 2000 is 07 D0, 2001 is 07 D1; lamp 1000 is 03 E8, 1001 is 03 E9
abbrev pub minus2 : List ℕ
minus2 = cue_of 0xFF 0xFE 0 0

abbrev pub minus2001 : List ℕ
minus2001 = cue_of 0xF8 0x2F 0 0

-- an output of so many bytes
abbrev pub room : ℕ → List ℕ
room n = replicate n 170

-- the DATA of host 1's cue 263 at clock 392, and a DATA whose name has another host
abbrev pub named : ℕ → List ℕ → List ℕ
named host cue = 17 ∷ 1 ∷ 0 ∷ 0 ∷ 0 ∷ 0 ∷ 0x01 ∷ 0x88 ∷ 1 ∷ 1 ∷ 0x01 ∷ 0x07 ∷ host ∷ 1 ∷ cue ++ (0 ∷ 0 ∷ [])

unfoldable pub verdict_rows : List Row
verdict_rows =
    -- "a probe is 0"; "Number 8 is from then on for lengths 1 to 11"
    (verdict_of [], 0)
    ∷ (verdict_of (0 ∷ []), 8)
    ∷ (verdict_of (replicate 11 0), 8)
    -- no kind
    ∷ (verdict_of (replicate 12 0), 9)
    -- document 01's RQST, which is still read, and the same under its new kind
    ∷ (verdict_of (2 ∷ 1 ∷ 0 ∷ 0 ∷ 0 ∷ 0 ∷ 0x01 ∷ 0x88 ∷ 1 ∷ 0 ∷ 1 ∷ 1 ∷ 0 ∷ 0 ∷ 0 ∷ []), 0)
    ∷ (verdict_of (18 ∷ 1 ∷ 0 ∷ 0 ∷ 0 ∷ 0 ∷ 0x01 ∷ 0x88 ∷ 1 ∷ 0 ∷ 0 ∷ 1 ∷ 1 ∷ 0 ∷ 0 ∷ 0 ∷ []), 0)
    -- "numbers to 63" of the old kinds
    ∷ (verdict_of (2 ∷ 1 ∷ 0 ∷ 0 ∷ 0 ∷ 0 ∷ 0x01 ∷ 0x88 ∷ 1 ∷ 0 ∷ 64 ∷ 1 ∷ 0 ∷ 0 ∷ 0 ∷ []), 10)
    -- "Focus −2 is FF FE; −2001: .. 10 on the wire"; the host in the name
    ∷ (verdict_of (named 1 minus2), 0)
    ∷ (verdict_of (named 1 minus2001), 10)
    ∷ (verdict_of (named 2 minus2), 11)
    ∷ []

unfoldable pub cue_rows : List Row
cue_rows =
    (cue_test_of minus2, 0)
    ∷ (cue_test_of (cue_of 0xF8 0x30 0 0), 0)
    ∷ (cue_test_of minus2001, 6)
    ∷ (cue_test_of (cue_of 0x07 0xD0 0 0), 0)
    ∷ (cue_test_of (cue_of 0x07 0xD1 0 0), 6)
    -- "Lamp 1000 is sent; 1001: 6"
    ∷ (cue_test_of (cue_of 0 0 0x03 0xE8), 0)
    ∷ (cue_test_of (cue_of 0 0 0x03 0xE9), 6)
    -- "a cue not of 24 bytes out of range"
    ∷ (cue_test_of [], 6)
    ∷ (cue_test_of (replicate 23 0), 6)
    ∷ (cue_test_of (replicate 25 0), 6)
    ∷ []

unfoldable pub writer_rows : List Row
writer_rows =
    -- "the writer 40, its length"
    (data_answer 1 263 392 minus2 (room 128), 40)
    ∷ (data_answer 7 65535 0xFFFFFFFFFFFF minus2 (room 200), 40)
    -- "Hosts are 0..7"; "Cue numbers become 0..65535"; "stamps .. below 2^48"
    ∷ (data_answer 8 263 392 minus2 (room 128), 10)
    ∷ (data_answer 257 263 392 minus2 (room 128), 10)
    ∷ (data_answer 1 65536 392 minus2 (room 128), 10)
    ∷ (data_answer 1 263 0x1000000000000 minus2 (room 128), 10)
    -- a cue out of range, or not of 24 bytes
    ∷ (data_answer 1 263 392 minus2001 (room 128), 10)
    ∷ (data_answer 1 263 392 (replicate 23 0) (room 128), 10)
    ∷ (data_answer 1 263 392 (replicate 25 0) (room 128), 10)
    -- "Output of 127 bytes: 1", which comes first
    ∷ (data_answer 1 263 392 minus2 (room 127), 1)
    ∷ (data_answer 8 65536 0x1000000000000 [] (room 127), 1)
    ∷ []

-- what is written, with the rest of the output as it was, and what a refusal leaves
abbrev pub OutputRows : Type 0
OutputRows =
    (data_output 1 263 392 minus2 (room 128) ≡ named 1 minus2 ++ room 88)
    × (data_output 1 263 392 minus2001 (room 128) ≡ room 128)
    × (data_output 1 263 392 minus2 (room 127) ≡ room 127)
