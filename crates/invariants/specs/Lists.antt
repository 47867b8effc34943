-- Sound stays sound over lists of calls, as statements; proofs/Lists.antt proves each. Calls, ends and what an onlooker sees are those
-- of demand 3 (the crate end's Run), but an arrival may bring any bytes whatever, put out by an end or not.
use Rattle.std.specs.Prelude.{◌≡◌, true, List, [], ◌∷◌, ℕ, ◌<◌}
use Rattle.end.specs.Round.{Drawn}
use Rattle.end.specs.Sound.{sound_of}
use Rattle.end.specs.Answer.{Refused}
use Rattle.end.specs.Book.{Entry}
use Rattle.end.specs.Run.{Call, World, result_of, world_after, seen, CueArray, Fresh}

-- the ends after all of a list's calls
unfoldable pub through : World → List Call → World
through w [] = w
through w (c ∷ cs) = through (world_after w c.host (result_of w c)) cs

-- lists of calls on eight ends, with arguments of their declared types: draws are numbers of 16 bits, and a cue that is sent has 24 bytes
abbrev pub Declared : List Call → Type 0
Declared [] = Unit {0}
Declared (c ∷ cs) = (c.host < 8) × Drawn c.draws × CueArray c.action × Declared cs

-- After every list of calls on eight ends from openings that were not refused each of these is sound.
abbrev pub EndsStaySound : Type 0
EndsStaySound = (w : World) → Fresh w → (cs : List Call) → Declared cs → (h : ℕ) → h < 8 → sound_of ((through w cs).ends h) ≡ true

-- none of these calls was refused as 3
abbrev pub NoneAs3 : List Entry → Type 0
NoneAs3 [] = Unit {0}
NoneAs3 (x ∷ xs) = (x.outcome ≡ Refused 3 → ⊥) × NoneAs3 xs

-- In every list of calls on ends from openings that were not refused no call is refused as 3.
abbrev pub NeverRefusedAs3 : Type 0
NeverRefusedAs3 = (w : World) → Fresh w → (cs : List Call) → Declared cs → NoneAs3 (seen w cs)
