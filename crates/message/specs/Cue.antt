-- A cue. Document 01, "The link and its edge": "A cue is 24 bytes: focus, zoom, sideways and upright offset, each a signed
-- 16-bit two's complement number from −2000 to 2000 motor steps; lamp power 0..1000 (16 bits, unsigned); 14 free bytes."
use Rattle.std.specs.Prelude.{ℕ, Bool, ◌&&◌, List, ◌++◌, take, drop, replicate, leb, ℤ, pos, negsuc}
use Rattle.std.specs.Int.Signed.{le_z}
use Rattle.numbers.specs.Number.{value, digits}
use Rattle.numbers.specs.Signed.{signed, unsigned}
use Rattle.message.specs.declared.CueFields.{CueFields}

-- the signed number in the two bytes at a place
abbrev pub steps_at : List ℕ → ℕ → ℤ
steps_at cue at = signed (value (take 2 (drop at cue)))

-- a cue's five fields, in the order of its bytes
abbrev pub fields_of : List ℕ → CueFields
fields_of cue = record {
  focus = steps_at cue 0;
  zoom = steps_at cue 2;
  sideways = steps_at cue 4;
  upright = steps_at cue 6;
  lamp = value (take 2 (drop 8 cue));
}

-- "from −2000 to 2000 motor steps"
abbrev pub steps_in : ℤ → Bool
steps_in z = le_z (negsuc 1999) z && le_z z (pos 2000)

-- "lamp power 0..1000"
abbrev pub lamp_in : ℕ → Bool
lamp_in power = leb power 1000

abbrev pub fields_in : CueFields → Bool
fields_in f = steps_in f.focus && (steps_in f.zoom && (steps_in f.sideways && (steps_in f.upright && lamp_in f.lamp)))

-- "are offsets and lamp in range?": the 14 free bytes may be anything
unfoldable pub cue_in : List ℕ → Bool
cue_in cue = fields_in (fields_of cue)

-- the cue with these fields and 0 in its free bytes
unfoldable pub cue_with : CueFields → List ℕ
cue_with f =
    digits 2 (unsigned f.focus)
    ++ (digits 2 (unsigned f.zoom)
    ++ (digits 2 (unsigned f.sideways) ++ (digits 2 (unsigned f.upright) ++ (digits 2 f.lamp ++ replicate 14 0))))
