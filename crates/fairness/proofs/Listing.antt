-- The record of document 01's listing, computed: the theorems speak of records that have lines.
use mathlib.Core.Path.{◌≡◌, refl}
use mathlib.Core.List.{[], ◌∷◌}
use Rattle.end.specs.declared.Move.TheVariants.{Join, Joined}
use Rattle.end.specs.Run.{seen}
use Rattle.record.specs.Line.{moved, sent, handed_out}
use Rattle.cases.specs.Listing.{house, script, minus_two}
use Rattle.cases.proofs.Opened.{opened}
use Rattle.record.specs.Kept.{lines_for}
use Rattle.fairness.specs.Honest.{record_of}

listing_record : record_of (seen house script)
    ≡ moved Join 0
    ∷ moved Joined 0
    ∷ moved Join 1
    ∷ moved Joined 1
    ∷ sent 0 0 minus_two
    ∷ handed_out 1 0 0 minus_two
    ∷ sent 0 1 minus_two
    ∷ sent 0 2 minus_two
    ∷ handed_out 1 0 2 minus_two
    ∷ handed_out 1 0 1 minus_two
    ∷ []
unfolding record_of lines_for opened
listing_record = refl
