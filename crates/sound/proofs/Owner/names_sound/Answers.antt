use mathlib.Core.Path.{◌≡◌, refl, ap, ◌∙◌}
use Prim.Native.Nat.{ℕ, ◌+◌}
use lib.ListN.{get_or}
use Rattle.end.specs.State.{no_record}
use Rattle.end.specs.Records.{start, raw_at, place}
use Rattle.end.specs.Sound.{all_below, record_sound}
use Rattle.end.proofs.SoundLaws.{all_more}
use Rattle.sound.proofs.Owner.names_sound.Goals.{After-record_sound-ok}
use Rattle.sound.proofs.Owner.names_sound.Goals as goal

pub loop-i-init : goal.loop-i-init
unfolding all_below
loop-i-init c = refl

-- the record that a turn tests is that of its number
tested : (c : After-record_sound-ok)
    → let o = c.args.self in
    c.record_sound-ok.result ≡ record_sound o.me o.source o.pair o.span (start o.span + c.loop-i.i) (raw_at c.args.names (start o.span + c.loop-i.i))
tested c =
    let o = c.args.self in
    let from : c.start_of-from.result ≡ start o.span = c.start_of-from.ensures.value in
    let at : c.place.result ≡ place (start o.span + c.loop-i.i) = c.place.ensures ∙ ap (λ (x : ℕ). place (x + c.loop-i.i)) from in
    c.record_sound-ok.ensures
    ∙ ap (λ (x : ℕ). record_sound o.me o.source o.pair o.span (x + c.loop-i.i) (get_or c.args.names c.place.result no_record)) from
    ∙ ap (λ (x : ℕ). record_sound o.me o.source o.pair o.span (start o.span + c.loop-i.i) (get_or c.args.names x no_record)) at

pub loop-i-preserved : goal.loop-i-preserved
loop-i-preserved c = rw (c.loop-i.invariant, tested c, all_more)
