-- `receive::named_reason` meets its contract: the decision on the word, in the source that it names.
use Prim.Native.Nat.{◌<◌}
use Rattle.message.specs.Message.{meaning_of}
use Rattle.session.proofs.Passes.{in_range_lem}
use Rattle.receive.proofs.named_reason.Goals as goal

pub bounds-e-at : goal.bounds-e-at
bounds-e-at c =
    let there : c.word_in-w.result.name.source.0 < 8 = rw c.word_in-w.ensures (in_range_lem (meaning_of c.args.m) c.requires).source in
    there

pub returns : goal.returns
returns c =
    rw (c.reason_of.ensures, c.decide-d.ensures, c.record_at-known.ensures, c.word_in-w.ensures, c.moment_of-t.ensures)
