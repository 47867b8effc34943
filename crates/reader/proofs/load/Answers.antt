use mathlib.Core.Path.{ap, ◌∙◌}
use lib.ListN.{get_or}
use Rattle.message.specs.Entry.{as_host}
use Rattle.reader.proofs.LoadLaws.{loaded_by, loaded}
use Rattle.reader.proofs.load.Goals as goal

-- `reader::load` meets its contract: each call gives the part of the message at its place.
pub returns : goal.returns
returns c =
    let reports = c.before in
    let cue = reports.before in
    let names = cue.before in
    let stamp = names.before in
    let kind = stamp.before.before in
    let counts = kind.before.before in
    let s = counts.args.s.now in
    (λ i. record {
      kind = kind.kind_of.ensures i;
      sender = as_host (get_or s 1 0);
      stamp = stamp.read_be.ensures.number i;
      counts = counts.args.c;
      names = names.read_entries.ensures i;
      cue = cue.read_cue.ensures i;
      reports = reports.read_entries-2.ensures i;
      echoes = c.read_entries-3.ensures i;
    })
    ∙ ap (loaded_by counts.args.w s) counts.requires.counts
    ∙ loaded counts.args.w s
