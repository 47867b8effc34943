-- `compose::session_message` meets its contract: the entries stand in the first places, as many as the counts say.
use mathlib.Core.Path.{ap, ◌∙◌}
use mathlib.Core.List.{[]}
use Prim.Native.Nat.{◌-◌, ◌≤◌}
use native.Mathlib.Omega.{arith}
use lib.ListN.{take, replicate, length}
use lib.Seq.{take-append_seam}
use Rattle.message.specs.Entry.{blank_report, blank_echo}
use Rattle.end.specs.Messages.{reports_below, echoes_below}
use Rattle.compose.specs.declared.Entries.{Entries}
use Rattle.compose.proofs.EntryLaws.{reports-most, echoes_fit}
use Rattle.compose.proofs.session_message.Goals as goal

pub returns : goal.returns
returns c =
    let said = c.all_entries-entries in
    let e = c.args.e in
    let rs = reports_below e 8 in
    let xs = echoes_below e 8 in
    let rm : said.result.reports.count ≤ 8 = omega (arith, ap (λ (y : Entries). y.reports.count) said.ensures, reports-most e 8) in
    let xm : said.result.echoes.count ≤ 7 = omega (arith, ap (λ (y : Entries). y.echoes.count) said.ensures, echoes_fit e c.requires 8 (omega arith)) in record {
      result_value = λ i. record {
        kind = 20;
        sender = e.host;
        stamp = e.clock;
        names = [];
        cues = [];
        reports = (ap (λ (y : Entries). take y.reports.count y.reports.places) said.ensures ∙ take-append_seam rs (replicate (8 - length rs) blank_report)) i;
        echoes = (ap (λ (y : Entries). take y.echoes.count y.echoes.places) said.ensures ∙ take-append_seam xs (replicate (7 - length xs) blank_echo)) i;
      };
      small = record { names = omega arith; cues = omega arith; reports = rm; echoes = xm; size = omega (arith, rm, xm) };
    }
