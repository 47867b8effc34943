use mathlib.Core.Path.{◌≡◌, sym, ap, ◌∙◌}
use mathlib.Core.List.{List}
use Prim.Native.Nat.{ℕ, ◌+◌, ◌*◌}
use lib.ListN.{get_or}
use Rattle.message.specs.Entry.{name_width, cue_width, report_width}
use Rattle.message.specs.declared.Counts.{Counts}
use Rattle.message.proofs.LayoutLaws.{counts_with, names_byte, cues_byte, reports_byte, echoes_byte}
use Rattle.reader.proofs.counts_in.Goals as goal

-- `reader::counts_in` meets its contract: each count stands where the counts before it say.
pub returns : goal.returns
returns c =
    let reports = c.before in
    let names = reports.before in
    let a = names.args in
    let s : List ℕ = a.s.now in
    let w : ℕ = a.w in
    let count : Counts = counts_with w s in
    let n : names.byte_at-n.result ≡ count.names = names.byte_at-n.ensures.there ∙ sym (names_byte w s) in
    let b : names.entries_long-names.result ≡ count.names * name_width w = names.entries_long-names.ensures.long ∙ ap (λ (x : ℕ). x * name_width w) n in
    let k : reports.byte_at-k.result ≡ count.cues = reports.byte_at-k.ensures.there ∙ ap (λ (x : ℕ). get_or s (9 + x) 0) b ∙ sym (cues_byte w s) in
    let r : reports.byte_at-r.result ≡ count.reports =
    reports.byte_at-r.ensures.there ∙ (λ i. get_or s (10 + b i + k i * cue_width) 0) ∙ sym (reports_byte w s) in
    let d : reports.entries_long-reports.result ≡ count.reports * report_width w =
    reports.entries_long-reports.ensures.long ∙ ap (λ (x : ℕ). x * report_width w) r in
    let e : c.byte_at-e.result ≡ count.echoes =
    c.byte_at-e.ensures.there ∙ (λ i. get_or s (11 + b i + k i * cue_width + d i) 0) ∙ sym (echoes_byte w s) in
    record {
      counts = λ i. record { names = n i; cues = k i; reports = r i; echoes = e i };
      bytes = record {
        names = names.byte_at-n.ensures.small;
        cues = reports.byte_at-k.ensures.small;
        reports = reports.byte_at-r.ensures.small;
        echoes = c.byte_at-e.ensures.small;
      };
    }
