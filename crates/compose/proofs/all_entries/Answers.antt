use mathlib.Core.Path.{◌≡◌, ap, ◌∙◌}
use Prim.Native.Nat.{◌-◌}
use native.Mathlib.Omega.{arith}
use lib.ListN.{replicate}
use Rattle.message.specs.Entry.{as_host}
use Rattle.end.specs.State.{source_at}
use Rattle.end.specs.Messages.{report_on, echo_on, reports_below, echoes_below}
use Rattle.compose.specs.declared.Reports.{Reports}
use Rattle.compose.specs.declared.Echoes.{Echoes}
use Rattle.compose.specs.Entries.{entries_below, with_report, with_echo}
use Rattle.compose.proofs.EntryLaws.{reports-most, reports-more, echoes-room, echoes-more}
use Rattle.compose.proofs.all_entries.Goals as goal

pub loop-h-init : goal.loop-h-init
unfolding reports_below echoes_below
loop-h-init c = (omega arith, (λ i. record { count = 0; places = replicate 8 (c.no_report.ensures i) }, λ i. record { count = 0; places = replicate 7 (c.no_echo.ensures i) }))

pub with_report-reports-requires : goal.with_report-reports-requires
with_report-reports-requires c =
    let loop = c.loop-h in
    omega (arith, ap (λ (x : Reports). x.count) loop.invariant.1.0, reports-most c.args.e loop.h)

pub with_echo-echoes-requires : goal.with_echo-echoes-requires
with_echo-echoes-requires c =
    let loop = c.loop-h in
    let h = loop.h in record { heard_bound = omega (arith, ap (λ (x : Echoes). x.count) loop.invariant.1.1, echoes-room c.args.e c.requires h (omega arith)); heard_by = c.requires.heard (as_host h) (omega arith) }

pub loop-h-preserved : goal.loop-h-preserved
loop-h-preserved c =
    let e = c.args.e in
    let loop = c.loop-h in
    let h = loop.h in
    let had = loop.invariant.1 in (
      omega arith,
      (
        c.with_report-reports.ensures ∙ ap (λ (x : Reports). with_report x (report_on (as_host h) (source_at e (as_host h)).span)) had.0 ∙ reports-more e h (omega arith),
        c.with_echo-echoes.ensures ∙ ap (λ (x : Echoes). with_echo x (echo_on (as_host h) e.clock (source_at e (as_host h)).heard)) had.1 ∙ echoes-more e c.requires h (omega arith),
      ),
    )

pub returns : goal.returns
returns c =
    let last : c.loop-h.h ≡ 8 = omega arith in
    let had = c.loop-h.invariant.1 in
    (λ i. record { reports = had.0 i; echoes = had.1 i }) ∙ ap (entries_below _) last
