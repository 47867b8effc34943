-- What a message that passed the reader's questions gives: its hosts, cue numbers and ticks are in range.
use mathlib.Core.Path.{◌≡◌, refl}
use Prim.Native.Nat.{◌<◌}
use native.Mathlib.Omega.{arith}
use mathlib.Core.Bool.{true}
use lib.ListN.{get_or}
use borrow.Author.Tests.{ltb-true, leb-true}
use Rattle.message.specs.declared.Report.{Report}
use Rattle.message.specs.declared.Echo.{Echo}
use Rattle.message.specs.Limit.{number_limit}
use Rattle.message.specs.Section.{all}
use Rattle.message.specs.Entry.{blank_name}
use Rattle.message.specs.Message.{Meaning}
use Rattle.message.specs.Question.{host_in, number_in, ticks_in, name_in, report_in, echo_in, in_range}
use Rattle.message.specs.Cue.{cue_in}
use Rattle.message.proofs.QuestionLaws.{and_both}
use Rattle.session.proofs.Lists.{all_first}

-- a report and an echo that pass their tests
pub report_in_lem : (r : Report) → report_in 65535 r ≡ true → (r.source.0 < 8) × (r.last.0 < number_limit)
report_in_lem r h =
    let a = and_both (host_in r.source) _ h in
    (ltb-true r.source.0 8 a.0, omega (arith, leb-true r.last.0 65535 a.1))

pub echo_in_lem : (x : Echo) → echo_in x ≡ true → (x.stamp < 281474976710656) × (x.held < 281474976710656)
echo_in_lem x h =
    let a = and_both (host_in x.host) _ h in
    let b = and_both (ticks_in x.stamp) _ a.1 in
    (ltb-true x.stamp 281474976710656 b.0, ltb-true x.held 281474976710656 b.1)

pub record InRange (m : Meaning) : Type 0 where
  pub sender : m.sender.0 < 8
  pub source : (get_or m.names 0 blank_name).name.source.0 < 8
  pub number : (get_or m.names 0 blank_name).name.number.0 < number_limit
  pub host : (get_or m.names 0 blank_name).host.0 < 8
  pub reports : all (report_in 65535) m.reports ≡ true
  pub echoes : all echo_in m.echoes ≡ true

pub in_range_lem : (m : Meaning) → in_range 65535 m ≡ true → InRange m
unfolding in_range
in_range_lem m h =
    let n = get_or m.names 0 blank_name in
    let a = and_both (host_in m.sender) _ h in
    let b = and_both (ticks_in m.stamp) _ a.1 in
    let c = and_both (all (name_in 65535) m.names) _ b.1 in
    let d = and_both (all cue_in m.cues) _ c.1 in
    let f = and_both (all (report_in 65535) m.reports) _ d.1 in
    let name = and_both (host_in n.name.source) _ (all_first (name_in 65535) m.names blank_name c.0 refl) in
    let rest = and_both (number_in 65535 n.name.number) _ name.1 in
    record {
      sender = ltb-true m.sender.0 8 a.0;
      source = ltb-true n.name.source.0 8 name.0;
      number = omega (arith, leb-true n.name.number.0 65535 rest.0);
      host = ltb-true n.host.0 8 rest.1;
      reports = f.0;
      echoes = f.1;
    }
