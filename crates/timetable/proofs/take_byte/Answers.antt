-- `timetable::take_byte` meets its contract: the line ends, goes on, or is too long.
use native.Mathlib.Omega.{arith}
use mathlib.Core.Path.{◌≡◌, refl}
use lib.ListN.{length, length-take}
use Rattle.timetable.proofs.PlayLaws.{feed_byte, other_byte, long_byte}
use borrow.Author.Rules.{rules}
use Rattle.timetable.proofs.take_byte.Goals as goal

pub meaning-l-requires : goal.meaning-l-requires
meaning-l-requires c =
    let forty : length c.args.p.line ≡ 40 = search rules in
    let size = forty in omega arith

pub returns-then-b-eq10 : goal.returns-then-b-eq10
returns-then-b-eq10 c =
    feed_byte _ _ _ _ _ c.requires.stopped_value _ _ c.if-b-eq10.true c.meaning-l.ensures c.end_line.ensures

pub returns-then-p-lt-LONGEST : goal.returns-then-p-lt-LONGEST
returns-then-p-lt-LONGEST c =
    let a = c.args.p in
    other_byte _ _ _ _ _ c.requires.stopped_value _ c.if-b-eq10.false (omega (arith, length-take a.len a.line, c.if-p-lt-LONGEST.true)) c.longer-playing.ensures refl refl

pub returns : goal.returns
returns c =
    let forty : length c.args.p.line ≡ 40 = search rules in
    let a = c.args.p in
    long_byte _ _ _ _ _ c.requires.stopped_value _ c.if-b-eq10.false
    (omega (arith, length-take a.len a.line, forty, c.if-p-lt-LONGEST.false))
    c.end_line-2.ensures
