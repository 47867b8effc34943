use mathlib.Core.Path.{◌≡◌, refl, sym, ap, ◌∙◌}
use native.Mathlib.Omega.{arith}
use lib.ListN.{length}
use Rattle.numbers.proofs.SpliceLaws.{splice_nil, length-splice}
use Rattle.player.specs.House.{bad_line}
use Rattle.interpreter.proofs.PlayLaws.{some-line}
use borrow.Author.Rules.{rules}
use Rattle.interpreter.proofs.finish.Goals as goal

-- `interpreter::finish` meets its contract: a script that has stopped, one that ends after a line, and one that ends within one.
pub returns-then-playing : goal.returns-then-playing
returns-then-playing c = rw c.if-playing.true (record { out_after = sym (splice_nil 0 _); value = refl; upper_bound = omega arith })

pub returns-then-playing-eq0 : goal.returns-then-playing-eq0
returns-then-playing-eq0 c = rw (c.if-playing.false, c.if-playing-eq0.true) (record { out_after = sym (splice_nil 0 _); value = refl; upper_bound = omega arith })

pub returns : goal.returns
returns c =
    let a = c.args in
    let size : length a.playing.line ≡ 34 = search rules in
    let bad = some-line a.playing.len a.playing.line c.if-playing-eq0.false (omega arith) in
    let room : length a.out.now ≡ 4 = search rules in
    let kept = ap length c.put_bytes.ensures ∙ length-splice 0 bad_line a.out.now (omega (arith, room)) in rw (c.if-playing.false, bad) (record { out_after = c.put_bytes.ensures; value = refl; upper_bound = omega (arith, kept, room) })
