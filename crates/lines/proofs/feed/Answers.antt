use mathlib.Core.Path.{refl}
use borrow.Author.Tests.{eq-eqb, ne_eqb, lt-ltb, le-ltb}
use Rattle.lines.specs.Cut.{fed_of}
use Rattle.lines.proofs.feed.Goals as goal

-- `lines::feed` meets its contract: a line feed, a byte that fits, or one too many.
pub returns-then-b-eq10 : goal.returns-then-b-eq10
unfolding fed_of
returns-then-b-eq10 c = rw (eq-eqb _ 10 c.if-b-eq10.true) (record { value = refl; line_after = refl })

pub returns-then-len-lt-LONGEST : goal.returns-then-len-lt-LONGEST
unfolding fed_of
returns-then-len-lt-LONGEST c = rw (ne_eqb _ 10 c.if-b-eq10.false, lt-ltb _ 34 c.if-len-lt-LONGEST.true) (record { value = refl; line_after = refl })

pub returns-else-len-lt-LONGEST : goal.returns-else-len-lt-LONGEST
unfolding fed_of
returns-else-len-lt-LONGEST c = rw (ne_eqb _ 10 c.if-b-eq10.false, le-ltb _ 34 c.if-len-lt-LONGEST.false) (record { value = refl; line_after = refl })
