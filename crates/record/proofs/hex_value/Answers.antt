use mathlib.Core.Path.{sym}
use Rattle.decimal.proofs.DecimalLaws.{digit_range}
use Rattle.record.proofs.HexLaws.{capital_range}
use native.Mathlib.Omega.{arith}
use Rattle.record.proofs.hex_value.Goals as goal

-- `record::hex_value` meets its contract: a figure, a capital letter, or neither.
pub overflow_sub-result : goal.overflow_sub-result
overflow_sub-result c = omega (arith, digit_range c.args.c c.if-c.true)

pub returns-then-c : goal.returns-then-c
returns-then-c c = record { value = sym (simp c.if-c.true); upper_bound = omega (arith, digit_range c.args.c c.if-c.true) }

pub overflow_sub-result-then-c-2 : goal.overflow_sub-result-then-c-2
overflow_sub-result-then-c-2 c = omega (arith, capital_range c.args.c c.if-c-2.true)

pub returns-then-c-2 : goal.returns-then-c-2
returns-then-c-2 c = record { value = sym (simp (c.if-c.false, c.if-c-2.true)); upper_bound = omega (arith, capital_range c.args.c c.if-c-2.true) }

pub returns : goal.returns
returns c = record { value = sym (simp (c.if-c.false, c.if-c-2.false)); upper_bound = omega arith }
