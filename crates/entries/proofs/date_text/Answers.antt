-- `entries::date_text` meets its contract: digit by digit.
use Rattle.entries.specs.Print.{date_text}
use Rattle.entries.proofs.date_text.Goals as goal

pub returns : goal.returns
unfolding date_text
returns c =
    rw (
      c.ones-4.ensures,
      c.tens-4.ensures,
      c.ones-3.ensures,
      c.tens-3.ensures,
      c.ones-2.ensures,
      c.tens-2.ensures,
      c.ones.ensures,
      c.tens.ensures,
      c.from-month.ensures,
      c.from-day.ensures,
    )
