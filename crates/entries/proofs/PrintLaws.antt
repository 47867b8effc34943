-- What the definitions of `specs/Print.antt` answer, once their tests are known.
use mathlib.Core.Path.{◌≡◌, refl, sym, ap, ◌∙◌}
use mathlib.Core.Bool.{true, false}
use mathlib.Core.List.{◌++◌}
use lib.ListN.{length}
use Rattle.calendar.specs.declared.Date.{Date}
use Rattle.calendar.specs.Calendar.{exists_of, roll_date}
use Rattle.entries.specs.Print.{date_text, line_feed, refused_line, roll_line}

pub date-size : (d : Date) → length (date_text d) ≡ 10
unfolding date_text
date-size d = refl

pub rolled_line : (d r : Date) → exists_of d ≡ true → r ≡ roll_date d → date_text r ++ line_feed ≡ roll_line d
unfolding roll_line
rolled_line d r e f = ap (λ (z : Date). date_text z ++ line_feed) f ∙ sym (simp e)

pub refused-roll : (d : Date) → exists_of d ≡ false → refused_line 15 ≡ roll_line d
unfolding roll_line
refused-roll d e = sym (simp e)
