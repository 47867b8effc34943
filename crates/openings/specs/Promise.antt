-- What is proved of `find_of`, over all lists, dates and minutes. The proofs are in proofs/Earliest.antt.
use Rattle.std.specs.Prelude.{◌≡◌, ◌≤◌, true, cond, List, [], ◌∷◌}
use Rattle.openings.specs.declared.Window.{Window}
use Rattle.openings.specs.declared.Moment.{Moment}
use Rattle.openings.specs.declared.Opening.TheVariants.{At, None}
use Rattle.openings.specs.Windows.{minute_exists, minute_number, is_open}
use Rattle.openings.specs.Find.{in_order, find_of, opening_number, opening_values}

-- f is the earliest minute, not before m, that lies in a window
pub record Earliest (ws : List Window) (m f : Moment) : Type 0 where
  pub exists : minute_exists f ≡ true
  pub lies : is_open ws f ≡ true
  pub not-before : minute_number m ≤ minute_number f
  pub first : (k : Moment) → minute_exists k ≡ true → is_open ws k ≡ true → minute_number m ≤ minute_number k → minute_number f ≤ minute_number k

-- no minute from m on, up to the end of 2099, lies in a window
abbrev pub NoneLeft : List Window → Moment → Type 0
NoneLeft ws m = (k : Moment) → minute_exists k ≡ true → minute_number m ≤ minute_number k → is_open ws k ≡ true → ⊥

pub record FindHolds (ws : List Window) (m : Moment) : Type 0 where
  -- a minute exactly where the question is in order and it is the earliest
  pub found : (f : Moment) → find_of ws m ≡ At f → Earliest ws m f
  pub found-only : (f : Moment) → in_order ws m ≡ true → Earliest ws m f → find_of ws m ≡ At f
  -- "none" exactly where the question is in order and no minute is left
  pub none : find_of ws m ≡ None → NoneLeft ws m
  pub none_only : in_order ws m ≡ true → NoneLeft ws m → find_of ws m ≡ None
  -- refused as 15 exactly where the question is not in order
  pub number : opening_number (find_of ws m) ≡ cond (in_order ws m) 0 15
  -- the answer's values are those of the earliest minute, and it has none where there is no such minute or the question is refused
  pub values : (f : Moment) → in_order ws m ≡ true → Earliest ws m f
      → opening_values (find_of ws m) ≡ f.date.year ∷ f.date.month ∷ f.date.day ∷ f.minute ∷ []
  pub no_values : (in_order ws m ≡ true → NoneLeft ws m) → opening_values (find_of ws m) ≡ []
