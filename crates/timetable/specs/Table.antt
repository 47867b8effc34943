-- The list of windows after a line, and what a line prints.
use Rattle.std.specs.Prelude.{Bool, true, false, cond, List, [], ◌∷◌, ◌++◌, ℕ, ltb, length, take}
use Rattle.openings.specs.declared.Window.{Window}
use Rattle.openings.specs.Find.{find_of}
use Rattle.entries.specs.Line.{Line, Add, Next, Roll, Clear, Malformed}
use Rattle.entries.specs.Print.{opening_line, roll_line, bad_line}
use Rattle.timetable.specs.declared.Table.{Table}

-- the list can hold 33 windows, one more than a search takes: from the 33rd on it is too long, and further ones leave it so
abbrev pub added_to : List Window → Window → List Window
added_to ws w = cond (ltb (length ws) 33) (ws ++ (w ∷ [])) ws

-- the list after a line
abbrev pub line_list : Line → List Window → List Window
line_list (Add w) ws = added_to ws w
line_list (Next m) ws = ws
line_list (Roll d) ws = ws
line_list Clear ws = []
line_list Malformed ws = ws

-- what a line prints, and whether it ends the run
abbrev pub line_prints : Line → List Window → List ℕ
line_prints (Add w) ws = []
line_prints (Next m) ws = opening_line (find_of ws m)
line_prints (Roll d) ws = roll_line d
line_prints Clear ws = []
line_prints Malformed ws = bad_line

abbrev pub line_stops : Line → Bool
line_stops (Add w) = false
line_stops (Next m) = false
line_stops (Roll d) = false
line_stops Clear = false
line_stops Malformed = true

-- ---- as the code keeps it
abbrev pub list_in : Table → List Window
list_in t = take t.count t.places
