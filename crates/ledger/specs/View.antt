-- What the book says of one host, one source and one cue, and how each line changes that: what the helpers promise. The definitions of
-- Judgement.antt do not rest on these.
use Rattle.std.specs.Prelude.{Bool, true, false, cond, not, ◌&&◌, ◌||◌, List, [], ℕ, ◌+◌, ◌-◌, leb, eqb, length}
use Rattle.std.proofs.Math.Option.{Option, none, some}
use Rattle.std.proofs.Math.ListN.{get_elem?}
use Rattle.message.specs.declared.Host.{Host}
use Rattle.message.specs.declared.CueNumber.{CueNumber}
use Rattle.message.specs.Entry.{as_host, as_number}
use Rattle.end.specs.declared.Move.{Move}
use Rattle.end.specs.declared.Move.TheVariants.{Join, Joined, Leave, Left, Crash}
use Rattle.end.specs.declared.Status.TheVariants.{Idle}
use Rattle.end.specs.State.{is_member}
use Rattle.end.specs.Decide.{same_cue}
use Rattle.end.specs.Event.{moves, moves_to}
use Rattle.end.specs.Book.{Book, among, first_of, not_below, is_some, kept}
use Rattle.record.specs.declared.Said.{Said}
use Rattle.record.specs.declared.Said.TheVariants.{Malformed, Moved, Sent, Got}
use Rattle.record.specs.declared.Line.{Line}
use Rattle.ledger.specs.declared.Asked.{Asked}
use Rattle.ledger.specs.declared.View.{View}
use Rattle.ledger.specs.Judgement.{anywhere}

-- what stands past the last of the lines, as the language has it
abbrev pub no_line : Line
no_line = record { said = Malformed; cue = [] }

-- what a line is judged by: its host, and the name and cue that it brings; a line without a source has its host's own
abbrev pub asked_for : Host → Host → CueNumber → List ℕ → Asked
asked_for h s n cue = record { host = h; source = s; number = n; cue = cue }

abbrev pub asked_of : Said → List ℕ → Asked
asked_of Malformed cue = asked_for (as_host 0) (as_host 0) (as_number 0) cue
asked_of (Moved m h) cue = asked_for h h (as_number 0) cue
asked_of (Sent h n) cue = asked_for h h n cue
asked_of (Got h name) cue = asked_for h name.source name.number cue

-- ---- the view of a book

abbrev pub is_cue : Option (List ℕ) → List ℕ → Bool
is_cue none cue = false
is_cue (some c) cue = same_cue c cue

abbrev pub is_free : Option ℕ → Option ℕ → List ℕ → ℕ → Bool
is_free first highest handed n = not_below first n && (kept highest n && not (among n handed))

unfoldable pub view_of : Book → Asked → View
view_of b a = record {
  status = b.status a.host.0;
  filed = length (b.filed a.source.0);
  same = is_cue (get_elem? (b.filed a.source.0) a.number.0) a.cue;
  began = is_some (first_of (b.handed a.host.0 a.source.0));
  free = is_free (first_of (b.handed a.host.0 a.source.0)) (b.highest a.host.0 a.source.0)
      (b.handed a.host.0 a.source.0) a.number.0;
}

-- of the empty book
abbrev pub no_view : View
no_view = record { status = Idle; filed = 0; same = false; began = false; free = true }

-- ---- the view after a line

abbrev pub joins : Move → Bool
joins Join = false
joins Joined = true
joins Leave = false
joins Left = false
joins Crash = false

abbrev pub shifted : Move → View → View
shifted m v = record { status = moves_to m; filed = v.filed; same = v.same; began = v.began && not (joins m); free = v.free || joins m }

abbrev pub moved_view : Move → View → View
moved_view m v = cond (moves m v.status) (shifted m v) v

abbrev pub filed_view : Asked → List ℕ → View → View
filed_view a cue v = record {
  status = v.status;
  filed = v.filed + 1;
  same = cond (eqb a.number.0 v.filed) (same_cue cue a.cue) v.same;
  began = v.began;
  free = v.free;
}

-- after a number was handed out, whether n still may be
abbrev pub leaves_free : Bool → ℕ → ℕ → Bool
leaves_free began new n = (began || leb new n) && (leb (new - 63) n && not (eqb n new))

abbrev pub handed_view : Asked → ℕ → View → View
handed_view a n v = record { status = v.status; filed = v.filed; same = v.same; began = true; free = v.free && leaves_free v.began n a.number.0 }

unfoldable pub view_after : Asked → Said → List ℕ → View → View
view_after a Malformed cue v = v
view_after a (Moved m h) cue v = cond (eqb a.host.0 h.0) (moved_view m v) v
view_after a (Sent h n) cue v = cond (eqb a.source.0 h.0) (filed_view a cue v) v
view_after a (Got h name) cue v =
    cond (eqb a.host.0 h.0 && eqb a.source.0 name.source.0) (handed_view a name.number.0 v) v

-- ---- whether the book permits a line, by its view

unfoldable pub allowed_by : Said → View → Bool
allowed_by Malformed v = false
allowed_by (Moved m h) v = anywhere m || moves m v.status
allowed_by (Sent h n) v = is_member v.status && eqb n.0 v.filed
allowed_by (Got h name) v = is_member v.status && (not (eqb h.0 name.source.0) && (v.same && v.free))
