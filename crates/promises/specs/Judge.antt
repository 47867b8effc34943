-- The judge of a kept run: document 02, P13. The statements of the crates `fairness`, `judgement` and `record`.
use Rattle.std.specs.Prelude.{◌≡◌, Bool, true, List, [], ℕ, ◌≤◌, ◌<◌, length}
use Rattle.end.specs.Book.{Entry, RunFrom, empty_book}
use Rattle.end.specs.Run.{World, Call, Fresh, Allowed, seen}
use Rattle.record.specs.declared.Line.{Line}
use Rattle.record.specs.Line.{line_of}
use Rattle.record.specs.Text.{text_of, record_text, Proper}
use Rattle.ledger.specs.declared.Judgement.{Judgement}
use Rattle.ledger.specs.declared.Judgement.TheVariants as judged
use Rattle.ledger.specs.Judgement.{permits_run, most_lines, judgement_of}
use Rattle.judgement.specs.Record.{lines_from, printed, record_prints}
use Rattle.judgement.specs.Pieces.{Standing, start, after, end_prints, all_print, joined}
use Rattle.fairness.specs.Judged.{Means}
use Rattle.fairness.specs.Honest.{record_of, record_with, AllCueBytes}

pub record JudgeKept : Type 0 where
  -- What is printed means what the request says: "allowed" that the book permits the run; a number that the prefix of so many lines is not permitted
  -- and every shorter one is; 16 that there are more than 1,024 lines; 17 that there are not, and one is malformed. And nothing else means it.
  pub judged_right : (ls : List Line) → Means (judgement_of ls) ls
  pub judged_only_so : (ls : List Line) (j : Judgement) → Means j ls → judgement_of ls ≡ j
  -- A line that is in range is read as what it was written for.
  pub lines_back : (l : Line) → Proper l → line_of (text_of l) ≡ l
  -- However a record is cut into pieces, they are judged as the whole; once there are too many lines, what comes after does not count.
  pub judged_in_pieces : (pieces : List (List ℕ)) → all_print start pieces ≡ record_prints (joined pieces)
  pub too_many_stays : (s : Standing) (rest : List ℕ) → most_lines < length s.lines → end_prints (after s rest) ≡ end_prints s
  -- The book permits the record of every run of the service, so that of every list of demand 3.
  pub runs_permitted : (xs : List Entry) → RunFrom empty_book xs → permits_run empty_book (record_of xs) ≡ true
  pub lists_permitted : (w : World) → Fresh w → (cs : List Call) → Allowed w cs → permits_run empty_book (record_of (seen w cs)) ≡ true
  -- An honest link is never accused: the record of such a list, written down, is printed "allowed", if it has at most 1,024 lines.
  pub never_accused : (w : World) → Fresh w → (cs : List Call) → Allowed w cs → AllCueBytes cs → length (record_of (seen w cs)) ≤ most_lines
      → record_prints (record_text (record_of (seen w cs))) ≡ printed judged.Allowed
  -- What is rejected at a line is the record of no such list.
  pub rejected_is_none : (input : List ℕ) (k : ℕ) → judgement_of (lines_from [] input) ≡ judged.BrokenAt k
      → (w : World) → Fresh w → (cs : List Call) → Allowed w cs → AllCueBytes cs → input ≡ record_text (record_of (seen w cs)) → ⊥
  -- The same where the record also tells of joins, leaves and crashes that did not move, of some calls or of all.
  pub tried_permitted : (t : ℕ → Bool) (xs : List Entry) → RunFrom empty_book xs → permits_run empty_book (record_with t xs) ≡ true
  pub tried_never_accused : (t : ℕ → Bool) (w : World) → Fresh w → (cs : List Call) → Allowed w cs → AllCueBytes cs
      → length (record_with t (seen w cs)) ≤ most_lines → record_prints (record_text (record_with t (seen w cs))) ≡ printed judged.Allowed
