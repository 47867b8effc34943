-- The one term that proves all of specs/LensWindows.antt. Each line names the theorem that the promise is.
use mathlib.Core.List.{List}
use Rattle.calendar.specs.Promise.{CalendarHolds}
use Rattle.calendar.proofs.Order.{calendar_holds}
use Rattle.openings.specs.declared.Window.{Window}
use Rattle.openings.specs.declared.Moment.{Moment}
use Rattle.openings.specs.Promise.{Earliest, FindHolds}
use Rattle.openings.proofs.Earliest.{find_holds}
use Rattle.timetable.specs.LensWindows.{DatesKept, IsEarliest, SearchKept, LensWindows}
use Rattle.timetable.proofs.Pieces.{windows_in_pieces}
use Rattle.timetable.proofs.LongLines.{long-lines}

dates : DatesKept
dates =
    let c : CalendarHolds = calendar_holds in
    record {
      every_fourth = c.every_fourth;
      first-exists = c.first-exists;
      last-exists = c.last-exists;
      first_is_0 = c.first_is_0;
      last_is_36524 = c.last_is_36524;
      within = c.within;
      one_a_day = c.one_a_day;
      by_number = c.by_number;
      next-exists = c.next-exists;
      next_is_later = c.next_is_later;
      last-stays = c.last-stays;
      last_not_refused = c.last_not_refused;
    }

module _ (ws : List Window) (m : Moment) where
  is : (f : Moment) → Earliest ws m f → IsEarliest ws m f
  is f e = record { exists = e.exists; lies = e.lies; not-before = e.not-before; first = e.first }

  was : (f : Moment) → IsEarliest ws m f → Earliest ws m f
  was f e = record { exists = e.exists; lies = e.lies; not-before = e.not-before; first = e.first }

  search-kept : SearchKept ws m
  search-kept =
      let s : FindHolds ws m = find_holds ws m in
      record {
        found = λ f e. is f (s.found f e);
        found-only = λ f h e. s.found-only f h (was f e);
        none = s.none;
        none_only = s.none_only;
        number = s.number;
        values = λ f h e. s.values f h (was f e);
        no_values = s.no_values;
      }

pub lens_windows : LensWindows
lens_windows = record { dates = dates; search = search-kept; in_pieces = windows_in_pieces; long-lines = long-lines }
