-- What is proved of lens windows on plain numbers: no number is cut, and a minute reads back from its number. The proofs are in proofs/Kept.antt.
use Rattle.std.specs.Prelude.{◌≡◌, ℕ, ◌/◌, ◌%◌, true, List, get_or}
use Rattle.calendar.specs.Calendar.{date, exists_of, roll_date}
use Rattle.openings.specs.declared.Window.{Window}
use Rattle.openings.specs.declared.Moment.{Moment}
use Rattle.openings.specs.declared.Opening.TheVariants.{At}
use Rattle.openings.specs.Windows.{moment, minute_exists, window_exists}
use Rattle.openings.specs.Find.{find_of}
use Rattle.lent_answer.specs.Number.{AT, kind_unit}
use Rattle.lent_lens.specs.Lens.{date_of, moment_of, window_of, windows_of, at_number, find_number, roll_number}

-- the window of the very numbers
abbrev pub window_given : List ℕ → Window
window_given s = record {
  first = date (get_or s 0 0) (get_or s 1 0) (get_or s 2 0);
  last = date (get_or s 3 0) (get_or s 4 0) (get_or s 5 0);
  start = get_or s 6 0;
  end = get_or s 7 0;
}

-- the minute in an answer, as a host takes it out
abbrev pub minute_in : ℕ → Moment
minute_in n = moment (date (n / 1048576 % 4096) (n / 65536 % 16) (n / 2048 % 32)) (n % 2048)

pub record LensHolds : Type 0 where
  -- a date, minute or window that exists has the very numbers that were given
  pub date-kept : (y m d : ℕ) → exists_of (date_of y m d) ≡ true → date_of y m d ≡ date y m d
  pub minute_kept : (y m d k : ℕ) → minute_exists (moment_of y m d k) ≡ true → moment_of y m d k ≡ moment (date y m d) k
  pub window-kept : (s : List ℕ) → window_exists (window_of s) ≡ true → window_of s ≡ window_given s
  -- a minute that exists, as all that are found do, reads back, and its number's kind is AT
  pub reads_back : (m : Moment) → minute_exists m ≡ true → minute_in (at_number m) ≡ m
  pub kind_back : (m : Moment) → minute_exists m ≡ true → at_number m / kind_unit ≡ AT
  -- so an answer of the kind AT, which a host asks first, is a minute that was found, and reads back as it; likewise a date that was rolled
  pub found_back : (ws : List ℕ) (y m d k : ℕ) → find_number ws y m d k / kind_unit ≡ AT
      → (f : Moment) × (find_of (windows_of ws) (moment_of y m d k) ≡ At f) × (minute_in (find_number ws y m d k) ≡ f)
  pub rolled_back : (y m d : ℕ) → roll_number y m d / kind_unit ≡ AT
      → (exists_of (date_of y m d) ≡ true) × (minute_in (roll_number y m d) ≡ moment (roll_date (date_of y m d)) 0)
