-- Foyer displays, document 02, P11: the statements of the crate `display_history`, History, Answers and Foyer. The calls themselves are proved in `display`
-- by equation.
use Rattle.std.specs.Prelude.{◌≡◌, true, not, ◌&&◌, List, ◌++◌, ◌⊎◌, ℕ, ◌+◌, ◌≤◌, eqb}
use Rattle.message.specs.declared.Host.{Host}
use Rattle.message.specs.Message.{bytes_of, datagram_from}
use Rattle.end.specs.Answer.{Out, Nothing, Refused, Did}
use Rattle.end.specs.Book.{RunFrom, empty_book}
use Rattle.end.specs.Run as run
use Rattle.display_window.specs.Window.{none_lost}
use Rattle.display.specs.declared.Display.{Display}
use Rattle.display.specs.Display.{sound_of, opening_of, with_clock}
use Rattle.display.specs.Request.{request_for}
use Rattle.display.specs.Call.{Hear, Step, question_of, event_of}
use Rattle.display_history.specs.History.{Call, after, after_all, told, one, handed_out, in_set, in_span, reported_lost, is_missing, none_missing, stepped, start_of, is_covered, no_lower, is_received_in, passes, Stands, is_between}
use Rattle.display_history.specs.Answers.{answered_to, edges_of, edges_to, Asking}
use Rattle.display_history.specs.Foyer.{Turn, Foyer, Allowed, Fresh, at_ends}

pub record DisplaysKept : Type 0 where
  -- "After any messages each number from the start to lead was handed out once, is missing, or was reported lost once"; and any other number none
  -- of the three.
  pub each_number_once : (own sender : Host) (cs : List Call) (n : ℕ) → let d = (opening_of own sender).display in
      let w = (after_all d cs).window in
      handed_out (told d cs) n + reported_lost (told d cs) n + one (is_missing w n) ≡ one (is_covered (start_of (told d cs)) w n)
  -- "and it stays so"
  pub stays_so : (own sender : Host) (cs more : List Call) (n : ℕ) → let d = (opening_of own sender).display in
      (handed_out (told d cs) n ≡ 1 → handed_out (told d (cs ++ more)) n ≡ 1) × (reported_lost (told d cs) n ≡ 1 → reported_lost (told d (cs ++ more)) n ≡ 1)
  -- Neither trail nor lead ever falls, and a number that was one of the three after some calls is one of them after more.
  pub never-lower : (own sender : Host) (cs more : List Call) → let d = (opening_of own sender).display in
      no_lower (after_all d cs).window (after_all d (cs ++ more)).window ≡ true
  pub none_forgotten : (own sender : Host) (cs more : List Call) (n : ℕ) → let d = (opening_of own sender).display in
      is_covered (start_of (told d cs)) (after_all d cs).window n ≡ true → is_covered (start_of (told d (cs ++ more))) (after_all d (cs ++ more)).window n ≡ true
  -- "A number becomes lost exactly when trail passes it before it is received, that call reports it"
  pub lost_as_passed : (own sender : Host) (cs : List Call) (c : Call) (n : ℕ) → let d = after_all (opening_of own sender).display cs in
      let l = (event_of d c.event c.clock c.room).lost in
      one (in_set l n) + one (in_span l.above n) ≡ one (passes d.window (after d c).window n && not (is_received_in d.window n))
  -- "(a 64-bit set up from the old trail, and a span for those above the old lead)"
  pub losses_stand : (d : Display) (c : Call) (n : ℕ) → Stands d.window (event_of d c.event c.clock c.room).lost n
  -- Missing is what was not handed out, from trail to lead.
  pub missing-is : (own sender : Host) (cs : List Call) (n : ℕ) → let d = (opening_of own sender).display in
      let w = (after_all d cs).window in
      is_missing w n ≡ (is_between w n && eqb (handed_out (told d cs) n) 0)
  -- A number that was handed out is never reported lost, before or after.
  pub received_never_reported : (own sender : Host) (cs more : List Call) (n : ℕ) → let d = (opening_of own sender).display in
      1 ≤ handed_out (told d cs) n → reported_lost (told d (cs ++ more)) n ≡ 0
  -- "A newly received cue is Got, its sender's kind 24 once started Done, all else Ignored": by what was handed out before.
  pub answers-heard : (own sender : Host) (cs : List Call) (bytes : List ℕ) (clock room : ℕ) → let o = (opening_of own sender).display in
      let d = after_all o cs in
      question_of d (Hear bytes) clock room ≡ 0
      → (event_of d (Hear bytes) clock room).outcome ≡ Did (answered_to (datagram_from bytes) d (handed_out (told o cs)))
  -- "It starts at its sender's first DATA, trail and lead both that number; a later cue n counts as trail n−63 and lead n", kind 24 says both, and
  -- "values lower than it has heard .. it passes over".
  pub edges-heard : (d : Display) (bytes : List ℕ) (clock room : ℕ) → question_of d (Hear bytes) clock room ≡ 0
      → edges_of (event_of d (Hear bytes) clock room).left.window ≡ edges_to (datagram_from bytes) d
  -- "hear and step set its clock", and keep its hosts; a refused call changes nothing and loses nothing.
  pub sets-clock : (d : Display) (c : Call) → question_of d c.event c.clock c.room ≡ 0 → let e = after d c in
      (e.clock ≡ c.clock) × (e.own ≡ d.own) × (e.sender ≡ d.sender)
  pub refused-stays : (d : Display) (c : Call) (k : ℕ) → let r = event_of d c.event c.clock c.room in
      r.outcome ≡ Refused k → (r.left ≡ d) × (r.lost ≡ none_lost)
  -- "A step puts out RQST of the lowest missing number, or gives Nothing"; and every Out is a step's, which the reader accepts as that RQST.
  pub step_asks_lowest : (d : Display) (clock room : ℕ) → question_of d Step clock room ≡ 0 → let after = with_clock d clock in
      ((n : ℕ)
      × (event_of d Step clock room ≡ stepped (Out (bytes_of (request_for after n))) after)
      × (is_missing d.window n ≡ true)
      × none_missing d.window n)
      ⊎ ((event_of d Step clock room ≡ stepped Nothing after) × ((n : ℕ) → none_missing d.window n))
  pub out_is_request : (own sender : Host) (cs : List Call) (c : Call) (bytes : List ℕ) → let d = after_all (opening_of own sender).display cs in
      (event_of d c.event c.clock c.room).outcome ≡ Did (Out bytes) → Asking d c bytes
  -- Every opening, refused or not, gives a sound display; every call on a sound one leaves a sound one; so no call is refused as 3 on a display
  -- used as its calls left it.
  pub display_opens_sound : (own sender : Host) → sound_of (opening_of own sender).display ≡ true
  pub display_stays_sound : (d : Display) (c : Call) → sound_of d ≡ true → sound_of (after d c) ≡ true
  pub never_unsound : (own sender : Host) (cs : List Call) (c : Call) → let d = after_all (opening_of own sender).display cs in
      question_of d c.event c.clock c.room ≡ 3 → ⊥
  -- "In the service's runs its RQSTs may arrive.": with any displays' calls among them, the calls on ends are a list that demand 3 speaks of, and
  -- what an onlooker sees of the ends is a run of the service.
  pub ends-allowed : (f : Foyer) → Fresh f → (ts : List Turn) → Allowed f ts → run.Allowed f.world (at_ends ts)
  pub foyer-service : (f : Foyer) → Fresh f → (ts : List Turn) → Allowed f ts → RunFrom empty_book (run.seen f.world (at_ends ts))
