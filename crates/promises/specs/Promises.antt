-- What the product promises beyond the contracts of its calls, all in one place. A proof reader opens this file first: each part is a
-- record whose fields are the promises, written out; proofs/Kept.antt is one term of this type. A theorem that is weakened, made
-- private or taken away below no longer fits here.
use Rattle.std.specs.Prelude.{◌≡◌, false}
use Rattle.end.specs.declared.Record.{Record}
use Rattle.end.specs.Parts.{Span, Closed}
use Rattle.end.specs.declared.Moment.{Moment}
use Rattle.end.specs.declared.Word.{Word}
use Rattle.end.specs.Records.{is_held}
use Rattle.end.specs.Decide.{decide_as}
use Rattle.end.specs.Reasons.{holds, name_reasons, first_that, reason_of}
use Rattle.cases.specs.Case.{Hold}
use Rattle.cases.specs.Rows.{rows}
use Rattle.cases.specs.Answers.{answer_rows}
use Rattle.cases.specs.Moves.{move_rows}
use Rattle.cases.specs.Wire.{wire_rows}
use Rattle.cases.specs.Timed.{timed_rows, half_trip_rows, factor_rows}
use Rattle.cases.specs.Reasons.{reason_rows}
use Rattle.cases.specs.Stage.{stage_rows}
use Rattle.cases.specs.Quiet.{quiet_rows}
use Rattle.cases.specs.Clashes.{clash_rows}
use Rattle.cases.specs.Probe.{probe_rows}
use Rattle.cases.specs.Season.{season_rows}
use Rattle.cases.specs.Express.{express_rows}
use Rattle.cases.specs.Fetch.{fetch_rows}
use Rattle.cases.specs.Announce.{announced_rows, announce_rows}
use Rattle.lent_lens.specs.Promise.{LensHolds}
use Rattle.promises.specs.Lent.{LentKept, LentDisplaysKept}
use Rattle.promises.specs.Wire.{WireKept}
use Rattle.promises.specs.Service.{ServiceKept}
use Rattle.promises.specs.States.{StatesKept}
use Rattle.promises.specs.Fires.{FiresKept}
use Rattle.promises.specs.Arrivals.{ArrivalsKept}
use Rattle.promises.specs.BackOff.{BackOffKept}
use Rattle.promises.specs.Turn.{TurnKept}
use Rattle.promises.specs.Reasons.{ReasonsKept}
use Rattle.promises.specs.Season.{SeasonKept}
use Rattle.promises.specs.Express.{ExpressKept}
use Rattle.promises.specs.Fetch.{FetchKept}
use Rattle.promises.specs.Announce.{AnnounceKept}
use Rattle.promises.specs.Displays.{DisplaysKept}
use Rattle.promises.specs.Judge.{JudgeKept}
use Rattle.promises.specs.Recovery.{RecoveryKept}

-- document 01's cases and what else is pinned by computed rows: the answers one by one, the 25 moves by status, messages as bytes, times, a run by answers and
-- buffers, reply-quiet times, clashes, the probe, a season's rises, express repair, fetching, kind 24 as bytes and Announce
pub record CasesKept : Type 0 where
  pub starred : Hold rows
  pub answers : Hold answer_rows
  pub moves : Hold move_rows
  pub wire : Hold wire_rows
  pub timed : Hold timed_rows
  pub half_trips : Hold half_trip_rows
  pub factors : Hold factor_rows
  pub reasons : Hold reason_rows
  pub stage : Hold stage_rows
  pub quiet : Hold quiet_rows
  pub clashes : Hold clash_rows
  pub probe : Hold probe_rows
  pub season : Hold season_rows
  pub express : Hold express_rows
  pub fetch : Hold fetch_rows
  pub announced : Hold announced_rows
  pub announce : Hold announce_rows

pub record Promises : Type 1 where
  -- demand 2, the wire: "Each message written reads back as itself, and each accepted message is the very bytes .."
  pub wire : WireKept
  -- demand 3: "the list is a run of the reliable multicast service by document 01's book"; and no Clash comes up in it
  pub service : ServiceKept
  -- sound stays sound, clocks never fall, what goes out is right
  pub states : StatesKept
  -- Fire sends the earliest due wait, and ends
  pub fires : FiresKept
  -- whatever bytes arrive
  pub arrivals : ArrivalsKept
  -- a message is ignored for the first of document 02's reasons that holds, and only if one does; in a sound state a closed source
  -- holds nothing
  pub first_reason_lem : (t : Moment) (w : Word) (r : Record) (x : Span) → (x ≡ Closed → is_held r.slot ≡ false)
      → reason_of (decide_as w.says t w r x) ≡ first_that (holds w.says t w r x) name_reasons
  -- why an event is Ignored: document 02, P3
  pub reasons : ReasonsKept
  -- requests back off, within their bounds
  pub back_off : BackOffKept
  -- how long a request may wait for its next round: document 02, P12
  pub turn : TurnKept
  -- by when a lost cue is there: source document 001, lemma 4.30 and theorems 4.35 to 4.37, 6.34 and 6.35
  pub recovery : RecoveryKept
  -- the latest 64 numbers of a source are kept, and the count of those retired without a cue is right: document 02, P7
  pub season : SeasonKept
  -- a lost cue is asked for of the host that answered last, and repaired at once: document 02, P8
  pub express : ExpressKept
  -- a controller that joined late fetches what came before: document 02, P9
  pub fetch : FetchKept
  -- a sender announces its own first and last to the displays: document 02, P11
  pub announce : AnnounceKept
  -- a display hands out, misses or reports as lost every number, once, and the service's runs may have displays in them: document 02, P11
  pub displays : DisplaysKept
  -- a run's record is judged by the book, and an honest link is never accused: document 02, P13
  pub judge : JudgeKept
  -- ends and displays lent as bytes to hosts in C and Rust: each call there is the call on what the bytes hold, lists of them are lists of demand 3,
  -- with restarts too, and a Fire has something to put out exactly from the due time on
  pub lent : LentKept
  pub lent-displays : LentDisplaysKept
  pub lent_lens : LensHolds
  -- "Cases (* is proved)"
  pub cases : CasesKept
