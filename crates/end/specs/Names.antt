-- What happens to the records of a source: a round is set, last rises, a cue is held, a reply or an express wait is set or goes; and to its
-- kept pair. Each changes only what it says; a number that comes into first..last gets a record of its own. Document 01, "Events"; document
-- 02, P7 and P8.
use Rattle.std.specs.Prelude.{ℕ, zero, suc, ◌+◌, ◌-◌, min, max, Bool, false, cond, List, set, leb}
use Rattle.message.specs.declared.Host.{Host}
use Rattle.message.specs.declared.CueNumber.{CueNumber}
use Rattle.message.specs.Entry.{as_number}
use Rattle.message.specs.Question.{same_host}
use Rattle.end.specs.declared.Request.{Request}
use Rattle.end.specs.Parts.{Express, Unset, Soon, Pair, NoPair, Kept, No, Due, Span, Closed, Open}
use Rattle.end.specs.declared.Slot.TheVariants.{Held, Waiting}
use Rattle.end.specs.declared.Record.{Record}
use Rattle.end.specs.declared.Source.{Source}
use Rattle.end.specs.declared.Moment.{Moment}
use Rattle.end.specs.State.{blank_record, with_span, with_missed, with_pair, with_names}
use Rattle.end.specs.Records.{place, record_at, is_held, with_record, with_reply, express_in, with_express}
use Rattle.end.specs.Round.{request_at, reply_due, quiet_after_reply}

-- ---- one record

-- a request waits for the name; an express wait that stands beside one stays beside its next round
abbrev pub asking : Record → Request → Record
asking r q = record { slot = Waiting q (express_in r.slot); cue = r.cue; hush = r.hush }

-- an express wait is set beside the request, or dropped
abbrev pub expressed : Express → Record → Record
expressed x r = record { slot = with_express x r.slot; cue = r.cue; hush = r.hush }

-- "hold it, drop its request"
abbrev pub holding : Record → List ℕ → Record
holding r cue = record { slot = Held No; cue = cue; hush = r.hush }

-- a reply waits beside the held cue
abbrev pub replying : Record → ℕ → Host → Record
replying r due requester = record { slot = with_reply (Due due requester) r.slot; cue = r.cue; hush = r.hush }

-- "its waiting reply goes and reply-quiet = .."
abbrev pub quieted : Record → ℕ → Record
quieted r quiet = record { slot = with_reply No r.slot; cue = r.cue; hush = quiet }

-- ---- one name of a source

-- "Setting round k", with the distance to the source
abbrev pub set_round : Moment → List ℕ → ℕ → ℕ → Source → Source
set_round t us n k s = with_record s n (asking (record_at s n) (request_at t us s.distance n k))

abbrev pub hold : ℕ → List ℕ → Source → Source
hold n cue s = with_record s n (holding (record_at s n) cue)

abbrev pub set_reply : Moment → List ℕ → ℕ → ℕ → Host → Source → Source
set_reply t us n d requester s = with_record s n (replying (record_at s n) (reply_due t us d n) requester)

abbrev pub quiet_reply : Moment → ℕ → ℕ → Source → Source
quiet_reply t n d s = with_record s n (quieted (record_at s n) (quiet_after_reply t d))

-- an express wait goes: "Fired, it is dropped" (document 02, P8)
abbrev pub drop_express : ℕ → Source → Source
drop_express n s = with_record s n (expressed Unset (record_at s n))

-- ---- the kept pair. Document 02, P8: "Per source an end keeps, until Leave or Crash, the requester and sender of the latest REPL answered
-- Got or Done that named a number at least as high as the kept one's."
abbrev pub latest : Pair → Host → Host → CueNumber → Pair
latest NoPair requester sender n = Kept requester sender n
latest (Kept r s k) requester sender n = cond (leb k.0 n.0) (Kept requester sender n) (Kept r s k)

abbrev pub keep_pair : Host → Host → CueNumber → Source → Source
keep_pair requester sender n s = with_pair s (latest s.pair requester sender n)

-- "is that requester"
abbrev pub is_requester : Host → Pair → Bool
is_requester me NoPair = false
is_requester me (Kept requester sender n) = same_host requester me

-- ---- last rises. Document 02, P7: "when last rises to L, numbers below L−63 are retired with their waits, first becomes the greater of
-- itself and L−63, and the freed places serve the new numbers. .. Per source the end counts the numbers retired without a cue since joining,
-- those passed over in one rise included"

-- a new number is asked for in round 1, and has nothing of what stood in its place
abbrev pub asked : Moment → List ℕ → ℕ → ℕ → Record
asked t us d n = asking blank_record (request_at t us d n 1)

-- "A member that sets round 1 by a gap before a DATA, not a REPL, and is that requester also sets an express wait, due E ticks on." (P8)
abbrev pub asked_by_data : Moment → List ℕ → Source → ℕ → Record
asked_by_data t us s n =
    expressed (cond (is_requester t.me s.pair) (Soon (t.clock + t.params.express)) Unset) (asked t us s.distance n)

-- the k numbers from n on are new, each with its record
unfoldable pub filled : (ℕ → Record) → ℕ → ℕ → List Record → List Record
filled new zero n names = names
filled new (suc k) n names = filled new k (n + 1) (set names (place n) (new n))

-- the source holds the cue of a number
abbrev pub holds_cue : Source → ℕ → Bool
holds_cue s n = is_held (record_at s n).slot

-- 1 for a number without a cue
abbrev pub lacks : Bool → ℕ
lacks held = cond held 0 1

-- how many of the k numbers from n on have no cue
unfoldable pub lacking : (ℕ → Bool) → ℕ → ℕ → ℕ
lacking held zero n = 0
lacking held (suc k) n = lacks (held n) + lacking held k (n + 1)

-- "first becomes the greater of itself and L−63"
abbrev pub first_after : ℕ → ℕ → ℕ
first_after first l = max first (l - 63)

-- first and last are the old ones, lo and l the new. Retired are first..lo−1: those up to the old last have a cue or lack it, those above
-- it, passed over, all lack it. New are the numbers above the old last, not below lo, up to l: at most 64, and where any is retired theirs
-- are just the places that no kept number has
abbrev pub raised : (ℕ → Record) → ℕ → ℕ → ℕ → ℕ → Source → Source
raised new first last lo l s =
    with_names
    (with_missed (with_span s (Open (as_number lo) (as_number l))) (s.missed + lacking (holds_cue s) (min lo (last + 1) - first) first + (lo - (last + 1))))
    (filled new (l + 1 - max lo (last + 1)) (max lo (last + 1)) s.names)

-- all that happens when last of a source rises to n, with the records that new numbers get. Where n is not above last, last stays and, in a
-- sound state, so does all; a source with no first stays as it is
unfoldable pub rise_with : (ℕ → Record) → ℕ → Source → Span → Source
rise_with new n s Closed = s
rise_with new n s (Open first last) = raised new first.0 last.0 (first_after first.0 (max last.0 n)) (max last.0 n) s

abbrev pub rise : Moment → List ℕ → ℕ → Source → Span → Source
rise t us n s x = rise_with (asked t us s.distance) n s x

abbrev pub rise_by_data : Moment → List ℕ → ℕ → Source → Span → Source
rise_by_data t us n s x = rise_with (asked_by_data t us s) n s x

-- a source with no first: "first = last = the number"
abbrev pub open_at : ℕ → Source → Source
open_at n s = with_span s (Open (as_number n) (as_number n))
