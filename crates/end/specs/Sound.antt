-- When a state is sound. Document 01, "What an end keeps", second paragraph, clause by clause; the ranges are those of the first
-- paragraph and of "The link and its edge". A test is a list of its parts.
use Rattle.std.specs.Prelude.{ℕ, zero, suc, ◌+◌, ◌-◌, Bool, true, false, cond, not, ◌&&◌, ◌||◌, List, [], ◌∷◌, length, get_or, ltb, leb, eqb}
use Rattle.numbers.specs.Bits.{bit}
use Rattle.message.specs.declared.Host.{Host}
use Rattle.message.specs.Limit.{number_limit}
use Rattle.message.specs.Cue.{cue_in}
use Rattle.message.specs.Entry.{as_host}
use Rattle.message.specs.Question.{host_in, ticks_in, same_host}
use Rattle.end.specs.declared.Params.{Params}
use Rattle.end.specs.declared.Request.{Request}
use Rattle.end.specs.declared.Slot.{Slot}
use Rattle.end.specs.declared.Slot.TheVariants.{Empty, Held, Waiting}
use Rattle.end.specs.Parts.{Express, Unset, Soon, Pair, NoPair, Kept, Reply, No, Due, Span, Closed, Open, Heard, Never, At, Origin, NoOrigin, From}
use Rattle.end.specs.declared.Record.{Record}
use Rattle.end.specs.declared.Attempt.{Attempt}
use Rattle.end.specs.declared.Source.{Source}
use Rattle.end.specs.declared.End.{End}
use Rattle.end.specs.State.{no_source, no_attempt, places, is_member, first_distance}
use Rattle.end.specs.Records.{is_closed, within, start, place, raw_at, fetchable}

-- ---- tests

-- all of the parts: ((a && b) && c) ..
abbrev pub all_from : Bool → List Bool → Bool
all_from a [] = a
all_from a (b ∷ bs) = all_from (a && b) bs

abbrev pub all_of : List Bool → Bool
all_of [] = true
all_of (b ∷ bs) = all_from b bs

-- the test holds of each number below n
unfoldable pub all_below : (ℕ → Bool) → ℕ → Bool
all_below f zero = true
all_below f (suc n) = all_below f n && f n

-- ---- one name

-- "due and quiet times are below 2^48+2^32"
abbrev pub time_limit : ℕ
time_limit = 281479271677952

abbrev pub time_in : ℕ → Bool
time_in t = ltb t time_limit

-- "one waiting request (round 1..16, due, quiet-until)"
abbrev pub request_tests : Request → List Bool
request_tests q = leb 1 q.round ∷ leb q.round 16 ∷ time_in q.due ∷ time_in q.quiet ∷ []

-- "a requester is neither oneself nor the source"
abbrev pub reply_tests : Host → Host → Reply → List Bool
reply_tests me source No = []
reply_tests me source (Due due requester) = time_in due ∷ host_in requester ∷ not (same_host requester me) ∷ not (same_host requester source) ∷ []

-- a held cue is 24 bytes with its fields in range; beside it there may be a reply
abbrev pub held_tests : Host → Host → Record → Reply → List Bool
held_tests me source r reply = eqb (length r.cue) 24 ∷ cue_in r.cue ∷ all_of (reply_tests me source reply) ∷ time_in r.hush ∷ []

abbrev pub is_no_pair : Pair → Bool
is_no_pair NoPair = true
is_no_pair (Kept requester sender n) = false

-- document 02, P8: "a sound state has one only beside a request and with a kept pair"; a slot without a request has no place for one
abbrev pub express_sound : Pair → Express → Bool
express_sound pair Unset = true
express_sound pair (Soon due) = time_in due && not (is_no_pair pair)

-- "those inside have a cue or a request, own ones a cue"
abbrev pub inside_sound : Host → Host → Pair → Record → Slot → Bool
inside_sound me source pair r Empty = false
inside_sound me source pair r (Held reply) = all_of (held_tests me source r reply)
inside_sound me source pair r (Waiting q x) = not (same_host source me) && (all_of (request_tests q) && (time_in r.hush && express_sound pair x))

-- "names outside first..last hold nothing and have reply-quiet 0"
abbrev pub outside_sound : Record → Slot → Bool
outside_sound r Empty = eqb r.hush 0
outside_sound r (Held reply) = false
outside_sound r (Waiting q x) = false

-- what stands in the place of a number, which is in first..last or not
abbrev pub record_sound : Host → Host → Pair → Span → ℕ → Record → Bool
record_sound me source pair span n r = cond (within span n) (inside_sound me source pair r r.slot) (outside_sound r r.slot)

-- ---- one source

-- "own last, if any, is next−1; first ≤ last"; document 02, P7: "A sound state has last − first at most 63, and that count at most first, 0
-- without one."
abbrev pub span_tests : Bool → ℕ → ℕ → Span → List Bool
span_tests own next missed Closed = eqb missed 0 ∷ []
span_tests own next missed (Open first last) =
    leb first.0 last.0
    ∷ ltb last.0 number_limit
    ∷ (not own || eqb (last.0 + 1) next)
    ∷ leb last.0 (first.0 + 63)
    ∷ leb missed first.0
    ∷ []

-- P8: "a kept pair's sender is always another"
abbrev pub pair_tests : Host → Pair → List Bool
pair_tests me NoPair = []
pair_tests me (Kept requester sender n) = host_in requester ∷ host_in sender ∷ not (same_host sender me) ∷ ltb n.0 number_limit ∷ []

-- "A distance .. is 1..1000 whole milliseconds ..; to oneself it is 0."
abbrev pub distance_sound : Bool → ℕ → Bool
distance_sound own d = cond own (eqb d 0) (leb 1 d && leb d 1000)

-- "heard times are at most the clock; no stamp is heard from oneself". P9: "heard reports only beside heard stamps": they have no other place
abbrev pub heard_tests : Bool → ℕ → Heard → List Bool
heard_tests own clock Never = []
heard_tests own clock (At stamp when reported) = not own ∷ ticks_in stamp ∷ leb when clock ∷ []

abbrev pub is_never : Heard → Bool
is_never Never = true
is_never (At stamp when reported) = false

-- "a non-member has no first, request, reply or heard stamp, and distances to others at 40": a source with no first has neither
-- request nor reply. P8: "non-members keep none". P9: "non-members keep none": a source with no first has no first original, and so no try
abbrev pub non_member_tests : Bool → Source → List Bool
non_member_tests own s = is_closed s.span ∷ is_never s.heard ∷ (own || eqb s.distance first_distance) ∷ is_no_pair s.pair ∷ []

-- P9: "A sound state keeps that first original's number, at most first, exactly beside another's first"
abbrev pub origin_sound : Bool → Span → Origin → Bool
origin_sound own Closed NoOrigin = true
origin_sound own Closed (From n) = false
origin_sound own (Open first last) NoOrigin = own
origin_sound own (Open first last) (From n) = not own && leb n.0 first.0

-- "tries only of other hosts at fetchable numbers, Late marks only beside a try"
abbrev pub attempt_sound : Host → Bool → Attempt → Bool
attempt_sound me may a = cond may (not (bit a.tried me.0) && (not a.late || not (eqb a.tried 0))) (eqb a.tried 0 && not a.late)

-- each place is that of one of the 64 numbers below the first original, or, where that is below 64 or there is none, of one of 0..63
abbrev pub lowest : Origin → ℕ
lowest NoOrigin = 0
lowest (From n) = n.0 - 64

abbrev pub attempts_sound : Host → Origin → List Attempt → ℕ → Bool
attempts_sound me origin attempts k =
    all_below (λ i. attempt_sound me (fetchable origin (lowest origin + i)) (get_or attempts (place (lowest origin + i)) no_attempt)) k

-- each place is that of one of the 64 numbers from first on, or from 0 where there is no first: those in first..last are inside, the
-- rest are not
abbrev pub names_sound : Host → Host → Pair → Span → List Record → ℕ → Bool
names_sound me source pair span names k = all_below (λ i. record_sound me source pair span (start span + i) (raw_at names (start span + i))) k

-- of the end it takes its host, its next number, its clock and whether it is a member
abbrev pub source_tests : Host → ℕ → ℕ → Bool → Host → Source → List Bool
source_tests me next clock member h s =
    eqb (length s.names) places
    ∷ all_of (span_tests (same_host h me) next s.missed s.span)
    ∷ distance_sound (same_host h me) s.distance
    ∷ all_of (heard_tests (same_host h me) clock s.heard)
    ∷ (member || all_of (non_member_tests (same_host h me) s))
    ∷ names_sound me h s.pair s.span s.names places
    ∷ all_of (pair_tests me s.pair)
    ∷ eqb (length s.attempts) places
    ∷ origin_sound (same_host h me) s.span s.origin
    ∷ attempts_sound me s.origin s.attempts places
    ∷ []

abbrev pub source_sound : Host → ℕ → ℕ → Bool → Host → Source → Bool
source_sound me next clock member h s = all_of (source_tests me next clock member h s)

-- ---- the end

-- "Parameters .. are 0..32 quarters"
abbrev pub params_tests : Params → List Bool
params_tests p = leb p.c1 32 ∷ leb p.c2 32 ∷ leb p.c3 32 ∷ leb p.d1 32 ∷ leb p.d2 32 ∷ leb p.d3 32 ∷ []

-- P8: "Opening with E above 1000 is refused": E is 0..1000
abbrev pub delay_in : Params → Bool
delay_in p = leb p.express 1000

abbrev pub sources_sound : End → ℕ → Bool
sources_sound e k = all_below (λ h. source_sound e.host e.next e.clock (is_member e.status) (as_host h) (get_or e.sources h no_source)) k

-- "fields are in range" and each source is sound. The lengths of the arrays are among the tests since a definition's array is a
-- list; every value of the declared type has them.
abbrev pub sound_tests : End → List Bool
sound_tests e =
    eqb (length e.sources) 8
    ∷ host_in e.host
    ∷ all_of (params_tests e.params)
    ∷ ticks_in e.clock
    ∷ leb e.next number_limit
    ∷ sources_sound e 8
    ∷ delay_in e.params
    ∷ []

unfoldable pub sound_of : End → Bool
sound_of e = all_of (sound_tests e)
