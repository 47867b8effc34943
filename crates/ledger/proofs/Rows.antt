-- The judgement computed on records: for each of the book's limits one that breaks it, with the line at which it is caught.
use mathlib.Core.Path.{◌≡◌, refl}
use mathlib.Core.List.{List, [], ◌∷◌, ◌++◌}
use Prim.Native.Nat.{ℕ, zero, suc, ◌+◌}
use lib.ListN.{set}
use Rattle.message.specs.Entry.{blank_cue}
use Rattle.end.specs.declared.Move.TheVariants.{Join, Joined, Leave, Left, Crash}
use Rattle.end.specs.Decide.{same_cue}
use Rattle.end.specs.Book.{put, among, first_of, not_below, is_some, kept, limits, due, cleared_by, moved_book, file, higher, hand, after}
use Rattle.record.specs.declared.Line.{Line}
use Rattle.record.specs.Line.{malformed, moved, sent, handed_out}
use Rattle.ledger.specs.declared.Judgement.{Judgement}
use Rattle.ledger.specs.declared.Judgement.TheVariants.{Allowed, BrokenAt, Refused}
use Rattle.ledger.specs.Judgement.{permits_said, written_said, judged_from, any_malformed, judgement_of}

-- every definition is opened
judge : List Line → Judgement
unfolding same_cue put among first_of not_below is_some kept limits due cleared_by moved_book file higher hand after permits_said written_said judged_from any_malformed judgement_of
judge ls = judgement_of ls

-- two cues, which differ in their last byte
abbrev one : List ℕ
one = blank_cue

abbrev other : List ℕ
other = set blank_cue 23 1

-- hosts 0 and 1 are members, and host 0 has sent a cue: five lines
opening : List Line
opening = moved Join 0 ∷ moved Joined 0 ∷ moved Join 1 ∷ moved Joined 1 ∷ sent 0 0 one ∷ []

after_opening : List Line → Judgement
unfolding opening judge
after_opening ls = judge (opening ++ ls)

empty_record : judge [] ≡ Allowed
unfolding judge
empty_record = refl

-- "join, leave and crash lines anywhere"
moves-anywhere : after_opening (moved Join 0 ∷ moved Leave 2 ∷ moved Crash 3 ∷ moved Crash 3 ∷ moved Join 3 ∷ []) ≡ Allowed
unfolding after_opening
moves-anywhere = refl

-- "joined and left only where its status moves"
joined-again : after_opening (moved Joined 1 ∷ []) ≡ BrokenAt 6
unfolding after_opening
joined-again = refl

left-unasked : after_opening (moved Left 1 ∷ []) ≡ BrokenAt 6
unfolding after_opening
left-unasked = refl

joined_after_crash : after_opening (moved Crash 1 ∷ moved Join 1 ∷ moved Joined 1 ∷ []) ≡ BrokenAt 8
unfolding after_opening
joined_after_crash = refl

-- "send only as its Out"
next-sent : after_opening (sent 0 1 other ∷ sent 1 0 one ∷ []) ≡ Allowed
unfolding after_opening
next-sent = refl

sent-again : after_opening (sent 0 0 one ∷ []) ≡ BrokenAt 6
unfolding after_opening
sent-again = refl

number_skipped : after_opening (sent 0 2 one ∷ []) ≡ BrokenAt 6
unfolding after_opening
number_skipped = refl

sent_outside_lem : after_opening (sent 2 0 one ∷ []) ≡ BrokenAt 6
unfolding after_opening
sent_outside_lem = refl

-- the own number does not restart: "the cue is filed for good"
number-restarted : after_opening (moved Leave 0 ∷ moved Left 0 ∷ moved Join 0 ∷ moved Joined 0 ∷ sent 0 1 one ∷ sent 0 0 one ∷ []) ≡ BrokenAt 11
unfolding after_opening
number-restarted = refl

-- "the reader is a member and not the source; the name is filed"
handed_out_lem : after_opening (handed_out 1 0 0 one ∷ []) ≡ Allowed
unfolding after_opening
handed_out_lem = refl

no_member : after_opening (handed_out 2 0 0 one ∷ []) ≡ BrokenAt 6
unfolding after_opening
no_member = refl

left-member : after_opening (moved Leave 1 ∷ handed_out 1 0 0 one ∷ []) ≡ BrokenAt 7
unfolding after_opening
left-member = refl

own-cue : after_opening (handed_out 0 0 0 one ∷ []) ≡ BrokenAt 6
unfolding after_opening
own-cue = refl

not-filed : after_opening (handed_out 1 0 1 one ∷ []) ≡ BrokenAt 6
unfolding after_opening
not-filed = refl

-- "its number is not below the first one handed out from that source since joining, if any, and not handed out since joining"
below-first : after_opening (sent 0 1 one ∷ handed_out 1 0 1 one ∷ handed_out 1 0 0 one ∷ []) ≡ BrokenAt 8
unfolding after_opening
below-first = refl

handed_out_twice : after_opening (handed_out 1 0 0 one ∷ handed_out 1 0 0 one ∷ []) ≡ BrokenAt 7
unfolding after_opening
handed_out_twice = refl

-- since joining: a new member starts anew
joined_anew : after_opening
    (sent 0 1 one ∷ handed_out 1 0 1 one ∷ moved Leave 1 ∷ moved Left 1 ∷ moved Join 1 ∷ moved Joined 1 ∷ handed_out 1 0 0 one ∷ handed_out 1 0 1 one ∷ [])
    ≡ Allowed
unfolding after_opening
joined_anew = refl

-- "with the filed cue"
another-cue : after_opening (handed_out 1 0 0 other ∷ []) ≡ BrokenAt 6
unfolding after_opening
another-cue = refl

-- "a number not below L−63": 66 cues are sent, and the last of them, 65, is handed out; 2 still may be, and 1 no more
sends : ℕ → ℕ → List Line
sends zero n = []
sends (suc k) n = sent 0 n blank_cue ∷ sends k (n + 1)

far : List Line → Judgement
unfolding after_opening sends
far ls = after_opening (sends 65 1 ++ (handed_out 1 0 0 one ∷ handed_out 1 0 65 one ∷ ls))

still_kept : far (handed_out 1 0 2 one ∷ []) ≡ Allowed
unfolding far
still_kept = refl

retired : far (handed_out 1 0 1 one ∷ []) ≡ BrokenAt 73
unfolding far
retired = refl

-- "a malformed line .. "refused 17", .. before judging"
malformed-last : after_opening (moved Left 1 ∷ malformed ∷ []) ≡ Refused 17
unfolding after_opening
malformed-last = refl

-- "More than 1,024 lines prints "refused 16", and otherwise ..": of 1,025 lines even a malformed one does not count
crashes : ℕ → List Line → List Line
crashes zero l = l
crashes (suc k) l = moved Crash 0 ∷ crashes k l

most : judge (crashes 1024 []) ≡ Allowed
unfolding judge crashes
most = refl

too_many : judge (crashes 1025 []) ≡ Refused 16
unfolding judge crashes
too_many = refl

too_many_malformed : judge (malformed ∷ crashes 1024 []) ≡ Refused 16
unfolding judge crashes
too_many_malformed = refl
