-- What a call does to a window, whatever it brings: it stays, it starts, a new cue is taken, or trail and lead are announced. What is told of a
-- display's history goes by these four alone.
use mathlib.Core.Path.{◌≡◌, refl, sym, ◌∙◌, subst}
use mathlib.Core.Bool.{true, ◌&&◌, ◌||◌}
use mathlib.Core.List.{List, [], ◌∷◌}
use Rattle.std.specs.Prelude as rust
use Rattle.std.specs.Prelude.{Some, None}
use mathlib.Core.Option.{Option, none, some}
use Prim.Native.Nat.{ℕ, zero, suc, ◌+◌, ◌-◌, ◌≤◌, ◌<◌}
use native.Mathlib.Omega.{arith}
use lib.ListN.{length, get_or}
use lib.Dec.{eqb, leb}
use borrow.Author.Tests.{eqb-true, leb-true}
use Rattle.message.specs.Limit.{number_limit}
use Rattle.message.specs.Section.{all, rises}
use Rattle.message.specs.Entry.{blank_name}
use Rattle.message.specs.declared.NameEntry.{NameEntry}
use Rattle.message.specs.Message.{ANNC, Meaning, kind_byte, most_number, counts_of, meaning_from, datagram_from}
use Rattle.message.specs.Question.{ask, first_no, host_in, ticks_in, name_in, kind_has_counts, in_range, host_fits, not_from, report_source, echo_host, window_fits, hosts_fit, same_host, message_questions, read_questions, read_refusal}
use Rattle.message.proofs.QuestionLaws.{and_both, all-passed, counted, most-below}
use Rattle.roundtrip.proofs.RoundTrip.{accepted, kind-from}
use Rattle.end.specs.Messages.{message_name}
use Rattle.end.specs.Answer.{class_of, class_in}
use Rattle.end.proofs.Tools.{by_cond}
use Rattle.display_window.specs.Parts.{Seen, Unstarted, Started}
use Rattle.display_window.specs.declared.Lost.{Lost}
use Rattle.display_window.specs.Window.{raised, is_new, start_at, taken, none_lost, lost_by, lowest_missing}
use Rattle.display.specs.declared.Display.{Display}
use Rattle.display.specs.Display.{with_clock}
use Rattle.display.specs.Hear.{is_original, is_repair, is_announced, trail_in, lead_in, Hearing, heard_in, hear_of}
use Rattle.display.specs.Request.{request_if, step_of}
use Rattle.display.specs.Call.{Event, Hear, Step, question_of, act_of, Result, event_of}
use Rattle.display_history.specs.History.{handed_in}
use Rattle.display.proofs.CallLaws.{hear-asks, passed}

-- from the window w to v, with the number h handed out and the numbers of l lost
pub data Went (w : Seen) (h : Option ℕ) (l : Lost) (v : Seen) : Type 0 where
  Stays : h ≡ none → l ≡ none_lost → v ≡ w → Went w h l v
  Starts : (n : ℕ) → n < number_limit → w ≡ Unstarted → h ≡ some n → l ≡ none_lost → v ≡ start_at n → Went w h l v
  Takes : (n : ℕ) → n < number_limit → is_new w n ≡ true → h ≡ some n → l ≡ lost_by (n - 63) w → v ≡ taken n w → Went w h l v
  Announces : (t k : ℕ) → t ≤ k → k ≤ t + 63 → k < number_limit → h ≡ none → l ≡ lost_by t w → v ≡ raised t k w → Went w h l v

abbrev Does : Seen → Hearing → Type 0
Does w h = Went w (handed_in (class_of h.effect)) h.lost h.left.window

-- ---- a message

-- what the questions leave of the trail and lead of kind 24
abbrev Fitting : Meaning → Type 0
Fitting m = (trail_in m ≤ lead_in m) × (lead_in m ≤ trail_in m + 63)

-- question 9 has it that there are two, question 11 how they stand
window-fits : (m : Meaning) → hosts_fit m ≡ true → window_fits m.names ≡ true
unfolding hosts_fit
window-fits m h =
    let a = and_both (all (host_fits m.kind m.sender) m.names) _ h in
    let b = and_both (rises report_source m.reports) _ a.1 in
    let c = and_both (rises echo_host m.echoes) _ b.1 in
    (and_both (all (not_from m.sender) m.echoes) _ c.1).1

two_fit : (names : List NameEntry) → length names ≡ 2 → window_fits names ≡ true
    → let number_at : ℕ → ℕ = λ i. (get_or names i blank_name).name.number.0 in
    (number_at 0 ≤ number_at 1) × (number_at 1 ≤ number_at 0 + 63)
unfolding window_fits
two_fit [] e h = absurd (omega arith)
two_fit (a ∷ []) e h = absurd (omega arith)
two_fit (a ∷ b ∷ names) e h =
    let low = a.name.number.0 in
    let high = b.name.number.0 in
    let t = and_both (leb low high) (leb high (low + 63)) h in
    (leb-true low high t.0, leb-true high (low + 63) t.1)

announced-fits : (m : Meaning) → kind_has_counts m.kind (counts_of m) ≡ true → hosts_fit m ≡ true → m.kind ≡ ANNC → Fitting m
announced-fits m c h k =
    let two = (counted ANNC (counts_of m) (subst (λ (i : ℕ). kind_has_counts i (counts_of m) ≡ true) k c)).names in
    two_fit m.names two (window-fits m h)

read_fits : (s : List ℕ) → first_no (message_questions s) ≡ 0 → eqb (meaning_from s).kind ANNC ≡ true → Fitting (meaning_from s)
read_fits s h k =
    let M = meaning_from s in
    let ten = all-passed (in_range (most_number (kind_byte s)) M) 10 (ask (hosts_fit M) 11 ∷ []) (omega arith) (accepted s h).rest in
    let eleven = (all-passed (hosts_fit M) 11 [] (omega arith) ten.1).0 in
    announced-fits M (subst (λ (i : ℕ). kind_has_counts i (counts_of M) ≡ true) (sym (kind-from s)) (accepted s h).counts) eleven (eqb-true M.kind ANNC k)

-- and of any number in it
all_small : (most : ℕ) (l : List NameEntry) (i : ℕ) → all (name_in most) l ≡ true → (get_or l i blank_name).name.number.0 ≤ most
unfolding all
all_small most [] i h = omega arith
all_small most (a ∷ l) zero h =
    let name = (and_both (name_in most a) (all (name_in most) l) h).0 in
    let rest = (and_both (host_in a.name.source) (leb a.name.number.0 most && host_in a.host) name).1 in
    leb-true a.name.number.0 most (and_both (leb a.name.number.0 most) (host_in a.host) rest).0
all_small most (a ∷ l) (suc i) h = all_small most l i (and_both (name_in most a) (all (name_in most) l) h).1

names_in : (most : ℕ) (m : Meaning) → in_range most m ≡ true → all (name_in most) m.names ≡ true
unfolding in_range
names_in most m h =
    let a = and_both (host_in m.sender) _ h in
    let b = and_both (ticks_in m.stamp) _ a.1 in
    (and_both (all (name_in most) m.names) _ b.1).0

read_small : (s : List ℕ) → first_no (message_questions s) ≡ 0 → (i : ℕ) → (get_or (meaning_from s).names i blank_name).name.number.0 < number_limit
read_small s h i =
    let M = meaning_from s in
    let most = most_number (kind_byte s) in
    let ten = all-passed (in_range most M) 10 (ask (hosts_fit M) 11 ∷ []) (omega arith) (accepted s h).rest in
    omega (arith, all_small most M.names i (names_in most M ten.0), most-below (kind_byte s))

abbrev Small : Meaning → Type 0
Small m = (i : ℕ) → (get_or m.names i blank_name).name.number.0 < number_limit

heard_as : (d : Display) (m : Meaning) → Small m → (eqb m.kind ANNC ≡ true → Fitting m) → (w : Seen) → d.window ≡ w → Does d.window (heard_in w m d)
unfolding heard_in
heard_as d m small fits Unstarted p =
    by_cond (Does d.window) (is_original d m) (λ _. Starts (message_name m).number.0 (small 0) p refl refl refl) (λ _. Stays refl refl refl)
heard_as d m small fits (Started w) p =
    let n = (message_name m).number.0 in
    by_cond (Does d.window) (is_original d m || is_repair d m)
    (λ _. by_cond (Does d.window) (is_new d.window n) (λ new. Takes n (small 0) new refl refl refl) (λ _. Stays refl refl refl))
    (λ _. by_cond (Does d.window) (is_announced d m)
    (λ a.
    let f = fits (and_both (eqb m.kind ANNC) (same_host m.sender d.sender) a).0 in
    Announces (trail_in m) (lead_in m) f.0 f.1 (small 1) refl refl refl)
    (λ _. Stays refl refl refl))

heard_does : (d : Display) (m : Meaning) → Small m → (eqb m.kind ANNC ≡ true → Fitting m) → Does d.window (heard_in d.window m d)
heard_does d m small fits = heard_as d m small fits d.window refl

-- ---- a step
step_does : (d : Display) → Does d.window (step_of d)
unfolding step_of
step_does d = go (lowest_missing d.window)
  where
    go : (o : rust.Option ℕ) → Does d.window (request_if o d)
    go None = Stays refl refl refl
    go (Some n) = Stays refl refl refl

-- ---- a call
abbrev Gave : Seen → Result → Type 0
Gave w r = Went w (handed_in (class_in r.outcome)) r.lost r.left.window

message_does : (d : Display) (bytes : List ℕ) → first_no (read_questions bytes) ≡ 0 → Does d.window (hear_of (datagram_from bytes) d)
message_does d [] h = Stays refl refl refl
message_does d (b ∷ s) h = heard_does d (meaning_from (b ∷ s)) (read_small (b ∷ s) h) (read_fits (b ∷ s) h)

event_does : (d : Display) (ev : Event) (clock room : ℕ) → question_of d ev clock room ≡ 0 → Does d.window (act_of ev (with_clock d clock))
unfolding read_refusal
event_does d (Hear bytes) clock room h =
    message_does (with_clock d clock) bytes (passed d clock room (read_refusal bytes) (sym (hear-asks d clock room bytes) ∙ h)).rest
event_does d Step clock room h = step_does (with_clock d clock)

pub went : (d : Display) (ev : Event) (clock room : ℕ) → Gave d.window (event_of d ev clock room)
unfolding event_of
went d ev clock room =
    by_cond (Gave d.window) (eqb (question_of d ev clock room) 0)
    (λ t. event_does d ev clock room (eqb-true (question_of d ev clock room) 0 t))
    (λ t. Stays refl refl refl)
