-- Demand 3 in terms of answers and outputs, from the crate end's `service`: what an onlooker reads off an answer and an output is the
-- call's outcome, since a cue that is handed out, as Got or as Late, was filed by a Send, and so has 24 bytes.
use mathlib.Core.Path.{◌≡◌, refl, sym, ap, ◌∙◌, subst}
use mathlib.Core.Bool.{Bool, true, false, not, ◌&&◌, ◌||◌}
use mathlib.Core.List.Memᴰ
use mathlib.Core.List.{List, [], ◌∷◌, ◌++◌, map, Memᴰ}
use mathlib.Core.Logic.{⊎_elim}
use mathlib.Core.Option.{Option, none, some}
use Prim.Native.Nat.{ℕ, zero, suc}
use lib.ListN.{length, get_or, get_elem?, drop}
use lib.Seq.{take_at}
use lib.Dec.{eqb}
use Rattle.message.specs.declared.Name.{Name}
use Rattle.message.specs.Message.{Meaning}
use Rattle.end.specs.declared.Answer.{Answer}
use Rattle.end.specs.declared.Answer.TheVariants as answer
use Rattle.end.specs.Answer.{answer_of, buffer_of, read_off}
use Rattle.end.specs.Answer.{Effect, Out, Got, Done, Ignored, Nothing, Clash, Late, Exhausted}
use Rattle.end.specs.Event.{Action, Moves, Send, Arrival, Else, moves}
use Rattle.end.specs.Answer.{Outcome, Refused, Did}
use Rattle.end.specs.State.{is_member}
use Rattle.end.specs.Book.{Book, put, read_as, source, number, is_original, is_repair, among, first_of, not_below, is_some, kept, limits, gets, hears, bring, due_message}
use Rattle.end.specs.Book.{Entry, due, moved_book, file, hand, after_message, after, is_got, Meets, Answered, book_after, RunFrom, empty_book}
use Rattle.end.specs.Lates.{LateAsFiled, LatesAsFiled}
use Rattle.end.specs.Run.{World, Call, CueArray, Allowed, Fresh, result_of, sent_after, world_after, seen}
use Rattle.end.proofs.Tools.{by_cond, clash, clash', and_left, and_right}
use Rattle.end.proofs.Service.Ends.{service}
use Rattle.end.proofs.Service.Unclashed.{never-clashes}
use Rattle.end.proofs.Service.Lates.{late_has_the_sources_bytes}
use Rattle.cases.specs.Shown.{Returned, returned, onlooked, ServiceShown, LateShown, NeverReturnsClash}

-- ---- every filed cue has 24 bytes

AllLong : List (List ℕ) → Type 0
AllLong [] = Unit {0}
AllLong (c ∷ cs) = (length c ≡ 24) × AllLong cs

Long : Book → Type 0
Long b = (s : ℕ) → AllLong (b.filed s)

long_one_more : (l : List (List ℕ)) (c : List ℕ) → AllLong l → length c ≡ 24 → AllLong (l ++ (c ∷ []))
unfolding AllLong
long_one_more [] c a h = (h, tt)
long_one_more (x ∷ l) c a h = (a.0, long_one_more l c a.1 h)

long-at : (l : List (List ℕ)) (n : ℕ) → AllLong l → is_some (get_elem? l n) ≡ true → length (get_or l n []) ≡ 24
unfolding AllLong is_some
long-at [] n a h = clash (sym h)
long-at (x ∷ l) zero a h = a.0
long-at (x ∷ l) (suc n) a h = long-at l n a.1 h

long-some : (l : List (List ℕ)) (n : ℕ) (c : List ℕ) → AllLong l → get_elem? l n ≡ some c → length c ≡ 24
unfolding AllLong is_some
long-some [] n c a h = clash' (ap is_some h)
long-some (x ∷ l) zero c a h = let same : x ≡ c = cc in sym (ap length same) ∙ a.0
long-some (x ∷ l) (suc n) c a h = long-some l n c a.1 h

-- a call leaves the book so
long-message : (b : Book) (h : ℕ) (m : Option Meaning) → Long b → Long (after_message b h m)
unfolding Long after_message hand bring
long-message b h none l = l
long-message b h (some m) l = by_cond Long (gets b h m) (λ _. l) (λ _. by_cond Long (hears b h m) (λ _. l) (λ _. l))

long_after : (b : Book) (h : ℕ) (ev : Action) → CueArray ev → Long b → Long (after b h ev)
unfolding Long after moved_book file put
long_after b h (Moves m) a l = by_cond Long (moves m (b.status h)) (λ _. l) (λ _. l)
long_after b h (Send cue) a l =
    by_cond Long (is_member (b.status h))
    (λ _ s. by_cond AllLong (eqb s h) (λ _. long_one_more (b.filed h) cue (l h) a) (λ _. l s))
    (λ _. l)
long_after b h (Arrival bytes) a l = long-message b h (read_as bytes) l
long_after b h (Else o) a l = l

long_book : (b : Book) (h : ℕ) (ev : Action) (o : Outcome) → CueArray ev → Long b → Long (book_after b h ev o)
unfolding book_after
long_book b h ev (Refused k) a l = l
long_book b h ev (Did x) a l = long_after b h ev a l

-- ---- so has a cue that the book has handed out

-- an answer whose cue, if it hands one out, has 24 bytes
Whole : Effect → Type 0
Whole x = (name : Name) (cue : List ℕ) → x ≡ Got name cue → length cue ≡ 24

never-got : (x : Effect) → is_got x ≡ false → Whole x
unfolding Whole is_got
never-got x h name cue e = clash (sym (ap is_got e) ∙ h)

-- what the book has handed out is filed
gets-filed : (b : Book) (h : ℕ) (m : Meaning) → gets b h m ≡ true → is_some (get_elem? (b.filed (source m)) (number m)) ≡ true
unfolding gets limits
gets-filed b h m t =
    let such = is_original m || (is_repair m && is_some (first_of (b.handed h (source m)))) in
    let within : limits b h (source m) (number m) ≡ true = and_right (not (eqb m.sender.0 h)) _ (and_right such _ t) in
    and_left _ (not_below (first_of (b.handed h (source m))) (number m) && (kept (b.highest h (source m)) (number m) && not (among (number m) (b.handed h (source m)))))
    (and_right (not (eqb h (source m))) _ (and_right (is_member (b.status h)) _ within))

whole-message : (b : Book) (h : ℕ) (m : Option Meaning) (x : Effect) → Long b → Meets (due_message b h m) x → Whole x
unfolding Whole due_message Long
whole-message b h none x l = never-got x
whole-message b h (some m) x l =
    by_cond (λ d. Meets d x → Whole x) (gets b h m)
    (λ t e name cue g.
    let same : get_or (b.filed (source m)) (number m) [] ≡ cue = cc in
    sym (ap length same) ∙ long-at (b.filed (source m)) (number m) (l (source m)) (gets-filed b h m t))
    (λ _. never-got x)

whole : (b : Book) (h : ℕ) (ev : Action) (x : Effect) → Long b → Meets (due b h ev) x → Whole x
unfolding due is_got
whole b h (Moves m) x l =
    by_cond (λ d. Meets d x → Whole x) (moves m (b.status h)) (λ _ e. never-got x (ap is_got e)) (λ _ e. never-got x (ap is_got e))
whole b h (Send cue) x l =
    by_cond (λ d. Meets d x → Whole x) (is_member (b.status h)) (λ _ e. never-got x (ap is_got e.1)) (λ _ e. never-got x (ap is_got e))
whole b h (Arrival bytes) x l = whole-message b h (read_as bytes) x l
whole b h (Else o) x l = never-got x

-- ---- and one that is handed out as Late
WholeLate : Effect → Type 0
WholeLate x = (name : Name) (cue : List ℕ) → x ≡ Late name cue → length cue ≡ 24

whole-late : (b : Book) (x : Effect) → Long b → LateAsFiled b (Did x) → WholeLate x
unfolding WholeLate Long
whole-late b x l filed name cue e = long-some (b.filed name.source.0) name.number.0 cue (l name.source.0) (filed name cue (ap Did e))

-- ---- so the outcome is read off the answer and the output
read_back : (x : Effect) (out : List ℕ) → Whole x → WholeLate x → read_off (answer_of (Did x)) (buffer_of (Did x) out) ≡ Did x
unfolding Whole WholeLate read_off answer_of buffer_of
read_back (Out bytes) out w v = ap (λ (l : List ℕ). Did (Out l)) (take_at bytes (drop (length bytes) out) (length bytes) refl)
read_back (Got name cue) out w v = ap (λ (l : List ℕ). Did (Got name l)) (take_at cue (drop (length cue) out) 24 (w name cue refl))
read_back Done out w v = refl
read_back Ignored out w v = refl
read_back Nothing out w v = refl
read_back (Clash name) out w v = refl
read_back (Late name cue) out w v = ap (λ (l : List ℕ). Did (Late name l)) (take_at cue (drop (length cue) out) 24 (v name cue refl))
read_back Exhausted out w v = refl

outcome_back : (b : Book) (h : ℕ) (ev : Action) (o : Outcome) (out : List ℕ) → Long b → LateAsFiled b o → Answered b h ev o
    → read_off (answer_of o) (buffer_of o out) ≡ o
unfolding read_off answer_of buffer_of
outcome_back b h ev (Refused k) out l f a = refl
outcome_back b h ev (Did x) out l f a = read_back x out (whole b h ev x l a) (whole-late b x l f)

-- and so are the bytes that are put out, which a later Arrival may bring
pub sent_as_shown : (o : Outcome) (out : List ℕ) (l : List (List ℕ)) → sent_after (read_off (answer_of o) (buffer_of o out)) l ≡ sent_after o l
unfolding sent_after read_off answer_of buffer_of
sent_as_shown (Refused k) out l = refl
sent_as_shown (Did (Out bytes)) out l = ap (λ (x : List ℕ). x ∷ l) (take_at bytes (drop (length bytes) out) (length bytes) refl)
sent_as_shown (Did (Got name cue)) out l = refl
sent_as_shown (Did Done) out l = refl
sent_as_shown (Did Ignored) out l = refl
sent_as_shown (Did Nothing) out l = refl
sent_as_shown (Did (Clash name)) out l = refl
sent_as_shown (Did (Late name cue)) out l = refl
sent_as_shown (Did Exhausted) out l = refl

-- so what is read off the answers and the outputs is what an onlooker sees
shown-seen : (cs : List Call) (w : World) (b : Book) → Long b → Allowed w cs → LatesAsFiled b (seen w cs) → RunFrom b (seen w cs)
    → map onlooked (returned w cs) ≡ seen w cs
unfolding seen returned onlooked
shown-seen [] w b l a f r = refl
shown-seen (c ∷ cs) w b l a f r =
    let o = (result_of w c).outcome in
    let back : read_off (answer_of o) (buffer_of o c.output) ≡ o = outcome_back b c.host c.action o c.output l f.0 r.0 in
    let next = world_after w c.host (result_of w c) in
    let tail : map onlooked (returned next cs) ≡ seen next cs = shown-seen cs _ _ (long_book b c.host c.action o a.1 l) a.3 f.1 r.2 in
    λ i. record { host = c.host; action = c.action; outcome = back i; status = (result_of w c).left.status } ∷ tail i

shown : (w : World) → Fresh w → (cs : List Call) → Allowed w cs → seen w cs ≡ map onlooked (returned w cs)
unfolding Long AllLong
shown w f cs a = sym (shown-seen cs w empty_book (λ s. tt) a (late_has_the_sources_bytes w f cs a) (service w f cs a))

pub service-shown : ServiceShown
service-shown w f cs a = subst (RunFrom empty_book) (shown w f cs a) (service w f cs a)

pub late-shown : LateShown
late-shown w f cs a = subst (LatesAsFiled empty_book) (shown w f cs a) (late_has_the_sources_bytes w f cs a)

-- ---- no call returns Clash: the answer is the outcome's
abbrev is_clash : Answer → Bool
is_clash (answer.Refused k) = false
is_clash (answer.Out n) = false
is_clash (answer.Got name) = false
is_clash answer.Done = false
is_clash answer.Ignored = false
is_clash answer.Nothing = false
is_clash (answer.Clash name) = true
is_clash (answer.Late name) = false
is_clash answer.Exhausted = false

clash_back : (o : Outcome) (name : Name) → answer_of o ≡ answer.Clash name → o ≡ Did (Clash name)
unfolding answer_of
clash_back (Refused k) name p = clash' (ap is_clash p)
clash_back (Did (Out bytes)) name p = clash' (ap is_clash p)
clash_back (Did (Got x cue)) name p = clash' (ap is_clash p)
clash_back (Did Done) name p = clash' (ap is_clash p)
clash_back (Did Ignored) name p = clash' (ap is_clash p)
clash_back (Did Nothing) name p = clash' (ap is_clash p)
clash_back (Did (Late x cue)) name p = clash' (ap is_clash p)
clash_back (Did Exhausted) name p = clash' (ap is_clash p)
clash_back (Did (Clash x)) name p = let same : x ≡ name = cc in ap (λ (y : Name). Did (Clash y)) same

none-returned : (cs : List Call) (w : World) → ((y : Entry) → Memᴰ y (seen w cs) → (name : Name) → y.outcome ≡ Did (Clash name) → ⊥)
    → (x : Returned) → Memᴰ x (returned w cs) → (name : Name) → x.answer ≡ answer.Clash name → ⊥
unfolding seen returned
none-returned [] w unseen x k name p = absurd (Memᴰ.not-nil k)
none-returned (c ∷ cs) w unseen x k name p =
    ⊎_elim (λ here. unseen _ (Memᴰ.head refl) name (clash_back (result_of w c).outcome name (ap (λ (y : Returned). y.answer) (sym here) ∙ p)))
    (λ later. none-returned cs (world_after w c.host (result_of w c)) (λ y m. unseen y (Memᴰ.tail m)) x later name p)
    (Memᴰ.cases_cons k)

pub never_returns_clash : NeverReturnsClash
never_returns_clash w f cs a = none-returned cs w (never-clashes w f cs a)
