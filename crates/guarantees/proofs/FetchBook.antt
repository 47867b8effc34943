-- Fetch, Announce and the messages of kinds 22 to 24 lie outside the service's book: the statements of specs/Fetch.antt and
-- specs/Announce.antt on it.
use mathlib.Core.Path.{◌≡◌, refl, sym, ap, ◌∙◌}
use mathlib.Core.Bool.{true, false}
use mathlib.Core.List.{List, [], ◌∷◌}
use mathlib.Core.Option.{Option, none, some}
use Prim.Native.Nat.{ℕ}
use lib.Dec.{eqb}
use borrow.Author.Tests.{eqb-true}
use Rattle.message.specs.Message.{DATA, RQST, REPL, SESS, XPRS, FTCH, LATE, ANNC, Meaning, meaning_from}
use Rattle.message.specs.Question.{read_refusal}
use Rattle.end.specs.Event.{Arrival}
use Rattle.end.specs.Book.{Book, NeverGot, put, read_as, brought_to, gets, hears, bring, due_message, after_message, due, after}
use Rattle.end.proofs.Tools.{by_cond, by_test, or_alone}
use Rattle.guarantees.specs.Arrivals.{is_fetched, is_announced}
use Rattle.guarantees.specs.Fetch.{OutsideBook, FetchOutsideBook, FetchedOutsideBook, BringsNothing}
use Rattle.guarantees.specs.Announce.{AnnounceOutsideBook, AnnouncedOutsideBook, AnnouncedBringsNothing}

pub fetch_outside_book : FetchOutsideBook
unfolding due after
fetch_outside_book b h name = record { never-got = refl; same = refl }

pub announce_outside_book : AnnounceOutsideBook
unfolding due after
announce_outside_book b h = record { never-got = refl; same = refl }

-- what is so of both kinds is so of such a message
by_kind : (P : ℕ → Type 0) (m : Meaning) → is_fetched m ≡ true → P FTCH → P LATE → P m.kind
by_kind P m is fetched late = by_test (eqb m.kind FTCH)
    (λ k. rw (eqb-true m.kind FTCH k) fetched)
    (λ k. rw (eqb-true m.kind LATE (or_alone (eqb m.kind FTCH) (eqb m.kind LATE) is k)) late)

-- neither an original nor a repair, about no name that counts, and no session message
record Aside (kind : ℕ) : Type 0 where
  data_none : eqb kind DATA ≡ false
  request_none : eqb kind RQST ≡ false
  repair_none : eqb kind REPL ≡ false
  express_none : eqb kind XPRS ≡ false
  session_none : eqb kind SESS ≡ false

aside : (m : Meaning) → is_fetched m ≡ true → Aside m.kind
aside m is = by_kind Aside m is
    (record { data_none = refl; request_none = refl; repair_none = refl; express_none = refl; session_none = refl })
    (record { data_none = refl; request_none = refl; repair_none = refl; express_none = refl; session_none = refl })

aside_24 : (m : Meaning) → is_announced m ≡ true → Aside m.kind
aside_24 m is = rw (eqb-true m.kind ANNC is)
    (record { data_none = refl; request_none = refl; repair_none = refl; express_none = refl; session_none = refl })

brings-none : (m : Meaning) → Aside m.kind → (s : ℕ) (top : Option ℕ) → brought_to m s top ≡ top
unfolding brought_to
brings-none m k s top = rw (k.data_none, k.request_none, k.repair_none, k.express_none, k.session_none)

pub brings-nothing : BringsNothing
brings-nothing m is = brings-none m (aside m is)

pub announced_brings_nothing : AnnouncedBringsNothing
announced_brings_nothing m is = brings-none m (aside_24 m is)

gets-nothing : (b : Book) (h : ℕ) (m : Meaning) → Aside m.kind → gets b h m ≡ false
unfolding gets
gets-nothing b h m k = rw (k.data_none, k.repair_none)

-- a function of which one value is put as it was
put_back : {A : Type 0} (f : ℕ → A) (h : ℕ) (x : A) → x ≡ f h → (k : ℕ) → put f h x k ≡ f k
unfolding put
put_back f h x is k = by_cond (λ y. y ≡ f k) (eqb k h) (λ t. is ∙ ap f (sym (eqb-true k h t))) (λ _. refl)

bring-same : (b : Book) (h : ℕ) (m : Meaning) → Aside m.kind → bring b h m ≡ b
unfolding bring
bring-same b h m is =
    let row : (λ (s : ℕ). brought_to m s (b.highest h s)) ≡ b.highest h = λ i s. brings-none m is s (b.highest h s) i in
    λ i. record { status = b.status; filed = b.filed; handed = b.handed; highest = λ k. put_back b.highest h _ row k i }

-- what is read of it
read_outside : (b : Book) (h : ℕ) (m : Meaning) → Aside m.kind → (due_message b h (some m) ≡ NeverGot) × (after_message b h (some m) ≡ b)
unfolding due_message after_message
read_outside b h m is =
    rw (gets-nothing b h m is) (refl, by_cond (λ (x : Book). x ≡ b) (hears b h m) (λ _. bring-same b h m is) (λ _. refl))

-- bytes are read as nothing, or as what they mean
read_cases : (P : Option Meaning → Type 0) (bytes : List ℕ) → P none → P (some (meaning_from bytes)) → P (read_as bytes)
unfolding read_as
read_cases P [] nothing message = by_cond P (eqb (read_refusal []) 0) (λ _. nothing) (λ _. nothing)
read_cases P (c ∷ s) nothing message = by_cond P (eqb (read_refusal (c ∷ s)) 0) (λ _. message) (λ _. nothing)

bytes_outside : (b : Book) (h : ℕ) (bytes : List ℕ) → Aside (meaning_from bytes).kind → OutsideBook b h (Arrival bytes)
unfolding due after due_message after_message
bytes_outside b h bytes is =
    let outside = read_outside b h (meaning_from bytes) is in
    record {
      never-got = read_cases (λ (o : Option Meaning). due_message b h o ≡ NeverGot) bytes refl outside.0;
      same = read_cases (λ (o : Option Meaning). after_message b h o ≡ b) bytes refl outside.1;
    }

pub fetched_outside_book : FetchedOutsideBook
fetched_outside_book b h bytes is = bytes_outside b h bytes (aside (meaning_from bytes) is)

pub announced_outside_book : AnnouncedOutsideBook
announced_outside_book b h bytes is = bytes_outside b h bytes (aside_24 (meaning_from bytes) is)
