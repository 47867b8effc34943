-- From a source to its end.
use mathlib.Core.Path.{◌≡◌, refl, sym, ap, ◌∙◌}
use mathlib.Core.Bool.{Bool, true, false, not, cond}
use mathlib.Core.List.{List}
use mathlib.Core.Option.{Option}
use Prim.Native.Nat.{ℕ, ◌<◌}
use lib.ListN.{length, get_or, set}
use lib.Seq.{get_or-set_same, get_or-set_other}
use lib.Dec.{eqb}
use borrow.Author.Tests.{eqb-true, eqb-false, eq-eqb}
use Rattle.message.specs.declared.Host.{Host}
use Rattle.end.specs.declared.Source.{Source}
use Rattle.end.specs.declared.End.{End}
use Rattle.end.specs.State.{no_source, source_at, with_source}
use Rattle.end.specs.Book.{raised_to, not_below}
use Rattle.end.proofs.Tools.{by_test, set_elim, eqb_flip}
use Rattle.end.proofs.RecordLaws.{Narrow}
use Rattle.end.proofs.Service.View.{first_in, last_in, windowed, held_at, SameSource, RoseSource, TookSource, holds, first_at, last_at, Same, Rose, Took}
use Rattle.end.proofs.Service.Sources.{still_window}

pub same_refl : (e : End) → Same e e
same_refl e = record { host = refl; status = refl; next = refl; firsts = λ s hs. refl; lasts = λ s hs. refl; holding = λ s n hs. refl }

pub same_trans : {a b c : End} → Same a b → Same b c → Same a c
same_trans p q = record {
  host = q.host ∙ p.host;
  status = q.status ∙ p.status;
  next = q.next ∙ p.next;
  firsts = λ s hs. q.firsts s hs ∙ p.firsts s hs;
  lasts = λ s hs. q.lasts s hs ∙ p.lasts s hs;
  holding = λ s n hs. q.holding s n hs ∙ p.holding s n hs;
}

pub same_source : (e : End) (h : Host) (x : Source) → SameSource (source_at e h) x → Same e (with_source e h x)
unfolding first_at last_at holds
same_source e h x v = record {
  host = refl;
  status = refl;
  next = refl;
  firsts = λ k hk. set_elim (λ (y : Source). first_in y.span ≡ first_at e k) e.sources h.0 k x no_source (λ i. rw i v.first) refl;
  lasts = λ k hk. set_elim (λ (y : Source). last_in y.span ≡ last_at e k) e.sources h.0 k x no_source (λ i. rw i v.last) refl;
  holding = λ k j hk. set_elim (λ (y : Source). held_at y j ≡ holds e k j) e.sources h.0 k x no_source (λ i. rw i (v.holding j)) refl;
}

-- the spans of all sources are narrow: where last stays, so does first
abbrev pub Narrows : End → Type 0
Narrows e = (s : ℕ) → s < 8 → Narrow (get_or e.sources s no_source).span

-- a number was brought of one source
abbrev pub brought_of : ℕ → ℕ → ℕ → Option ℕ → Option ℕ
brought_of h n s top = cond (eqb h s) (raised_to n top) top

module _ (e : End) (h : Host) (x : Source) (l : h.0 < length e.sources) where
  there : (k : ℕ) → k ≡ h.0 → get_or (set e.sources h.0 x) k no_source ≡ x
  there k i = rw i (get_or-set_same e.sources h.0 x no_source l)

  elsewhere : (k : ℕ) → eqb k h.0 ≡ false → get_or (set e.sources h.0 x) k no_source ≡ get_or e.sources k no_source
  elsewhere k d = get_or-set_other e.sources h.0 k x no_source (eqb-false k h.0 d)

  is-other : (k : ℕ) → k ≡ h.0 → eqb e.host.0 k ≡ false → not (eqb h.0 e.host.0) ≡ true
  is-other k i d = ap not (eqb_flip e.host.0 h.0 (ap (eqb e.host.0) (sym i) ∙ d))

  pub rose_source : (n : ℕ) → Narrows e → RoseSource (not (eqb h.0 e.host.0)) (source_at e h) x n → Rose (brought_of h.0 n) e (with_source e h x)
  unfolding first_at last_at holds
  rose_source n o v = record {
    host = refl;
    status = refl;
    next = refl;
    firsts = λ k hk d. by_test (eqb k h.0)
        (λ t. let i = eqb-true k h.0 t in rw (there k i, i) (v.first (is-other k i d)))
        (λ t. rw (elsewhere k t) (sym (still_window (get_or e.sources k no_source).span (o k hk))));
    lasts = λ k hk d. by_test (eqb k h.0)
        (λ t. let i = eqb-true k h.0 t in rw (there k i, i, eq-eqb h.0 h.0 refl) (v.last (is-other k i d)))
        (λ t. rw (elsewhere k t, eqb_flip k h.0 t));
    up = λ k j hk. set_elim (λ (y : Source). not_below (first_in y.span) j ≡ true → not_below (first_at e k) j ≡ true) e.sources h.0 k x no_source
        (λ i. rw i (v.up j)) (λ p. p);
    holding = λ k j hk. set_elim (λ (y : Source). not_below (first_in y.span) j ≡ true → held_at y j ≡ holds e k j) e.sources h.0 k x no_source
        (λ i. rw i (v.holding j)) (λ _. refl);
  }

  pub took_source : (n : ℕ) (c : List ℕ) → TookSource (source_at e h) x n c → Took e (with_source e h x) h.0 n c
  unfolding first_at last_at holds
  took_source n c v = record {
    host = refl;
    status = refl;
    first-there = rw (there h.0 refl) v.first;
    last-there = rw (there h.0 refl) v.last;
    holds-there = rw (there h.0 refl) v.there;
    holding-there = λ j d. rw (there h.0 refl) (v.holding j d);
    firsts = λ k hk d. rw (elsewhere k d);
    lasts = λ k hk d. rw (elsewhere k d);
    holding = λ k j hk d. rw (elsewhere k d);
  }
