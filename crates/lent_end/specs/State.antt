-- An end as 31,136 bytes, numbers big-endian:
--   0 the mark CE and the layout's version 01
--   2 host 1
--   3 C1 C2 C3 D1 D2 D3 E, 8 each
--   59 clock 8
--   67 status 1: 0 idle, 1 joining, 2 member, 3 leaving, 4 crashed
--   68 next 4
--   72 eight sources of 3,883 (the crate lent_source)
-- Numbers have the width of their types, so that every value of type End has bytes and reads back, and it has exactly one form.
use Rattle.std.specs.Prelude.{◌≡◌, ℕ, ◌+◌, Bool, true, cond, ◌&&◌, List, ◌++◌, length, eqb, leb}
use Rattle.numbers.specs.Number.{digits}
use Rattle.message.specs.Entry.{as_host}
use Rattle.message.specs.Section.{flat}
use Rattle.message.proofs.SectionLaws.{All}
use Rattle.end.specs.declared.Params.{Params}
use Rattle.end.specs.declared.Status.{Status}
use Rattle.end.specs.declared.Status.TheVariants.{Idle, Joining, Member, Leaving, Crashed}
use Rattle.end.specs.declared.Source.{Source}
use Rattle.end.specs.declared.End.{End}
use Rattle.lent_fields.specs.Fields.{number, many, all_pass, Below}
use Rattle.lent_source.specs.Source.{source_width, source_from, source_test, source_bytes, SourceFits}

-- ---- the parameters
unfoldable pub params_bytes : Params → List ℕ
params_bytes p =
    (((((digits 8 p.c1 ++ digits 8 p.c2) ++ digits 8 p.c3) ++ digits 8 p.d1) ++ digits 8 p.d2) ++ digits 8 p.d3) ++ digits 8 p.express

abbrev pub params_from : List ℕ → ℕ → Params
params_from s k = record {
  c1 = number 8 s k;
  c2 = number 8 s (k + 8);
  c3 = number 8 s (k + 16);
  d1 = number 8 s (k + 24);
  d2 = number 8 s (k + 32);
  d3 = number 8 s (k + 40);
  express = number 8 s (k + 48);
}

pub record ParamsFit (p : Params) : Type 0 where
  pub c1-fits : Below 8 p.c1
  pub c2-fits : Below 8 p.c2
  pub c3-fits : Below 8 p.c3
  pub d1-fits : Below 8 p.d1
  pub d2-fits : Below 8 p.d2
  pub d3-fits : Below 8 p.d3
  pub express-fits : Below 8 p.express

-- ---- the status
abbrev pub status_of : ℕ → Status
status_of tag =
    cond (eqb tag 0) Idle (cond (eqb tag 1) Joining (cond (eqb tag 2) Member (cond (eqb tag 3) Leaving Crashed)))

abbrev pub status_number : Status → ℕ
status_number Idle = 0
status_number Joining = 1
status_number Member = 2
status_number Leaving = 3
status_number Crashed = 4

-- ---- the end
abbrev pub SourcesFit : List Source → Type 0
SourcesFit l = (length l ≡ 8) × All SourceFits l

abbrev pub state_width : ℕ
state_width = 31136

-- CE 01
abbrev pub mark : ℕ
mark = 52737

unfoldable pub head_bytes : ℕ → Params → ℕ → ℕ → ℕ → List ℕ
head_bytes host p clock status next =
    ((((digits 2 mark ++ digits 1 host) ++ params_bytes p) ++ digits 8 clock) ++ digits 1 status) ++ digits 4 next

pub record HeadFits (host : ℕ) (p : Params) (clock status next : ℕ) : Type 0 where
  pub host-fits : Below 1 host
  pub params_fit : ParamsFit p
  pub clock-fits : Below 8 clock
  pub status-fits : Below 1 status
  pub next_fits : Below 4 next

unfoldable pub end_bytes : End → List ℕ
end_bytes e = head_bytes e.host.0 e.params e.clock (status_number e.status) e.next ++ flat source_bytes e.sources

pub record EndFits (e : End) : Type 0 where
  pub head-fits : HeadFits e.host.0 e.params e.clock (status_number e.status) e.next
  pub sources_fit : SourcesFit e.sources

unfoldable pub end_from : List ℕ → End
end_from s = record {
  host = as_host (number 1 s 2);
  params = params_from s 3;
  clock = number 8 s 59;
  status = status_of (number 1 s 67);
  next = number 4 s 68;
  sources = many source_from source_width 8 s 72;
}

-- whether bytes are a state: its length, the mark and version, a status that there is, and sources in their one form; all other numbers are free
unfoldable pub is_state : List ℕ → Bool
is_state s = eqb (length s) state_width && (eqb (number 2 s 0) mark && leb (number 1 s 67) 4 && all_pass source_test source_width 8 s 72)

-- the bytes are those of the end, and hold it
pub record Holds (s : List ℕ) (e : End) : Type 0 where
  pub bytes : s ≡ end_bytes e
  pub reads : end_from s ≡ e
  pub tested : is_state s ≡ true
