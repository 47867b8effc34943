-- What soundness says of a source's first, last and count. Document 02, P7: "A sound state has last − first at most 63, and that count at
-- most first, 0 without one." The functions that let last rise ask for it: the count then stays below 65,536.
use Rattle.std.specs.Prelude.{◌≤◌}
use Rattle.end.specs.declared.Source.{Source}
use Rattle.end.specs.Records.{start}
use Rattle.end.specs.Ready.{SpanIn}

pub record Counted (s : Source) : Type 0 where
  pub span : SpanIn s.span
  pub count : s.missed ≤ start s.span
