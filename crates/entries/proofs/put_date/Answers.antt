-- `entries::put_date` meets its contract: ten bytes.
use native.Mathlib.Omega.{arith}
use mathlib.Core.Path.{ap}
use lib.ListN.{length}
use Rattle.answers.proofs.PutLaws.{put_wider, put_same}
use Rattle.entries.proofs.PrintLaws.{date-size}
use Rattle.entries.proofs.put_date.Goals as goal

pub returns : goal.returns
returns c =
    let e = c.date_text-t.ensures in
    put_same (put_wider c.text.ensures (omega (arith, ap length e, date-size c.args.d))) e
