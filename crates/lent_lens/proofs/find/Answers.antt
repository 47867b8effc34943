use mathlib.Core.Path.{refl}
use native.Mathlib.Omega.{arith}
use Rattle.lent_lens.proofs.LensLaws.{not-whole, too_long, found}
use Rattle.lent_lens.proofs.find.Goals as goal

-- `lent_lens::find` meets its contract.
pub returns-then-windows-ne0 : goal.returns-then-windows-ne0
returns-then-windows-ne0 c =
    let a = c.args in
    not-whole a.windows.now a.year a.month a.day a.minute c.if-windows-ne0.true

pub returns-then-n-gt-LONGEST : goal.returns-then-n-gt-LONGEST
returns-then-n-gt-LONGEST c =
    let a = c.args in
    too_long a.windows.now a.year a.month a.day a.minute (omega arith) c.if-n-gt-LONGEST.true

pub returns : goal.returns
returns c =
    let a = c.args in
    found a.windows.now a.year a.month a.day a.minute (omega arith) _ _ c.find_in-found.result _ _ refl c.windows_in-all.ensures
    c.moment_of-m.ensures c.find_in-found.ensures c.opening_number.ensures
