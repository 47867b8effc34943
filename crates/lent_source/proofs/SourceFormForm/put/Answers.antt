use mathlib.Core.Path.{refl}
use Rattle.layout.proofs.PutLaws.{puts-next}
use Rattle.lent_source.specs.Source.{source_bytes}
use Rattle.lent_source.proofs.SourceFormForm.put.Goals as goal

-- `SourceForm::put` meets its contract: five parts, each at the end of the one before.
pub returns : goal.returns
unfolding source_bytes
returns c =
    let front = c.put_front.ensures in
    let heard = c.put.ensures in
    let origin = c.put-2.ensures in
    let attempts = c.put_all.ensures in
    let names = c.put_all-2.ensures in
    record {
      puts = puts-next (puts-next (puts-next (puts-next front.puts heard.puts refl) origin.puts refl) attempts.puts refl) names.puts refl;
      fits = record { front_fits = front.front_fits; heard-fits = heard.fits; origin-fits = origin.fits; attempts_fit = attempts.fit; records_fit = names.fit };
    }
