use mathlib.Core.Path.{◌∙◌, ap}
use Rattle.message.specs.Entry.{as_host}
use Rattle.lent_end.specs.State.{end_from, status_of}
use Rattle.lent_end.proofs.get_end.Goals as goal

-- `lent_end::get_end` meets its contract.
pub returns : goal.returns
unfolding end_from
returns c =
    λ i. record {
      host = as_host (c.read1.ensures i);
      params = c.get_params.ensures i;
      clock = c.read8.ensures i;
      status = (c.status_of.ensures ∙ ap status_of c.read1-2.ensures) i;
      next = c.read4.ensures i;
      sources = c.read_all.ensures i;
    }
