use Rattle.std.proofs.Common.{◌∙◌, ap, refl}
use Rattle.bus_legal.specs.Initial.{initial_word}
use Rattle.bus_legal.proofs.InitialSteps.{initial_word-table}
use Rattle.bus_legal.proofs.initial.setup_of.Goals as goal

pub returns : goal.returns
returns c = record {
  address = refl;
  broadcast = refl;
  wrap = refl;
  accept = refl;
  vector = refl;
  bit = refl;
  initial = λ s i place. initial_word-table c.as_slice.result.now c.put_initial.new.table c.put_initial.ensures.words s i place ∙ ap (λ entries. initial_word entries s i) c.as_slice.ensures;
}
