use Rattle.std.proofs.Common.{◌∙◌, ◌++◌, ap}
use Rattle.std.proofs.lemmas.Result.{on_ok_weaker}
use Rattle.script_terminals.specs.BusReading.{warned}
use Rattle.script_terminals.proofs.playing.take.Goals as goal

pub returns : goal.returns
returns g c = on_ok_weaker c.push_told.result
    (λ told members stands. record {
      text = told members (c.step-collided.ensures.stands members stands) (c.step-collided.ensures.answers members stands) (c.step-collided.ensures.collisions members stands);
      warnings = c.in_ok-push_warning.ensures ∙ ap (λ b. c.args.warnings.now.items ++ warned c.args.number b) (c.breach_of.ensures members stands);
      stands = c.step-collided.ensures.stands members stands;
    })
    c.push_told.ensures
