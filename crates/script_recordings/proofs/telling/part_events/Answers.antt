use Rattle.std.proofs.Common.{◌≡◌, ◌∙◌, IfOk, ap, subst}
use Rattle.bus_legal.specs.Description.{described}
use Rattle.bus_legal.specs.Tables.{tables_say}
use Rattle.bus_legal.proofs.NormalLaws.{set_up_normal}
use Rattle.recorded_terminal.specs.Behaviour.{IsBehaviourAfter}
use Rattle.recorded_terminal.specs.Follows.{shut_down}
use Rattle.recorded_terminal.specs.Sightings.{recorded}
use Rattle.recorded_terminal.specs.Marks.{seen_in}
use Rattle.script_recordings.proofs.telling.part_events.Goals as goal

pub returns-clause-events : goal.returns-clause-events
returns-clause-events c =
    let v = c.args.normal.now in
    let same : recorded c.as_slice.result.now ≡ seen_in c.args.part.now = ap recorded c.as_slice.ensures.value ∙ c.in_ok-sightings.ensures in
    subst (λ D. IfOk c.behaviour_after.result (λ events. IsBehaviourAfter D (shut_down c.args.shut) (seen_in c.args.part.now) events.items))
    (set_up_normal v c.setup-setup.result c.setup-setup.ensures.parts)
    (subst (λ l. IfOk c.behaviour_after.result (λ events. IsBehaviourAfter (described c.setup-setup.result (tables_say v.tables)) (shut_down c.args.shut) l events.items)) same c.behaviour_after.ensures)
