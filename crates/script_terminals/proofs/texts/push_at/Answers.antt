use Rattle.std.proofs.Common.{◌∙◌, ◌++◌, ap}
use Rattle.std.proofs.lemmas.Result.{on_ok_weaker}
use Rattle.terminal_bus.specs.Members.{bus_after}
use Rattle.script_terminals.proofs.TextLaws.{place_text, no_place}
use Rattle.script_terminals.proofs.texts.push_at.Goals as goal

pub returns-in-Some : goal.returns-in-Some
returns-in-Some g c = on_ok_weaker c.push_addressed.result
    (λ told members x m stands answers at. told ∙ ap (λ t. c.args.text.now.items ++ t)
    (place_text g.L.Legality.is_legal members x c.args.place m c.in-Some.it.address _ _ at (c.in-Some.ensures.address (bus_after members x) stands) c.in-Some.ensures.answer (answers c.args.place m at)))
    c.push_addressed.ensures

pub returns-in-None : goal.returns-in-None
returns-in-None g c members x m stands answers at = absurd (no_place g.L.Legality.is_legal members x c.args.place m at (c.in-None.ensures.address (bus_after members x) stands))
