use Rattle.std.proofs.Common.{◌&&◌, ap, sym, ◌∙◌}
use Rattle.bus_word.specs.Command.{address_of}
use Rattle.terminal_bus.specs.inner.Replying.{awaited_in_places}
use Rattle.terminal_bus.proofs.discipline.is_to_awaited.Goals as goal

pub returns-then-is_command : goal.returns-then-is_command
returns-then-is_command g c =
    c.is_awaited.ensures
    ∙ ap (awaited_in_places c.args.places.now c.args.bus) (c.address.ensures ∙ ap address_of c.of.ensures)
    ∙ ap (λ b. b && awaited_in_places c.args.places.now c.args.bus (address_of c.args.word.bits)) (sym (sym c.is_command.ensures ∙ c.if-is_command.true))
