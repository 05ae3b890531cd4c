use Rattle.std.proofs.Common.{Some, ap, sym, ◌∙◌}
use Rattle.bus_word.specs.Command.{address_of}
use Rattle.terminal_bus.specs.declared.discipline.Breach.TheVariants.{CommandToAwaited}
use Rattle.terminal_bus.proofs.BreachLaw.{broken, kept_to}
use Rattle.terminal_bus.proofs.discipline.breach_of_word.Goals as goal

pub returns-then-is_to_awaited : goal.returns-then-is_to_awaited
returns-then-is_to_awaited g c =
    ap (λ a. Some (CommandToAwaited a)) (c.address.ensures ∙ ap address_of c.of.ensures)
    ∙ sym (broken _ (CommandToAwaited (address_of c.args.word.bits)) (sym c.is_to_awaited.ensures ∙ c.if-is_to_awaited.true))

pub returns-else-is_to_awaited : goal.returns-else-is_to_awaited
returns-else-is_to_awaited g c = sym (kept_to _ (CommandToAwaited (address_of c.args.word.bits)) (sym c.is_to_awaited.ensures ∙ c.if-is_to_awaited.false))
