use Rattle.std.proofs.Common.{true, false, ◌==◌, length, refl, sym, ◌∙◌}
use Rattle.terminal_bus.proofs.Places.{not_added_law}
use Rattle.terminal_bus.proofs.bus.TerminalBus.not_added.Goals as goal

pub returns-then-has_address-clause-not_added : goal.returns-then-has_address-clause-not_added
returns-then-has_address-clause-not_added g c members s =
    not_added_law g.L.Legality.is_legal members c.args.address c.args.self.now.seats.items c.as_slice.result.now true (length c.args.self.now.seats.items == 31) s
    c.as_slice.ensures.value (sym c.if-has_address.true ∙ c.has_address.ensures) refl

pub returns-then-is_full-clause-not_added : goal.returns-then-is_full-clause-not_added
returns-then-is_full-clause-not_added g c members s =
    not_added_law g.L.Legality.is_legal members c.args.address c.args.self.now.seats.items c.as_slice.result.now false true s
    c.as_slice.ensures.value (sym c.if-has_address.false ∙ c.has_address.ensures) (sym c.if-is_full.true ∙ c.is_full.ensures.value)

pub returns-else-is_full-clause-not_added : goal.returns-else-is_full-clause-not_added
returns-else-is_full-clause-not_added g c members s =
    not_added_law g.L.Legality.is_legal members c.args.address c.args.self.now.seats.items c.as_slice.result.now false false s
    c.as_slice.ensures.value (sym c.if-has_address.false ∙ c.has_address.ensures) (sym c.if-is_full.false ∙ c.is_full.ensures.value)
