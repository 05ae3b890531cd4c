use Rattle.std.proofs.Common.{◌≡◌, ◌++◌, List, drop, flat_map}
use Rattle.terminal_bus.specs.declared.event.BusEvent.{BusEvent}
use Rattle.terminal_bus.specs.Members.{Member, bus_after}
use Rattle.terminal_bus.specs.AtMembers.{BusStandsAt, AnswersAt}
use Rattle.script_terminals.specs.BusTexts.{member_text}
use Rattle.script_terminals.proofs.texts.push_each.Given as goal

abbrev pub invariant-loop-place : goal.invariant-loop-place
invariant-loop-place g l = (members : List Member) (x : BusEvent) → BusStandsAt g.L.Legality.is_legal (bus_after members x) l.bus → AnswersAt members x l.bus
    → l.text.items ++ flat_map (member_text members x) (drop l.place members) ≡ l.fn.text.items ++ flat_map (member_text members x) members
