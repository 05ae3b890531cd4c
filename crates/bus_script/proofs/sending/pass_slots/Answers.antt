use Rattle.std.proofs.Common.{sym, subst, arith}
use Rattle.bus_terminal.specs.Slots.{slots}
use Rattle.bus_terminal.proofs.SlotsLaw.{slots_are_silent}
use Rattle.bus_script.specs.inner.Pieces.{IsPiece}
use Rattle.bus_script.proofs.SlotsLaws.{SlotsPiece, slots-silent}
use Rattle.bus_script.proofs.sending.pass_slots.Goals as goal

pub returns : goal.returns
returns g c = let n = c.slot_lines-count.result in (
  slots n,
  subst (λ piece. IsPiece c.args.bytes.now c.args.most piece (slots n)) (sym c.of.ensures) (SlotsPiece c.args.bytes.now c.args.most n c.slot_lines-count.ensures.most (c.slot_lines-count.ensures.lines n (omega arith))),
  slots-silent g.L.Legality.is_legal c.args.terminal.now c.take_slots.new.self n (λ P h s. slots_are_silent P h (c.requires.silent P h s)) c.take_slots.ensures,
)
