use Rattle.std.proofs.Common.{[], ap, ◌∙◌}
use Rattle.terminal_state.specs.Registers.{carried}
use Rattle.terminal_state.proofs.RegistersLaw.{settled_well}
use Rattle.terminal_state.proofs.registers.Registers.settle.Goals as goal

pub returns-in_default : goal.returns-in_default
returns-in_default c = record {
  registers = λ ds. settled_well c.args.accept c.args.spares c.args.bus c.args.resets c.args.ended.now ds c.args.self.now c.carry_out.new.self c.in_default.not-Badly
      (c.carry_out.ensures ∙ (λ j. carried c.args.bus c.args.resets (c.done_code.ensures ds j) (c.keep.ensures ds j)));
  power_up = ap (λ r. r.power_up) c.carry_out.ensures ∙ ap (λ r. r.power_up) (c.keep.ensures []);
}
