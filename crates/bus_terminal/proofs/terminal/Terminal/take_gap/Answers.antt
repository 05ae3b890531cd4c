use Rattle.std.proofs.Common.{ap, subst, ◌∙◌}
use Rattle.terminal_rules.specs.SinceReset.{wrapped}
use Rattle.terminal_state.specs.Ended.{ending_of}
use Rattle.terminal_state.specs.Message.{standing_on}
use Rattle.terminal_state.specs.Standing.{ending_at}
use Rattle.bus_terminal.specs.Stands.{own_description}
use Rattle.bus_terminal.specs.inner.Terminal.{Settles}
use Rattle.bus_terminal.proofs.terminal.Terminal.take_gap.Goals as goal

pub returns-clause-takes : goal.returns-clause-takes
returns-clause-takes g c =
    let is_legal = g.L.Legality.is_legal in
    let t = c.args.self.now in
    let ds = t.in_progress.words.items in
    record {
      standing = λ b. ap (standing_on b) c.settle.ensures.in_progress ∙ c.end_at_gap-end.ensures.standing b;
      settles = subst (λ x. Settles is_legal c.args.bus x t c.settle.new.self)
          (c.judge-ended.ensures.ending ds ∙ ap (ending_at (own_description is_legal t) t.registers.flags.busy) c.end_at_gap-end.ensures.end)
          (c.settle.ensures.settles ds t.in_progress (λ s n. ap (λ ws. wrapped t.settings.wrap s n (ending_of c.judge-ended.result ws.items)) c.end_at_gap-end.ensures.words));
    }
