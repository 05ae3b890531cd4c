use Rattle.std.proofs.Common.{◌≡◌, [], List, ℕ, ap, sym, ◌∙◌}
use Rattle.terminal_rules.specs.Ends.{well}
use Rattle.terminal_rules.specs.Turn.{done_cell}
use Rattle.terminal_rules.proofs.CellLaw.{none_or_allowed, well_law, well_allowed}
use Rattle.terminal_state.specs.Ended.{ending_of}
use Rattle.terminal_state.proofs.CanSendLaw.{last_place}
use Rattle.bus_terminal.specs.Stands.{own_description}
use Rattle.bus_terminal.proofs.terminal.Terminal.judge.Goals as goal

pub returns-in-Some : goal.returns-in-Some
returns-in-Some g c =
    let t = c.args.self.now in
    let P = own_description g.L.Legality.is_legal t in
    let d = c.in-Complete.decoded in
    let ends : (ds : List ℕ) → ending_of c.verdict_of.result ds ≡ well P t.registers.flags.busy d.command ds =
    λ ds. c.verdict_of.ensures ds
    ∙ well_law (g.L.Legality.is_legal t.legality) t.registers.flags.busy d.command ds c.in-Some.cell c.legal-is_legal.result (sym d.of_command ∙ c.in-Some.is) c.legal-is_legal.ensures in
    record {
      ending = λ ds. rw c.in-Complete.is (ends ds);
      cell = last_place (done_cell (ending_of c.verdict_of.result [])) (ap (λ x. none_or_allowed (done_cell x)) (ends []) ∙ well_allowed P t.registers.flags.busy d.command []);
    }
