use Rattle.std.proofs.Common.{◌≡◌, Some, ap, sym, ◌∙◌}
use Rattle.bus_terminal.specs.Received.{receiving_by}
use Rattle.terminal_state.specs.Message.{standing_on, command_in}
use Rattle.bus_terminal.proofs.ReceivedLaw.{received_begins, receives_words, received_stands}
use Rattle.bus_terminal.proofs.terminal.Terminal.take_received.Goals as goal

pub returns-in-OwnReceive : goal.returns-in-OwnReceive
returns-in-OwnReceive g c P h it ds e count s =
    received_stands g.L.Legality.is_legal P h c.args.bus it ds c.args.self.now.in_progress.words.items c.in-Some.decoded c.in-Some-cell.cell c.args.self.now c.settle.new.self e count s
    (sym c.fresh.ensures ∙ ap command_in c.in-Some.is) c.in-Some-cell.is c.settle.ensures.settles (λ b. ap (standing_on b) c.settle.ensures.in_progress)

pub returns-in_default-cell-2 : goal.returns-in_default-cell-2
returns-in_default-cell-2 g c P h it ds e count s =
    let n = received_begins g.L.Legality.is_legal P h c.args.bus it c.args.self.now c.fresh.result e s c.fresh.ensures in
    let same : n.0 ≡ c.in-Some.decoded = cc (n.2, c.in-Some.is) in
    let cell : n.1 ≡ c.in-Some-cell.cell = cc (n.3, ap (λ d. d.cell) same, c.in-Some-cell.is) in
    absurd (receives_words P c.in-Some.decoded.command it c.in-Some-cell.cell (sym (λ j. receiving_by P (same j).command (Some (cell j))) ∙ n.4) c.in_default-cell-2.not-OwnReceive c.in_default-cell-2.not-BroadReceive)

pub returns-in_default-cell : goal.returns-in_default-cell
returns-in_default-cell g c P h it ds e count s =
    let n = received_begins g.L.Legality.is_legal P h c.args.bus it c.args.self.now c.fresh.result e s c.fresh.ensures in
    let same : n.0 ≡ c.in-Some.decoded = cc (n.2, c.in-Some.is) in
    absurd (c.in_default-cell.not-Some n.1 (sym (ap (λ d. d.cell) same) ∙ n.3))

pub returns-in_default : goal.returns-in_default
returns-in_default g c P h it ds e count s =
    let n = received_begins g.L.Legality.is_legal P h c.args.bus it c.args.self.now c.fresh.result e s c.fresh.ensures in
    absurd (c.in_default.not-Some n.0 n.2)
