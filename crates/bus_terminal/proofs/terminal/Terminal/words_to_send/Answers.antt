use Rattle.std.proofs.Common.{◌≡◌, ◌-◌, Some, ap, sym, ◌∙◌, arith}
use Rattle.bus_word.specs.declared.cell.Cell.TheVariants.{OwnTransmit}
use Rattle.terminal_state.specs.Places.{has_place}
use Rattle.bus_terminal.proofs.SlotsLaw.{of_reply, words_sent, words_counted}
use Rattle.bus_terminal.proofs.terminal.Terminal.words_to_send.Goals as goal

pub returns-in-Some-OwnTransmit-clause-words : goal.returns-in-Some-OwnTransmit-clause-words
returns-in-Some-OwnTransmit-clause-words g c P h stands =
    let is_legal = g.L.Legality.is_legal in
    let t = c.args.self.now in
    let r = c.in-Some.reply in
    let s = c.in-Some-OwnTransmit.subaddress in
    let m = r.next - 1 in
    let cell : r.cell ≡ Some (OwnTransmit s c.in-Some-OwnTransmit.field-0-1) = c.in-Some-OwnTransmit.is ∙ ap Some (rw c.in-Some-OwnTransmit.is at c.in-Some-OwnTransmit.field-0-is) in
    let reply = of_reply t r s c.in-Some-OwnTransmit.field-0-1 c.in-Some.is cell c.if-reply-gt0.true in
    let last = sym (ap (λ cell. has_place cell r.count) cell) ∙ r.there in
    words_sent is_legal P h t r.bus s r.count m c.words.result.now reply last stands
    (λ some. c.words.ensures.words last (omega arith) (omega arith))
    (λ over. c.words.ensures.none (omega arith))

pub returns-in-Some-OwnTransmit-clause-all : goal.returns-in-Some-OwnTransmit-clause-all
returns-in-Some-OwnTransmit-clause-all g c P h stands =
    let is_legal = g.L.Legality.is_legal in
    let t = c.args.self.now in
    let r = c.in-Some.reply in
    let s = c.in-Some-OwnTransmit.subaddress in
    let m = r.next - 1 in
    let cell : r.cell ≡ Some (OwnTransmit s c.in-Some-OwnTransmit.field-0-1) = c.in-Some-OwnTransmit.is ∙ ap Some (rw c.in-Some-OwnTransmit.is at c.in-Some-OwnTransmit.field-0-is) in
    let reply = of_reply t r s c.in-Some-OwnTransmit.field-0-1 c.in-Some.is cell c.if-reply-gt0.true in
    words_counted is_legal P h t r.bus s r.count m c.words.result.now reply stands
    (λ some. c.words.ensures.len (sym (ap (λ cell. has_place cell r.count) cell) ∙ r.there) (omega arith) (omega arith))
    (λ over. c.words.ensures.none (omega arith))
