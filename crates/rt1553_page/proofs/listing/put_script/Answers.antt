use Rattle.std.proofs.Common.{refl, sym, ap, subst, arith}
use Rattle.bus_script.specs.Reading.{nothing}
use Rattle.terminal_messages.specs.Watch.{WatchStands}
use Rattle.rt1553_page.specs.Listed.{line_of_event}
use Rattle.rt1553_page.specs.inner.Held.{Holds}
use Rattle.rt1553_page.proofs.ListLaws.{read-stops, read-all, events-said, rows_over, played-on}
use Rattle.rt1553_page.proofs.listing.put_script.Goals as goal

pub returns-in-Err-clause-fault : goal.returns-in-Err-clause-fault
returns-in-Err-clause-fault g c =
    let i = c.loop-rest.invariant in
    ap (λ r. r.fault) (sym (read-stops c.args.script.now c.loop-rest.rest.now c.first_line.result.0.now c.first_line.result.1.now c.loop-rest.lines i.2 _ i.3 c.first_line.ensures.lines c.in-Err.ensures.fault))

pub returns-in-Err-clause-stands : goal.returns-in-Err-clause-stands
returns-in-Err-clause-stands g c = λ P s.
    let i = c.loop-rest.invariant in
    let is = read-stops c.args.script.now c.loop-rest.rest.now c.first_line.result.0.now c.first_line.result.1.now c.loop-rest.lines i.2 _ i.3 c.first_line.ensures.lines c.in-Err.ensures.fault in
    subst (λ h. WatchStands g.L.Legality.is_legal P (line_of_event c.args.script.now) h c.loop-rest.watch) (events-said i.2 _ _ is refl) (i.4.stands P s)

pub returns-in-Err-clause-held : goal.returns-in-Err-clause-held
returns-in-Err-clause-held g c = λ P s empty.
    let i = c.loop-rest.invariant in
    let is = read-stops c.args.script.now c.loop-rest.rest.now c.first_line.result.0.now c.first_line.result.1.now c.loop-rest.lines i.2 _ i.3 c.first_line.ensures.lines c.in-Err.ensures.fault in
    subst (λ h. Holds (rows_over P c.args.script.now h) c.loop-rest.to c.loop-rest.filled) (events-said i.2 _ _ is refl) (i.4.held P s empty)

pub loop-rest-preserved : goal.loop-rest-preserved
loop-rest-preserved g c =
    let i = c.loop-rest.invariant in
    let e = c.put_event.ensures in
    let said = c.in-Ok.ensures.said in
    let size = e.size in
    let on = played-on g.L.Legality.is_legal c.args.script.now c.loop-rest.rest.now c.first_line.result.0.now c.first_line.result.1.now c.loop-rest.lines i.2 _
    c.args.watch.now c.loop-rest.watch c.put_event.new.watch c.args.to.now c.loop-rest.to c.put_event.new.to c.args.filled.now c.loop-rest.filled c.put_event.new.filled
    i.3 c.first_line.ensures.lines said.0 said.1 said.2 i.4 e.none e.stands e.held in
    (omega (arith, size, i.0), e.within, on.0, on.1, on.2)

pub returns-clause-fault : goal.returns-clause-fault
returns-clause-fault g c =
    let i = c.loop-rest.invariant in
    ap (λ r. r.fault) (sym (read-all c.args.script.now c.loop-rest.rest.now c.loop-rest.lines i.2 i.3 (grind arith)))

pub returns-clause-stands : goal.returns-clause-stands
returns-clause-stands g c = λ P s.
    let i = c.loop-rest.invariant in
    let is = read-all c.args.script.now c.loop-rest.rest.now c.loop-rest.lines i.2 i.3 (grind arith) in
    subst (λ h. WatchStands g.L.Legality.is_legal P (line_of_event c.args.script.now) h c.loop-rest.watch) (events-said i.2 _ nothing is refl) (i.4.stands P s)

pub returns-clause-held : goal.returns-clause-held
returns-clause-held g c = λ P s empty.
    let i = c.loop-rest.invariant in
    let is = read-all c.args.script.now c.loop-rest.rest.now c.loop-rest.lines i.2 i.3 (grind arith) in
    subst (λ h. Holds (rows_over P c.args.script.now h) c.loop-rest.to c.loop-rest.filled) (events-said i.2 _ nothing is refl) (i.4.held P s empty)
