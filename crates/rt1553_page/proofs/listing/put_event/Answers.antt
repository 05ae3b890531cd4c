use Rattle.std.proofs.Common.{◌≡◌, ◌++◌, ◌∷◌, map, subst}
use Rattle.terminal_messages.specs.Fold.{shown_closed}
use Rattle.terminal_messages.specs.Messages.{closed_by}
use Rattle.terminal_messages.specs.Parts.{tell}
use Rattle.terminal_messages.specs.View.{told_view}
use Rattle.terminal_messages.specs.Watch.{WatchStands, told_event_at}
use Rattle.rt1553_page.specs.Listed.{rows_told}
use Rattle.rt1553_page.specs.inner.Held.{Holds}
use Rattle.rt1553_page.proofs.listing.put_event.Goals as goal

pub returns-in-Some-clause-stands : goal.returns-in-Some-clause-stands
returns-in-Some-clause-stands g c = λ e P at h is s there.
    let was = c.in-Some.is in
    let same : c.in-Some.event ≡ e = cc in
    subst (λ x. WatchStands g.L.Legality.is_legal P at (x ∷ h) c.step.new.self) same (c.step.ensures.stands P at h s there)

pub returns-in-Some-clause-held : goal.returns-in-Some-clause-held
returns-in-Some-clause-held g c = λ e P at h rows is s there holds.
    let was = c.in-Some.is in
    let same : c.in-Some.event ≡ e = cc in
    let closed = c.step.ensures.closed P at h s there in
    subst (λ xs. Holds (rows ++ rows_told xs) c.put_closed.new.to c.put_closed.new.filled)
    (subst (λ x. shown_closed c.step.result ≡ map (told_view P at) (closed_by (tell P h) (told_event_at P h x))) same closed)
    (c.put_closed.ensures.held rows holds)
