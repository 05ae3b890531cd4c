use Rattle.std.proofs.Common.{[], ◌++◌, refl, sym, subst, append-nil}
use Rattle.bus_legal.specs.Description.{described}
use Rattle.terminal_rules.specs.Past.{history_after}
use Rattle.terminal_messages.specs.Parts.{tell}
use Rattle.terminal_messages.specs.Messages.{still_open}
use Rattle.recording_coverage.specs.Covers.{Covers}
use Rattle.recording_coverage.specs.inner.Counted.{ends_over}
use Rattle.recording_coverage.proofs.SoFar.{no_place, covers_more}
use Rattle.recording_coverage.proofs.counting.count.Goals as goal

pub returns : goal.returns
returns g c = λ ends covers.
    let D = described c.args.setup (g.L.Legality.is_legal c.args.legality) in
    let h = history_after c.args.events.now [] in
    let stands = c.power_up-watch.ensures no_place in
    covers_more D c.args.setup.address h (still_open (tell D h)) c.end-left.result ends c.count_closed.new.coverage refl (c.end-left.ensures D no_place h (c.count_from.ensures.stands D [] stands))
    (c.count_closed.ensures (ends ++ ends_over D h) (c.count_from.ensures.counts D [] ends refl stands (subst (λ ks. Covers ks c.args.coverage.now) (sym (append-nil ends)) covers)))
