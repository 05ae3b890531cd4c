use Rattle.terminal_messages.specs.Watch.{SeesEvent}
use Rattle.terminal_messages.specs.State.{facts_in}
use Rattle.terminal_messages.proofs.FoldLaw.{further, Further}
use Rattle.terminal_messages.proofs.watch.MessageWatch.step.Goals as goal

pub returns-clause-stands : goal.returns-clause-stands
returns-clause-stands g c P at h s is =
    let seen : SeesEvent P at h c.args.event c.see_event-seen.result = c.see_event-seen.ensures.seen P h at s.terminal is in
    let f : Further P at h c.args.event c.step.new.self c.step.result =
    further P at h c.args.event (facts_in c.see_event-seen.result seen.words) c.see_event-seen.result.is_ignored c.args.self.now.fold c.step.new.self c.step.result
    seen.facts seen.ignored s.fold (c.step.ensures seen.words) in
    record { terminal = c.see_event-seen.ensures.stands P h s.terminal; fold = f.stands }

pub returns-clause-closed : goal.returns-clause-closed
returns-clause-closed g c P at h s is =
    let seen : SeesEvent P at h c.args.event c.see_event-seen.result = c.see_event-seen.ensures.seen P h at s.terminal is in
    let f : Further P at h c.args.event c.step.new.self c.step.result =
    further P at h c.args.event (facts_in c.see_event-seen.result seen.words) c.see_event-seen.result.is_ignored c.args.self.now.fold c.step.new.self c.step.result
    seen.facts seen.ignored s.fold (c.step.ensures seen.words) in
    f.over
