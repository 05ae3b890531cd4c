use Rattle.std.proofs.Common.{◌≡◌, ℕ, List, ◌∷◌, ap, sym, ◌∙◌}
use Rattle.terminal_rules.specs.Ends.{ends_now}
use Rattle.terminal_rules.specs.Past.{past}
use Rattle.terminal_state.specs.Ended.{ending_of}
use Rattle.terminal_messages.specs.Told.{event_bus}
use Rattle.terminal_messages.specs.Watch.{is_on_that}
use Rattle.terminal_messages.proofs.SeesLaw.{ignored_law, tell_length}
use Rattle.terminal_messages.proofs.watch.see_event.Goals as goal

pub returns-clause-seen : goal.returns-clause-seen
returns-clause-seen g c P h at s is =
    let e = c.args.event.now in
    let end : (ds : List ℕ) × (ending_of c.ending-ended.result ds ≡ ends_now P (past P h) e) = c.ending-ended.ensures P h s in
    record {
      words = end.0;
      facts = λ j. record {
        place = (sym is ∙ ap at (sym (tell_length P h))) j;
        event = e;
        starts = c.will_start-starts.ensures P h s j;
        ends = end.1 j;
        awaits = c.awaits-awaits.ensures P h s j;
        replied = c.reply_bus-replied.ensures P h s j;
        engaged = λ b. c.engaged.ensures P (e ∷ h) (c.played-answer.ensures.stands P h s) b j;
        answer = c.played-answer.ensures.answer P h s j;
      };
      ignored = c.comes_on.ensures ∙ (ap (is_on_that (event_bus e)) (c.reply_bus-replied.ensures P h s) ∙ ignored_law P (past P h) e);
    }
