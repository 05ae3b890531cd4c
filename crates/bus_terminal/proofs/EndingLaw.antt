-- How an event will end the message in progress, from what a terminal keeps.
use Rattle.std.proofs.Common.{◌≡◌, Bool, Option, List, sym, ◌∙◌, ap}
use Rattle.bus_word.specs.declared.word.Bus.{Bus}
use Rattle.bus_word.specs.declared.word.Raw.{Raw}
use Rattle.bus_word.specs.declared.cell.Cell.{Cell}
use Rattle.bus_legal.specs.Description.{Description}
use Rattle.terminal_rules.specs.declared.event.Event.{Event}
use Rattle.terminal_rules.specs.declared.event.Event.TheVariants.{Gap}
use Rattle.terminal_rules.specs.declared.event.Flag.TheVariants.{Busy}
use Rattle.terminal_rules.specs.Open.{open_now, is_on}
use Rattle.terminal_rules.specs.Reply.{reply_now, reply_bus}
use Rattle.terminal_rules.specs.Flags.{flag_now}
use Rattle.terminal_rules.specs.Ends.{at_entry, unless_ignored, ends_now}
use Rattle.terminal_rules.specs.Past.{past}
use Rattle.terminal_state.specs.Message.{standing_on}
use Rattle.terminal_state.specs.Replies.{shown_reply}
use Rattle.terminal_state.specs.Standing.{gap_ends}
use Rattle.terminal_state.proofs.CollectedLaw.{gap_ends_law, entry_ends_law}
use Rattle.bus_terminal.specs.declared.terminal.Terminal.{Terminal}
use Rattle.bus_terminal.specs.Stands.{StandsAt}
use Rattle.bus_terminal.specs.inner.Terminal.{ends_at_gap, ends_at_entry}

pub gap_will_end : {L : Type 0} (is_legal : L → Cell → Bool) (P : Description) (h : List Event) (b : Bus) (t : Terminal L) → StandsAt is_legal P h t →
    unless_ignored (is_on b (reply_bus (shown_reply t.reply))) (ends_at_gap is_legal t b) ≡ ends_now P (past P h) (Gap b)
gap_will_end is_legal P h b t s =
    (λ j. unless_ignored (is_on b (reply_bus (s.reply j))) (gap_ends (s.description j) (s.registers j).flags.busy (s.standing b j)))
    ∙ ap (unless_ignored (is_on b (reply_bus (reply_now (past P h))))) (sym (gap_ends_law P (flag_now (past P h) Busy) (open_now P (past P h) b)))

-- a word or noise
pub entry_will_end : {L : Type 0} (is_legal : L → Cell → Bool) (P : Description) (h : List Event) (b : Bus) (w : Option Raw) (t : Terminal L) → StandsAt is_legal P h t →
    unless_ignored (is_on b (reply_bus (shown_reply t.reply))) (ends_at_entry w (standing_on b t.in_progress))
    ≡ unless_ignored (is_on b (reply_bus (reply_now (past P h)))) (at_entry w (open_now P (past P h) b))
entry_will_end is_legal P h b w t s =
    (λ j. unless_ignored (is_on b (reply_bus (s.reply j))) (ends_at_entry w (s.standing b j)))
    ∙ ap (unless_ignored (is_on b (reply_bus (reply_now (past P h))))) (sym (entry_ends_law P w (open_now P (past P h) b)))
