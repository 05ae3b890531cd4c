-- Which events start a message, and where the terminal is in one, from what is kept.
use Rattle.std.proofs.Common.{◌≡◌, Bool, not, ◌&&◌, ◌||◌, Some, List, refl, ap, sym, ◌∙◌}
use Rattle.bus_word.specs.declared.word.Bus.{Bus}
use Rattle.bus_word.specs.declared.word.Raw.{Raw}
use Rattle.bus_word.specs.declared.cell.Cell.{Cell}
use Rattle.bus_legal.specs.Description.{Description}
use Rattle.terminal_rules.specs.declared.event.Event.{Event}
use Rattle.terminal_rules.specs.declared.event.Event.TheVariants.{Word}
use Rattle.terminal_rules.specs.Open.{Open, Idle, Collects, Waits, Resumes, open_now, is_on}
use Rattle.terminal_rules.specs.Reply.{reply_now, reply_bus}
use Rattle.terminal_rules.specs.Starts.{starts_now}
use Rattle.terminal_rules.specs.Steps.{replies_on}
use Rattle.terminal_rules.specs.Past.{past}
use Rattle.terminal_state.specs.Standing.{standing_of, starts_by}
use Rattle.terminal_state.specs.Message.{standing_on}
use Rattle.terminal_state.specs.Buses.{on_bus}
use Rattle.terminal_state.specs.Replies.{shown_reply}
use Rattle.bus_terminal.specs.declared.terminal.Terminal.{Terminal}
use Rattle.bus_terminal.specs.Stands.{StandsAt, own_description}
use Rattle.bus_terminal.specs.Waiting.{is_open, is_engaged}
use Rattle.bus_terminal.proofs.StandsLaw.{starts_law}

pub will_start_law : {L : Type 0} (is_legal : L → Cell → Bool) (P : Description) (h : List Event) (b : Bus) (w : Raw) (t : Terminal L) → StandsAt is_legal P h t →
    (not (is_on b (reply_bus (shown_reply t.reply))) && starts_by (own_description is_legal t) (Some w) (on_bus b t.heard) (standing_on b t.in_progress)) ≡ starts_now P (past P h) (Word b w)
will_start_law is_legal P h b w t s =
    (λ j. not (is_on b (reply_bus (s.reply j))) && starts_by (s.description j) (Some w) (on_bus b (s.heard j)) (s.standing b j))
    ∙ ap (λ x. not (replies_on (past P h) b) && x) (sym (starts_law P (past P h) b (Some w)))

open_standing : (P : Description) (o : Open) → is_open (standing_of P o) ≡ is_open o
open_standing P Idle = refl
open_standing P (Collects c after) = refl
open_standing P (Waits c a) = refl
open_standing P (Resumes c after) = refl

pub engaged_law : {L : Type 0} (is_legal : L → Cell → Bool) (P : Description) (h : List Event) (b : Bus) (t : Terminal L) → StandsAt is_legal P h t →
    (is_open (standing_on b t.in_progress) || is_on b (reply_bus (shown_reply t.reply))) ≡ is_engaged P (past P h) b
engaged_law is_legal P h b t s =
    (λ j. is_open (s.standing b j) || is_on b (reply_bus (s.reply j)))
    ∙ ap (λ x. x || is_on b (reply_bus (reply_now (past P h)))) (open_standing P (open_now P (past P h) b))
