-- What is left behind at a terminal, by what it keeps.
use Rattle.std.proofs.Common.{◌≡◌, ◌∙◌, ℕ, Bool, true, false, not, if◌then◌else◌, Option, Some, None, is_some, List, refl, ap, sym}
use Rattle.bus_word.specs.declared.word.Bus.{Bus}
use Rattle.bus_word.specs.declared.word.Bus.TheVariants.{A, B}
use Rattle.bus_word.specs.declared.cell.Cell.{Cell}
use Rattle.bus_legal.specs.Description.{Description}
use Rattle.terminal_rules.specs.declared.event.Event.{Event}
use Rattle.terminal_rules.specs.Buses.{same_bus}
use Rattle.terminal_rules.specs.Open.{MessageState, Open, Idle, Collects, Waits, Resumes, open_now}
use Rattle.terminal_rules.specs.Past.{past}
use Rattle.terminal_rules.specs.Reply.{reply_now}
use Rattle.terminal_state.specs.declared.message.Message.{Message}
use Rattle.terminal_state.specs.declared.message.Phase.{Phase}
use Rattle.terminal_state.specs.declared.message.Phase.TheVariants as phase
use Rattle.terminal_state.specs.declared.reply.Reply.{Reply}
use Rattle.terminal_state.specs.Buses.{on_bus}
use Rattle.terminal_state.specs.Message.{standing_by, standing_in}
use Rattle.terminal_state.specs.Replies.{shown_reply}
use Rattle.terminal_state.specs.Standing.{standing_of}
use Rattle.bus_terminal.specs.declared.terminal.Terminal.{Terminal}
use Rattle.bus_terminal.specs.Stands.{StandsAt}
use Rattle.terminal_bus.specs.Members.{member_at}
use Rattle.terminal_schedules.specs.Left.{is_idle, first_bus, left_among, what_is_left}
use Rattle.terminal_schedules.specs.inner.Kept.{bus_of_message, left_by}

abbrev idle : {F : Type 0} → MessageState F → Bool
idle Idle = true
idle state = false

idle_standing : (P : Description) (o : Open) → idle (standing_of P o) ≡ is_idle o
idle_standing P Idle = refl
idle_standing P (Collects c after) = refl
idle_standing P (Waits c a) = refl
idle_standing P (Resumes c after) = refl

-- a message is in progress on one of the buses
in_phase : (c : ℕ) (p : Phase) (ds : List ℕ) → idle (standing_in c p ds) ≡ false
in_phase c (phase.Collects f) ds = refl
in_phase c (phase.Waits a) ds = refl
in_phase c (phase.Resumes f) ds = refl

on_its_bus : (c : ℕ) (p : Phase) (ds : List ℕ) (at : Bus) → Some at ≡ first_bus (λ b. not (idle (if same_bus b at then standing_in c p ds else Idle)))
on_its_bus c p ds A = ap (λ x. if not x then Some A else None) (sym (in_phase c p ds))
on_its_bus c p ds B = ap (λ x. if not x then Some B else None) (sym (in_phase c p ds))

message_bus : (o : Option Message) (ds : List ℕ) → bus_of_message o ≡ first_bus (λ b. not (idle (standing_by b o ds)))
message_bus None ds = refl
message_bus (Some m) ds = on_its_bus m.decoded.command m.phase ds m.bus

has_reply : (r : Option Reply) → is_some r ≡ is_some (shown_reply r)
has_reply None = refl
has_reply (Some r) = refl

pub left_law : {L : Type 0} (is_legal : L → Cell → Bool) (P : Description) (h : List Event) (t : Terminal L) → StandsAt is_legal P h t →
    left_by t.in_progress t.heard t.reply t.registers ≡ what_is_left (member_at P h)
left_law is_legal P h t s =
    λ j. left_among (message j) (first_bus (λ b. on_bus b (s.heard j))) (first_bus (λ b. on_bus b (s.registers j).off)) (reply j) (s.registers j).flags.busy (s.registers j).kept.error
  where
    message : bus_of_message t.in_progress.message ≡ first_bus (λ b. not (is_idle (open_now P (past P h) b)))
    message = message_bus t.in_progress.message t.in_progress.words.items ∙ ap first_bus (λ j b. not ((ap idle (s.standing b) ∙ idle_standing P (open_now P (past P h) b)) j))

    reply : is_some t.reply ≡ is_some (reply_now (past P h))
    reply = has_reply t.reply ∙ ap is_some s.reply
