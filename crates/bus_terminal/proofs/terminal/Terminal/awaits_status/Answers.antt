use Rattle.std.proofs.Common.{◌≡◌, ◌∙◌, refl, ap}
use Rattle.bus_legal.specs.Description.{Description}
use Rattle.terminal_rules.specs.Open.{Open, Idle, Collects, Waits, Resumes, open_now}
use Rattle.terminal_rules.specs.Past.{past}
use Rattle.terminal_state.specs.Standing.{standing_of}
use Rattle.bus_terminal.specs.Waiting.{awaited_in}
use Rattle.bus_terminal.proofs.terminal.Terminal.awaits_status.Goals as goal

-- what is kept of a message waits for what the message waits for
kept : (P : Description) (m : Open) → awaited_in (standing_of P m) ≡ awaited_in m
kept P Idle = refl
kept P (Collects c after) = refl
kept P (Waits c a) = refl
kept P (Resumes c after) = refl

pub returns : goal.returns
returns g c P h s = c.awaited_on.ensures ∙ ap awaited_in (s.standing c.args.bus) ∙ kept P (open_now P (past P h) c.args.bus)
