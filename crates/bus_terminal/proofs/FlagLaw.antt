-- A flag that the subsystem sets as it stands changes nothing.
use Rattle.std.proofs.Common.{◌≡◌, Bool, List, ◌∷◌, ap, ◌∙◌}
use Rattle.bus_word.specs.declared.cell.Cell.{Cell}
use Rattle.bus_legal.specs.Description.{Description}
use Rattle.terminal_rules.specs.declared.event.Event.{Event}
use Rattle.terminal_rules.specs.declared.event.Event.TheVariants.{Flag as FlagIs}
use Rattle.terminal_rules.specs.declared.event.Flag.{Flag}
use Rattle.terminal_rules.specs.declared.event.Flag.TheVariants.{Service, Busy, Subsystem, Terminal as TerminalFlag}
use Rattle.terminal_rules.specs.Flags.{flag_now}
use Rattle.terminal_rules.specs.Past.{past}
use Rattle.bus_terminal.specs.declared.terminal.Terminal.{Terminal}
use Rattle.bus_terminal.specs.Stands.{StandsAt}

pub flag_stays : {L : Type 0} (is_legal : L → Cell → Bool) (P : Description) (h : List Event) (f : Flag) (v : Bool) (t : Terminal L) →
    StandsAt is_legal P h t → flag_now (past P h) f ≡ v → StandsAt is_legal P (FlagIs f v ∷ h) t
flag_stays is_legal P h Service v t s e =
    let same : t.registers.flags.service ≡ v = ap (λ r. r.flags.service) s.registers ∙ e in
    record {
      description = s.description;
      heard = s.heard;
      standing = s.standing;
      registers =
          (λ j. record t.registers { flags = record t.registers.flags { service = same j } })
          ∙ (λ j. record (s.registers j) { flags = record (s.registers j).flags { service = v } });
      reply = s.reply;
      held = s.held;
    }
flag_stays is_legal P h Busy v t s e =
    let same : t.registers.flags.busy ≡ v = ap (λ r. r.flags.busy) s.registers ∙ e in
    record {
      description = s.description;
      heard = s.heard;
      standing = s.standing;
      registers =
          (λ j. record t.registers { flags = record t.registers.flags { busy = same j } })
          ∙ (λ j. record (s.registers j) { flags = record (s.registers j).flags { busy = v } });
      reply = s.reply;
      held = s.held;
    }
flag_stays is_legal P h Subsystem v t s e =
    let same : t.registers.flags.subsystem ≡ v = ap (λ r. r.flags.subsystem) s.registers ∙ e in
    record {
      description = s.description;
      heard = s.heard;
      standing = s.standing;
      registers =
          (λ j. record t.registers { flags = record t.registers.flags { subsystem = same j } })
          ∙ (λ j. record (s.registers j) { flags = record (s.registers j).flags { subsystem = v } });
      reply = s.reply;
      held = s.held;
    }
flag_stays is_legal P h TerminalFlag v t s e =
    let same : t.registers.flags.terminal ≡ v = ap (λ r. r.flags.terminal) s.registers ∙ e in
    record {
      description = s.description;
      heard = s.heard;
      standing = s.standing;
      registers =
          (λ j. record t.registers { flags = record t.registers.flags { terminal = same j } })
          ∙ (λ j. record (s.registers j) { flags = record (s.registers j).flags { terminal = v } });
      reply = s.reply;
      held = s.held;
    }
