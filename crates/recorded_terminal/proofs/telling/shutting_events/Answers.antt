use Rattle.std.proofs.Common.{◌∙◌, ◌++◌, ◌∷◌, [], ℕ, List, ap, sym}
use Rattle.bus_word.specs.declared.word.Bus.{Bus}
use Rattle.bus_word.specs.declared.word.Bus.TheVariants.{A, B}
use Rattle.bus_word.specs.declared.word.Kind.TheVariants.{Com}
use Rattle.bus_word.specs.Word.{valid_word}
use Rattle.terminal_rules.specs.declared.event.Event.{Event}
use Rattle.terminal_rules.specs.declared.event.Event.TheVariants.{Word, Gap, Slot}
use Rattle.terminal_recordings.specs.Later.{if_shut, shutdown_on}
use Rattle.recorded_terminal.proofs.telling.shutting_events.Goals as goal

abbrev exchange : Bus → ℕ → List Event
exchange b command = Word b (valid_word Com command) ∷ Gap b ∷ Slot ∷ []

pub returns : goal.returns
returns c P same =
    c.in_ok-push_exchange_if-2.ensures
    ∙ (ap (λ l. l ++ if_shut c.args.shut.b (exchange A c.shutdown_command-command.result)) (c.in_ok-push_exchange_if.ensures ∙ ap (λ l. l ++ if_shut c.args.shut.a (exchange B c.shutdown_command-command.result)) c.new-events.ensures.items)
    ∙ (ap (λ command. if_shut c.args.shut.a (exchange B command) ++ if_shut c.args.shut.b (exchange A command)) c.shutdown_command-command.ensures
    ∙ ap (λ address. if_shut c.args.shut.a (shutdown_on B address) ++ if_shut c.args.shut.b (shutdown_on A address)) (sym same)))
