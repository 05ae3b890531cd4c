use Rattle.std.proofs.Common.{[], ◌∷◌, ◌++◌, sym, ◌∙◌}
use Rattle.terminal_rules.specs.declared.event.Event.TheVariants.{Gap}
use Rattle.bus_terminal.specs.Received.{data_words_on}
use Rattle.bus_script.proofs.MessageLaws.{message-piece, message-plays, message-breaks}
use Rattle.bus_script.proofs.receiving.play_received.Goals as goal

pub returns-in-Ok-clause-ok : goal.returns-in-Ok-clause-ok
returns-in-Ok-clause-ok g c =
    let b = c.in-Some.bus in
    let it = c.in-Some-receives.it in
    let m = c.copy_message.ensures c.if-copy_message.true in (
      data_words_on b m.0 ++ Gap b ∷ [],
      message-piece c.args.bytes.now c.args.most b it.count m.0 m.1 m.2 m.3,
      message-plays c.args.terminal.now c.take_received.new.self c.args.writer.now c.write_all.new.writer b it m.0 c.as_bytes.result.now m.1
          (c.as_bytes.ensures.value ∙ c.as_str.ensures.value ∙ m.4)
          (λ P h s. sym (c.receives.ensures P h s) ∙ c.in-Some-receives.is)
          (λ P h s. c.take_received.ensures P h it m.0 (sym (c.receives.ensures P h s) ∙ c.in-Some-receives.is) m.1 s)
          c.in-Ok.ensures.ok,
    )

pub returns-in-Err-clause-err : goal.returns-in-Err-clause-err
returns-in-Err-clause-err g c =
    let b = c.in-Some.bus in
    let it = c.in-Some-receives.it in
    let m = c.copy_message.ensures c.if-copy_message.true in (
      data_words_on b m.0,
      Gap b,
      _,
      message-piece c.args.bytes.now c.args.most b it.count m.0 m.1 m.2 m.3,
      message-breaks c.args.terminal.now c.take_received.new.self c.args.writer.now c.write_all.new.writer b it m.0 c.as_bytes.result.now m.1
          (c.as_bytes.ensures.value ∙ c.as_str.ensures.value ∙ m.4)
          (λ P h s. sym (c.receives.ensures P h s) ∙ c.in-Some-receives.is)
          (λ P h s. c.take_received.ensures P h it m.0 (sym (c.receives.ensures P h s) ∙ c.in-Some-receives.is) m.1 s)
          c.in-Err.ensures.err,
    )
