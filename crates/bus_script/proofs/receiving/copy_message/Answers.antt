use Rattle.std.proofs.Common.{◌*◌, [], ◌∷◌, ◌++◌, flat_map, ap, ◌∙◌, subst, arith}
use Rattle.terminal_rules.specs.declared.event.Event.TheVariants.{Gap}
use Rattle.byte_streams.proofs.SinkLaws.{from_there}
use Rattle.script_lines.specs.Begins.{BeginsWith}
use Rattle.script_lines.specs.Transcript.{word_field, received_by}
use Rattle.script_lines.specs.Digits.{decimal_digits}
use Rattle.bus_script.proofs.FeedLaws.{LinesFirst-more}
use Rattle.bus_script.proofs.MessageLaws.{message-text}
use Rattle.bus_script.proofs.receiving.copy_message.Goals as goal

pub returns : goal.returns
returns c is =
    let w = c.copy_words.ensures c.if-not-copy_words.false in
    let gap = subst (λ xs. BeginsWith xs 5 (Gap c.args.bus)) (from_there (9 * c.args.it.now.count) c.args.bytes.now) (c.is_gap_first.ensures is) in (
      w.0,
      w.1,
      omega arith,
      LinesFirst-more 5 (Gap c.args.bus) (omega arith) w.2 gap,
      c.push_str.ensures.bytes
          ∙ ap (λ x. x ++ 10 ∷ []) (w.3 ∙ ap (λ x. x ++ flat_map word_field w.0) (c.push_received_by.ensures.bytes ∙ ap (λ x. x ++ (received_by c.args.it.now.broadcast ++ decimal_digits c.args.it.now.subaddress)) c.clear.ensures))
          ∙ message-text c.args.it.now.broadcast c.args.it.now.subaddress w.0,
    )
