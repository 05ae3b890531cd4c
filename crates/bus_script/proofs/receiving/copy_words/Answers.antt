use Rattle.std.proofs.Common.{[], ◌∷◌, ◌++◌, drop, ap, ◌∙◌, subst, length-append, arith}
use Rattle.bus_word.specs.declared.word.Kind.TheVariants.{Dat}
use Rattle.bus_word.specs.Word.{valid_word}
use Rattle.terminal_rules.specs.declared.event.Event.TheVariants.{Word}
use Rattle.byte_streams.proofs.SinkLaws.{from_there}
use Rattle.script_lines.specs.Begins.{BeginsWith}
use Rattle.bus_script.proofs.MessageLaws.{word-line, word-field, behind-word}
use Rattle.bus_script.proofs.receiving.copy_words.Goals as goal

pub loop-preserved : goal.loop-preserved
loop-preserved c =
    let i = c.loop.invariant in
    let n = c.loop.counter in
    let bytes = c.args.bytes.now in
    let first = c.in-Some.ensures.says in
    let next = subst (λ xs. BeginsWith xs 8 (Word c.args.bus (valid_word Dat first.0))) i.3 first.2 in (
      i.0 ++ first.0 ∷ [],
      omega (arith, length-append i.0 (first.0 ∷ []), i.1),
      word-line bytes c.args.bus n i.0 first.0 i.2 next,
      from_there 9 c.loop.rest.now ∙ (ap (drop 9) i.3 ∙ behind-word n bytes),
      word-field c.args.text.now.bytes c.loop.text.bytes c.push_field.new.text.bytes i.0 c.in-Some.digits first.0 i.4 first.1 c.push_field.ensures.bytes,
      omega (arith, i.5, c.push_field.ensures.len),
    )
