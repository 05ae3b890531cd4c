use Rattle.std.proofs.Common.{◌+◌, ◌*◌, [], ◌∷◌, ◌++◌, ◌∙◌, subst, arith}
use Rattle.bus_word.specs.declared.word.Kind.TheVariants.{Com}
use Rattle.bus_word.specs.Word.{valid_word}
use Rattle.terminal_rules.specs.declared.event.Event.TheVariants.{Word, Gap}
use Rattle.bus_terminal.specs.Received.{data_words_on}
use Rattle.byte_streams.proofs.SinkLaws.{from_there}
use Rattle.script_lines.specs.Begins.{BeginsWith}
use Rattle.bus_script.specs.inner.Lines.{LinesFirst}
use Rattle.bus_script.proofs.FeedLaws.{word_taken, taken_played}
use Rattle.bus_script.proofs.MessageLaws.{whole-piece, whole-plays, whole-breaks, gap-piece}
use Rattle.bus_script.proofs.receiving.play_command.Goals.{in-Ok, in-Err}
use Rattle.bus_script.proofs.receiving.play_command.Goals as goal

pub returns-then-is_gap_first-clause-ok : goal.returns-then-is_gap_first-clause-ok
returns-then-is_gap_first-clause-ok g c =
    let b = c.in-Some.word.0 in
    let v = valid_word Com c.in-Some.word.1 in
    let gap = subst (λ xs. BeginsWith xs 5 (Gap b)) (from_there 9 c.args.bytes.now) (c.is_gap_first.ensures c.if-is_gap_first.true) in
    elim c.match-play_with_gap.branch [
      | in-Ok w ↦ rw w.result-is (Word b v ∷ Gap b ∷ [], gap-piece c.args.bytes.now c.args.most b v c.if-most-gt1.true c.in-Some.ensures gap, w.in-Ok.ensures.ok)
      | in-Err w ↦ rw w.result-is tt
    ]

pub returns-then-is_gap_first-clause-err : goal.returns-then-is_gap_first-clause-err
returns-then-is_gap_first-clause-err g c =
    let b = c.in-Some.word.0 in
    let v = valid_word Com c.in-Some.word.1 in
    let gap = subst (λ xs. BeginsWith xs 5 (Gap b)) (from_there 9 c.args.bytes.now) (c.is_gap_first.ensures c.if-is_gap_first.true) in
    elim c.match-play_with_gap.branch [
      | in-Ok w ↦ rw w.result-is tt
      | in-Err w ↦ rw w.result-is (Word b v ∷ [], Gap b, _, gap-piece c.args.bytes.now c.args.most b v c.if-most-gt1.true c.in-Some.ensures gap, w.in-Err.ensures.err)
    ]

pub returns-in-Ok-write_all-clause-ok : goal.returns-in-Ok-write_all-clause-ok
returns-in-Ok-write_all-clause-ok g c =
    let b = c.in-Some.word.0 in
    let v = valid_word Com c.in-Some.word.1 in
    let it = c.in-Some-receives_by.it in
    let m = c.copy_message.ensures c.if-copy_message.true in
    let lines = subst (λ xs. LinesFirst xs (9 * it.count + 6) (it.count + 1) (data_words_on b m.0 ++ Gap b ∷ [])) (from_there 9 c.args.bytes.now) m.3 in (
      Word b v ∷ data_words_on b m.0 ++ Gap b ∷ [],
      whole-piece c.args.bytes.now c.args.most b v it.count m.0 m.1 m.2 c.in-Some.ensures lines,
      whole-plays c.args.terminal.now c.take_message.new.self c.args.writer.now c.write_all.new.writer b v it m.0 c.as_bytes.result.now m.1
          (c.as_bytes.ensures.value ∙ c.as_str.ensures.value ∙ m.4)
          (λ P h s. c.in-Some-receives_by.ensures P h s)
          (λ P h s. c.take_message.ensures P h it m.0 (c.in-Some-receives_by.ensures P h s) m.1 s)
          c.in-Ok-write_all.ensures.ok,
    )

pub returns-in-Err-write_all-clause-err : goal.returns-in-Err-write_all-clause-err
returns-in-Err-write_all-clause-err g c =
    let b = c.in-Some.word.0 in
    let v = valid_word Com c.in-Some.word.1 in
    let it = c.in-Some-receives_by.it in
    let m = c.copy_message.ensures c.if-copy_message.true in
    let lines = subst (λ xs. LinesFirst xs (9 * it.count + 6) (it.count + 1) (data_words_on b m.0 ++ Gap b ∷ [])) (from_there 9 c.args.bytes.now) m.3 in (
      Word b v ∷ data_words_on b m.0,
      Gap b,
      _,
      whole-piece c.args.bytes.now c.args.most b v it.count m.0 m.1 m.2 c.in-Some.ensures lines,
      whole-breaks c.args.terminal.now c.take_message.new.self c.args.writer.now c.write_all.new.writer b v it m.0 c.as_bytes.result.now m.1
          (c.as_bytes.ensures.value ∙ c.as_str.ensures.value ∙ m.4)
          (λ P h s. c.in-Some-receives_by.ensures P h s)
          (λ P h s. c.take_message.ensures P h it m.0 (c.in-Some-receives_by.ensures P h s) m.1 s)
          c.in-Err-write_all.ensures.err,
    )

pub returns-clause-ok : goal.returns-clause-ok
returns-clause-ok g c =
    taken_played c.args.terminal.now c.take_valid.new.self c.args.writer.now c.args.bytes.now c.args.most c.of.result
    (word_taken c.args.terminal.now c.take_valid.new.self c.args.bytes.now c.args.most 8 c.in-Some.word.0 (valid_word Com c.in-Some.word.1) c.of.result c.requires.some (omega arith) c.in-Some.ensures c.of.ensures c.take_valid.ensures.takes)
