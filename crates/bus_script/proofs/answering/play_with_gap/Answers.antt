use Rattle.std.proofs.Common.{ap}
use Rattle.std.proofs.lemmas.Result.{on_ok_weaker, on_err_weaker}
use Rattle.bus_word.specs.declared.word.Kind.TheVariants.{Com}
use Rattle.bus_word.specs.Word.{valid_word}
use Rattle.script_lines.specs.Transcript.{answer_text}
use Rattle.bus_script.proofs.MessageLaws.{gap-plays, gap-breaks}
use Rattle.bus_script.proofs.answering.play_with_gap.Goals as goal

pub write_answered-requires : goal.write_answered-requires
write_answered-requires g c = c.take_with_gap.ensures.small

pub returns-clause-ok : goal.returns-clause-ok
returns-clause-ok g c = on_ok_weaker c.write_answered.result
    (λ wrote. gap-plays _ _ c.args.bus (valid_word Com c.args.bits) _ c.take_with_gap.follows.holds-at-none (λ P h s. ap answer_text (c.take_with_gap.ensures.answer P h s)) wrote) c.write_answered.ensures.ok

pub returns-clause-err : goal.returns-clause-err
returns-clause-err g c = on_err_weaker c.write_answered.result
    (λ wrote. gap-breaks _ _ c.args.bus (valid_word Com c.args.bits) _ c.take_with_gap.follows.holds-at-none (λ P h s. ap answer_text (c.take_with_gap.ensures.answer P h s)) wrote) c.write_answered.ensures.err
