use Rattle.std.proofs.Common.{Some, get_or, map, refl, ap, subst, arith}
use Rattle.std.proofs.lemmas.List.{take_all}
use Rattle.rt1553_results.specs.Recorded.{words_replied}
use Rattle.rt1553_results.specs.inner.Placed.{Sees, placed_slots}
use Rattle.rt1553_results.proofs.RecordedLaws.{sees_word}
use Rattle.rt1553_results.proofs.watching.see_words.Goals as goal

pub loop-number-preserved : goal.loop-number-preserved
loop-number-preserved c =
    let k = c.loop-number.number in
    sees_word c.args.exchange.number c.args.exchange.command c.args.reply.now k (get_or c.args.reply.now k 0) _ _ c.args.watch.now c.loop-number.watch c.see.new.watch (omega (arith, c.loop-number-test.true)) refl
    refl refl refl (ap Some c.word_in_slot.ensures) c.loop-number.invariant c.in_ok-see.ensures

pub returns : goal.returns
returns c =
    subst (λ ws. Sees (placed_slots c.args.exchange.number c.args.exchange.command 0 (map Some (words_replied ws))) c.args.watch.now c.loop-number.watch) (take_all c.loop-number.number c.args.reply.now (omega (arith, c.loop-number-test.false)))
    c.loop-number.invariant
