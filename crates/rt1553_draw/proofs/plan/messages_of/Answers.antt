use Rattle.std.proofs.Common.{◌≡◌, ◌∙◌, ◌+◌, ◌++◌, ◌∷◌, [], sym, arith, take}
use Rattle.std.specs.Option.{option_map}
use Rattle.std.proofs.lemmas.List.{take_all}
use Rattle.std.proofs.lemmas.Grind.{common_steps}
use Rattle.rt1553_draw.specs.inner.Drawn.{AreSoFar}
use Rattle.rt1553_draw.proofs.WantedLaws.{one_more, all_ended}
use Rattle.rt1553_draw.proofs.plan.messages_of.Goals as goal

pub loop-of-preserved : goal.loop-of-preserved
loop-of-preserved c =
    let so_far : take (c.loop-of.of-index + 1) c.args.events.now ≡ take c.loop-of.of-index c.args.events.now ++ c.of-item.result ∷ [] =
    grind (arith, common_steps, c.of-item.is, c.loop-of-test.true) in
    rw so_far
    (one_more (option_map (λ ls. ls.now) c.args.lines) (take c.loop-of.of-index c.args.events.now) c.of-item.result c.loop-of.parts.items c.begin_another.new.parts.items
    c.loop-of.part c.in_ok-part.part c.take_command.new.part c.loop-of.invariant c.in_ok-part.ensures (c.in_ok-take_command.ensures ∙ c.in_ok-add_event.ensures))

pub returns : goal.returns
returns c =
    let lines = option_map (λ ls. ls.now) c.args.lines in
    let so_far : AreSoFar lines c.args.events.now c.loop-of.parts.items c.loop-of.part =
    rw (sym (take_all c.loop-of.of-index c.args.events.now (omega (arith, c.loop-of-test.false)))) c.loop-of.invariant in
    all_ended lines c.args.events.now c.loop-of.parts.items c.keep_wanted.new.parts.items c.loop-of.part so_far c.in_ok-keep_wanted.ensures
