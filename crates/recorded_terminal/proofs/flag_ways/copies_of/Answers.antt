use Rattle.std.proofs.Common.{◌≡◌, ◌∙◌, ◌++◌, ◌∷◌, [], ◌+◌, take, add-one, sym, subst, take_all}
use Rattle.recorded_terminal.specs.inner.Steps.{AreCopies}
use Rattle.recorded_terminal.proofs.WayLaws.{cut_of, take_more}
use Rattle.recorded_terminal.proofs.FlagLaws.{copies_more}
use Rattle.recorded_terminal.proofs.flag_ways.copies_of.Goals as goal

pub loop-way-preserved : goal.loop-way-preserved
loop-way-preserved g c =
    let legal = g.L.Legality.is_legal in
    let n = c.loop-way.way-index in
    let way = c.way-item.result in
    let more : take n c.args.ways.now ++ way ∷ [] ≡ take (n + 1) c.args.ways.now =
    sym (take_more c.args.ways.now n way (cut_of c.args.ways.now n way c.loop-way-test.true c.way-item.is)) ∙ (λ j. take (sym (add-one n) j) c.args.ways.now) in
    subst (λ l. AreCopies legal l c.push.new.self.items) more
    (subst (λ l. AreCopies legal (take n c.args.ways.now ++ way ∷ []) l) (sym c.in_ok-push.ensures.items) (copies_more legal (take n c.args.ways.now) c.loop-way.copies.items way c.copy.result c.loop-way.invariant c.copy.ensures))

pub returns : goal.returns
returns g c = subst (λ l. AreCopies g.L.Legality.is_legal l c.loop-way.copies.items) (take_all c.loop-way.way-index c.args.ways.now c.loop-way-test.false) c.loop-way.invariant
