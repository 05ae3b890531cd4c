use Rattle.std.proofs.Common.{◌≡◌, ◌∙◌, ◌++◌, ◌∷◌, [], ◌+◌, List, take, add-one, sym, subst, take_all}
use Rattle.recorded_terminal.specs.inner.Steps.{LeftOf}
use Rattle.recorded_terminal.proofs.WayLaws.{cut_of, take_more, left_more, left_out}
use Rattle.recorded_terminal.proofs.ways.left_of.Goals as goal
use Rattle.recorded_terminal.proofs.ways.left_of.Goals.{then-way+in_ok-push, else-way}

pub loop-way-preserved : goal.loop-way-preserved
loop-way-preserved g c =
    let legal = g.L.Legality.is_legal in
    let n = c.loop-way.way-index in
    let way = c.way-item.result in
    let more : take n c.args.ways.now ++ way ∷ [] ≡ take (n + 1) c.args.ways.now =
    sym (take_more c.args.ways.now n way (cut_of c.args.ways.now n way c.loop-way-test.true c.way-item.is)) ∙ (λ j. take (sym (add-one n) j) c.args.ways.now) in
    subst (λ l. LeftOf legal l c.if-way.left.items) more
    (elim c.if-way.branch [
      | then-way+in_ok-push w ↦
          subst (λ (l : List _). LeftOf legal (take n c.args.ways.now ++ way ∷ []) l) (sym w.in_ok-push.ensures.items ∙ (λ j. (sym w.left-is j).items))
          (left_more legal (take n c.args.ways.now) c.loop-way.left.items way w.copy.result c.loop-way.invariant w.if-way.true w.copy.ensures)
      | else-way w ↦ subst (λ v. LeftOf legal (take n c.args.ways.now ++ way ∷ []) v.items) (sym w.left-is) (left_out legal (take n c.args.ways.now) c.loop-way.left.items way c.loop-way.invariant w.if-way.false)
    ])

pub returns : goal.returns
returns g c = subst (λ l. LeftOf g.L.Legality.is_legal l c.loop-way.left.items) (take_all c.loop-way.way-index c.args.ways.now c.loop-way-test.false) c.loop-way.invariant
