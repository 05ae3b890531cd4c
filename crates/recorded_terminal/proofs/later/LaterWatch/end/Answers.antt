use Rattle.std.proofs.Common.{◌∙◌, ◌++◌, ◌∷◌, [], List, append_assoc, sym, subst}
use Rattle.std.proofs.lemmas.Result.{err_from_is_err_and}
use Rattle.recorded_terminal.specs.declared.watch.Marked.{Marked}
use Rattle.recorded_terminal.specs.Marks.{maybe_in, HasManyWays}
use Rattle.recorded_terminal.specs.Judged.{WatchesPart}
use Rattle.recorded_terminal.proofs.GapLaws.{many_back}
use Rattle.recorded_terminal.proofs.LaterLaws.{none_judged, begun_of, judged}
use Rattle.recorded_terminal.proofs.later.LaterWatch.end.Goals as goal

pub returns-in-Sought-clause-judged : goal.returns-in-Sought-clause-judged
returns-in-Sought-clause-judged g c P ms watches = none_judged P (maybe_in ms) c.in-Sought.field-0 (subst (WatchesPart g.L.Legality.is_legal P ms c.args.self) c.in-Sought.is watches.watches)

pub returns-clause-judged : goal.returns-clause-judged
returns-clause-judged g c P ms watches =
    let i = begun_of g.L.Legality.is_legal P ms c.args.self c.args.self.part c.in_default.not-Sought watches.watches in
    judged g.L.Legality.is_legal P watches.can ms c.args.self c.args.self.part c.in_ok-best.best c.in_default.not-Sought i (c.in_ok-best.ensures.best P i.part i.watches)

pub returns-in_err-best : goal.returns-in_err-best
returns-in_err-best g c =
    let p = err_from_is_err_and c.from_residual.result c.from_residual.ensures.1 in
    rw (p.1, p.2) (record {
      judged = tt;
      refused = λ same P ms watches.
          let i = begun_of g.L.Legality.is_legal P ms c.args.self c.args.self.part c.in_default.not-Sought watches.watches in
          let front : List Marked = i.front ++ i.pause ∷ [] in
          subst (λ l. HasManyWays (maybe_in l)) (append_assoc i.front (i.pause ∷ []) i.part ∙ sym i.all) (many_back front i.part (c.in_err-best.ensures.refused same P i.part i.watches));
    })
