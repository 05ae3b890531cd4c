use Rattle.std.proofs.Common.{◌≡◌, ◌++◌, inr, List, true, sym, subst}
use Rattle.bus_legal.specs.Parts.{description_in}
use Rattle.recorded_terminal.specs.declared.watch.Marked.{Marked}
use Rattle.terminal_recordings.specs.Later.{shut_history}
use Rattle.terminal_recordings.specs.MaybeGaps.{IsExplainedSomehow}
use Rattle.recorded_terminal.specs.Follows.{shut_down}
use Rattle.recorded_terminal.specs.Marks.{maybe_in}
use Rattle.script_recordings.proofs.settling.settle_one.Goals as goal

pub returns-in_ok-push-in-Some-clause-settled : goal.returns-in_ok-push-in-Some-clause-settled
returns-in_ok-push-in-Some-clause-settled c =
    let D = description_in c.args.normal.now in
    let h = shut_history D (shut_down c.args.shut) in
    inr (
      c.in-Some.bus,
      c.maybe_gap.ensures.some c.in-Some.bus c.in-Some.is,
      inr (record {
        gap = c.came.result;
        seen = c.came.ensures.0;
        is = c.came.ensures.1;
        behind = c.in_ok-push-in-Some.ensures.items;
        needed = λ x.
            let explained : c.in_ok-is_explained-in-Some.field-0 ≡ true =
            c.in_ok-is_explained-in-Some.ensures.explained.1 (subst (λ (l : List Marked). IsExplainedSomehow D h (maybe_in (l ++ c.args.rest.now))) (sym c.as_slice.ensures.value) x) in
            let none = c.if-not-branch.true in
            absurd (cc);
      }),
    )
