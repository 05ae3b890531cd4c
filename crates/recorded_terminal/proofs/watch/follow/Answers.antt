use Rattle.std.proofs.Common.{length-take-le, arith, length, ◌≡◌, ◌+◌, ◌++◌, ◌∷◌, [], List, suc, take, drop, add-one, ap, sym, subst, ◌∙◌, take-append-drop, take_all, append_assoc}
use Rattle.std.proofs.lemmas.Result.{err_from_is_err_and}
use Rattle.recorded_terminal.specs.declared.watch.Marked.{Marked}
use Rattle.recorded_terminal.specs.Marks.{maybe_in, HasManyWays}
use Rattle.recorded_terminal.specs.inner.Followed.{AreFollowed}
use Rattle.recorded_terminal.specs.inner.Steps.{SeesNext}
use Rattle.recorded_terminal.proofs.GapLaws.{many_front, many_split}
use Rattle.recorded_terminal.proofs.WayLaws.{cut_of, take_more}
use Rattle.recorded_terminal.proofs.WatchLaws.{none_followed, followed_more, ends_at}
use Rattle.recorded_terminal.proofs.watch.follow.Goals as goal

pub loop-number-init : goal.loop-number-init
loop-number-init g c P h ms low ways = none_followed g.L.Legality.is_legal P h ms c.args.status c.args.ways.now.items ways

pub loop-number-preserved : goal.loop-number-preserved
loop-number-preserved g c P h ms low ways =
    let legal = g.L.Legality.is_legal in
    let waiting : List Marked = c.args.waiting.now in
    let n = c.loop-number.number in
    let m : Marked = c.index-waiting-number.result in
    let so_far : AreFollowed legal P h ms c.args.status (take n waiting) c.args.ways.now.items c.loop-number.ways.items = c.loop-number.invariant P h ms low ways in
    let steps = subst (SeesNext legal P h (ms ++ take n waiting) m c.args.status c.loop-number.ways.items c.see.new.ways.items) c.in_default.is (c.in_ok-instead.ensures.sees P h (ms ++ take n waiting) low so_far.ways) in
    let more : take n waiting ++ m ∷ [] ≡ take (n + 1) waiting =
    sym (take_more waiting n m (cut_of waiting n m c.loop-number-test.true c.index-waiting-number.is)) ∙ (λ j. take (sym (add-one n) j) waiting) in
    subst (λ (l : List Marked). AreFollowed legal P h ms c.args.status l c.args.ways.now.items c.see.new.ways.items) more
    (followed_more legal P h ms c.args.status (take n waiting) m c.args.ways.now.items c.loop-number.ways.items c.see.new.ways.items so_far steps)

pub returns-in-Some-clause-found : goal.returns-in-Some-clause-found
returns-in-Some-clause-found g c P h ms low bound ways =
    let legal = g.L.Legality.is_legal in
    let waiting : List Marked = c.args.waiting.now in
    let n = c.loop-number.number in
    let m : Marked = c.index-waiting-number.result in
    let so_far : AreFollowed legal P h ms c.args.status (take n waiting) c.args.ways.now.items c.loop-number.ways.items = c.loop-number.invariant P h ms low ways in
    let ends = subst (SeesNext legal P h (ms ++ take n waiting) m c.args.status c.loop-number.ways.items c.see.new.ways.items) c.in-Some.is (c.in_ok-instead.ensures.sees P h (ms ++ take n waiting) low so_far.ways) in
    let cut : drop n waiting ≡ m ∷ drop (suc n) waiting = cut_of waiting n m c.loop-number-test.true c.index-waiting-number.is in
    let long : length (take n waiting) ≡ n = length-take-le n waiting (omega (arith, c.loop-number-test.true)) in
    ends_at legal P h ms c.args.followed c.args.status waiting (take n waiting) (record { marked = m; number = c.saturating_add.result; sent = c.in-Some.instead.sent }) (drop (suc n) waiting) c.args.ways.now.items c.loop-number.ways.items
    so_far ends (sym (take-append-drop n waiting) ∙ ap (λ l. take n waiting ++ l) cut) (omega (arith, bound, long, c.saturating_add.ensures, c.loop-number-test.true))

pub returns-clause-found : goal.returns-clause-found
returns-clause-found g c P h ms low bound ways =
    subst (λ (l : List Marked). AreFollowed g.L.Legality.is_legal P h ms c.args.status l c.args.ways.now.items c.loop-number.ways.items) (take_all c.loop-number.number c.args.waiting.now c.loop-number-test.false) (c.loop-number.invariant P h ms low ways)

pub returns-in_err-instead-clause-refused : goal.returns-in_err-instead-clause-refused
returns-in_err-instead-clause-refused g c =
    let waiting : List Marked = c.args.waiting.now in
    let n = c.loop-number.number in
    let m : Marked = c.index-waiting-number.result in
    let cut : drop n waiting ≡ m ∷ drop (suc n) waiting = cut_of waiting n m c.loop-number-test.true c.index-waiting-number.is in
    let p = err_from_is_err_and c.from_residual.result c.from_residual.ensures.1 in
    rw (p.1, p.2) (λ same P h ms low ways.
    let front : List Marked = ms ++ take n waiting in
    let many = c.in_err-instead.ensures.refused same in
    let whole : (front ++ m ∷ []) ++ drop (suc n) waiting ≡ ms ++ waiting =
    append_assoc front (m ∷ []) (drop (suc n) waiting) ∙ (append_assoc ms (take n waiting) (m ∷ drop (suc n) waiting) ∙ ap (λ l. ms ++ l) (ap (λ l. take n waiting ++ l) (sym cut) ∙ take-append-drop n waiting)) in
    subst (λ l. HasManyWays (maybe_in l)) whole (many_front (front ++ m ∷ []) (drop (suc n) waiting) (many_split front m many.0.0 (length c.loop-number.ways.items) many.0.1 (c.loop-number.invariant P h ms low ways).ways.few many.1)))
