use Rattle.std.proofs.Common.{◌<◌, ◌^◌, ◌∙◌, [], length, sym, subst, arith}
use Rattle.bus_legal.specs.Parts.{description_in}
use Rattle.bus_complete_test.specs.CompleteTest.{tried}
use Rattle.rt1553_results.specs.Results.{answer}
use Rattle.rt1553_results.proofs.WholeLaws.{whole_decided, whole_first}
use Rattle.rt1553_results.proofs.ExplainedLaws.{explains, tells_missing, rows_long}
use Rattle.rt1553_results.proofs.explaining.explain_results.Goals as goal

pub returns-in-Some-clause-refused : goal.returns-in-Some-clause-refused
returns-in-Some-clause-refused c =
    let D = description_in c.args.normal.now in
    let b = c.in-Some.ensures in
    (b.0, subst (λ n. n < b.0) (c.in_ok-total.ensures.0 ∙ sym (rows_long D [] (tried D))) b.1, b.2)

pub returns-clause-explains : goal.returns-clause-explains
returns-clause-explains c P reached =
    let D = description_in c.args.normal.now in
    let w = c.in_ok-watch_results.ensures in
    let few : length (tried D) < 2 ^ 32 = subst (λ n. n < 2 ^ 32) c.in_ok-total.ensures.0 (omega arith) in
    explains D P (answer c.args.results.now) w.0 c.in_ok-unexplained.unexplained _ w.3.0 reached few w.1 (whole_decided D w.0 c.in_ok-unexplained.unexplained w.2 (c.in_ok-unexplained.ensures.first D [] w.0 w.3))
    (whole_first D w.0 c.in_ok-unexplained.unexplained w.2 (c.in_ok-unexplained.ensures.first D [] w.0 w.3)) c.first_told.ensures

pub returns-clause-missing : goal.returns-clause-missing
returns-clause-missing c =
    tells_missing (description_in c.args.normal.now) (answer c.args.results.now) c.in_ok-unexplained.unexplained _ c.in_ok-total.ensures.0 c.in_ok-total.ensures.1 c.in_default.ensures c.first_told.ensures
