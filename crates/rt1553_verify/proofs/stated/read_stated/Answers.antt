use Rattle.std.proofs.Common.{◌≡◌, length, map, option_map, arith, rules, false}
use Rattle.std.proofs.lemmas.Result.{err_from_is_err_and}
use Rattle.rt1553_verify.specs.Stated.{shown}
use Rattle.rt1553_verify.proofs.StatedLaws.{stated_on, stated_stops, stated_many, stated_all, stated_refused, stated-read, none-left}
use Rattle.rt1553_verify.proofs.stated.read_stated.Goals as goal

pub returns-then-lines-clause-refused : goal.returns-then-lines-clause-refused
returns-then-lines-clause-refused c other =
    stated_many false 1048576 c.loop-rest.lines c.loop-rest.rest.now c.first_line.result.0.now c.first_line.result.1.now (option_map shown c.loop-rest.latest) (map shown c.loop-rest.read.items) _
    (omega (arith, c.if-lines.true)) c.first_line.ensures.lines c.loop-rest.invariant.1

pub returns-in_err-known-clause-refused : goal.returns-in_err-known-clause-refused
returns-in_err-known-clause-refused c =
    let i = c.loop-rest.invariant in
    let r = c.from_residual in
    let p = err_from_is_err_and r.result r.ensures.1 in
    rw (p.1, p.2) (λ other. stated_stops false 1048576 c.loop-rest.lines c.loop-rest.rest.now c.first_line.result.0.now c.first_line.result.1.now (option_map shown c.loop-rest.latest) (map shown c.loop-rest.read.items) _ _
    (omega (arith, i.0, c.if-lines.false)) c.first_line.ensures.lines (c.in_err-known.ensures.refused other) i.1)

pub returns-in_err-end-clause-refused : goal.returns-in_err-end-clause-refused
returns-in_err-end-clause-refused c =
    let none : length c.loop-rest.rest.now ≡ 0 = none-left c.loop-rest.rest.now c.is_empty.result c.is_empty.ensures c.loop-rest-test.false in
    let r = c.from_residual-in_err-end in
    let p = err_from_is_err_and r.result r.ensures.1 in
    rw (p.1, p.2) (λ other. stated_refused false 1048576 c.loop-rest.lines c.loop-rest.rest.now (option_map shown c.loop-rest.latest) (map shown c.loop-rest.read.items) _ _
    none (c.in_err-end.ensures.refused other) c.loop-rest.invariant.1)

pub loop-rest-preserved : goal.loop-rest-preserved
loop-rest-preserved c =
    let i = c.loop-rest.invariant in (
      omega (arith, i.0, c.if-lines.false),
      stated_on false 1048576 c.loop-rest.lines c.loop-rest.rest.now c.first_line.result.0.now c.first_line.result.1.now _ _ (map shown c.loop-rest.read.items) _ _ _
          (omega (arith, i.0, c.if-lines.false)) c.first_line.ensures.lines c.in_ok-known.ensures.said c.in_ok-push_if.ensures i.1,
    )

pub returns-clause-accepted : goal.returns-clause-accepted
returns-clause-accepted c = stated_all false 1048576 c.loop-rest.lines c.loop-rest.rest.now (option_map shown c.loop-rest.latest) (map shown c.loop-rest.read.items) _ _ _ (grind arith) c.in_ok-end.ensures.said (search rules) c.loop-rest.invariant.1

pub returns-clause-events : goal.returns-clause-events
returns-clause-events c = stated-read c.args.script.now (map shown c.push_if-2.new.read.items)
    (stated_all false 1048576 c.loop-rest.lines c.loop-rest.rest.now (option_map shown c.loop-rest.latest) (map shown c.loop-rest.read.items) _ _ _ (grind arith) c.in_ok-end.ensures.said (search rules) c.loop-rest.invariant.1)
