use Rattle.std.proofs.Common.{◌∙◌, ◌+◌, option_map, Ok, sym, ap, subst, arith, rules, true}
use Rattle.std.proofs.lemmas.Result.{err_from_is_err_and}
use Rattle.rt1553_verify.specs.Stated.{shown, all_stated, bounded_line}
use Rattle.rt1553_verify.specs.Reader.{NextIs}
use Rattle.rt1553_verify.specs.inner.Steps.{ReadsLine}
use Rattle.rt1553_verify.proofs.ReaderLaws.{Left, ends, ends_badly, line_step, line_fault, too_many, refused}
use Rattle.rt1553_verify.proofs.reader.StatedReader.step.Goals as goal

pub returns-then-not-branch-clause-step : goal.returns-then-not-branch-clause-step
returns-then-not-branch-clause-step g c =
    subst (λ l. NextIs (Left (g.B.Read.remaining c.args.self.now.input) c.args.self.now.lines (option_map shown c.args.self.now.latest)) (Left (g.B.Read.remaining c.fill_line.new.input) c.args.self.now.lines (option_map shown l)) (Ok c.in_ok-end.field-0)) (sym c.take.ensures.after)
    (ends (g.B.Read.remaining c.args.self.now.input) (g.B.Read.remaining c.fill_line.new.input) c.fill_line.new.line.items c.args.self.now.lines
    (option_map shown c.args.self.now.latest) c.in_ok-end.field-0
    (subst (λ b. ReadsLine (g.B.Read.remaining c.args.self.now.input) (g.B.Read.remaining c.fill_line.new.input) c.fill_line.new.line.items b) (search rules) c.in_ok-fill_line.ensures.reads)
    (ap (λ l. all_stated (option_map shown l)) (sym c.take.ensures.value) ∙ c.in_ok-end.ensures.said))

pub returns-in_err-end-clause-step : goal.returns-in_err-end-clause-step
returns-in_err-end-clause-step g c =
    let r = c.from_residual-in_err-end in
    let p = err_from_is_err_and r.result r.ensures.1 in
    rw (p.1, p.2) (ends_badly (g.B.Read.remaining c.args.self.now.input) (g.B.Read.remaining c.fill_line.new.input) c.fill_line.new.line.items c.args.self.now.lines
    (option_map shown c.args.self.now.latest) _ _
    (subst (λ b. ReadsLine (g.B.Read.remaining c.args.self.now.input) (g.B.Read.remaining c.fill_line.new.input) c.fill_line.new.line.items b) (search rules) c.in_ok-fill_line.ensures.reads)
    (λ other. ap (λ l. all_stated (option_map shown l)) (sym c.take.ensures.value) ∙ c.in_err-end.ensures.refused other))

pub returns-then-self-clause-step : goal.returns-then-self-clause-step
returns-then-self-clause-step g c =
    refused _ _ _ (too_many (g.B.Read.remaining c.args.self.now.input) (g.B.Read.remaining c.fill_line.new.input) c.fill_line.new.line.items c.args.self.now.lines
    (option_map shown c.args.self.now.latest) (grind (arith, c.if-self.true))
    (subst (λ b. ReadsLine (g.B.Read.remaining c.args.self.now.input) (g.B.Read.remaining c.fill_line.new.input) c.fill_line.new.line.items b) (search rules) c.in_ok-fill_line.ensures.reads))

pub returns-in_err-known-clause-step : goal.returns-in_err-known-clause-step
returns-in_err-known-clause-step g c =
    let r = c.from_residual-in_err-known in
    let p = err_from_is_err_and r.result r.ensures.1 in
    rw (p.1, p.2) (line_fault (g.B.Read.remaining c.args.self.now.input) (g.B.Read.remaining c.fill_line.new.input) _ c.fill_line.new.line.items c.args.self.now.lines
    (option_map shown c.args.self.now.latest) c.first_line.result.0.now c.first_line.result.1.now _ (grind (arith, c.if-self.false))
    (subst (λ b. ReadsLine (g.B.Read.remaining c.args.self.now.input) (g.B.Read.remaining c.fill_line.new.input) c.fill_line.new.line.items b) (search rules) c.in_ok-fill_line.ensures.reads)
    (search rules)
    (λ other. ap (λ l. bounded_line true (c.args.self.now.lines + 1) (option_map shown l) c.first_line.result.0.now) (sym c.take-2.ensures.value) ∙ c.in_err-known.ensures.refused other))

pub returns-clause-step : goal.returns-clause-step
returns-clause-step g c =
    line_step (g.B.Read.remaining c.args.self.now.input) (g.B.Read.remaining c.fill_line.new.input) c.fill_line.new.line.items c.args.self.now.lines
    (option_map shown c.args.self.now.latest) c.first_line.result.0.now c.first_line.result.1.now c.in_ok-known.known.ended (option_map shown c.in_ok-known.known.latest) (grind (arith, c.if-self.false))
    (subst (λ b. ReadsLine (g.B.Read.remaining c.args.self.now.input) (g.B.Read.remaining c.fill_line.new.input) c.fill_line.new.line.items b) (search rules) c.in_ok-fill_line.ensures.reads)
    (search rules)
    (ap (λ l. bounded_line true (c.args.self.now.lines + 1) (option_map shown l) c.first_line.result.0.now) (sym c.take-2.ensures.value) ∙ c.in_ok-known.ensures.said)
