use Rattle.std.proofs.Common.{[], ◌∷◌, ◌≡◌, ◌+◌, ◌<◌, length, arith, ◌∙◌, ap, sym, refl}
use Rattle.std.proofs.lemmas.Grind.{common_steps}
use Rattle.script_lines.specs.Text.{lines_of}
use Rattle.bus_script.specs.Reading.{reading}
use Rattle.bus_script.proofs.PlayLaws.{Played-nil}
use Rattle.bus_script.proofs.FeedLaws.{ByFault-weaker}
use Rattle.bus_script.proofs.RunLaws.{reading-empty, reading-last, reading-last_refused}
use Rattle.bus_script.proofs.run.finish.Goals as goal

pub returns-then-is_empty-clause-ok : goal.returns-then-is_empty-clause-ok
returns-then-is_empty-clause-ok g c =
    let none : c.args.rest.now ≡ [] = grind (arith, common_steps) in (
      [],
      ap (λ xs. reading c.args.counts.now.lines (lines_of xs)) none ∙ reading-empty c.args.counts.now.lines,
      omega arith,
      Played-nil (c.args.terminal.now, c.args.writer.now),
    )

pub returns-in-Ok-clause-ok : goal.returns-in-Ok-clause-ok
returns-in-Ok-clause-ok g c =
    let some : 0 < length c.args.rest.now = grind (arith, common_steps) in
    let p = c.in-Ok.ensures.ok in
    (p.0, reading-last c.args.counts.now.lines c.args.rest.now p.0 some c.requires.rest p.2, ap (λ n. c.args.counts.now.events + n) (sym p.1), p.3)

pub returns-in-Err-clause-fault : goal.returns-in-Err-clause-fault
returns-in-Err-clause-fault g c =
    let some : 0 < length c.args.rest.now = grind (arith, common_steps) in
    ByFault-weaker c.in-Err.fault
    (λ f. (reading-last_refused c.args.counts.now.lines c.args.rest.now c.in-Err.fault some c.requires.rest f.0, refl, f.1))
    (λ x. x)
    (λ w. (w.0, reading-last c.args.counts.now.lines c.args.rest.now (w.0 ∷ []) some c.requires.rest w.1, w.2, w.3))
    c.in-Err.ensures.fault
