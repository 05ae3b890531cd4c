use Rattle.std.proofs.lemmas.Result.{IfOk-weaker, IfErr-weaker}
use Rattle.bus_legal.specs.Tables.{tables_say}
use Rattle.bus_legal.specs.Description.{described}
use Rattle.bus_script.specs.Reading.{nothing}
use Rattle.bus_script.proofs.RunLaws.{IfSome-map}
use Rattle.rt1553.proofs.EngineLaws.{set_up_alike, ran_writes, stopped}
use Rattle.rt1553.proofs.engine.run_normal.Goals as goal

pub returns-clause-ok : goal.returns-clause-ok
returns-clause-ok g c P reached =
    let v = c.args.normal in
    let setup = c.setup-setup.result in
    let alike = set_up_alike v setup P c.setup-setup.ensures.normal c.setup-setup.ensures.parts setup.own_address reached in
    IfOk-weaker c.run_script.result _ _
    (λ n. IfSome-map (g.R.Source.left c.args.reader.now) _ _
    (λ script ran. (ran.0, ran.1, ran_writes (λ normal. tables_say normal.tables) g.W.Sink.written P (described setup (tables_say v.tables)) _ _ script ran.0 nothing c.power_up-terminal.ensures.stands alike ran.2)))
    c.run_script.ensures.ok

pub returns-clause-stopped : goal.returns-clause-stopped
returns-clause-stopped g c P reached =
    let v = c.args.normal in
    let setup = c.setup-setup.result in
    let alike = set_up_alike v setup P c.setup-setup.ensures.normal c.setup-setup.ensures.parts setup.own_address reached in
    IfErr-weaker c.run_script.result _ _
    (λ fault. IfSome-map (g.R.Source.left c.args.reader.now) _ _
    (λ script known. stopped (λ normal. tables_say normal.tables) g.W.Sink.written P (described setup (tables_say v.tables)) _ _ _ _ script fault c.power_up-terminal.ensures.stands alike known))
    c.run_script.ensures.fault
