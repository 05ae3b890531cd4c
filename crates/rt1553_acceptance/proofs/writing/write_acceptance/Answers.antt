use Rattle.std.proofs.Common.{[], subst}
use Rattle.std.proofs.lemmas.Result.{on_ok_weaker}
use Rattle.bus_legal.specs.Tables.{tables_say}
use Rattle.bus_legal.proofs.NormalLaws.{set_up_normal}
use Rattle.bus_terminal.specs.Stands.{StandsAt}
use Rattle.rt1553_acceptance.proofs.Showing.{acceptance-law}
use Rattle.rt1553_acceptance.proofs.writing.write_acceptance.Goals as goal

pub returns-clause-test : goal.returns-clause-test
returns-clause-test g c =
    let v = c.args.normal.now in
    let stands = subst (λ P. StandsAt (λ normal. tables_say normal.tables) P [] c.power_up-terminal.result) (set_up_normal v c.setup-setup.result c.setup-setup.ensures.parts) c.power_up-terminal.ensures.stands in
    on_ok_weaker c.put_exchanges.result (λ puts. acceptance-law c.args.names.now v c.setup-setup.ensures.normal (puts.fit [] stands)) c.put_exchanges.ensures.wrote
