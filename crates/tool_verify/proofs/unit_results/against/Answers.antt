use Rattle.bus_legal.specs.Parts.{description_in}
use Rattle.tool_verify.proofs.unit_results.against.Goals as goal

pub returns-clause-verdict : goal.returns-clause-verdict
returns-clause-verdict g c = (description_in c.in_ok-profile.profile.normal, c.in_ok-loaded.loaded, c.in-Ok.judged, c.in_ok-loaded.ensures, c.in-Ok.ensures, c.status-status.ensures.passes)
