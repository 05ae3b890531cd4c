use Rattle.std.proofs.Common.{refl}
use Rattle.bus_reports.proofs.json.object_of.Goals as goal

pub returns : goal.returns
returns c = record {
  passes = c.passes.ensures;
  every_order = c.in_every_order.ensures;
  messages = c.messages.ensures;
  fault = c.fault.ensures;
  sha256 = c.in_ok-digest_text.ensures;
  program = refl;
  toolchain = refl;
  canonical = refl;
  date = refl;
}
