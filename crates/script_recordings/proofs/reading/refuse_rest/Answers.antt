use Rattle.std.proofs.Common.{Ok, subst}
use Rattle.rt1553_verify.specs.Reader.{NextIs, left_in}
use Rattle.script_recordings.proofs.ReadLaws.{rest_none, rest_more}
use Rattle.script_recordings.proofs.reading.refuse_rest.Goals as goal

pub events-init : goal.events-init
events-init g c = rest_none (left_in g.B.Read.remaining c.args.script.now)

pub events-preserved-in-Ok-Some : goal.events-preserved-in-Ok-Some
events-preserved-in-Ok-Some g c =
    rest_more (left_in g.B.Read.remaining c.args.script.now) (left_in g.B.Read.remaining c.events.script) (left_in g.B.Read.remaining c.next.new.self) c.in-Ok-Some.field-0-0
    c.events.invariant
    (subst (λ o. NextIs (left_in g.B.Read.remaining c.events.script) (left_in g.B.Read.remaining c.next.new.self) (Ok o)) c.in-Ok-Some.field-0-is c.in-Ok-Some.ensures.next)
