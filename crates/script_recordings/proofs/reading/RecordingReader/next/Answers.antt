use Rattle.std.proofs.Common.{◌≡◌, ◌∙◌, Ok, ap, sym, subst}
use Rattle.rt1553_verify.specs.Reader.{NextIs, left_in}
use Rattle.rt1553_verify.specs.Commands.{command_after}
use Rattle.script_recordings.proofs.ReadLaws.{next_unseen}
use Rattle.script_recordings.proofs.reading.RecordingReader.next.Goals as goal

pub returns-clause-next : goal.returns-clause-next
returns-clause-next g c =
    next_unseen (left_in g.B.Read.remaining c.args.self.now.script) (left_in g.B.Read.remaining c.next.new.self) (left_in g.B.Read.remaining c.refuse_rest.new.script)
    c.in-Some.stated c.in-Err.fault c.refuse_rest.result
    (subst (λ o. NextIs (left_in g.B.Read.remaining c.args.self.now.script) (left_in g.B.Read.remaining c.next.new.self) (Ok o)) c.in-Some.is c.in_ok-stated.ensures.next)
    (sym c.is_silence.ensures ∙ c.if-is_silence.false) c.in-Err.ensures.refused c.refuse_rest.ensures

pub returns-in-Ok-clause-message : goal.returns-in-Ok-clause-message
returns-in-Ok-clause-message g c =
    let same : c.in-Ok.marked.command ≡ c.command_after-self.result = c.in-Ok.ensures.command in
    let event = c.in-Ok.ensures.event in
    (same ∙ c.command_after-self.ensures ∙ ap (λ e. command_after c.args.self.now.address c.args.self.now.command e) (sym event), sym same)
