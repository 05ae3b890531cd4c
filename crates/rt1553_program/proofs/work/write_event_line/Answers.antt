use Rattle.std.proofs.Common.{[], ◌∷◌, ◌∙◌, subst}
use Rattle.std.proofs.KnownBytes.{Appends-trans}
use Rattle.std.specs.Io.KnownBytes.{Appends}
use Rattle.script_lines.specs.EventLine.{event_text}
use Rattle.rt1553_program.proofs.work.write_event_line.Goals as goal

pub returns-clause-ok : goal.returns-clause-ok
returns-clause-ok g c =
    let is = c.as_bytes.ensures.value ∙ c.as_str.ensures.value ∙ c.write_event.ensures.text in
    Appends-trans _ _ _ (event_text c.args.event.now) (10 ∷ []) (subst (Appends _ _) is c.in_ok-write_out.ensures.ok) c.in_ok-write_out-2.ensures.ok
