use Rattle.std.proofs.Common.{◌≡◌, ◌∙◌, Result, Ok, Err, IfOk, ap, subst}
use Rattle.bus_legal.specs.Tables.{tables_say}
use Rattle.bus_legal.specs.Description.{Description, described}
use Rattle.bus_legal.proofs.NormalLaws.{set_up_normal}
use Rattle.rt1553.proofs.EngineLaws.{set_up_alike}
use Rattle.terminal_recordings.specs.Completion.{shown_of}
use Rattle.recorded_terminal.specs.Sightings.{recorded}
use Rattle.recorded_terminal.specs.Marks.{seen_in}
use Rattle.script_recordings.specs.inner.Plays.{AnswerAlike}
use Rattle.script_recordings.proofs.ExplainedLaws.{plays_seen}
use Rattle.script_recordings.proofs.telling.events_of.Goals as goal

both : {X E : Type 0} (r : Result X E) (F G H : X → Type 0) → ((x : X) → F x → G x → H x) → IfOk r F → IfOk r G → IfOk r H
both (Ok x) F G H f y z = f x y z
both (Err e) F G H f y z = tt

pub returns-clause-plays : goal.returns-clause-plays
returns-clause-plays c =
    let v = c.args.normal.now in
    let Q : Description = described c.setup.result (tables_say v.tables) in
    let same : recorded c.as_slice.result.now ≡ seen_in c.args.recording.now = ap recorded c.as_slice.ensures.value ∙ c.in_ok-sightings.ensures in
    both c.behaviour.result _ _ _
    (λ events proper shown P reached.
    let alike = set_up_alike v c.setup.result P c.setup.ensures.normal c.setup.ensures.parts c.setup.result.own_address reached in
    plays_seen P Q alike c.args.recording.now events.items c.setup.result.own_address proper (shown ∙ ap (shown_of Q) same))
    c.behaviour.ensures.proper c.behaviour.ensures.shown

always : {X E : Type 0} (r : Result X E) (A : Type 0) → A → IfOk r (λ _. A)
always (Ok x) A a = a
always (Err e) A a = tt

pub returns-clause-alike : goal.returns-clause-alike
returns-clause-alike c =
    let v = c.args.normal.now in
    always c.behaviour.result _
    (λ P reached. subst (λ Q. AnswerAlike Q P) (set_up_normal v c.setup.result c.setup.ensures.parts) (set_up_alike v c.setup.result P c.setup.ensures.normal c.setup.ensures.parts c.setup.result.own_address reached))
