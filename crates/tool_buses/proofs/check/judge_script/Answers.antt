use Rattle.std.proofs.Common.{ℕ, List, map, option_map, subst}
use Rattle.bus_legal.specs.Description.{Description}
use Rattle.bus_legal.specs.Parts.{description_in}
use Rattle.refused_lines.specs.Sources.{line_in_file}
use Rattle.tool_buses.specs.Cut.{IsCutScript, JudgesOrder}
use Rattle.tool_buses.proofs.BusLefts.{ok_weaker, if_none}
use Rattle.tool_buses.proofs.check.judge_script.Goals as goal

pub returns-in-None : goal.returns-in-None
returns-in-None g c =
    let source : ℕ → ℕ = line_in_file (option_map (λ s. s.now) c.sources.result) in
    let vs = c.args.on.now.normals.items in
    let Ps : List Description = map description_in vs in
    ok_weaker c.judge_cut.result _ _
    (λ judged judges p.
    subst (λ sources. JudgesOrder vs (line_in_file sources) c.args.script.now.text.items judged) c.sources.ensures
    (judges source p (subst (λ text. IsCutScript Ps source text c.in_ok-cut.cut.parts.items c.in_ok-cut.cut.lefts.items) c.as_slice.ensures.value (if_none c.in_ok-cut.cut.fault _ c.in-None.is c.in_ok-cut.ensures Ps p))))
    c.judge_cut.ensures
