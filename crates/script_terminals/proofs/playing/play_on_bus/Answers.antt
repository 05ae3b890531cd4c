use Rattle.std.proofs.Common.{◌≡◌, ◌∙◌, length, refl, sym, arith}
use Rattle.script_lines.specs.Text.{lines_of}
use Rattle.terminal_bus.specs.Members.{play}
use Rattle.script_terminals.specs.BusReading.{said_events}
use Rattle.script_terminals.specs.Playing.{reading_of}
use Rattle.script_terminals.proofs.PlayLaws.{none_left, not_some, some_of, Playing_start, Playing_on, Playing_end, Playing_stop}
use Rattle.script_terminals.proofs.playing.play_on_bus.Goals as goal

pub loop-rest-init : goal.loop-rest-init
loop-rest-init g c = (
  omega arith,
  λ members stands. Playing_start g.L.Legality.is_legal c.args.told members (lines_of c.args.script.now) _ _ c.args.bus.now c.new-text.ensures.items c.new-warnings.ensures.items stands,
)

pub loop-rest-preserved : goal.loop-rest-preserved
loop-rest-preserved g c = (
  omega (arith, c.loop-rest.invariant.0, c.first_line.ensures.shorter),
  λ members stands.
      let p = c.loop-rest.invariant.1 members stands in
      Playing_on g.L.Legality.is_legal c.args.told members (reading_of members c.args.script.now) c.loop-rest.number c.loop-rest.rest.now c.first_line.result.0.now c.first_line.result.1.now _ _ _ _ _ _
      c.in_ok-fault.fault (not_some c.in_ok-fault.fault (sym c.is_some.ensures ∙ c.if-is_some.false)) c.first_line.ensures.lines p (c.in_ok-fault.ensures (play members (said_events p.said)) p.stands),
)

pub returns-then-is_some : goal.returns-then-is_some
returns-then-is_some g c members stands =
    let p = c.loop-rest.invariant.1 members stands in
    let f = some_of c.in_ok-fault.fault (sym c.is_some.ensures ∙ c.if-is_some.true) in
    Playing_stop g.L.Legality.is_legal c.args.told members c.args.script.now c.loop-rest.number c.loop-rest.rest.now c.first_line.result.0.now c.first_line.result.1.now _ _ _ _ _ _
    c.in_ok-fault.fault f.0 _ f.1 c.first_line.ensures.lines p (c.in_ok-fault.ensures (play members (said_events p.said)) p.stands) refl refl refl

pub returns : goal.returns
returns g c =
    let empty : length c.loop-rest.rest.now ≡ 0 = none_left _ c.is_empty.result c.is_empty.ensures c.loop-rest-test.false in
    λ members stands. Playing_end g.L.Legality.is_legal c.args.told members c.args.script.now c.loop-rest.number c.loop-rest.rest.now _ _ c.loop-rest.bus _ empty (c.loop-rest.invariant.1 members stands) refl refl refl
