use Rattle.std.proofs.Common.{◌≡◌, ◌-◌, ◌∙◌, ◌++◌, ◌∷◌, [], ap, sym, arith}
use Rattle.bus_legal.specs.Parts.{Parts, description_in}
use Rattle.recording_coverage.specs.Rows.{commands_by_number, tried_of}
use Rattle.recording_coverage.proofs.RowLaws.{tried_next, tried_end}
use Rattle.recording_coverage.proofs.rows.illegal_messages.Goals as goal

pub loop-number-preserved : goal.loop-number-preserved
loop-number-preserved c = λ ends covers.
    let P = description_in c.args.normal.now in
    tried_next P ends c.setup-address.result.address 4096 c.loop-number.number _ _ _ c.loop-number-test.true
    (c.in_ok-push_tried.ensures ends covers ∙ ap (λ x. c.loop-number.rows.items ++ tried_of P ends (x ∷ [])) c.command_at.ensures) (c.loop-number.invariant ends covers)

pub returns : goal.returns
returns c = λ ends covers.
    let stop : 4096 - c.loop-number.number ≡ 0 = omega (arith, c.loop-number-test.false) in
    sym (tried_end (description_in c.args.normal.now) ends c.setup-address.result.address 4096 c.loop-number.number _ stop)
    ∙ (c.loop-number.invariant ends covers ∙ ap (λ (v : Parts). tried_of (description_in c.args.normal.now) ends (commands_by_number v.address 0 4096)) c.setup-address.ensures.parts)
