-- A name that is compared decides, or leaves it to those that are left.
use Rattle.std.proofs.Common.{sym, ◌∙◌}
use Rattle.std.proofs.lemmas.Map.Text.{is_eq-slice_cmp}
use Rattle.toml_places.proofs.Among.{among_here, among_later}
use Rattle.toml_places.proofs.besides.is_one_of.Goals as goal

pub returns-then-eq : goal.returns-then-eq
returns-then-eq c =
    sym (c.loop-other.invariant
    ∙ among_here c.args.name.now c.args.known.now c.loop-other.other-index _ c.eq.result c.loop-other-test.true (c.eq.ensures ∙ sym (is_eq-slice_cmp c.args.name.now _)) c.if-eq.true)

pub loop-other-preserved : goal.loop-other-preserved
loop-other-preserved c =
    c.loop-other.invariant
    ∙ among_later c.args.name.now c.args.known.now c.loop-other.other-index _ c.eq.result c.loop-other-test.true (c.eq.ensures ∙ sym (is_eq-slice_cmp c.args.name.now _)) c.if-eq.false
