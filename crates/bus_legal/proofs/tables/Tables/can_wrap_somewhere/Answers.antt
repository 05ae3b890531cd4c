use Rattle.std.proofs.Common.{◌≡◌, ◌-◌, sym, ap, ◌∙◌, arith}
use Rattle.std.proofs.lemmas.Bool.Decides.{nat_tests}
use Rattle.bus_legal.specs.Reach.{any_to}
use Rattle.bus_legal.specs.Tables.{masks_wrap, any_wraps}
use Rattle.bus_legal.proofs.Counts.{any_to-true}
use Rattle.bus_legal.proofs.tables.Tables.can_wrap_somewhere.Goals as goal

pub returns-then-can_wrap : goal.returns-then-can_wrap
unfolding any_wraps
returns-then-can_wrap c =
    sym (any_to-true 30 (masks_wrap c.args.self.now) c.loop-subaddress.subaddress (sym c.can_wrap.ensures ∙ c.if-can_wrap.true) c.loop-subaddress.invariant.from (omega (arith, c.loop-subaddress-test.true)))

pub returns : goal.returns
unfolding any_wraps
returns c =
    let last : c.loop-subaddress.subaddress - 1 ≡ 30 = grind (arith, nat_tests) in
    sym c.loop-subaddress.invariant.none ∙ ap (λ n. any_to n (masks_wrap c.args.self.now)) last
