use Rattle.std.proofs.Common.{◌≡◌, take, arith}
use Rattle.std.proofs.lemmas.List.{take_all}
use Rattle.bus_word.specs.Mode.{is_required_code}
use Rattle.bus_legal.specs.OwnCodes.{contains_own}
use Rattle.bus_legal.proofs.TableSteps.{mode_says-take, codes-said, kept-twice, required_codes-bits, own_codes-bits}
use Rattle.bus_legal.proofs.tables.own_mode_mask.Goals as goal

pub loop-mode-init : goal.loop-mode-init
loop-mode-init c = required_codes-bits

pub loop-mode-preserved : goal.loop-mode-preserved
loop-mode-preserved c = λ k l. mode_says-take (is_required_code k) (contains_own k) c.args.modes.now c.loop-mode.mode-index _ _ _ (omega arith) (c.loop-mode.invariant k l) (c.with_codes-mask.ensures k l)

pub returns-clause-codes : goal.returns-clause-codes
returns-clause-codes c =
    let all : take c.loop-mode.mode-index c.args.modes.now ≡ c.args.modes.now = take_all c.loop-mode.mode-index c.args.modes.now (omega arith) in
    λ k l. codes-said c.loop-mode.mask 0x000f01ff k _ _ (own_codes-bits k l) (rw all at (c.loop-mode.invariant k l))

pub returns-clause-no_other : goal.returns-clause-no_other
returns-clause-no_other c = kept-twice c.loop-mode.mask 0x000f01ff
