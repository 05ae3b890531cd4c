use Rattle.std.proofs.Common.{◌≡◌, Bool, true, false, refl, sym, ◌∙◌}
use Rattle.std.specs.Bool.{beq}
use Rattle.terminal_recordings.specs.Completion.{flag_shown}
use Rattle.bus_terminal.proofs.FlagLaw.{flag_stays}
use Rattle.recorded_terminal.proofs.follower.Follower.set.Goals as goal

-- the flag that the terminal has is the one that is shown
same_of : (a b : Bool) → beq a b ≡ true → a ≡ b
same_of true true e = refl
same_of true false e = cc
same_of false true e = cc
same_of false false e = refl

pub returns-then-flag-value-clause-stands : goal.returns-then-flag-value-clause-stands
returns-then-flag-value-clause-stands g c P h s =
    flag_stays g.L.Legality.is_legal P h c.args.flag (flag_shown c.args.status c.args.flag) c.args.self.now.terminal s
    (sym (c.flag.ensures P h s) ∙ (same_of c.flag.result c.shows-value.result c.if-flag-value.true ∙ c.shows-value.ensures))
