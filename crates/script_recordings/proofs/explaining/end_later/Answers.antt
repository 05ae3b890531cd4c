use Rattle.std.proofs.Common.{refl, subst}
use Rattle.script_recordings.specs.inner.Reads.{IsUnlessMany}
use Rattle.script_recordings.proofs.StretchLaws.{all_ok, given_ok, given_many, later_judged, later_many}
use Rattle.script_recordings.proofs.explaining.end_later.Goals as goal

pub returns-in-Some : goal.returns-in-Some
returns-in-Some c = all_ok c.later_told.result _ _ _ _ c.later_told.ensures.told c.later_told.ensures.warned c.later_told.ensures.counts
    (λ told tells warned counts D events ms are watched tally. later_judged D events ms c.in-Some.judged c.args.tally.now told are tally tells (warned ms tally) counts
    (given_ok c.end.result c.in-Some.judged _ (subst (IsUnlessMany c.end.result) c.in-Some.is c.in_ok-judged.ensures) c.end.ensures.judged D ms watched))

pub returns-in-None : goal.returns-in-None
returns-in-None c = λ D events ms are watched tally.
    later_many D events ms c.args.tally.now.answers c.unjudged.result are
    (given_many c.end.result _ (subst (IsUnlessMany c.end.result) c.in-None.is c.in_ok-judged.ensures) c.end.ensures.refused refl D ms watched) tally.answers c.unjudged.ensures
