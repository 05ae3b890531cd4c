use Rattle.std.proofs.Common.{[], refl, subst}
use Rattle.recorded_terminal.specs.Marks.{maybe_in}
use Rattle.script_recordings.specs.inner.Reads.{IsUnlessMany}
use Rattle.script_recordings.proofs.ExplainedLaws.{judged_first}
use Rattle.script_recordings.proofs.StretchLaws.{given_ok, given_many, words_of, first_many}
use Rattle.script_recordings.proofs.explaining.end_first.Goals as goal

pub returns-in_ok-first_told-in-Some : goal.returns-in_ok-first_told-in-Some
returns-in_ok-first_told-in-Some c = λ P Q D events ms alike are watched tally. (
  maybe_in ms,
  judged_first events ms c.in-Some.first c.in_ok-first_told-in-Some.field-0 P Q alike are c.in_ok-first_told-in-Some.ensures
      (given_ok c.end.result c.in-Some.first _ (subst (IsUnlessMany c.end.result) c.in-Some.is c.in_ok-first.ensures) c.end.ensures.first Q [] ms watched),
  c.warning_behind.ensures ms tally,
  words_of events ms c.args.tally.now.answers are tally.answers,
)

pub returns-in-None : goal.returns-in-None
returns-in-None c = λ P Q D events ms alike are watched tally.
    first_many P D events ms c.args.tally.now.answers c.unjudged.result are
    (given_many c.end.result _ (subst (IsUnlessMany c.end.result) c.in-None.is c.in_ok-first.ensures) c.end.ensures.refused refl Q [] ms watched) tally.answers c.unjudged.ensures
