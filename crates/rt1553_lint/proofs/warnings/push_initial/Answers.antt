use Rattle.std.proofs.Common.{rules}
use Rattle.rt1553_lint.proofs.Warned.{not_spare, warns_entry, warns_words}
use Rattle.rt1553_lint.proofs.warnings.push_initial.Goals as goal

pub push_words-requires-clause-needed : goal.push_words-requires-clause-needed
push_words-requires-clause-needed c = not_spare _ c.args.judged.now.profile.now c.args.index c.requires.entry c.if-not-spares.true

pub returns-then-not-spares : goal.returns-then-not-spares
returns-then-not-spares c = warns_words _ _ c.args.index _ _ c.requires.entry (search rules) c.in_ok-push_words.ensures

pub returns : goal.returns
returns c = warns_entry _ _ c.args.index _ _ c.requires.entry (search rules) c.in_ok-push_warning.ensures
