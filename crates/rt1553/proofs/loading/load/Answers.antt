use Rattle.std.proofs.Common.{sym, ◌∙◌}
use Rattle.rt1553.proofs.LoadLaws.{canon_reaches, profile_reaches}
use Rattle.rt1553.proofs.loading.load.Goals as goal

pub returns-then-is_canon_text-clause-ok : goal.returns-then-is_canon_text-clause-ok
returns-then-is_canon_text-clause-ok c = canon_reaches c.in_ok-read_canon.field-0 c.args.text.now c.in_ok-read_canon.ensures.text

pub returns-clause-ok : goal.returns-clause-ok
returns-clause-ok c =
    profile_reaches c.args.text.now c.in_ok-profile.profile c.normalise.result c.in_ok-profile.ensures.accepted
    (sym c.is_canon_text.ensures ∙ c.if-is_canon_text.false) c.normalise.ensures
