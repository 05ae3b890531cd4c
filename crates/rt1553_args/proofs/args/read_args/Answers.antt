use Rattle.std.proofs.Common.{map}
use Rattle.rt1553_args.proofs.args.read_args.Goals as goal
use Rattle.rt1553_args.proofs.NoFault.{refused_by}

pub returns-in-Ok-try_get_matches_from-clause-refused : goal.returns-in-Ok-try_get_matches_from-clause-refused
returns-in-Ok-try_get_matches_from-clause-refused g c =
    refused_by _ (map g.S.AsStr.text c.args.args.now) c.in-Ok-try_get_matches_from.matches c.in-Ok.ensures c.in-Ok-try_get_matches_from.ensures.matches c.job_of.result _ c.ok_or.result c.job_of.ensures.none c.ok_or.ensures.value
