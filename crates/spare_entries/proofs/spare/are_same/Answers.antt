use Rattle.spare_entries.proofs.Alike.{alike}
use Rattle.spare_entries.proofs.spare.are_same.Goals as goal

pub returns : goal.returns
returns c = alike _ _ _ _ _ c.args.p.now.own_address c.args.q.now.own_address c.setup.ensures.normal c.setup-2.ensures.normal c.normalise-ours.ensures c.normalise-theirs.ensures c.is_same.ensures
