use Rattle.std.proofs.Common.{◌∙◌, ap}
use Rattle.bus_word.specs.Mask.{has_bit}
use Rattle.rt1553_differ.proofs.CodeLaws.{own_legal, broadcast_legal}
use Rattle.rt1553_differ.proofs.explained.codes_of.Goals as goal

pub returns-clause-own : goal.returns-clause-own
returns-clause-own c = λ code l. ap (λ t. has_bit t.own_mode code) c.tables-tables.ensures ∙ own_legal c.args.normal.now.tables.own_mode c.setup.ensures.normal.own_mode code l

pub returns-clause-broadcast : goal.returns-clause-broadcast
returns-clause-broadcast c =
    λ code l. ap (λ t. has_bit t.broadcast_mode code) c.tables-tables.ensures ∙ broadcast_legal c.args.normal.now.tables.broadcast_mode c.setup.ensures.normal.broadcast_mode code l
