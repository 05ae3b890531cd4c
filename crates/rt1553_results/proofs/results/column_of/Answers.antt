use Rattle.std.proofs.Common.{refl, subst, arith}
use Rattle.csv.specs.Records.{fields_of}
use Rattle.rt1553_results.proofs.FieldLaws.{Found, found_column, found_none}
use Rattle.rt1553_results.proofs.results.column_of.Goals as goal

pub returns-in-Some-clause-found : goal.returns-in-Some-clause-found
returns-in-Some-clause-found c =
    let header = fields_of c.args.header.now in
    found_column header c.args.name.now c.loop-place.place c.in-Some.place (omega arith) (subst (Found header c.args.name.now c.loop-place.place) c.in-Some.is c.loop-place.invariant)

pub returns-in-None-clause-refused : goal.returns-in-None-clause-refused
returns-in-None-clause-refused c = (refl, found_none (fields_of c.args.header.now) c.args.name.now c.loop-place.place (omega arith) (subst (Found (fields_of c.args.header.now) c.args.name.now c.loop-place.place) c.in-None.is c.loop-place.invariant))
