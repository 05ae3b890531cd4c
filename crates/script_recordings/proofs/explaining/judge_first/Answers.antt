use Rattle.std.proofs.Common.{◌++◌, ◌∷◌, [], Ok, refl, subst}
use Rattle.std.proofs.lemmas.Result.{err_from_is_err_and}
use Rattle.bus_legal.specs.Description.{Description, described}
use Rattle.bus_legal.specs.Parts.{description_in}
use Rattle.bus_legal.specs.Tables.{tables_say}
use Rattle.rt1553.proofs.EngineLaws.{set_up_alike}
use Rattle.rt1553_verify.specs.Reader.{left_in}
use Rattle.script_recordings.specs.inner.Reads.{IsUnlessMany, NextSeen}
use Rattle.script_recordings.proofs.ReadLaws.{part_none, part_more, part_fault}
use Rattle.script_recordings.proofs.PartLaws.{reads_then, reads_behind, part_refused}
use Rattle.script_recordings.proofs.StretchLaws.{given_on, given_many, first_of_rest}
use Rattle.script_recordings.proofs.explaining.judge_first.Goals as goal

pub sightings-init : goal.sightings-init
sightings-init g c = ([], λ Q w. w, part_none (left_in g.B.Read.remaining c.args.reader.now.script), c.new-tally.ensures)

pub sightings-preserved : goal.sightings-preserved
sightings-preserved g c =
    let i = c.sightings.invariant in (
      i.0 ++ c.in-Some.marked ∷ [],
      λ Q w. given_on c.see.result _ _ (subst (IsUnlessMany c.see.result) c.in-Some-2.is c.in_ok-unless_many.ensures) c.see.ensures.sees Q [] i.0 (i.1 Q w),
      part_more (left_in g.B.Read.remaining c.args.reader.now.script) (left_in g.B.Read.remaining c.sightings.reader.script) (left_in g.B.Read.remaining c.next.new.self.script) i.0 c.in-Some.marked i.2
          (subst (λ o. NextSeen (left_in g.B.Read.remaining c.sightings.reader.script) (left_in g.B.Read.remaining c.next.new.self.script) (Ok o)) c.in-Some.is c.in_ok-marked.ensures.next),
      c.in_ok-take.ensures i.0 i.3,
    )

pub returns-in_err-marked-clause-refused : goal.returns-in_err-marked-clause-refused
returns-in_err-marked-clause-refused g c =
    let i = c.sightings.invariant in
    let r = c.from_residual-in_err-marked in
    let p = err_from_is_err_and r.result r.ensures.1 in
    rw (p.1, p.2) (part_fault (left_in g.B.Read.remaining c.args.reader.now.script) (left_in g.B.Read.remaining c.sightings.reader.script) (left_in g.B.Read.remaining c.next.new.self.script) i.0 _ i.2
    c.in_err-marked.ensures.next)

pub returns-in_err-rest-in-None-clause-refused : goal.returns-in_err-rest-in-None-clause-refused
returns-in_err-rest-in-None-clause-refused g c =
    let i = c.sightings.invariant in
    let r = c.from_residual-in_err-rest-in-None in
    let p = err_from_is_err_and r.result r.ensures.1 in
    rw (p.1, p.2) (part_refused (left_in g.B.Read.remaining c.args.reader.now.script) (left_in g.B.Read.remaining c.next.new.self.script) (i.0 ++ c.in-Some.marked ∷ []) _
    (part_more (left_in g.B.Read.remaining c.args.reader.now.script) (left_in g.B.Read.remaining c.sightings.reader.script) (left_in g.B.Read.remaining c.next.new.self.script) i.0 c.in-Some.marked i.2 (subst (λ o. NextSeen (left_in g.B.Read.remaining c.sightings.reader.script) (left_in g.B.Read.remaining c.next.new.self.script) (Ok o)) c.in-Some.is c.in_ok-marked.ensures.next))
    c.in_err-rest-in-None.ensures.refused)

pub returns-in-None-clause-judged : goal.returns-in-None-clause-judged
returns-in-None-clause-judged g c =
    let i = c.sightings.invariant in
    let v = c.args.normal.now in
    let D : Description = description_in v in
    let Q : Description = described c.setup.result (tables_say v.tables) in
    let ms = i.0 ++ c.in-Some.marked ∷ [] in
    let many = given_many c.see.result _ (subst (IsUnlessMany c.see.result) c.in-None.is c.in_ok-unless_many.ensures) c.see.ensures.refused refl Q [] i.0 (i.1 Q c.in_ok-watch.ensures) in
    reads_behind (left_in g.B.Read.remaining c.args.reader.now.script) (left_in g.B.Read.remaining c.next.new.self.script) (left_in g.B.Read.remaining c.judge_later.new.reader.script) c.judge_later.new.reader.silence ms _ _
    (part_more (left_in g.B.Read.remaining c.args.reader.now.script) (left_in g.B.Read.remaining c.sightings.reader.script) (left_in g.B.Read.remaining c.next.new.self.script) i.0 c.in-Some.marked i.2 (subst (λ o. NextSeen (left_in g.B.Read.remaining c.sightings.reader.script) (left_in g.B.Read.remaining c.next.new.self.script) (Ok o)) c.in-Some.is c.in_ok-marked.ensures.next))
    c.in_ok-rest-in-None.ensures.judged
    (λ front later are told P reached. first_of_rest P D front later ms c.take.new.self.answers c.unjudged.result c.in_ok-rest-in-None.rest c.in_ok-then-in-None.field-0 are many
    (c.in_ok-take.ensures i.0 i.3).answers c.unjudged.ensures told c.in_ok-then-in-None.ensures)

pub returns-clause-judged : goal.returns-clause-judged
returns-clause-judged g c =
    let i = c.sightings.invariant in
    let v = c.args.normal.now in
    let Q : Description = described c.setup.result (tables_say v.tables) in
    reads_then (left_in g.B.Read.remaining c.args.reader.now.script) (left_in g.B.Read.remaining c.sightings.reader.script) (left_in g.B.Read.remaining c.next.new.self.script) c.next.new.self.silence i.0 i.2
    (c.in_ok-marked.ensures.ended c.in_default.is)
    (λ events are P reached.
    let alike = set_up_alike v c.setup.result P c.setup.ensures.normal c.setup.ensures.parts c.setup.result.own_address reached in
    c.in_ok-end_first.ensures P Q (description_in v) events i.0 alike are (i.1 Q c.in_ok-watch.ensures) i.3)
