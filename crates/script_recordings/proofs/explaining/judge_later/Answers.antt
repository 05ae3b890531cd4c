use Rattle.std.proofs.Common.{◌∙◌, arith, ◌<◌, ◌++◌, ◌∷◌, [], IfSome, List, Ok, refl, sym, subst, append_assoc, append-nil}
use Rattle.std.proofs.lemmas.Result.{err_from_is_err_and}
use Rattle.bus_legal.specs.Parts.{description_in}
use Rattle.recorded_terminal.specs.declared.watch.Marked.{Marked}
use Rattle.rt1553_verify.specs.Reader.{left_in, turns_left}
use Rattle.script_recordings.specs.inner.Reads.{IsUnlessMany, NextSeen}
use Rattle.script_recordings.proofs.ReadLaws.{PartSoFar, part_none, part_more, part_fault, memory_left}
use Rattle.script_recordings.proofs.PartLaws.{reads_then, fewer_by}
use Rattle.script_recordings.proofs.StretchLaws.{given_on, given_many, told_behind_stretches}
use Rattle.script_recordings.proofs.explaining.judge_later.Goals as goal

pub sightings-init : goal.sightings-init
sightings-init g c = ([], [], c.none-stretches.ensures, c.in_ok-watch.ensures.begun, part_none (left_in g.B.Read.remaining c.args.reader.now.script), c.new-tally.ensures, omega arith)

pub sightings-preserved-in-Some-2 : goal.sightings-preserved-in-Some-2
sightings-preserved-in-Some-2 g c =
    let i = c.sightings.invariant in
    let m = c.in-Some.marked in
    let read = part_more (left_in g.B.Read.remaining c.args.reader.now.script) (left_in g.B.Read.remaining c.sightings.reader.script) (left_in g.B.Read.remaining c.next.new.self.script) (i.0 ++ i.1) m i.4
    (subst (λ o. NextSeen (left_in g.B.Read.remaining c.sightings.reader.script) (left_in g.B.Read.remaining c.next.new.self.script) (Ok o)) c.in-Some.is c.in_ok-marked.ensures.next) in
    let fewer = subst (λ o. IfSome o (λ _. turns_left c.next.new.self.script < turns_left c.sightings.reader.script)) c.in-Some.is c.in_ok-marked.ensures.fewer in (
      i.0,
      i.1 ++ m ∷ [],
      i.2,
      given_on c.see.result _ _ (subst (IsUnlessMany c.see.result) c.in-Some-2.is c.in_ok-unless_many.ensures) c.see.ensures.sees (description_in c.args.normal.now) i.1 i.3,
      subst (PartSoFar (left_in g.B.Read.remaining c.args.reader.now.script) (left_in g.B.Read.remaining c.next.new.self.script)) (append_assoc i.0 i.1 (m ∷ [])) read,
      c.in_ok-take.ensures i.1 i.5,
      omega (arith, fewer, i.6),
    )

pub sightings-preserved : goal.sightings-preserved
sightings-preserved g c =
    let i = c.sightings.invariant in
    let m = c.in-Some.marked in
    let all : List Marked = i.0 ++ (i.1 ++ m ∷ []) in
    let read = part_more (left_in g.B.Read.remaining c.args.reader.now.script) (left_in g.B.Read.remaining c.sightings.reader.script) (left_in g.B.Read.remaining c.next.new.self.script) (i.0 ++ i.1) m i.4
    (subst (λ o. NextSeen (left_in g.B.Read.remaining c.sightings.reader.script) (left_in g.B.Read.remaining c.next.new.self.script) (Ok o)) c.in-Some.is c.in_ok-marked.ensures.next) in
    let fewer = subst (λ o. IfSome o (λ _. turns_left c.next.new.self.script < turns_left c.sightings.reader.script)) c.in-Some.is c.in_ok-marked.ensures.fewer in
    let many = given_many c.see.result _ (subst (IsUnlessMany c.see.result) c.in-None.is c.in_ok-unless_many.ensures) c.see.ensures.refused refl (description_in c.args.normal.now) i.1 i.3 in (
      all,
      [],
      c.in_ok-add-in-None.ensures i.0 (i.1 ++ m ∷ []) i.2 many (c.in_ok-take.ensures i.1 i.5),
      c.in_ok-watch-in-None.ensures.begun,
      subst (PartSoFar (left_in g.B.Read.remaining c.args.reader.now.script) (left_in g.B.Read.remaining c.next.new.self.script)) (append_assoc i.0 i.1 (m ∷ []) ∙ sym (append-nil all)) read,
      c.new-tally-in-None.ensures,
      omega (arith, fewer, i.6),
    )

pub returns-clause-fewer : goal.returns-clause-fewer
returns-clause-fewer g c = fewer_by c.next.new.self.silence (turns_left c.next.new.self.script) (turns_left c.sightings.reader.script) (turns_left c.args.reader.now.script)
    (c.in_ok-marked.ensures.fewer_parts c.in_default.is) c.sightings.invariant.6

pub returns-in_err-marked-clause-refused : goal.returns-in_err-marked-clause-refused
returns-in_err-marked-clause-refused g c =
    let i = c.sightings.invariant in
    let r = c.from_residual-in_err-marked in
    let p = err_from_is_err_and r.result r.ensures.1 in
    rw (p.1, p.2) (part_fault (left_in g.B.Read.remaining c.args.reader.now.script) (left_in g.B.Read.remaining c.sightings.reader.script) (left_in g.B.Read.remaining c.next.new.self.script) (i.0 ++ i.1) _ i.4
    c.in_err-marked.ensures.next)

pub returns-in_err-take-clause-refused : goal.returns-in_err-take-clause-refused
returns-in_err-take-clause-refused g c =
    let r = c.from_residual-in_err-take in
    let p = err_from_is_err_and r.result r.ensures.1 in
    rw (p.1, p.2) (memory_left (left_in g.B.Read.remaining c.args.reader.now.script))

pub returns-in_err-unless_many-clause-refused : goal.returns-in_err-unless_many-clause-refused
returns-in_err-unless_many-clause-refused g c =
    let r = c.from_residual-in_err-unless_many in
    let p = err_from_is_err_and r.result r.ensures.1 in
    rw (p.1, p.2) (memory_left (left_in g.B.Read.remaining c.args.reader.now.script))

pub returns-in_err-watch-in-None-clause-refused : goal.returns-in_err-watch-in-None-clause-refused
returns-in_err-watch-in-None-clause-refused g c =
    let r = c.from_residual-in_err-watch-in-None in
    let p = err_from_is_err_and r.result r.ensures.1 in
    rw (p.1, p.2) (memory_left (left_in g.B.Read.remaining c.args.reader.now.script))

pub returns-clause-judged : goal.returns-clause-judged
returns-clause-judged g c =
    let i = c.sightings.invariant in
    let D = description_in c.args.normal.now in
    reads_then (left_in g.B.Read.remaining c.args.reader.now.script) (left_in g.B.Read.remaining c.sightings.reader.script) (left_in g.B.Read.remaining c.next.new.self.script) c.next.new.self.silence (i.0 ++ i.1) i.4
    (c.in_ok-marked.ensures.ended c.in_default.is)
    (λ events are. told_behind_stretches D events i.0 i.1 c.sightings.stretches c.unjudged.result c.in_ok-last.last c.in_ok-then.field-0 are i.2 c.unjudged.ensures
    (λ rest are_rest. c.in_ok-last.ensures D rest i.1 are_rest i.3 i.5) c.in_ok-then.ensures)
