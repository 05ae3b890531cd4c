use Rattle.std.proofs.Common.{◌++◌, ◌∙◌, ◌+◌, sym, ap, refl, arith, flat_map, []}
use Rattle.script_lines.specs.Text.{lines_of}
use Rattle.bus_script.specs.Reading.{adds, nothing}
use Rattle.rt1553_expand.specs.Expansion.{placing, expansion_of, expanded_events, expanded_lines, spelled}
use Rattle.rt1553_expand.specs.inner.StillLeft.{left_of}
use Rattle.rt1553_expand.specs.inner.Added.{whole}
use Rattle.rt1553_expand.proofs.ReadLaws.{line-no_feed, read-start, read-end}
use Rattle.rt1553_expand.proofs.PlacingLaws.{come-start, placing-on, placing-none, text-end}
use Rattle.rt1553_expand.proofs.ExpandLaws.{lists-on, lists-all, count-on, count-all, all-read}
use Rattle.rt1553_expand.proofs.expanding.script_of.Goals as goal

pub loop-rest-init : goal.loop-rest-init
loop-rest-init c =
    let e = c.nothing_pending.ensures in
    record {
      few = omega arith;
      fits = e.fits;
      number = omega arith;
      text = ap (flat_map spelled) (sym (come-start (left_of c.nothing_pending.result) (placing c.args.own.now 1 (lines_of c.args.text.now)) e.nothing e.stale))
          ∙ ap (λ t. whole t (left_of c.nothing_pending.result) (placing c.args.own.now 1 (lines_of c.args.text.now))) (sym c.new.ensures.items);
      count = omega arith;
      read = λ _. ([], refl, read-start _ _ _ c.new.ensures.items e.nothing refl);
    }

pub loop-rest-preserved : goal.loop-rest-preserved
loop-rest-preserved c =
    let i = c.loop-rest.invariant in
    let rest = c.loop-rest.rest.now in
    let line = c.first_line.result.0.now in
    let more = c.first_line.result.1.now in
    let first = c.first_line.ensures.lines in
    let a = c.in_ok-add_line.ensures.added c.if-not-branch.false in
    record {
      few = a.few;
      fits = a.fits;
      number = omega (arith, i.number, c.first_line.ensures.shorter);
      text = i.text
          ∙ ap (whole c.loop-rest.script.text.items (left_of c.loop-rest.script.pending)) (placing-on c.args.own.now c.loop-rest.number rest line more first)
          ∙ a.text (placing c.args.own.now (c.loop-rest.number + 1) (lines_of more));
      count = count-on (λ l. expanded_lines (expansion_of c.args.own.now l)) rest line more _ _ _ first a.lines i.count;
      read = λ one. (
        (i.read one).0 ++ expanded_events (expansion_of c.args.own.now line),
        lists-on (λ l. expanded_events (expansion_of c.args.own.now l)) rest line more (i.read one).0 _ _ first refl (i.read one).1,
        a.reads one (line-no_feed rest line (lines_of more) first) (i.read one).0 (i.read one).2,
      );
    }

pub returns-clause-text : goal.returns-clause-text
returns-clause-text c =
    let i = c.loop-rest.invariant in
    sym (i.text
    ∙ ap (whole c.loop-rest.script.text.items (left_of c.loop-rest.script.pending)) (placing-none c.args.own.now c.loop-rest.number c.loop-rest.rest.now (grind arith))
    ∙ text-end (left_of c.loop-rest.script.pending) _ _ c.in_ok-push_left.ensures.bytes)

pub returns-clause-count : goal.returns-clause-count
returns-clause-count c =
    let all = count-all (λ l. expanded_lines (expansion_of c.args.own.now l)) c.loop-rest.rest.now c.loop-rest.script.lines _ (grind arith) c.loop-rest.invariant.count in
    omega (arith, all, c.loop-rest.invariant.few)

pub returns-clause-read : goal.returns-clause-read
returns-clause-read c = λ one.
    let i = c.loop-rest.invariant in
    let read = i.read one in
    all-read _ read.0 c.loop-rest.script.lines (read-end _ _ _ _ _ c.in_ok-push_left.ensures i.few read.2)
    ∙ ap (λ es. adds es nothing) (lists-all (λ l. expanded_events (expansion_of c.args.own.now l)) c.loop-rest.rest.now read.0 _ (grind arith) read.1)
