use Rattle.std.proofs.Common.{◌≡◌, ◌+◌, ◌∷◌, [], ◌∙◌, sym, arith, take, drop, get_or, refl, length-set}
use Rattle.std.proofs.lemmas.List.{take_more_set, take_all, drop_more, drop_all}
use Rattle.line_format.specs.Reading.{read}
use Rattle.line_format.specs.Views.{spot}
use Rattle.bus_canon.specs.Canon.{blocks}
use Rattle.bus_canon.proofs.Steps.{with_none, blocks_more, blocks_err, blocks_end}
use Rattle.bus_canon.proofs.blocks.blocks.Goals as goal

pub loop-index-init : goal.loop-index-init
loop-index-init c = record { left = with_none (read (blocks 1 c.args.masks.now) (spot c.args.lines)); whole = refl }

pub returns-in-Err : goal.returns-in-Err
returns-in-Err c =
    let at = c.loop-index.index in
    let front : drop at c.args.masks.now ≡ get_or c.args.masks.now at 0 ∷ drop (at + 1) c.args.masks.now = drop_more c.args.masks.now at 0 (omega (arith, c.told-masks)) in
    sym c.loop-index.invariant.left
    ∙ blocks_err (at + 1) (get_or c.args.masks.now at 0) (drop at c.args.masks.now) (drop (at + 1) c.args.masks.now) (take at c.loop-index.found) (spot c.loop-index.rest) c.in-Err.wrong.line front c.in-Err.ensures

pub loop-index-preserved : goal.loop-index-preserved
loop-index-preserved c =
    let at = c.loop-index.index in
    let front : drop at c.args.masks.now ≡ get_or c.args.masks.now at 0 ∷ drop (at + 1) c.args.masks.now = drop_more c.args.masks.now at 0 (omega (arith, c.told-masks)) in
    record {
      left =
          rw (take_more_set c.loop-index.found at c.in-Ok.read.0 (omega (arith, c.loop-index.invariant.whole)))
          (sym (blocks_more (at + 1) (get_or c.args.masks.now at 0) (drop at c.args.masks.now) (drop (at + 1) c.args.masks.now) (take at c.loop-index.found) (spot c.loop-index.rest) (spot c.in-Ok.read.1) c.in-Ok.read.0 front c.in-Ok.ensures)
          ∙ c.loop-index.invariant.left);
      whole = rw length-set c.loop-index.invariant.whole;
    }

pub returns : goal.returns
returns c =
    let at = c.loop-index.index in
    let none : drop at c.args.masks.now ≡ [] = drop_all at c.args.masks.now (omega (arith, c.told-masks)) in
    let all : take at c.loop-index.found ≡ c.loop-index.found = take_all at c.loop-index.found (omega (arith, c.loop-index.invariant.whole)) in
    sym (rw all at c.loop-index.invariant.left) ∙ blocks_end (at + 1) (drop at c.args.masks.now) c.loop-index.found (spot c.loop-index.rest) none
