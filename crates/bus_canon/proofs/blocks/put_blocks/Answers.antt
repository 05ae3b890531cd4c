use Rattle.std.proofs.Common.{◌≡◌, ◌+◌, ◌++◌, ◌∷◌, [], drop, get_or, arith, append_assoc, append-nil, refl, ◌∙◌, sym}
use Rattle.std.proofs.lemmas.List.{drop_more, drop_all}
use Rattle.line_format.specs.Format.{Spells}
use Rattle.bus_canon.specs.Canon.{blocks}
use Rattle.bus_canon.proofs.BlockLaws.{blocks_on, blocks_none}
use Rattle.bus_canon.proofs.blocks.put_blocks.Goals as goal

pub loop-index-init : goal.loop-index-init
loop-index-init c = λ tail h. (tail, refl, h)

pub loop-index-preserved : goal.loop-index-preserved
loop-index-preserved c = λ tail h.
    let at = c.loop-index.index in
    let masks = c.args.masks.now in
    let words = c.args.words.now in
    let (line, is, spells) = c.in_ok-put_block.ensures in
    let front : drop at masks ≡ get_or masks at 0 ∷ drop (at + 1) masks = drop_more masks at 0 (omega (arith, c.told-masks)) in
    let front_words : drop at words ≡ get_or words at [] ∷ drop (at + 1) words = drop_more words at [] (omega (arith, c.told-words)) in
    let on : Spells (blocks (at + 1) (drop at masks)) (drop at words) (line ++ tail) =
    blocks_on (at + 1) (get_or masks at 0) (drop at masks) (drop (at + 1) masks) (get_or words at []) (drop (at + 1) words) (drop at words) line tail front front_words spells h in
    let (bytes, all, whole) = c.loop-index.invariant (line ++ tail) on in
    (bytes, rw (is, append_assoc) all, whole)

pub returns : goal.returns
returns c =
    let at = c.loop-index.index in
    let nil : drop at c.args.masks.now ≡ [] = drop_all at c.args.masks.now (omega (arith, c.told-masks)) in
    let nil_words : drop at c.args.words.now ≡ [] = drop_all at c.args.words.now (omega (arith, c.told-words)) in
    let (bytes, all, whole) = c.loop-index.invariant [] (blocks_none (at + 1) (drop at c.args.masks.now) (drop at c.args.words.now) nil nil_words) in
    (bytes, sym (append-nil c.loop-index.out.items) ∙ all, whole)
