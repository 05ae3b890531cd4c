use Rattle.std.proofs.Common.{◌≡◌, ◌+◌, ◌-◌, ◌++◌, ◌∷◌, [], List, ℕ, drop, get_or, arith, append_assoc, append-nil, refl, ◌∙◌, sym}
use Rattle.std.proofs.lemmas.List.{drop_more, drop_all}
use Rattle.line_format.specs.Format.{Spells, spell_fields}
use Rattle.line_format.specs.Shapes.{decimal, mask}
use Rattle.line_format.proofs.Writes.{numbered_spelled}
use Rattle.bus_canon.specs.Canon.{masks}
use Rattle.bus_canon.proofs.MaskLaws.{masks_on, masks_none}
use Rattle.bus_canon.proofs.cell_lines.put_masks.Goals as goal

pub loop-index-init : goal.loop-index-init
loop-index-init c = λ tail h. (tail, refl, h)

pub loop-index-preserved : goal.loop-index-preserved
loop-index-preserved c = λ tail h.
    let at = c.loop-index.index in
    let table = c.args.table.now in
    let counts : ℕ = get_or table at 0 in
    let line : List ℕ = c.args.name.now ++ (spell_fields (decimal ∷ mask ∷ []) ((at + 1) ∷ counts ∷ []) ++ 10 ∷ []) in
    let back : 30 - (at + 1) ≡ 30 - at - 1 = omega arith in
    let front : drop at table ≡ counts ∷ drop (at + 1) table = drop_more table at 0 (omega (arith, c.told-table)) in
    let on : Spells (masks c.args.name.now (at + 1) (30 - at)) (drop at table) (line ++ tail) =
    rw front (masks_on c.args.name.now (at + 1) (30 - at) counts (drop (at + 1) table) line tail (omega arith) (numbered_spelled c.args.name.now (at + 1) counts (omega arith) (c.fits-table at)) (rw back at h)) in
    let (bytes, all, whole) = c.loop-index.invariant (line ++ tail) on in
    (bytes, rw (c.in_ok-put_numbered_line.ensures, append_assoc) all, whole)

pub returns : goal.returns
returns c =
    let none : 30 - c.loop-index.index ≡ 0 = omega arith in
    let nil : drop c.loop-index.index c.args.table.now ≡ [] = drop_all c.loop-index.index c.args.table.now (omega (arith, c.told-table)) in
    let (bytes, all, whole) = c.loop-index.invariant [] (rw (none, nil) (masks_none c.args.name.now (c.loop-index.index + 1))) in
    (bytes, sym (append-nil c.loop-index.out.items) ∙ all, whole)
