use Rattle.std.proofs.Common.{◌≡◌, ◌+◌, ◌-◌, ◌++◌, [], codes, arith, subst, ap, append_assoc, append-nil, refl, ◌∙◌, sym}
use Rattle.line_format.specs.Format.{Spells}
use Rattle.line_format.specs.Shapes.{words_line}
use Rattle.terminal_state.specs.Held.{block_in}
use Rattle.rt1553_live.specs.State.{held_from}
use Rattle.rt1553_live.specs.Text.{held_lines}
use Rattle.rt1553_live.proofs.HeldLaws.{held_on, held_none, held_from-suc}
use Rattle.rt1553_live.proofs.held_lines.put_held.Goals as goal

pub loop-index-init : goal.loop-index-init
loop-index-init c = λ tail h. (tail, refl, h)

pub loop-index-preserved : goal.loop-index-preserved
loop-index-preserved c = λ tail h.
    let at = c.loop-index.index in
    let held = c.args.held.now in
    let (line, is, spells) = c.in_ok-put_words_line.ensures in
    let back : 30 - (at + 1) ≡ 30 - at - 1 = omega arith in
    let number : c.from.result + 1 ≡ at + 1 = ap (λ n. n + 1) c.from.ensures in
    let here : Spells (words_line (codes "held") (at + 1) 32) (block_in held (at + 1)) line =
    subst (λ n. Spells (words_line (codes "held") n 32) (block_in held (at + 1)) line) number
    (subst (λ ws. Spells (words_line (codes "held") (c.from.result + 1) 32) ws line) c.block.ensures.words
    (subst (λ n. Spells (words_line (codes "held") (c.from.result + 1) n) c.block.result.now line) c.block.ensures.len spells)) in
    let on : Spells (held_lines (at + 1) (30 - at)) (held_from held (at + 1) (30 - at)) (line ++ tail) =
    subst (λ v. Spells (held_lines (at + 1) (30 - at)) v (line ++ tail)) (sym (held_from-suc held (at + 1) (30 - at) (omega arith)))
    (held_on (at + 1) (30 - at) (block_in held (at + 1)) (held_from held (at + 1 + 1) (30 - at - 1)) line tail (omega arith) here (rw back at h)) in
    let (bytes, all, whole) = c.loop-index.invariant (line ++ tail) on in
    (bytes, rw (is, append_assoc) all, whole)

pub returns : goal.returns
returns c =
    let none : 30 - c.loop-index.index ≡ 0 = omega arith in
    let (bytes, all, whole) = c.loop-index.invariant [] (subst (λ k. Spells (held_lines (c.loop-index.index + 1) k) (held_from c.args.held.now (c.loop-index.index + 1) k) []) (sym none) (held_none (c.loop-index.index + 1))) in
    (bytes, sym (append-nil c.loop-index.out.items) ∙ all, whole)
