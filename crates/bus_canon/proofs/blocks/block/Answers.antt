use Rattle.std.proofs.Common.{◌≡◌, ◌-◌, ◌++◌, ◌∙◌, ap, sym, ℕ, List, take, length, length-take-le, replicate, Ok, codes}
use Rattle.std.proofs.lemmas.List.{drop-replicate}
use Rattle.bus_legal.specs.Tables.{largest_in}
use Rattle.line_format.specs.Reading.{read}
use Rattle.line_format.specs.Shapes.{words_line}
use Rattle.line_format.specs.Views.{spot}
use Rattle.bus_canon.proofs.Steps.{block_none, block_some, block_err}
use Rattle.bus_canon.proofs.blocks.block.Goals as goal

pub returns-then-counts-eq0 : goal.returns-then-counts-eq0
returns-then-counts-eq0 c = block_none c.args.subaddress c.args.counts (spot c.args.lines) c.if-counts-eq0.true

pub returns-in-Ok : goal.returns-in-Ok
returns-in-Ok c =
    let count = c.largest_count.result in
    let long : length (take count (replicate 32 0)) ≡ largest_in c.args.counts = length-take-le count (replicate 32 0) c.largest_count.ensures.room ∙ c.largest_count.ensures.count in
    block_some c.args.subaddress c.args.counts (spot c.args.lines) (spot c.in-Ok.behind) c.words_line.new.to c.if-counts-eq0.false
    (ap (λ k. read (words_line (codes "initial") c.args.subaddress k) (spot c.args.lines)) (sym long) ∙ c.in-Ok.ensures)
    ∙ ap (λ (ws : List ℕ). Ok (c.words_line.new.to ++ ws, spot c.in-Ok.behind)) (ap (λ k. replicate (32 - k) 0) (sym c.largest_count.ensures.count) ∙ sym (drop-replicate count 32 0))

pub returns-in-Err : goal.returns-in-Err
returns-in-Err c =
    let count = c.largest_count.result in
    let long : length (take count (replicate 32 0)) ≡ largest_in c.args.counts = length-take-le count (replicate 32 0) c.largest_count.ensures.room ∙ c.largest_count.ensures.count in
    block_err c.args.subaddress c.args.counts (spot c.args.lines) c.in-Err.wrong.line c.if-counts-eq0.false
    (ap (λ k. read (words_line (codes "initial") c.args.subaddress k) (spot c.args.lines)) (sym long) ∙ c.in-Err.ensures)
