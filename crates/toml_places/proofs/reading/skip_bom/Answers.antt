use Rattle.std.proofs.Common.{◌&&◌, ◌==◌, ◌≡◌, true, slice_index, arith}
use Rattle.std.proofs.lemmas.Grind.{common_steps}
use Rattle.toml.proofs.Turns.{bom_boundary}
use Rattle.toml_places.proofs.reading.skip_bom.Goals as goal

pub range_from-requires : goal.range_from-requires
range_from-requires c _ =
    let text = c.args.text.now in
    let marked : ((slice_index text 0 == 0xEF && slice_index text 1 == 0xBB) && slice_index text 2 == 0xBF) ≡ true = grind (arith, common_steps) in
    bom_boundary text c.utf8.text marked
