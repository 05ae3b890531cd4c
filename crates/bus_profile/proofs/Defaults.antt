-- The default of the word counts.
use Rattle.std.proofs.Common.{◌≡◌, Some, codes, refl}
use Rattle.toml.specs.Data.{string}
use Rattle.bus_profile.specs.Kinds.{set_from}
use Rattle.bus_profile.specs.RangesOf.{ranges_of, items_of, item_of, range_number, mask_of}

pub all_counts : set_from 1 32 (Some (string (codes "1-32"))) ≡ 4294967295
unfolding ranges_of items_of item_of range_number mask_of
all_counts = refl
