-- Parts within their ranges are a `Normal` just where they are their own reached part, with the required codes legal.
use Rattle.std.proofs.Common.{◌≡◌, ◌↔◌, ℕ, ◌-◌, ◌<◌, ◌^◌, Bool, true, false, cond, refl, subst, ◌∙◌, arith}
use Rattle.bus_word.specs.Cell.{is_data_place, is_allowed}
use Rattle.bus_legal.specs.Description.{word_at}
use Rattle.bus_legal.specs.Tables.{has_cell}
use Rattle.bus_legal.specs.Parts.{Parts, description_in, AreInRange, AreReached, IsNormal}
use Rattle.bus_legal.proofs.Bools.{left_of}
use Rattle.bus_legal.proofs.Made.{IsInRange, made_of, made-normal, made-reach}
use Rattle.bus_legal.proofs.NormalLaws.{reach-normal, required-legal}
use Rattle.bus_word.proofs.Places.{place_low}
use Rattle.bus_legal.proofs.SameNormals.{normal_in_range, same_in_range}

-- what such parts describe is in its ranges too
described_in_range : (v : Parts) → AreInRange v → AreReached v → IsInRange (description_in v)
described_in_range v range reached = record {
  address = range.address;
  wrap = range.wrap;
  vector = range.vector;
  bit = range.bit;
  words = λ s i. small s i (is_data_place s i) refl;
  allowed = λ cell e. left_of (is_allowed cell) (has_cell v.tables cell) e;
  required = reached.required;
}
  where
    small : (s i : ℕ) (t : Bool) → is_data_place s i ≡ t → cond t (word_at v.initial s i) 0 < 2 ^ 16
    small s i true place = (range.words.blocks (s - 1) (place_low s i place)).fit (i - 1)
    small s i false place = omega arith

reached-is_normal : (v : Parts) → AreInRange v → AreReached v → IsNormal v
reached-is_normal v range reached =
    let P = description_in v in
    let is = described_in_range v range reached in
    let made = made-normal P is in
    subst IsNormal (same_in_range (made_of P) v (normal_in_range (made_of P) made) range (made-reach P is ∙ reached.whole)) made

pub normals_reached : (v : Parts) → AreInRange v → IsNormal v ↔ AreReached v
normals_reached v range = (λ is. record { whole = reach-normal v is; required = required-legal v is }, reached-is_normal v range)
