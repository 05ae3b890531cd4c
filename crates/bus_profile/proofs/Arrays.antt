-- Arrays as wholes: how many items they have, and the fault of one that is too long.
use Rattle.std.proofs.Common.{◌≡◌, ℕ, suc, ◌+◌, ◌-◌, ◌&&◌, nat_le, nat_lt, Bool, true, false, cond, pos, negsuc, List, [], ◌∷◌, length, Option, Some, None, is_none, refl, ap, arith}
use Rattle.std.proofs.lemmas.Bool.Decides.{nat_tests}
use Rattle.std.proofs.lemmas.Option.{same_Some}
use Rattle.toml.specs.Data.{Data, string, integer, float, boolean, datetime, array, as_array, table, Items, no_items, Members}
use Rattle.toml.specs.View.{items_view}
use Rattle.toml.specs.declared.value.Value.{Value}
use Rattle.bus_profile.specs.declared.fault.Key.{Key}
use Rattle.bus_profile.specs.declared.fault.Key.TheVariants.{At, Words}
use Rattle.bus_profile.specs.declared.fault.Part.{Part}
use Rattle.bus_profile.specs.declared.fault.ProfileFault.{ProfileFault}
use Rattle.bus_profile.specs.declared.fault.ProfileFault.TheVariants.{TooMany}
use Rattle.bus_profile.specs.Checks.{check, in_order, first_fault}
use Rattle.bus_profile.specs.Keys.{key_row, tables, optional, at_row, words_row}
use Rattle.bus_profile.specs.Kinds.{found, or_default, value, whole_in, count_items, is_too_long}
use Rattle.bus_profile.specs.Faults.{key_checks, row_checks, goes_beyond}
use Rattle.bus_profile.specs.inner.FirstWord.{IsFirstWord}

pub count_items-view : (vs : List Value) → count_items (items_view vs) ≡ length vs
count_items-view [] = refl
count_items-view (v ∷ vs) = ap suc (count_items-view vs)

-- a value with items is an array
pub array_here : (o : Option Data) (d : Data) (ds : Items) → Some d ≡ o → Some ds ≡ as_array d → Some (array ds) ≡ o
array_here o (array es) ds e f = rw (same_Some _ _ f) e
array_here o _ ds e f = absurd (cc)

-- an array has no fault as a whole but that it is too long
pub entries_head : (part : Part) (k : Key) (ds : Items) (b : Bool)
    → first_fault (in_order (key_checks part (key_row k (tables 256) (optional (array no_items))) (Some (array ds)) ∷ check (TooMany part k) b ∷ [])) ≡ cond b (Some (TooMany part k)) None
unfolding in_order
entries_head part k ds b = refl

pub words_head : (part : Part) (ds : Items) (b : Bool)
    → first_fault (in_order (key_checks part words_row (Some (array ds)) ∷ check (TooMany part Words) b ∷ [])) ≡ cond b (Some (TooMany part Words)) None
unfolding in_order
words_head part ds b = refl

-- an array of so many items is too long, or isn't
pub is_too_long-view : (vs : List Value) → is_too_long (tables 256) (items_view vs) ≡ nat_lt 256 (length vs)
is_too_long-view vs = rw (count_items-view vs)

pub goes_beyond-view : (first : ℕ) (at : Option Data) (vs : List Value) → IsFirstWord first at → goes_beyond at (items_view vs) ≡ nat_lt 32 (first - 1 + length vs)
goes_beyond-view first at vs place = rw (place.beyond (items_view vs), count_items-view vs)

-- ---- where the words begin

pub range_of : (b : Bool) (n : ℕ) (f : ProfileFault) → cond (is_none (cond b (Some n) None)) (Some f) None ≡ None → b ≡ true
range_of true n f e = refl
range_of false n f e = absurd (cc)

found_place : (part : Part) (d : Option Data) → first_fault (key_checks part at_row d) ≡ None → IsFirstWord (whole_in (or_default at_row.presence d)) (or_default at_row.presence d)
unfolding in_order
found_place part None e = record { low = omega arith; high = omega arith; beyond = λ ds. refl }
found_place part (Some (integer (pos n))) e =
    let inside : (nat_le 1 n && nat_le n 32) ≡ true = range_of (nat_le 1 n && nat_le n 32) n _ e in
    record { low = grind (arith, nat_tests); high = grind (arith, nat_tests); beyond = λ ds. rw inside }
found_place part _ e = absurd (cc)

pub place_of : (part : Part) (ms : Members) (first : ℕ) → first_fault (row_checks part ms at_row) ≡ None → first ≡ whole_in (value at_row ms) → IsFirstWord first (value at_row ms)
place_of part ms first e is = rw is (found_place part (found At ms) e)
