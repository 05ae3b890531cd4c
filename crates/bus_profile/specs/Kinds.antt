-- What a value of each kind of key is, when it is out of range, and what it gives.
use Rattle.std.specs.Prelude.{ℕ, suc, ◌-◌, ◌^◌, nat_le, nat_lt, Bool, true, false, not, ◌&&◌, if◌then◌else◌, ℤ, pos, negsuc, List, [], ◌∷◌, Option, Some, None, is_none, Result, Err}
use Rattle.std.specs.List.{list_any}
use Rattle.std.specs.Option.{option_or}
use Rattle.std.specs.Str.{bytes_eq}
use Rattle.std.specs.Result.{result_unwrap_or}
use Rattle.bus_word.specs.Command.{wraparound_subaddress}
use Rattle.toml.specs.Data.{Data, string, integer, boolean, array, Items, no_items, item, Members, no_members, member, get_member}
use Rattle.bus_profile.specs.declared.ranges.RangeFault.{RangeFault}
use Rattle.bus_profile.specs.declared.ranges.RangeFault.TheVariants.{Syntax, Bounds}
use Rattle.bus_profile.specs.declared.fault.Key.{Key}
use Rattle.bus_profile.specs.Keys.{ValueKind, truth, whole, truth_or_whole, choice, ranges, numbers, tables, Presence, required, optional, KeyRow, key_name}
use Rattle.bus_profile.specs.RangesOf.{ranges_of}

-- ---- the keys of a table

-- the value of a key, where it is there
abbrev pub found : Key → Members → Option Data
found key ms = get_member (key_name key) ms

-- the names of all keys of a table, as they are written
abbrev pub names_of : Members → List (List ℕ)
names_of no_members = []
names_of (member name d ms) = name ∷ names_of ms

-- the name is that of one of these keys
abbrev pub is_known : List Key → List ℕ → Bool
is_known keys name = list_any (λ key. bytes_eq (key_name key) name) keys

-- the table has a key that is none of these
abbrev pub has_unknown : List Key → Members → Bool
has_unknown keys ms = list_any (λ name. not (is_known keys name)) (names_of ms)

-- ---- the values of a kind

-- the value is of the type that the key takes, whatever its range
abbrev pub is_of_kind : ValueKind → Data → Bool
is_of_kind truth (boolean b) = true
is_of_kind (whole low high) (integer z) = true
is_of_kind (truth_or_whole low high) (boolean b) = true
is_of_kind (truth_or_whole low high) (integer z) = true
is_of_kind (choice texts) (string s) = true
is_of_kind (ranges low high) (string s) = true
is_of_kind (ranges low high) (integer z) = true
is_of_kind (numbers low high) (array ds) = true
is_of_kind (tables most) (array ds) = true
is_of_kind _ _ = false

-- the whole number, where it is in the range
abbrev pub in_range : ℕ → ℕ → ℤ → Option ℕ
in_range low high (pos n) = if nat_le low n && nat_le n high then Some n else None
in_range low high (negsuc n) = None

-- the text was refused since it is no list of ranges
abbrev pub is_syntax : Result ℕ RangeFault → Bool
is_syntax (Err Syntax) = true
is_syntax _ = false

-- the text was refused since some range falls or leaves the bounds
abbrev pub is_bounds : Result ℕ RangeFault → Bool
is_bounds (Err Bounds) = true
is_bounds _ = false

-- a text where ranges should stand, and it is none
abbrev pub is_bad_ranges : ValueKind → Data → Bool
is_bad_ranges (ranges low high) (string s) = is_syntax (ranges_of low high s)
is_bad_ranges _ _ = false

-- a value of the kind that is out of its range; what an array holds is looked at item by item
abbrev pub is_out_of_range : ValueKind → Data → Bool
is_out_of_range (whole low high) (integer z) = is_none (in_range low high z)
is_out_of_range (truth_or_whole low high) (integer z) = is_none (in_range low high z)
is_out_of_range (choice texts) (string s) = not (list_any (bytes_eq s) texts)
is_out_of_range (ranges low high) (string s) = is_bounds (ranges_of low high s)
is_out_of_range (ranges low high) (integer z) = is_none (in_range low high z)
is_out_of_range _ _ = false

-- what each item of an array of numbers is to be
abbrev pub item_kind : ValueKind → ValueKind
item_kind (numbers low high) = whole low high
item_kind kind = kind

-- how many items an array has
abbrev pub count_items : Items → ℕ
count_items no_items = 0
count_items (item d ds) = suc (count_items ds)

-- an array of more tables than it may hold
abbrev pub is_too_long : ValueKind → Items → Bool
is_too_long (tables most) ds = nat_lt most (count_items ds)
is_too_long _ ds = false

-- ---- what a value gives

-- the value that holds for a key: what stands there, or the default
abbrev pub or_default : Presence → Option Data → Option Data
or_default required d = d
or_default (optional default) d = option_or d (Some default)

-- the value that holds for a key in this table: its own, or the default
abbrev pub value : KeyRow → Members → Option Data
value row ms = or_default row.presence (found row.key ms)

-- the whole number; 0 where there is no number, or one below 0
abbrev pub whole_in : Option Data → ℕ
whole_in (Some (integer (pos n))) = n
whole_in _ = 0

-- the truth value; false where there is none
abbrev pub truth_value : Option Data → Bool
truth_value (Some (boolean b)) = b
truth_value _ = false

-- A wraparound subaddress: the number that stands there, 30 for true, and 0, that is none, for false.
abbrev pub wrap_value : Option Data → ℕ
wrap_value (Some (boolean b)) = if b then wraparound_subaddress else 0
wrap_value d = whole_in d

-- the bytes of a text; none where there is no text
abbrev pub text : Option Data → List ℕ
text (Some (string s)) = s
text _ = []

-- the set of numbers, bit n - low for n
abbrev pub set_from : ℕ → ℕ → Option Data → ℕ
set_from low high (Some (integer (pos n))) = 2 ^ (n - low)
set_from low high (Some (string s)) = result_unwrap_or (ranges_of low high s) 0
set_from low high _ = 0

-- the items of an array
abbrev pub items : Option Data → Items
items (Some (array ds)) = ds
items _ = no_items
