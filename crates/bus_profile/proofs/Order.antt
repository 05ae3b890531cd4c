-- The places of a tree's checks rise, so that the first check that fails has the least place.
use Rattle.std.proofs.Common.{◌≡◌, ℕ, suc, Bool, List, [], ◌∷◌, ◌++◌, map, Option, Some, Result, Ok, Err, IfOk, IfErr}
use Rattle.toml.specs.Data.{Data, string, integer, float, boolean, datetime, array, table, Items, no_items, item, Members}
use Rattle.bus_profile.specs.declared.fault.Key.TheVariants as key
use Rattle.bus_profile.specs.declared.fault.Part.{Part}
use Rattle.bus_profile.specs.declared.fault.Part.TheVariants.{Root, Rule, Mode, Initial}
use Rattle.bus_profile.specs.declared.fault.ProfileFault.{ProfileFault}
use Rattle.bus_profile.specs.declared.fault.ProfileFault.TheVariants.{NotToml, UnknownKey, Missing, WrongKind, OutOfRange, BadRanges, TooMany, RequiredCode, Memory}
use Rattle.bus_legal.specs.declared.profile.Profile.{Profile}
use Rattle.bus_profile.specs.Checks.{Check, first_fault}
use Rattle.bus_profile.specs.Keys.{KeyRow, setting_rows, rules_key, modes_key, initials_key, rule_rows, mode_rows, subaddress_row, at_row, words_row, initial_rows}
use Rattle.bus_profile.specs.Kinds.{found, value, items, is_too_long}
use Rattle.bus_profile.specs.Faults.{key_checks, row_checks, array_checks, each_item, entry_checks, rule_checks, mode_checks, initial_checks, word_checks, words_checks, goes_beyond, entries_checks, key_faults, code_faults, faults}
use Rattle.bus_profile.specs.inner.FirstFault.{ReadsInMemory}
use Rattle.bus_legal.specs.Plain.{plain}
use Rattle.bus_profile.specs.Gives.{profile_of}
use Rattle.bus_profile.specs.Read.{IsTree, Accepts, HasFirst, Refuses}
use Rattle.bus_profile.proofs.Least.{Rises, AllRise, in_order_rises, IsFirst-from, HasNoFault-from, first_fault-tree}

-- ---- keys and arrays

-- The places of one check, `(tt, tt, ..)`, rise, and its fault is one of a tree.
key_rises : (part : Part) (row : KeyRow) (d : Option Data) → Rises (key_checks part row d)
key_rises part row d = in_order_rises _ ((tt, tt, λ e. cc), ((tt, tt, λ e. cc), ((tt, tt, λ e. cc), ((tt, tt, λ e. cc), tt))))

rows_rise : (part : Part) (ms : Members) (rows : List KeyRow) (more : List (List Check)) → AllRise more → AllRise (map (row_checks part ms) rows ++ more)
rows_rise part ms [] more a = a
rows_rise part ms (row ∷ rows) more a = (key_rises part row (found row.key ms), rows_rise part ms rows more a)

items_rise : (checks : ℕ → Data → List Check) → ((n : ℕ) (d : Data) → Rises (checks n d)) → (n : ℕ) (ds : Items) → AllRise (each_item checks n ds)
items_rise checks each n no_items = tt
items_rise checks each n (item d ds) = (each n d, items_rise checks each (suc n) ds)

array_rises : (part : Part) (row : KeyRow) (is_long : Items → Bool) (checks : ℕ → Data → List Check) → ((n : ℕ) (d : Data) → Rises (checks n d)) → (ms : Members) → Rises (array_checks part row is_long checks ms)
unfolding array_checks
array_rises part row is_long checks each ms =
    in_order_rises _ (in_order_rises _ (key_rises part row (found row.key ms), ((tt, tt, λ e. cc), tt)), items_rise checks each 1 (items (value row ms)))

-- ---- entries

entry_rises : (part : Part) (row : KeyRow) (rows : List KeyRow) (keys : Members → List (List Check)) → ((ms : Members) → AllRise (keys ms)) → (d : Data) → Rises (entry_checks part row rows keys d)
unfolding entry_checks
entry_rises part row rows keys each (table ms) = in_order_rises _ ((tt, tt, λ e. cc), ((tt, tt, λ e. cc), each ms))
entry_rises part row rows keys each _ = in_order_rises _ ((tt, tt, λ e. cc), tt)

rule_rises : (n : ℕ) (d : Data) → Rises (rule_checks n d)
rule_rises n d = entry_rises (Rule n) rules_key rule_rows (λ ms. map (row_checks (Rule n) ms) rule_rows) (λ ms. rows_rise (Rule n) ms rule_rows [] tt) d

mode_rises : (n : ℕ) (d : Data) → Rises (mode_checks n d)
mode_rises n d = entry_rises (Mode n) modes_key mode_rows (λ ms. map (row_checks (Mode n) ms) mode_rows) (λ ms. rows_rise (Mode n) ms mode_rows [] tt) d

word_rises : (part : Part) (d : Data) → Rises (word_checks part d)
word_rises part d = in_order_rises _ ((tt, tt, λ e. cc), ((tt, tt, λ e. cc), tt))

words_rise : (part : Part) (ms : Members) → Rises (words_checks part ms)
words_rise part ms = array_rises part words_row (goes_beyond (value at_row ms)) (λ _. word_checks part) (λ _. word_rises part) ms

initial_rises : (n : ℕ) (d : Data) → Rises (initial_checks n d)
initial_rises n d =
    entry_rises (Initial n) initials_key initial_rows (λ ms. row_checks (Initial n) ms subaddress_row ∷ row_checks (Initial n) ms at_row ∷ words_checks (Initial n) ms ∷ [])
    (λ ms. (key_rises (Initial n) subaddress_row (found key.Subaddress ms), (key_rises (Initial n) at_row (found key.At ms), (words_rise (Initial n) ms, tt)))) d

-- ---- the tree

entries_rise : (row : KeyRow) (checks : ℕ → Data → List Check) → ((n : ℕ) (d : Data) → Rises (checks n d)) → (ms : Members) → Rises (entries_checks row checks ms)
entries_rise row checks each ms = array_rises Root row (is_too_long row.kind) checks each ms

key_faults_rise : (ms : Members) → Rises (key_faults ms)
unfolding key_faults
key_faults_rise ms =
    in_order_rises _ (
      (tt, tt, λ e. cc),
      rows_rise Root ms setting_rows (entries_checks rules_key rule_checks ms ∷ entries_checks modes_key mode_checks ms ∷ entries_checks initials_key initial_checks ms ∷ [])
          (entries_rise rules_key rule_checks rule_rises ms, (entries_rise modes_key mode_checks mode_rises ms, (entries_rise initials_key initial_checks initial_rises ms, tt))),
    )

code_faults_rise : (ms : Members) → Rises (code_faults ms)
unfolding code_faults
code_faults_rise ms = in_order_rises _ ((tt, tt, λ e. cc), ((tt, tt, λ e. cc), ((tt, tt, λ e. cc), ((tt, tt, λ e. cc), tt))))

faults_rise : (ms : Members) → Rises (faults ms)
unfolding faults
faults_rise ms = in_order_rises _ (key_faults_rise ms, (code_faults_rise ms, tt))

-- ---- what the reader of a tree answers, said of its text

pub accepts : (text : List ℕ) (tree : Members) (r : Result Profile ProfileFault) → IsTree text tree → ReadsInMemory plain (first_fault (faults tree)) (profile_of tree) r → IfOk r (Accepts text)
accepts text tree (Ok profile) is reads = record { tree = tree; is = is; faultless = HasNoFault-from (faults tree) reads.0; gives = reads.1 }
accepts text tree (Err fault) is reads = tt

has_first : (text : List ℕ) (tree : Members) (fault : ProfileFault) → IsTree text tree → first_fault (faults tree) ≡ Some fault → HasFirst text fault
has_first text tree fault is e = record { tree = tree; is = is; first = IsFirst-from (faults tree) fault (faults_rise tree) e }

pub refuses : (text : List ℕ) (tree : Members) (r : Result Profile ProfileFault) → IsTree text tree → ReadsInMemory plain (first_fault (faults tree)) (profile_of tree) r → IfErr r (Refuses text)
refuses text tree (Ok profile) is reads = tt
refuses text tree (Err Memory) is reads = tt
refuses text tree (Err NotToml) is reads = absurd (first_fault-tree (faults tree) (faults_rise tree) (reads (λ e. cc)))
refuses text tree (Err (UnknownKey a)) is reads = has_first text tree _ is (reads (λ e. cc))
refuses text tree _ is reads = has_first text tree _ is (reads (λ e. cc))
