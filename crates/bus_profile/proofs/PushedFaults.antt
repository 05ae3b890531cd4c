-- What the functions have pushed that add faults to a list, one after the other.
use Rattle.std.proofs.Common.{◌≡◌, ◌<◌, ◌≤◌, ℕ, suc, ◌+◌, ◌-◌, ◌==◌, nat_le, nat_lt, Bool, true, false, not, ◌&&◌, cond, pos, negsuc, List, [], ◌∷◌, ◌++◌, length, get_or, drop, map, Option, Some, None, is_none, is_some, Result, Ok, Err, refl, ap, ◌∙◌, sym, append_assoc, append-nil, arith}
use Rattle.std.proofs.Math.Bool.{and-false}
use Rattle.std.proofs.lemmas.Bool.Decides.{nat_tests}
use Rattle.std.specs.List.{list_all, flat_map}
use Rattle.toml.specs.Data.{Data, string, integer, float, boolean, datetime, array, table, Items, no_items, Members}
use Rattle.std.proofs.lemmas.List.{drop_more}
use Rattle.toml.proofs.Views.{items_view-drop}
use Rattle.toml.specs.View.{view, items_view}
use Rattle.toml.specs.declared.value.Value.{Value}
use Rattle.bus_profile.specs.declared.entry_faults.EntryKind.{EntryKind}
use Rattle.bus_profile.specs.declared.entry_faults.EntryKind.TheVariants as kind
use Rattle.bus_legal.specs.declared.entries.ModeRule.{ModeRule}
use Rattle.bus_profile.specs.declared.fault.Key.{Key}
use Rattle.bus_profile.specs.declared.fault.Key.TheVariants.{Subaddress, At}
use Rattle.bus_profile.specs.declared.fault.Part.{Part}
use Rattle.bus_profile.specs.declared.fault.Part.TheVariants.{Root, Initial}
use Rattle.bus_profile.specs.declared.fault.ProfileFault.{ProfileFault}
use Rattle.bus_profile.specs.declared.fault.ProfileFault.TheVariants.{UnknownKey, WrongKind, BadRanges, OutOfRange, TooMany, RequiredCode}
use Rattle.bus_profile.specs.declared.ranges.RangeFault.{RangeFault}
use Rattle.bus_profile.specs.declared.ranges.RangeFault.TheVariants.{Syntax, Bounds}
use Rattle.bus_profile.specs.AllFaults.{failing, is_long, HasShortArrays, told_array, told_keys, told_faults, rows_at}
use Rattle.bus_profile.specs.Checks.{Check, under, numbered, in_order, first_fault}
use Rattle.bus_profile.specs.Faults.{is_required, key_checks, row_checks, head_checks, array_checks, each_item, entry_checks, word_checks, words_checks, goes_beyond, entries_checks, rule_checks, mode_checks, initial_checks, key_faults, all_pass, code_faults, faults}
use Rattle.bus_profile.specs.Keys.{ValueKind, truth, whole, truth_or_whole, choice, ranges, numbers, tables, required, optional, KeyRow, key_row, keys_of, setting_rows, root_rows, rules_key, modes_key, initials_key, initial_rows, subaddress_row, at_row, words_row}
use Rattle.bus_profile.specs.Kinds.{found, or_default, value, items, has_unknown, is_of_kind, is_bad_ranges, is_out_of_range, is_syntax, is_bounds, is_too_long, count_items}
use Rattle.bus_profile.specs.Gives.{modes_of}
use Rattle.bus_legal.specs.OwnCodes.{is_own_code_legal}
use Rattle.bus_profile.specs.RangesOf.{ranges_of}
use Rattle.bus_profile.specs.inner.AllFaults.{failing_parts, present, row_of, array_row, part_of, key_rows_of, keys_in, checks_of, unknown_told, array_told, key_told, keys_told, code_told, codes_told}
use Rattle.bus_profile.proofs.Arrays.{is_too_long-view}
use Rattle.bus_profile.proofs.AllFaults.{array_failing, failing-in_order, head_failing, initial_failing, long-view, row_failing, table_failing, there, told_array-long, told_array-short, told_codes, told_keys-alone, told_where, word_failing}

-- ---- lists that grow

pub next : (old mid new more last : List ProfileFault) → mid ≡ old ++ more → new ≡ mid ++ last → new ≡ old ++ (more ++ last)
next old mid new more last h k = k ∙ (ap (λ fs. fs ++ last) h ∙ append_assoc old more last)

pub grown : (old mid more last all : List ProfileFault) → mid ≡ old ++ more → more ++ last ≡ all → mid ++ last ≡ old ++ all
grown old mid more last all h k = ap (λ fs. fs ++ last) h ∙ (append_assoc old more last ∙ ap (λ fs. old ++ fs) k)

-- ---- what the tables of entries tell

pub rule_told : (k : EntryKind) (n : ℕ) (p : Part) (u : Option ProfileFault) (ms : Members) → k ≡ kind.Rule → p ≡ part_of k n → u ≡ unknown_told p (rows_at p) ms
    → present u ++ keys_told p ms (Key.To ∷ Key.Direction ∷ Key.Subaddresses ∷ Key.Counts ∷ Key.Legal ∷ []) ≡ failing (checks_of k n (table ms))
rule_told k n p u ms is here unknown = rw (unknown, here, is) (sym (table_failing kind.Rule n ms))

pub mode_told : (k : EntryKind) (n : ℕ) (p : Part) (u : Option ProfileFault) (ms : Members) → k ≡ kind.Mode → p ≡ part_of k n → u ≡ unknown_told p (rows_at p) ms
    → present u ++ keys_told p ms (Key.To ∷ Key.Codes ∷ Key.Legal ∷ []) ≡ failing (checks_of k n (table ms))
mode_told k n p u ms is here unknown = rw (unknown, here, is) (sym (table_failing kind.Mode n ms))

pub initial_told : (k : EntryKind) (n : ℕ) (p : Part) (u : Option ProfileFault) (ms : Members) → k ≡ kind.Initial → p ≡ part_of k n → u ≡ unknown_told p (rows_at p) ms
    → (present u ++ keys_told p ms (Subaddress ∷ At ∷ [])) ++ failing (words_checks p ms) ≡ failing (checks_of k n (table ms))
initial_told k n p u ms is here unknown =
    rw (unknown, here, is) (append_assoc (present (unknown_told (Initial n) initial_rows ms)) (keys_told (Initial n) ms (Subaddress ∷ At ∷ [])) (failing (words_checks (Initial n) ms)) ∙ sym (initial_failing n ms))

-- the words of an initial entry
pub words_told : (p : Part) (ms : Members) (u : Option ProfileFault) (beyond : Bool) (vs : List Value)
    → u ≡ key_told p ms Key.Words → items_view vs ≡ items (found Key.Words ms) → beyond ≡ goes_beyond (value at_row ms) (items_view vs)
    → (present u ++ cond beyond (TooMany p Key.Words ∷ []) []) ++ failing_parts (each_item (λ _. word_checks p) 1 (items_view vs)) ≡ failing (words_checks p ms)
words_told p ms u beyond vs own is there =
    rw (own, there, is) (ap (λ fs. fs ++ failing_parts (each_item (λ _. word_checks p) 1 (items (found Key.Words ms)))) (sym (head_failing p words_row (goes_beyond (value at_row ms)) ms))
    ∙ sym (array_failing p words_row (goes_beyond (value at_row ms)) (λ _. word_checks p) ms))

-- ---- what arrays of entries tell

pub long_told : (k : EntryKind) (ms : Members) (vs : List Value) (a b c : Key) (u : Option ProfileFault)
    → a ≡ (array_row k).key → b ≡ (array_row k).key → c ≡ (array_row k).key → u ≡ key_told Root ms a → items_view vs ≡ items (found b ms) → 256 < length vs
    → present u ++ (TooMany Root c ∷ []) ≡ failing (told_array (array_row k) (checks_of k) ms)
long_told k ms vs a b c u ea eb ec eu is many =
    let there : items_view vs ≡ items (found (array_row k).key ms) = is ∙ ap (λ key. items (found key ms)) eb in
    let long : is_long (array_row k) ms ≡ true = long-view k ms vs there ∙ grind (arith, nat_tests) in
    rw (eu, ea, ec) (sym (told_array-long k ms long))

pub short_told : (k : EntryKind) (ms : Members) (vs : List Value) (a b : Key) (u : Option ProfileFault)
    → a ≡ (array_row k).key → b ≡ (array_row k).key → u ≡ key_told Root ms a → items_view vs ≡ items (found b ms) → length vs ≤ 256
    → present u ++ failing_parts (each_item (checks_of k) 1 (items_view vs)) ≡ failing (told_array (array_row k) (checks_of k) ms)
short_told k ms vs a b u ea eb eu is few =
    let there : items_view vs ≡ items (found (array_row k).key ms) = is ∙ ap (λ key. items (found key ms)) eb in
    let short : is_long (array_row k) ms ≡ false = long-view k ms vs there ∙ grind (arith, nat_tests) in
    rw (eu, ea) (sym (told_array-short k ms vs there short))

-- ---- what the tree tells

failing_parts-append : (xs ys : List (List Check)) → failing_parts (xs ++ ys) ≡ failing_parts xs ++ failing_parts ys
failing_parts-append [] ys = refl
failing_parts-append (x ∷ xs) ys = ap (λ fs. failing x ++ fs) (failing_parts-append xs ys) ∙ sym (append_assoc (failing x) (failing_parts xs) (failing_parts ys))

pub tree_told : (ms : Members) (u : Option ProfileFault) → u ≡ unknown_told Root root_rows ms
    → (((present u ++ keys_told Root ms (Key.Address ∷ Key.Broadcast ∷ Key.Wraparound ∷ Key.AcceptBusControl ∷ Key.Vector ∷ Key.Bit ∷ []))
    ++ failing (told_array rules_key rule_checks ms)) ++ failing (told_array modes_key mode_checks ms)) ++ failing (told_array initials_key initial_checks ms) ≡ failing (told_keys ms)
unfolding told_keys
tree_told ms u is =
    rw (is, ← told_where (UnknownKey Root) (has_unknown (keys_of root_rows) ms))
    (regroup (cond (has_unknown (keys_of root_rows) ms) (UnknownKey Root ∷ []) []) (failing_parts (map (row_checks Root ms) setting_rows)) _ _ _ ∙
    (ap (λ fs. cond (has_unknown (keys_of root_rows) ms) (UnknownKey Root ∷ []) [] ++ fs) (sym (failing_parts-append (map (row_checks Root ms) setting_rows) (told_array rules_key rule_checks ms ∷ told_array modes_key mode_checks ms ∷ told_array initials_key initial_checks ms ∷ []))) ∙ sym (failing-in_order _)))
  where
    regroup : (a b c d e : List ProfileFault) → (((a ++ b) ++ c) ++ d) ++ e ≡ a ++ (b ++ (c ++ (d ++ (e ++ []))))
    regroup a b c d e = rw (append-nil e) (append_assoc ((a ++ b) ++ c) d e ∙ (append_assoc (a ++ b) c (d ++ e) ∙ append_assoc a b (c ++ (d ++ e))))

-- ---- loops

-- what was told and what is left is all
pub told_step : (fs new more rest left all : List ProfileFault) → new ≡ fs ++ more → left ≡ more ++ rest → fs ++ left ≡ all → new ++ rest ≡ all
told_step fs new more rest left all h k before = ap (λ x. x ++ rest) h ∙ (append_assoc fs more rest ∙ (ap (λ x. fs ++ x) (sym k) ∙ before))

pub key_step : (p : Part) (ms : Members) (keys : List Key) (i : ℕ) (d : Key) (u : Option ProfileFault) → i < length keys → u ≡ key_told p ms (get_or keys i d)
    → keys_told p ms (drop i keys) ≡ present u ++ keys_told p ms (drop (i + 1) keys)
key_step p ms keys i d u within is = rw (is, drop_more keys i d within, row_failing p ms (row_of (get_or keys i d)))

pub word_step : (p : Part) (vs : List Value) (i : ℕ) (v : Value) (u : Option ProfileFault) → i < length vs → v ≡ get_or vs i v → u ≡ first_fault (word_checks p (view v))
    → failing_parts (each_item (λ _. word_checks p) (1 + i) (items_view (drop i vs))) ≡ present u ++ failing_parts (each_item (λ _. word_checks p) (1 + (i + 1)) (items_view (drop (i + 1) vs)))
word_step p vs i v u within here is =
    let next : 1 + (i + 1) ≡ suc (1 + i) = omega arith in
    rw (next, items_view-drop vs i v within, ← here, is, word_failing p (view v))

-- ---- the codes that must be legal

pub code_step : (modes : List ModeRule) (codes : List ℕ) (i d : ℕ) (legal : Bool) → i < length codes → legal ≡ is_own_code_legal modes (get_or codes i d)
    → flat_map (code_told modes) (drop i codes) ≡ cond (not legal) (RequiredCode (get_or codes i d) ∷ []) [] ++ flat_map (code_told modes) (drop (i + 1) codes)
code_step modes codes i d legal within is = rw (is, drop_more codes i d within)

pub with_codes : (ms : Members) (fs : List ProfileFault) (modes : List ModeRule) → fs ≡ failing (told_keys ms) → true ≡ (length fs == 0) → modes ≡ modes_of ms → fs ++ codes_told modes ≡ told_faults ms
with_codes ms fs modes is none read = rw is (told_codes ms modes (ap (λ xs. length xs == 0) (sym is) ∙ sym none) read)

pub without_codes : (ms : Members) (fs : List ProfileFault) → fs ≡ failing (told_keys ms) → false ≡ (length fs == 0) → fs ≡ told_faults ms
without_codes ms fs is some = is ∙ told_keys-alone ms (ap (λ xs. length xs == 0) (sym is) ∙ sym some)
