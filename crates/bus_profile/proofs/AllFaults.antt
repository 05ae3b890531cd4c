-- All the faults of a tree: each row has at most one, and those of parts come one after the other.
use Rattle.std.proofs.Common.{◌≡◌, ◌<◌, ◌≤◌, ℕ, suc, ◌+◌, ◌-◌, ◌==◌, nat_le, nat_lt, Bool, true, false, not, ◌&&◌, cond, pos, negsuc, List, [], ◌∷◌, ◌++◌, length, get_or, drop, map, Option, Some, None, is_none, is_some, Result, Ok, Err, refl, ap, ◌∙◌, sym, append_assoc, append-nil, arith}
use Rattle.std.proofs.Math.Bool.{and-false}
use Rattle.std.proofs.lemmas.Bool.Decides.{nat_tests}
use Rattle.std.specs.List.{list_all, flat_map}
use Rattle.toml.specs.Data.{Data, string, integer, float, boolean, datetime, array, table, Items, no_items, Members}
use Rattle.std.proofs.lemmas.List.{drop_more}
use Rattle.toml.proofs.Views.{items_view-drop}
use Rattle.toml.specs.View.{view, items_view}
use Rattle.toml.specs.declared.value.Value.{Value}
use Rattle.bus_profile.specs.declared.entry_faults.EntryKind.{EntryKind}
use Rattle.bus_profile.specs.declared.entry_faults.EntryKind.TheVariants as kind
use Rattle.bus_legal.specs.declared.entries.ModeRule.{ModeRule}
use Rattle.bus_profile.specs.declared.fault.Key.{Key}
use Rattle.bus_profile.specs.declared.fault.Key.TheVariants.{Subaddress, At}
use Rattle.bus_profile.specs.declared.fault.Part.{Part}
use Rattle.bus_profile.specs.declared.fault.Part.TheVariants.{Root, Initial}
use Rattle.bus_profile.specs.declared.fault.ProfileFault.{ProfileFault}
use Rattle.bus_profile.specs.declared.fault.ProfileFault.TheVariants.{UnknownKey, WrongKind, BadRanges, OutOfRange, TooMany, RequiredCode}
use Rattle.bus_profile.specs.declared.ranges.RangeFault.{RangeFault}
use Rattle.bus_profile.specs.declared.ranges.RangeFault.TheVariants.{Syntax, Bounds}
use Rattle.bus_profile.specs.AllFaults.{failing, is_long, HasShortArrays, told_array, told_keys, told_faults, rows_at}
use Rattle.bus_profile.specs.Checks.{Check, under, numbered, in_order, first_fault}
use Rattle.bus_profile.specs.Faults.{is_required, key_checks, row_checks, head_checks, array_checks, each_item, entry_checks, word_checks, words_checks, goes_beyond, entries_checks, rule_checks, mode_checks, initial_checks, key_faults, all_pass, code_faults, faults}
use Rattle.bus_profile.specs.Keys.{ValueKind, truth, whole, truth_or_whole, choice, ranges, numbers, tables, required, optional, KeyRow, key_row, keys_of, setting_rows, root_rows, rules_key, modes_key, initials_key, initial_rows, subaddress_row, at_row, words_row}
use Rattle.bus_profile.specs.Kinds.{found, or_default, value, items, has_unknown, is_of_kind, is_bad_ranges, is_out_of_range, is_syntax, is_bounds, is_too_long, count_items}
use Rattle.bus_profile.specs.Gives.{modes_of}
use Rattle.bus_legal.specs.OwnCodes.{is_own_code_legal}
use Rattle.bus_profile.specs.RangesOf.{ranges_of}
use Rattle.bus_profile.specs.inner.AllFaults.{failing_parts, present, row_of, array_row, part_of, key_rows_of, keys_in, checks_of, unknown_told, array_told, key_told, keys_told, code_told, codes_told}
use Rattle.bus_profile.proofs.Arrays.{is_too_long-view}

failing-append : (xs ys : List Check) → failing (xs ++ ys) ≡ failing xs ++ failing ys
failing-append [] ys = refl
failing-append (x ∷ xs) ys = pick x.fails (failing-append xs ys)
  where
    pick : (b : Bool) → failing (xs ++ ys) ≡ failing xs ++ failing ys
        → cond b (x.fault ∷ failing (xs ++ ys)) (failing (xs ++ ys)) ≡ cond b (x.fault ∷ failing xs) (failing xs) ++ failing ys
    pick true e = ap (λ fs. x.fault ∷ fs) e
    pick false e = e

failing-under : (n : ℕ) (xs : List Check) → failing (under n xs) ≡ failing xs
failing-under n [] = refl
failing-under n (x ∷ xs) = ap (λ fs. cond x.fails (x.fault ∷ fs) fs) (failing-under n xs)

failing-numbered : (n : ℕ) (parts : List (List Check)) → failing (numbered n parts) ≡ failing_parts parts
failing-numbered n [] = refl
failing-numbered n (part ∷ parts) = failing-append (under n part) (numbered (suc n) parts) ∙ rw (failing-under n part, failing-numbered (suc n) parts)

pub failing-in_order : (parts : List (List Check)) → failing (in_order parts) ≡ failing_parts parts
unfolding in_order
failing-in_order parts = failing-numbered 0 parts

-- ---- a row has at most one fault

-- of the three tests of a value at most one fails
abbrev Alone : Bool → Bool → Bool → Type 0
Alone a b c = ((a && b) ≡ false) × ((a && c) ≡ false) × ((b && c) ≡ false)

syntax_or_bounds : (r : Result ℕ RangeFault) → (is_syntax r && is_bounds r) ≡ false
syntax_or_bounds (Ok n) = refl
syntax_or_bounds (Err Syntax) = refl
syntax_or_bounds (Err Bounds) = refl

alone : (k : ValueKind) (d : Data) → Alone (not (is_of_kind k d)) (is_bad_ranges k d) (is_out_of_range k d)
alone truth (string s) = (refl, refl, refl)
alone truth (integer z) = (refl, refl, refl)
alone truth (float x) = (refl, refl, refl)
alone truth (boolean b) = (refl, refl, refl)
alone truth (datetime t) = (refl, refl, refl)
alone truth (array ds) = (refl, refl, refl)
alone truth (table ms) = (refl, refl, refl)
alone (whole low high) (string s) = (refl, refl, refl)
alone (whole low high) (integer z) = (refl, refl, refl)
alone (whole low high) (float x) = (refl, refl, refl)
alone (whole low high) (boolean b) = (refl, refl, refl)
alone (whole low high) (datetime t) = (refl, refl, refl)
alone (whole low high) (array ds) = (refl, refl, refl)
alone (whole low high) (table ms) = (refl, refl, refl)
alone (truth_or_whole low high) (string s) = (refl, refl, refl)
alone (truth_or_whole low high) (integer z) = (refl, refl, refl)
alone (truth_or_whole low high) (float x) = (refl, refl, refl)
alone (truth_or_whole low high) (boolean b) = (refl, refl, refl)
alone (truth_or_whole low high) (datetime t) = (refl, refl, refl)
alone (truth_or_whole low high) (array ds) = (refl, refl, refl)
alone (truth_or_whole low high) (table ms) = (refl, refl, refl)
alone (choice texts) (string s) = (refl, refl, refl)
alone (choice texts) (integer z) = (refl, refl, refl)
alone (choice texts) (float x) = (refl, refl, refl)
alone (choice texts) (boolean b) = (refl, refl, refl)
alone (choice texts) (datetime t) = (refl, refl, refl)
alone (choice texts) (array ds) = (refl, refl, refl)
alone (choice texts) (table ms) = (refl, refl, refl)
alone (ranges low high) (string s) = (refl, refl, syntax_or_bounds (ranges_of low high s))
alone (ranges low high) (integer z) = (refl, refl, refl)
alone (ranges low high) (float x) = (refl, refl, refl)
alone (ranges low high) (boolean b) = (refl, refl, refl)
alone (ranges low high) (datetime t) = (refl, refl, refl)
alone (ranges low high) (array ds) = (refl, refl, refl)
alone (ranges low high) (table ms) = (refl, refl, refl)
alone (numbers low high) (string s) = (refl, refl, refl)
alone (numbers low high) (integer z) = (refl, refl, refl)
alone (numbers low high) (float x) = (refl, refl, refl)
alone (numbers low high) (boolean b) = (refl, refl, refl)
alone (numbers low high) (datetime t) = (refl, refl, refl)
alone (numbers low high) (array ds) = (refl, refl, refl)
alone (numbers low high) (table ms) = (refl, refl, refl)
alone (tables most) (string s) = (refl, refl, refl)
alone (tables most) (integer z) = (refl, refl, refl)
alone (tables most) (float x) = (refl, refl, refl)
alone (tables most) (boolean b) = (refl, refl, refl)
alone (tables most) (datetime t) = (refl, refl, refl)
alone (tables most) (array ds) = (refl, refl, refl)
alone (tables most) (table ms) = (refl, refl, refl)

one_of : (f g h : ProfileFault) (a b c : Bool) → Alone a b c
    → cond a (f ∷ cond b (g ∷ cond c (h ∷ []) []) (cond c (h ∷ []) [])) (cond b (g ∷ cond c (h ∷ []) []) (cond c (h ∷ []) []))
    ≡ present (cond a (Some f) (cond b (Some g) (cond c (Some h) None)))
one_of f g h true true c e = absurd (cc)
one_of f g h true false true e = absurd (cc)
one_of f g h true false false e = refl
one_of f g h false true true e = absurd (cc)
one_of f g h false true false e = refl
one_of f g h false false true e = refl
one_of f g h false false false e = refl

pub there : (f : ProfileFault) (b : Bool) (fs : List ProfileFault) (o : Option ProfileFault) → fs ≡ present o → cond (b && false) (f ∷ fs) fs ≡ present (cond (b && false) (Some f) o)
there f true fs o e = e
there f false fs o e = e

absent : (f : ProfileFault) (b : Bool) → cond (b && true) (f ∷ []) [] ≡ present (cond (b && true) (Some f) None)
absent f true = refl
absent f false = refl

key_failing : (part : Part) (row : KeyRow) (d : Option Data) → failing (key_checks part row d) ≡ present (first_fault (key_checks part row d))
unfolding in_order
key_failing part row None = absent _ (is_required row.presence)
key_failing part row (Some d) = there _ (is_required row.presence) _ _ (one_of (WrongKind part row.key) (BadRanges part row.key) (OutOfRange part row.key) (not (is_of_kind row.kind d)) (is_bad_ranges row.kind d) (is_out_of_range row.kind d) (alone row.kind d))

pub row_failing : (part : Part) (ms : Members) (row : KeyRow) → failing (row_checks part ms row) ≡ present (first_fault (row_checks part ms row))
row_failing part ms row = key_failing part row (found row.key ms)

-- ---- what the readers tell

-- ---- arrays

with_last : (xs ys : List ProfileFault) → xs ≡ ys → (b : Bool) (f : ProfileFault) → xs ++ (cond b (f ∷ []) [] ++ []) ≡ ys ++ cond b (f ∷ []) []
with_last xs ys e true f = rw e
with_last xs ys e false f = rw e

-- an array as a whole: its row, and whether it is too long
pub head_failing : (part : Part) (row : KeyRow) (long : Items → Bool) (ms : Members)
    → failing (head_checks part row long ms) ≡ present (first_fault (row_checks part ms row)) ++ cond (long (items (value row ms))) (TooMany part row.key ∷ []) []
head_failing part row long ms = failing-in_order _ ∙ with_last _ _ (row_failing part ms row) (long (items (value row ms))) (TooMany part row.key)

-- an array: the whole, and then its items
pub array_failing : (part : Part) (row : KeyRow) (long : Items → Bool) (checks : ℕ → Data → List Check) (ms : Members)
    → failing (array_checks part row long checks ms) ≡ failing (head_checks part row long ms) ++ failing_parts (each_item checks 1 (items (value row ms)))
unfolding array_checks
array_failing part row long checks ms = failing-in_order _

-- ---- entries

pub told_where : (f : ProfileFault) (b : Bool) → cond b (f ∷ []) [] ≡ present (cond b (Some f) None)
told_where f true = refl
told_where f false = refl

-- the table of an entry: unknown keys, and then its keys
pub table_failing : (k : EntryKind) (n : ℕ) (ms : Members) → failing (checks_of k n (table ms)) ≡ present (unknown_told (part_of k n) (key_rows_of k) ms) ++ failing_parts (keys_in k n ms)
unfolding entry_checks
table_failing k n ms = failing-in_order _ ∙ rw (told_where (UnknownKey (part_of k n)) (has_unknown (keys_of (key_rows_of k)) ms))

pub initial_failing : (n : ℕ) (ms : Members)
    → failing (checks_of kind.Initial n (table ms)) ≡ present (unknown_told (Initial n) initial_rows ms) ++ (keys_told (Initial n) ms (Subaddress ∷ At ∷ []) ++ failing (words_checks (Initial n) ms))
initial_failing n ms = table_failing kind.Initial n ms ∙ ap (λ fs. present (unknown_told (Initial n) initial_rows ms) ++ fs) (regroup (failing (row_checks (Initial n) ms subaddress_row)) (failing (row_checks (Initial n) ms at_row)) (failing (words_checks (Initial n) ms)))
  where
    regroup : (a b c : List ProfileFault) → a ++ (b ++ (c ++ [])) ≡ (a ++ (b ++ [])) ++ c
    regroup a b c = rw (append-nil c, append-nil b) (sym (append_assoc a b c))

-- ---- words

one_of_two : (f g : ProfileFault) (a b : Bool) → (a && b) ≡ false → cond a (f ∷ cond b (g ∷ []) []) (cond b (g ∷ []) []) ≡ present (cond a (Some f) (cond b (Some g) None))
one_of_two f g true true e = absurd (cc)
one_of_two f g true false e = refl
one_of_two f g false true e = refl
one_of_two f g false false e = refl

pub word_failing : (part : Part) (d : Data) → failing (word_checks part d) ≡ present (first_fault (word_checks part d))
unfolding in_order
word_failing part d = one_of_two (WrongKind part Key.Words) (OutOfRange part Key.Words) (not (is_of_kind (whole 0 65535) d)) (is_out_of_range (whole 0 65535) d) (alone (whole 0 65535) d).1

-- where the words begin isn't asked of an `at` with a fault
no_place : (part : Part) (d : Option Data) (f : ProfileFault) (ds : Items) → first_fault (key_checks part at_row d) ≡ Some f → goes_beyond (or_default at_row.presence d) ds ≡ false
unfolding in_order
no_place part None f ds e = absurd (cc)
no_place part (Some (integer (pos n))) f ds e = pick (nat_le 1 n && nat_le n 32) e
  where
    pick : (b : Bool) → cond (is_none (cond b (Some n) None)) (Some (OutOfRange part At)) None ≡ Some f → (is_some (cond b (Some n) None) && nat_lt 32 (n - 1 + count_items ds)) ≡ false
    pick true e = absurd (cc)
    pick false e = refl
no_place part _ f ds e = refl

pub beyond_nowhere : (part : Part) (ms : Members) (f : ProfileFault) (ds : Items) → first_fault (row_checks part ms at_row) ≡ Some f → goes_beyond (value at_row ms) ds ≡ false
beyond_nowhere part ms f ds e = no_place part (found At ms) f ds e

-- ---- what isn't an array

tables_told : (part : Part) (k : Key) (most : ℕ) (default : Data) (d : Option Data) → array_told part k false d ≡ first_fault (key_checks part (key_row k (tables most) (optional default)) d)
unfolding in_order
tables_told part k most default (Some (string x)) = refl
tables_told part k most default _ = refl

numbers_told : (part : Part) (k : Key) (low high : ℕ) (d : Option Data) → array_told part k true d ≡ first_fault (key_checks part (key_row k (numbers low high) required) d)
unfolding in_order
numbers_told part k low high (Some (string x)) = refl
numbers_told part k low high _ = refl

pub array_told-rule : (part : Part) (ms : Members) → array_told part Key.Rule false (found Key.Rule ms) ≡ key_told part ms Key.Rule
array_told-rule part ms = tables_told part Key.Rule 256 (array no_items) (found Key.Rule ms)

pub array_told-mode : (part : Part) (ms : Members) → array_told part Key.Mode false (found Key.Mode ms) ≡ key_told part ms Key.Mode
array_told-mode part ms = tables_told part Key.Mode 256 (array no_items) (found Key.Mode ms)

pub array_told-initial : (part : Part) (ms : Members) → array_told part Key.Initial false (found Key.Initial ms) ≡ key_told part ms Key.Initial
array_told-initial part ms = tables_told part Key.Initial 256 (array no_items) (found Key.Initial ms)

pub array_told-words : (part : Part) (ms : Members) → array_told part Key.Words true (found Key.Words ms) ≡ key_told part ms Key.Words
array_told-words part ms = numbers_told part Key.Words 0 65535 (found Key.Words ms)

-- ---- arrays of entries

-- the items of an array are those that stand there
items-found : (d : Option Data) → items (or_default (optional (array no_items)) d) ≡ items d
items-found None = refl
items-found (Some d) = refl

pub entries_there : (k : EntryKind) (ms : Members) → items (value (array_row k) ms) ≡ items (found (array_row k).key ms)
entries_there kind.Rule ms = items-found (found Key.Rule ms)
entries_there kind.Mode ms = items-found (found Key.Mode ms)
entries_there kind.Initial ms = items-found (found Key.Initial ms)

pub row_of-entries : (k : EntryKind) → row_of (array_row k).key ≡ array_row k
row_of-entries kind.Rule = refl
row_of-entries _ = refl

pub long-view : (k : EntryKind) (ms : Members) (vs : List Value) → items_view vs ≡ items (found (array_row k).key ms) → is_long (array_row k) ms ≡ nat_lt 256 (length vs)
long-view kind.Rule ms vs e = rw (entries_there kind.Rule ms, ← e) (is_too_long-view vs)
long-view kind.Mode ms vs e = rw (entries_there kind.Mode ms, ← e) (is_too_long-view vs)
long-view kind.Initial ms vs e = rw (entries_there kind.Initial ms, ← e) (is_too_long-view vs)

failing-then : (b : Bool) (xs ys : List Check) → b ≡ true → failing (cond b xs ys) ≡ failing xs
failing-then true xs ys e = refl
failing-then false xs ys e = absurd (cc)

failing-else : (b : Bool) (xs ys : List Check) → b ≡ false → failing (cond b xs ys) ≡ failing ys
failing-else true xs ys e = absurd (cc)
failing-else false xs ys e = refl

-- an array that is too long: that alone
pub told_array-long : (k : EntryKind) (ms : Members) → is_long (array_row k) ms ≡ true
    → failing (told_array (array_row k) (checks_of k) ms) ≡ present (key_told Root ms (array_row k).key) ++ (TooMany Root (array_row k).key ∷ [])
told_array-long k ms e =
    failing-then (is_long (array_row k) ms) _ _ e ∙ (head_failing Root (array_row k) (is_too_long (array_row k).kind) ms ∙ here (is_long (array_row k) ms) e)
  where
    here : (b : Bool) → b ≡ true → present (first_fault (row_checks Root ms (array_row k))) ++ cond b (TooMany Root (array_row k).key ∷ []) [] ≡ present (key_told Root ms (array_row k).key) ++ (TooMany Root (array_row k).key ∷ [])
    here true e = rw (row_of-entries k)
    here false e = absurd (cc)

-- one that isn't
pub told_array-short : (k : EntryKind) (ms : Members) (vs : List Value) → items_view vs ≡ items (found (array_row k).key ms) → is_long (array_row k) ms ≡ false
    → failing (told_array (array_row k) (checks_of k) ms) ≡ present (key_told Root ms (array_row k).key) ++ failing_parts (each_item (checks_of k) 1 (items_view vs))
told_array-short k ms vs is e =
    failing-else (is_long (array_row k) ms) _ _ e ∙ (array_failing Root (array_row k) (is_too_long (array_row k).kind) (checks_of k) ms
    ∙ (ap (λ fs. fs ++ failing_parts (each_item (checks_of k) 1 (items (value (array_row k) ms)))) (head_failing Root (array_row k) (is_too_long (array_row k).kind) ms)
    ∙ (here (is_long (array_row k) ms) e ∙ ap (λ ds. present (key_told Root ms (array_row k).key) ++ failing_parts (each_item (checks_of k) 1 ds)) (entries_there k ms ∙ sym is))))
  where
    here : (b : Bool) → b ≡ false → present (first_fault (row_checks Root ms (array_row k))) ++ cond b (TooMany Root (array_row k).key ∷ []) [] ++ failing_parts (each_item (checks_of k) 1 (items (value (array_row k) ms)))
        ≡ present (key_told Root ms (array_row k).key) ++ failing_parts (each_item (checks_of k) 1 (items (value (array_row k) ms)))
    here true e = absurd (cc)
    here false e = rw (row_of-entries k, append-nil (present (first_fault (row_checks Root ms (array_row k)))))

-- ---- whether any check fails

pass-append : (xs ys : List Check) → all_pass (xs ++ ys) ≡ (all_pass xs && all_pass ys)
pass-append [] ys = refl
pass-append (x ∷ xs) ys = pick (not x.fails) (pass-append xs ys)
  where
    pick : (b : Bool) → all_pass (xs ++ ys) ≡ (all_pass xs && all_pass ys) → (b && all_pass (xs ++ ys)) ≡ ((b && all_pass xs) && all_pass ys)
    pick true e = e
    pick false e = refl

pass-under : (n : ℕ) (xs : List Check) → all_pass (under n xs) ≡ all_pass xs
pass-under n [] = refl
pass-under n (x ∷ xs) = ap (λ b. not x.fails && b) (pass-under n xs)

pass-numbered : (n : ℕ) (parts : List (List Check)) → all_pass (numbered n parts) ≡ list_all all_pass parts
pass-numbered n [] = refl
pass-numbered n (part ∷ parts) = pass-append (under n part) (numbered (suc n) parts) ∙ rw (pass-under n part, pass-numbered (suc n) parts)

pass-in_order : (parts : List (List Check)) → all_pass (in_order parts) ≡ list_all all_pass parts
unfolding in_order
pass-in_order parts = pass-numbered 0 parts

head_pass : (row : KeyRow) (ms : Members) → is_long row ms ≡ true → all_pass (head_checks Root row (is_too_long row.kind) ms) ≡ false
head_pass row ms e = pass-in_order _ ∙ rw e (and-false (all_pass (row_checks Root ms row)))

-- an array that is too long fails, with its entries and without
told_array-pass : (row : KeyRow) (checks : ℕ → Data → List Check) (ms : Members) → all_pass (told_array row checks ms) ≡ all_pass (entries_checks row checks ms)
unfolding array_checks
told_array-pass row checks ms = pick (is_long row ms) refl
  where
    pick : (b : Bool) → is_long row ms ≡ b → all_pass (cond b (head_checks Root row (is_too_long row.kind) ms) (entries_checks row checks ms)) ≡ all_pass (entries_checks row checks ms)
    pick true e = head_pass row ms e ∙ sym (pass-in_order _ ∙ rw (head_pass row ms e))
    pick false e = refl

keys_pass : (ms : Members) → all_pass (told_keys ms) ≡ all_pass (key_faults ms)
unfolding told_keys key_faults
keys_pass ms =
    pass-in_order _ ∙ (rw (told_array-pass rules_key rule_checks ms, told_array-pass modes_key mode_checks ms, told_array-pass initials_key initial_checks ms) refl ∙ sym (pass-in_order _))

pass_where_none : (cs : List Check) → all_pass cs ≡ (length (failing cs) == 0)
pass_where_none [] = refl
pass_where_none (c ∷ cs) = pick c.fails (pass_where_none cs)
  where
    pick : (b : Bool) → all_pass cs ≡ (length (failing cs) == 0) → (not b && all_pass cs) ≡ (length (cond b (c.fault ∷ failing cs) (failing cs)) == 0)
    pick true e = grind (arith, nat_tests)
    pick false e = e

-- ---- the tree

codes_none : (ms : Members) → all_pass (key_faults ms) ≡ false → failing (code_faults ms) ≡ []
unfolding code_faults in_order
codes_none ms e = rw e

codes_all : (ms : Members) → all_pass (key_faults ms) ≡ true → failing (code_faults ms) ≡ codes_told (modes_of ms)
unfolding code_faults
codes_all ms e = failing-in_order _ ∙ rw e refl

-- where nothing was found, what the codes have is told too
pub told_codes : (ms : Members) (modes : List ModeRule) → (length (failing (told_keys ms)) == 0) ≡ true → modes ≡ modes_of ms → failing (told_keys ms) ++ codes_told modes ≡ told_faults ms
told_codes ms modes none is = ap (λ fs. failing (told_keys ms) ++ fs) (ap codes_told is ∙ sym (codes_all ms (sym (keys_pass ms) ∙ (pass_where_none (told_keys ms) ∙ none))))

pub told_keys-alone : (ms : Members) → (length (failing (told_keys ms)) == 0) ≡ false → failing (told_keys ms) ≡ told_faults ms
told_keys-alone ms some = sym (rw (codes_none ms (sym (keys_pass ms) ∙ (pass_where_none (told_keys ms) ∙ some))) (append-nil (failing (told_keys ms))))

told_keys-short : (ms : Members) → HasShortArrays ms → told_keys ms ≡ key_faults ms
unfolding told_keys key_faults
told_keys-short ms short = rw (short.rules, short.modes, short.initials)

-- where no array is too long, all the faults are told
pub told_all : (ms : Members) → HasShortArrays ms → told_faults ms ≡ failing (faults ms)
unfolding faults
told_all ms short = sym (failing-in_order _ ∙ rw (append-nil (failing (code_faults ms)), told_keys-short ms short))
