-- The full tree has no fault.
use Rattle.std.proofs.Common.{◌≡◌, ℕ, suc, ◌+◌, ◌^◌, ◌<◌, ◌≤◌, ◌==◌, ◌&&◌, nat_le, nat_lt, Bool, true, false, not, cond, pos, List, [], ◌∷◌, ◌++◌, map, length, get_or, Some, None, option_map, is_some, IsTrue, Ok, codes, bit_and, refl, ap, sym, ◌∙◌, length-append, arith}
use Rattle.std.proofs.lemmas.Bool.{eqb-true}
use Rattle.std.proofs.lemmas.Bool.Decides.{nat_tests}
use Rattle.std.proofs.lemmas.Nat.{and_le_r}
use Rattle.std.specs.List.{list_any}
use Rattle.std.specs.Option.{option_or}
use Rattle.std.specs.Str.{bytes_eq}
use Rattle.toml.specs.Data.{Data, string, integer, boolean, array, no_items, Members}
use Rattle.toml.specs.View.{items_of}
use Rattle.bus_profile.specs.declared.fault.Key.{Key}
use Rattle.bus_profile.specs.declared.fault.Part.{Part}
use Rattle.bus_profile.specs.declared.fault.Part.TheVariants as part
use Rattle.bus_profile.specs.declared.fault.ProfileFault.TheVariants.{RequiredCode}
use Rattle.bus_profile.specs.Checks.{Check, HasNoFault, in_order, first_fault}
use Rattle.bus_profile.specs.Gives.{mode_in, modes_of}
use Rattle.bus_profile.specs.inner.MissingCode.{missing_code}
use Rattle.bus_legal.specs.declared.entries.ModeRule.{ModeRule}
use Rattle.bus_legal.specs.Last.{last_of}
use Rattle.bus_legal.specs.OwnCodes.{contains_own, mode_says, is_own_code_legal, has_required_codes}
use Rattle.bus_word.specs.Mask.{has_bit}
use Rattle.bus_word.specs.Mode.{mode_row, is_required_code}
use Rattle.bus_legal.specs.declared.tables.Tables.{Tables}
use Rattle.bus_legal.proofs.Bools.{right_of}
use Rattle.bus_legal.proofs.NormalLaws.{required-legal}
use Rattle.bus_legal.proofs.TopBit.{zero-bit}
use Rattle.bus_profile.specs.Faults.{key_checks, head_checks, each_item, rule_checks, mode_checks, initial_checks, word_checks, goes_beyond, faults}
use Rattle.bus_profile.specs.Keys.{truth, whole, choice, ranges, tables, Presence, required, optional, key_row, root_rows, address_row, broadcast_row, wraparound_row, accept_row, vector_row, bit_row, rules_key, modes_key, initials_key, to_row, direction_row, subaddresses_row, counts_row, legal_row, codes_row, subaddress_row, at_row, words_row}
use Rattle.bus_profile.specs.Kinds.{found, value, items, count_items, is_too_long}
use Rattle.bus_profile.specs.RangesOf.{ranges_of}
use Rattle.bus_profile.specs.inner.FirstFault.{fault_of_parts}
use Rattle.bus_profile.specs.inner.Section.{entries_fault}
use Rattle.bus_legal.specs.declared.tables.TheConstants.{OWN_CODES, BROADCAST_CODES}
use Rattle.bus_legal.specs.Parts.{Parts, AreMasks, IsBlock, AreWords, IsNormal}
use Rattle.bus_legal.proofs.SameNormals.{normal_in_range}
use Rattle.bus_profile.proofs.Least.{HasNoFault-from}
use Rattle.bus_profile.proofs.Tree.{key_fault, code_fault, tree_fault}
use Rattle.bus_profile.proofs.Sections.{unknown_fault, row_fault, rule_fault, mode_fault, initial_fault}
use Rattle.rt1553_toml.specs.Sets.{said_set, set_text}
use Rattle.rt1553_toml.specs.inner.FullTree.{from_number, rules_by, modes_by, initials_by, wraparound_data, full_tree, rule_members, rule_data, mode_members, mode_data, word_data, initial_members, initial_data}
use Rattle.rt1553_toml.proofs.SetTexts.{set_read}

-- ---- keys

whole_passes : (p : Part) (key : Key) (low high : ℕ) (presence : Presence) (n : ℕ) → low ≤ n → n ≤ high → first_fault (key_checks p (key_row key (whole low high) presence) (Some (integer (pos n)))) ≡ None
unfolding in_order
whole_passes p key low high required n l h = let inside : (nat_le low n && nat_le n high) ≡ true = grind (arith, nat_tests) in rw inside refl
whole_passes p key low high (optional d) n l h = let inside : (nat_le low n && nat_le n high) ≡ true = grind (arith, nat_tests) in rw inside refl

number_passes : (p : Part) (key : Key) (low high : ℕ) (n : ℕ) → low ≤ n → n ≤ high → first_fault (key_checks p (key_row key (ranges low high) required) (Some (integer (pos n)))) ≡ None
unfolding in_order
number_passes p key low high n l h = let inside : (nat_le low n && nat_le n high) ≡ true = grind (arith, nat_tests) in rw inside refl

truth_passes : (p : Part) (key : Key) (d : Data) (b : Bool) → first_fault (key_checks p (key_row key truth (optional d)) (Some (boolean b))) ≡ None
unfolding in_order
truth_passes p key d b = refl

set_passes : (p : Part) (key : Key) (low high : ℕ) (presence : Presence) (s : List ℕ) (mask : ℕ) → ranges_of low high s ≡ Ok mask → first_fault (key_checks p (key_row key (ranges low high) presence) (Some (string s))) ≡ None
unfolding in_order
set_passes p key low high required s mask e = rw e refl
set_passes p key low high (optional d) s mask e = rw e refl

choice_passes : (p : Part) (key : Key) (texts : List (List ℕ)) (presence : Presence) (s : List ℕ) → list_any (bytes_eq s) texts ≡ true → first_fault (key_checks p (key_row key (choice texts) presence) (Some (string s))) ≡ None
unfolding in_order
choice_passes p key texts required s e = rw e refl
choice_passes p key texts (optional d) s e = rw e refl

-- ---- entries

abbrev tos : List (List ℕ)
tos = codes "own" ∷ codes "broadcast" ∷ codes "both" ∷ []

abbrev directions : List (List ℕ)
directions = codes "receive" ∷ codes "transmit" ∷ codes "both" ∷ []

abbrev pub IsTo : List ℕ → Type 0
IsTo s = list_any (bytes_eq s) tos ≡ true

abbrev pub IsDirection : List ℕ → Type 0
IsDirection s = list_any (bytes_eq s) directions ≡ true

pub rule_passes : (to direction : List ℕ) → IsTo to → IsDirection direction → (n s mask : ℕ) → 1 ≤ s → s ≤ 30 → mask < 2 ^ 32 → first_fault (rule_checks n (rule_data to direction s mask)) ≡ None
rule_passes to direction is_to is_direction n s mask low high fits =
    let ms : Members = rule_members to direction s mask in
    let a : row_fault (part.Rule n) ms to_row ≡ None = choice_passes (part.Rule n) to_row.key tos to_row.presence to is_to in
    let b : row_fault (part.Rule n) ms direction_row ≡ None = choice_passes (part.Rule n) direction_row.key directions direction_row.presence direction is_direction in
    let c : row_fault (part.Rule n) ms subaddresses_row ≡ None = number_passes (part.Rule n) subaddresses_row.key 1 30 s low high in
    let d : row_fault (part.Rule n) ms counts_row ≡ None = set_passes (part.Rule n) counts_row.key 1 32 counts_row.presence (set_text 1 mask) (said_set mask) (set_read 1 32 mask (omega arith) (omega arith) fits) in
    let e : row_fault (part.Rule n) ms legal_row ≡ None = truth_passes (part.Rule n) legal_row.key (boolean true) (not (mask == 0)) in
    rule_fault n ms ∙ (λ j. option_or (a j) (option_or (b j) (option_or (c j) (option_or (d j) (option_or (e j) None)))))

pub mode_passes : (to : List ℕ) → IsTo to → (n mask : ℕ) → mask < 2 ^ 32 → first_fault (mode_checks n (mode_data to mask)) ≡ None
mode_passes to is_to n mask fits =
    let ms : Members = mode_members to mask in
    let a : row_fault (part.Mode n) ms to_row ≡ None = choice_passes (part.Mode n) to_row.key tos to_row.presence to is_to in
    let b : row_fault (part.Mode n) ms codes_row ≡ None = set_passes (part.Mode n) codes_row.key 0 31 codes_row.presence (set_text 0 mask) (said_set mask) (set_read 0 31 mask (omega arith) (omega arith) fits) in
    let c : row_fault (part.Mode n) ms legal_row ≡ None = truth_passes (part.Mode n) legal_row.key (boolean true) (not (mask == 0)) in
    mode_fault n ms ∙ (λ j. option_or (a j) (option_or (b j) (option_or (c j) None)))

pub count_items_of : (ds : List Data) → count_items (items_of ds) ≡ length ds
count_items_of [] = refl
count_items_of (d ∷ ds) = ap suc (count_items_of ds)

pub length-map : {A B : Type 0} (f : A → B) (xs : List A) → length (map f xs) ≡ length xs
length-map f [] = refl
length-map f (x ∷ xs) = ap suc (length-map f xs)

word_passes : (n w : ℕ) → w < 2 ^ 16 → first_fault (word_checks (part.Initial n) (word_data w)) ≡ None
unfolding in_order
word_passes n w l = let inside : (nat_le 0 w && nat_le w 65535) ≡ true = grind (arith, nat_tests) in rw inside refl

words_pass : (n k : ℕ) (ws : List ℕ) → ((i : ℕ) → get_or ws i 0 < 2 ^ 16) → fault_of_parts (each_item (λ _. word_checks (part.Initial n)) k (items_of (map word_data ws))) ≡ None
words_pass n k [] fit = refl
words_pass n k (w ∷ ws) fit = rw (word_passes n w (fit 0)) (words_pass n (suc k) ws (λ i. fit (suc i)))

words_head : (n s : ℕ) (ws : List ℕ) → length ws ≡ 32 → first_fault (head_checks (part.Initial n) words_row (goes_beyond (value at_row (initial_members s ws))) (initial_members s ws)) ≡ None
unfolding in_order
words_head n s ws long = rw (count_items_of (map word_data ws), length-map word_data ws, long) refl

no_at : (n s : ℕ) (ws : List ℕ) → row_fault (part.Initial n) (initial_members s ws) at_row ≡ None
unfolding in_order
no_at n s ws = refl

pub initial_passes : (n s : ℕ) (ws : List ℕ) → 1 ≤ s → s ≤ 30 → length ws ≡ 32 → ((i : ℕ) → get_or ws i 0 < 2 ^ 16) → first_fault (initial_checks n (initial_data s ws)) ≡ None
initial_passes n s ws low high long fit =
    let ms : Members = initial_members s ws in
    let a : row_fault (part.Initial n) ms subaddress_row ≡ None = whole_passes (part.Initial n) subaddress_row.key 1 30 required s low high in
    initial_fault n ms ∙ (λ j. option_or (a j) (option_or (no_at n s ws j) (option_or (option_or (words_head n s ws long j) (words_pass n 1 ws fit j)) None)))

-- ---- lists of entries

abbrev pub AllIn : {A : Type 0} → (A → Type 0) → List A → Type 0
AllIn P [] = Unit {0}
AllIn P (x ∷ xs) = P x × AllIn P xs

pub AllIn-append : {A : Type 0} (P : A → Type 0) (xs ys : List A) → AllIn P xs → AllIn P ys → AllIn P (xs ++ ys)
AllIn-append P [] ys a b = b
AllIn-append P (x ∷ xs) ys a b = (a.0, AllIn-append P xs ys a.1 b)

abbrev pub IsMask32 : ℕ → Type 0
IsMask32 mask = mask < 2 ^ 32

masks_in : (masks : List ℕ) → ((s : ℕ) → get_or masks s 0 < 2 ^ 32) → AllIn IsMask32 masks
masks_in [] h = tt
masks_in (m ∷ ms) h = (h 0, masks_in ms (λ s. h (suc s)))

pub all_masks : (masks : List ℕ) → AreMasks masks → AllIn IsMask32 masks
all_masks masks are = masks_in masks are.fit

blocks_in : (words : List (List ℕ)) → ((s : ℕ) → s < length words → IsBlock (get_or words s [])) → AllIn IsBlock words
blocks_in [] h = tt
blocks_in (w ∷ ws) h = (h 0 (omega arith), blocks_in ws (λ s l. h (suc s) (omega arith)))

pub all_blocks : (words : List (List ℕ)) → AreWords words → AllIn IsBlock words
all_blocks words are = blocks_in words (λ s l. are.blocks s (omega (arith, are.thirty)))

-- the entry passes, whatever its number
abbrev HasPassed : (ℕ → Data → List Check) → Data → Type 0
HasPassed checks d = (n : ℕ) → first_fault (checks n d) ≡ None

abbrev Passes : (ℕ → Data → List Check) → List Data → Type 0
Passes checks ds = AllIn (HasPassed checks) ds

items_pass : (checks : ℕ → Data → List Check) (n : ℕ) (ds : List Data) → Passes checks ds → fault_of_parts (each_item checks n (items_of ds)) ≡ None
items_pass checks n [] h = refl
items_pass checks n (d ∷ ds) h = λ j. option_or (h.0 n j) (items_pass checks (suc n) ds h.1 j)

pub from_number_in : {A B : Type 0} (P : A → Type 0) (Q : B → Type 0) (f : ℕ → A → B) → ((s : ℕ) (x : A) → 1 ≤ s → s ≤ 30 → P x → Q (f s x))
    → (s : ℕ) (xs : List A) → 1 ≤ s → s + length xs ≤ 31 → AllIn P xs → AllIn Q (from_number f s xs)
from_number_in P Q f h s [] low room all = tt
from_number_in P Q f h s (x ∷ xs) low room all = (h s x low (omega arith) all.0, from_number_in P Q f h (suc s) xs (omega arith) (omega arith) all.1)

pub length-from_number : {A B : Type 0} (f : ℕ → A → B) (s : ℕ) (xs : List A) → length (from_number f s xs) ≡ length xs
length-from_number f s [] = refl
length-from_number f s (x ∷ xs) = ap suc (length-from_number f (suc s) xs)

-- what holds of each rule, mode entry and initial entry
pub each_rule : (Q : Data → Type 0) → ((to direction : List ℕ) → IsTo to → IsDirection direction → (s mask : ℕ) → 1 ≤ s → s ≤ 30 → mask < 2 ^ 32 → Q (rule_data to direction s mask))
    → (v : Parts) → IsNormal v → AllIn Q (rules_by v.tables)
each_rule Q h v is =
    AllIn-append Q _ _ (kind (codes "own") (codes "receive") refl refl v.tables.own_receive is.own_receive)
    (AllIn-append Q _ _ (kind (codes "own") (codes "transmit") refl refl v.tables.own_transmit is.own_transmit)
    (kind (codes "broadcast") (codes "receive") refl refl v.tables.broadcast_receive is.broadcast_receive))
  where
    kind : (to direction : List ℕ) → IsTo to → IsDirection direction → (masks : List ℕ) → AreMasks masks → AllIn Q (from_number (rule_data to direction) 1 masks)
    kind to direction a b masks are = from_number_in IsMask32 Q (rule_data to direction) (λ s mask. h to direction a b s mask) 1 masks (omega arith) (omega (arith, are.thirty)) (all_masks masks are)

pub each_initial : (Q : Data → Type 0) → ((s : ℕ) (ws : List ℕ) → 1 ≤ s → s ≤ 30 → IsBlock ws → Q (initial_data s ws)) → (v : Parts) → IsNormal v → AllIn Q (initials_by v.initial)
each_initial Q h v is = from_number_in IsBlock Q initial_data h 1 v.initial (omega arith) (omega (arith, is.words.thirty)) (all_blocks v.initial is.words)

pub rules_few : (v : Parts) → IsNormal v → length (rules_by v.tables) ≡ 90
rules_few v is =
    let a = length-from_number (rule_data (codes "own") (codes "receive")) 1 v.tables.own_receive in
    let b = length-from_number (rule_data (codes "own") (codes "transmit")) 1 v.tables.own_transmit in
    let c = length-from_number (rule_data (codes "broadcast") (codes "receive")) 1 v.tables.broadcast_receive in
    let rs = from_number (rule_data (codes "own") (codes "receive")) 1 v.tables.own_receive in
    let ts = from_number (rule_data (codes "own") (codes "transmit")) 1 v.tables.own_transmit in
    let bs = from_number (rule_data (codes "broadcast") (codes "receive")) 1 v.tables.broadcast_receive in
    omega (arith, a, b, c, is.own_receive.thirty, is.own_transmit.thirty, is.broadcast_receive.thirty, length-append rs (ts ++ bs), length-append ts bs)

pub own_mode_fits : (v : Parts) → IsNormal v → v.tables.own_mode < 2 ^ 32
own_mode_fits v is =
    let below : bit_and v.tables.own_mode OWN_CODES ≤ OWN_CODES = and_le_r v.tables.own_mode _ in
    let same : bit_and v.tables.own_mode OWN_CODES ≡ v.tables.own_mode = (normal_in_range v is).own_mode in
    omega (arith, below, same)

pub broadcast_mode_fits : (v : Parts) → IsNormal v → v.tables.broadcast_mode < 2 ^ 32
broadcast_mode_fits v is =
    let below : bit_and v.tables.broadcast_mode BROADCAST_CODES ≤ BROADCAST_CODES = and_le_r v.tables.broadcast_mode _ in
    let same : bit_and v.tables.broadcast_mode BROADCAST_CODES ≡ v.tables.broadcast_mode = eqb-true _ _ is.broadcast_mode in
    omega (arith, below, same)

pub each_mode : (Q : Data → Type 0) → ((to : List ℕ) → IsTo to → (mask : ℕ) → mask < 2 ^ 32 → Q (mode_data to mask)) → (v : Parts) → IsNormal v → AllIn Q (modes_by v.tables)
each_mode Q h v is = (h (codes "own") refl v.tables.own_mode (own_mode_fits v is), (h (codes "broadcast") refl v.tables.broadcast_mode (broadcast_mode_fits v is), tt))

-- ---- arrays of entries

head_passes : (key : Key) (default : Data) (ms : Members) (ds : List Data) → found key ms ≡ Some (array (items_of ds)) → length ds ≤ 256
    → first_fault (head_checks part.Root (key_row key (tables 256) (optional default)) (is_too_long (tables 256)) ms) ≡ None
unfolding in_order
head_passes key default ms ds there few =
    let short : nat_lt 256 (length ds) ≡ false = grind (arith, nat_tests) in
    rw (there, count_items_of ds, short) refl

array_passes : (key : Key) (default : Data) (checks : ℕ → Data → List Check) (ms : Members) (ds : List Data) → found key ms ≡ Some (array (items_of ds)) → length ds ≤ 256 → Passes checks ds
    → entries_fault part.Root (key_row key (tables 256) (optional default)) checks ms ≡ None
array_passes key default checks ms ds there few pass =
    let a = head_passes key default ms ds there few in
    let b : fault_of_parts (each_item checks 1 (items (value (key_row key (tables 256) (optional default)) ms))) ≡ None = rw there (items_pass checks 1 ds pass) in
    λ j. option_or (a j) (b j)

-- ---- settings

wraparound_passes : (w : ℕ) → w ≤ 30 → first_fault (key_checks part.Root wraparound_row (Some (wraparound_data w))) ≡ None
unfolding in_order
wraparound_passes w small = pick (w == 0) refl
  where
    pick : (b : Bool) → (w == 0) ≡ b → first_fault (key_checks part.Root wraparound_row (Some (cond b (boolean false) (integer (pos w))))) ≡ None
    pick true e = refl
    pick false e = let inside : (nat_le 1 w && nat_le w 30) ≡ true = grind (arith, nat_tests) in rw inside refl

known_keys : (v : Parts) → unknown_fault part.Root root_rows (full_tree v) ≡ None
known_keys v = refl

keys_pass : (v : Parts) → IsNormal v → key_fault (full_tree v) ≡ None
keys_pass v is =
    let ms : Members = full_tree v in
    let a : row_fault part.Root ms address_row ≡ None = whole_passes part.Root address_row.key 0 30 required v.address (omega arith) is.address in
    let b : row_fault part.Root ms broadcast_row ≡ None = truth_passes part.Root broadcast_row.key (boolean false) v.broadcast in
    let c : row_fault part.Root ms wraparound_row ≡ None = wraparound_passes v.wrap is.wrap in
    let d : row_fault part.Root ms accept_row ≡ None = truth_passes part.Root accept_row.key (boolean false) v.accept in
    let e : row_fault part.Root ms vector_row ≡ None = whole_passes part.Root vector_row.key 0 65535 vector_row.presence v.vector (omega arith) (omega (arith, is.vector)) in
    let f : row_fault part.Root ms bit_row ≡ None = whole_passes part.Root bit_row.key 0 65535 bit_row.presence v.bit (omega arith) (omega (arith, is.bit)) in
    let g : entries_fault part.Root rules_key rule_checks ms ≡ None =
    array_passes rules_key.key (array no_items) rule_checks ms (rules_by v.tables) refl (omega (arith, rules_few v is)) (each_rule (HasPassed rule_checks) (λ to direction x y s mask low high fits n. rule_passes to direction x y n s mask low high fits) v is) in
    let h : entries_fault part.Root modes_key mode_checks ms ≡ None =
    array_passes modes_key.key (array no_items) mode_checks ms (modes_by v.tables) refl (omega arith) (each_mode (HasPassed mode_checks) (λ to x mask fits n. mode_passes to x n mask fits) v is) in
    let i : entries_fault part.Root initials_key initial_checks ms ≡ None =
    array_passes initials_key.key (array no_items) initial_checks ms (initials_by v.initial) refl (omega (arith, length-from_number initial_data 1 v.initial, is.words.thirty))
    (each_initial (HasPassed initial_checks) (λ s ws low high block n. initial_passes n s ws low high block.long block.fit) v is) in
    λ j. option_or (known_keys v j) (option_or (a j) (option_or (b j) (option_or (c j) (option_or (d j) (option_or (e j) (option_or (f j) (option_or (g j) (option_or (h j) (option_or (i j) None)))))))))

-- ---- the codes that must be legal

-- of a set that may be empty: what its text and its legality say is what its bits say
pub said_bit : (mask i : ℕ) (default : Bool) → (default ≡ true → has_bit mask i ≡ true) → cond (has_bit (said_set mask) i) (not (mask == 0)) default ≡ has_bit mask i
said_bit mask i default needed = pick (mask == 0) refl
  where
    unset : (d b : Bool) → (d ≡ true → b ≡ true) → b ≡ false → d ≡ b
    unset true b h e = sym (h refl)
    unset false b h e = sym e

    empty : (b : Bool) → has_bit mask i ≡ false → cond b false default ≡ has_bit mask i
    empty true e = sym e
    empty false e = unset default (has_bit mask i) needed e

    full : (b : Bool) → has_bit mask i ≡ b → cond b true default ≡ b
    full true e = refl
    full false e = unset default false (λ d. sym e ∙ needed d) refl

    pick : (b : Bool) → (mask == 0) ≡ b → cond (has_bit (cond b 1 mask) i) (not b) default ≡ has_bit mask i
    pick true e = empty (has_bit 1 i) (ap (λ m. has_bit m i) (eqb-true mask 0 e) ∙ zero-bit i)
    pick false e = full (has_bit mask i) refl

abbrev pub own_entry : ℕ → ModeRule
own_entry mask = record { own = true; broadcast = false; codes = said_set mask; legal = not (mask == 0) }

abbrev pub broadcast_entry : ℕ → ModeRule
broadcast_entry mask = record { own = false; broadcast = true; codes = said_set mask; legal = not (mask == 0) }

abbrev pub entries_by : Tables → List ModeRule
entries_by t = own_entry t.own_mode ∷ broadcast_entry t.broadcast_mode ∷ []

own_given : (mask : ℕ) → mask < 2 ^ 32 → mode_in (mode_data (codes "own") mask) ≡ own_entry mask
own_given mask fits = rw (set_read 0 31 mask (omega arith) (omega arith) fits) refl

broadcast_given : (mask : ℕ) → mask < 2 ^ 32 → mode_in (mode_data (codes "broadcast") mask) ≡ broadcast_entry mask
broadcast_given mask fits = rw (set_read 0 31 mask (omega arith) (omega arith) fits) refl

pub modes_given : (v : Parts) → IsNormal v → modes_of (full_tree v) ≡ entries_by v.tables
modes_given v is = λ j. own_given v.tables.own_mode (own_mode_fits v is) j ∷ broadcast_given v.tables.broadcast_mode (broadcast_mode_fits v is) j ∷ []

says-cond : (default t : Bool) (m : ModeRule) → mode_says default (cond t (Some m) None) ≡ cond t m.legal default
says-cond default true m = refl
says-cond default false m = refl

pub own_said : (t : Tables) (c : ℕ) (default : Bool) → (default ≡ true → has_bit t.own_mode c ≡ true) → mode_says default (last_of (contains_own c) (entries_by t)) ≡ has_bit t.own_mode c
own_said t c default needed = says-cond default (has_bit (said_set t.own_mode) c) (own_entry t.own_mode) ∙ said_bit t.own_mode c default needed

required_bit : (v : Parts) → IsNormal v → (c : ℕ) → is_required_code c ≡ true → has_bit v.tables.own_mode c ≡ true
required_bit v is c e = right_of (is_some (mode_row c)) _ (required-legal v is c e)

pub own_codes_said : (v : Parts) → IsNormal v → (c : ℕ) → mode_says (is_required_code c) (last_of (contains_own c) (entries_by v.tables)) ≡ has_bit v.tables.own_mode c
own_codes_said v is c = own_said v.tables c (is_required_code c) (required_bit v is c)

code_legal : (v : Parts) → IsNormal v → (c : ℕ) → is_some (mode_row c) ≡ true → is_required_code c ≡ true → is_own_code_legal (entries_by v.tables) c ≡ true
code_legal v is c row needed = λ j. row j && (own_codes_said v is c ∙ required_bit v is c needed) j

none_missing : (modes : List ModeRule) → is_own_code_legal modes 2 ≡ true → is_own_code_legal modes 4 ≡ true → is_own_code_legal modes 5 ≡ true → is_own_code_legal modes 8 ≡ true → missing_code modes ≡ None
none_missing modes a b c d =
    λ j. cond (not (a j)) (Some 2) (cond (not (b j)) (Some 4) (cond (not (c j)) (Some 5) (cond (not (d j)) (Some 8) None)))

codes_pass : (v : Parts) → IsNormal v → code_fault (full_tree v) ≡ None
codes_pass v is =
    ap (λ modes. option_map RequiredCode (missing_code modes)) (modes_given v is)
    ∙ ap (option_map RequiredCode) (none_missing (entries_by v.tables) (code_legal v is 2 refl refl) (code_legal v is 4 refl refl) (code_legal v is 5 refl refl) (code_legal v is 8 refl refl))

-- ---- the tree

pub full_tree_faultless : (v : Parts) → IsNormal v → HasNoFault (faults (full_tree v))
full_tree_faultless v is = HasNoFault-from (faults (full_tree v)) (tree_fault (full_tree v) ∙ (λ j. option_or (keys_pass v is j) (codes_pass v is j)))

pub required_codes_given : (v : Parts) → IsNormal v → IsTrue (has_required_codes (entries_by v.tables))
required_codes_given v is =
    λ j. code_legal v is 2 refl refl j && (code_legal v is 4 refl refl j && (code_legal v is 5 refl refl j && (code_legal v is 8 refl refl j && true)))
