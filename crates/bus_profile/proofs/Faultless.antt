-- A tree without a fault gives a profile.
use Rattle.std.proofs.Common.{◌≡◌, ℕ, zero, suc, ◌+◌, ◌-◌, ◌^◌, ◌<◌, ◌≤◌, ◌&&◌, ◌↔◌, nat_le, nat_lt, Bool, true, false, not, cond, pos, negsuc, List, [], ◌∷◌, ◌++◌, length, map, take, replicate, Option, Some, None, option_map, Result, Ok, Err, refl, ap, sym, ◌∙◌, inl, inr, length-append, arith}
use Rattle.std.specs.Option.{option_or}
use Rattle.std.specs.Result.{result_unwrap_or}
use Rattle.std.proofs.lemmas.Bool.Decides.{nat_tests}
use Rattle.std.proofs.lemmas.Nat.{pow_below}
use Rattle.std.proofs.lemmas.Option.{same_Some}
use Rattle.toml.specs.Data.{Data, string, integer, float, boolean, datetime, array, table, Items, no_items, item, Members}
use Rattle.bus_legal.specs.declared.entries.Rule.{Rule}
use Rattle.bus_legal.specs.declared.entries.InitialWords.{InitialWords}
use Rattle.bus_profile.specs.declared.fault.Key.{Key}
use Rattle.bus_profile.specs.declared.fault.Part.{Part}
use Rattle.bus_profile.specs.declared.fault.Part.TheVariants as part
use Rattle.bus_profile.specs.declared.fault.ProfileFault.{ProfileFault}
use Rattle.bus_profile.specs.declared.fault.ProfileFault.TheVariants.{RequiredCode}
use Rattle.bus_legal.specs.declared.profile.Profile.{Profile}
use Rattle.bus_profile.specs.declared.ranges.RangeFault.{RangeFault}
use Rattle.bus_profile.specs.Checks.{Check, HasNoFault, in_order, first_fault}
use Rattle.bus_profile.specs.Faults.{key_checks, head_checks, each_item, entry_checks, rule_checks, mode_checks, initial_checks, word_checks, goes_beyond, faults}
use Rattle.bus_profile.specs.Keys.{Presence, KeyRow, key_row, whole, required, tables, root_rows, rule_rows, initial_rows, address_row, broadcast_row, wraparound_row, accept_row, vector_row, bit_row, to_row, direction_row, counts_row, legal_row, rules_key, modes_key, initials_key, subaddresses_row, subaddress_row, at_row, words_row}
use Rattle.bus_profile.specs.Kinds.{found, value, whole_in, wrap_value, or_default, set_from, items, count_items, is_too_long}
use Rattle.bus_legal.specs.OwnCodes.{is_own_code_legal}
use Rattle.bus_legal.specs.Plain.{PlainRule, PlainInitial, PlainProfile, plain, plain_rule, plain_initial}
use Rattle.bus_profile.specs.Gives.{each_of, rule_in, mode_in, initial_word_in, initial_in, modes_of, profile_of}
use Rattle.bus_profile.specs.Ranges.{IsReading}
use Rattle.bus_profile.specs.RangesOf.{ranges_of}
use Rattle.bus_profile.specs.Read.{IsTree, Accepts}
use Rattle.bus_profile.specs.inner.FirstFault.{fault_of_parts}
use Rattle.bus_profile.specs.inner.FirstWord.{IsFirstWord}
use Rattle.bus_profile.proofs.Arrays.{range_of, place_of}
use Rattle.bus_profile.proofs.Least.{first_fault-in_order}
use Rattle.bus_profile.proofs.NoFault.{no_first, no_second, first_fault-none, each_none}
use Rattle.bus_profile.proofs.RangesMeaning.{reading}
use Rattle.bus_profile.proofs.Sections.{unknown_fault, rule_fault, initial_fault, row_fault}
use Rattle.bus_profile.specs.inner.Section.{entries_fault}
use Rattle.bus_profile.proofs.Tree.{root_faults, key_fault, code_fault, tree_fault}

passes : (b : Bool) (f : ProfileFault) → cond b (Some f) None ≡ None → b ≡ false
passes true f e = absurd (cc)
passes false f e = refl

-- ---- keys without a fault

in_whole : (p : Part) (key : Key) (low high : ℕ) (d : Option Data) → first_fault (key_checks p (key_row key (whole low high) required) d) ≡ None → (low ≤ whole_in d) × (whole_in d ≤ high)
unfolding in_order
in_whole p key low high None e = absurd (cc)
in_whole p key low high (Some (integer (pos n))) e =
    let inside : (nat_le low n && nat_le n high) ≡ true = range_of (nat_le low n && nat_le n high) n _ e in
    (grind (arith, nat_tests), grind (arith, nat_tests))
in_whole p key low high _ e = absurd (cc)

wrap_small : (p : Part) (d : Option Data) → first_fault (key_checks p wraparound_row d) ≡ None → wrap_value (or_default wraparound_row.presence d) ≤ 30
unfolding in_order
wrap_small p None e = omega arith
wrap_small p (Some (integer (pos n))) e =
    let inside : (nat_le 1 n && nat_le n 30) ≡ true = range_of (nat_le 1 n && nat_le n 30) n _ e in grind (arith, nat_tests)
wrap_small p (Some (integer (negsuc n))) e = absurd (cc)
wrap_small p (Some (boolean true)) e = omega arith
wrap_small p (Some (boolean false)) e = omega arith
wrap_small p _ e = absurd (cc)

-- the set that a text of ranges gives
set_small : (s : List ℕ) (r : Result ℕ RangeFault) → IsReading s 1 30 r → result_unwrap_or r 0 < 2 ^ 30
set_small s (Ok mask) is = is.small
set_small s (Err f) is = omega arith

subaddresses_small : (p : Part) (d : Option Data) → first_fault (key_checks p subaddresses_row d) ≡ None → set_from 1 30 d < 2 ^ 30
unfolding in_order
subaddresses_small p None e = absurd (cc)
subaddresses_small p (Some (integer (pos n))) e =
    let inside : (nat_le 1 n && nat_le n 30) ≡ true = range_of (nat_le 1 n && nat_le n 30) n _ e in
    let below : n - 1 < 30 = grind (arith, nat_tests) in pow_below (n - 1) 30 below
subaddresses_small p (Some (string s)) e = set_small s (ranges_of 1 30 s) (reading s 1 30 (omega arith))
subaddresses_small p _ e = absurd (cc)

-- ---- arrays without a fault

-- an array without a fault as a whole is not too long
not_long : (p : Part) (r : KeyRow) (is_long : Items → Bool) (ms : Members) → first_fault (head_checks p r is_long ms) ≡ None → is_long (items (value r ms)) ≡ false
not_long p r is_long ms e = passes _ _ (no_first _ _ (no_second _ _ (sym (first_fault-in_order _) ∙ e)))

length-each_of : {A : Type 0} (f : Data → A) (ds : Items) → length (each_of f ds) ≡ count_items ds
length-each_of f no_items = refl
length-each_of f (item d ds) = ap suc (length-each_of f ds)

few : (count : ℕ) → nat_lt 256 count ≡ false → count ≤ 256
few count e = grind (arith, nat_tests)

no_head : (r : KeyRow) (checks : ℕ → Data → List Check) (ms : Members) → entries_fault part.Root r checks ms ≡ None → first_fault (head_checks part.Root r (is_too_long r.kind) ms) ≡ None
no_head r checks ms e = no_first (first_fault (head_checks part.Root r (is_too_long r.kind) ms)) (fault_of_parts (each_item checks 1 (items (value r ms)))) e

no_items_fault : (r : KeyRow) (checks : ℕ → Data → List Check) (ms : Members) → entries_fault part.Root r checks ms ≡ None → fault_of_parts (each_item checks 1 (items (value r ms))) ≡ None
no_items_fault r checks ms e = no_second (first_fault (head_checks part.Root r (is_too_long r.kind) ms)) (fault_of_parts (each_item checks 1 (items (value r ms)))) e

few_items : (key : Key) (presence : Presence) (checks : ℕ → Data → List Check) (ms : Members) → entries_fault part.Root (key_row key (tables 256) presence) checks ms ≡ None →
    count_items (items (value (key_row key (tables 256) presence) ms)) ≤ 256
few_items key presence checks ms e =
    let r : KeyRow = key_row key (tables 256) presence in
    few (count_items (items (value r ms))) (not_long part.Root r (is_too_long r.kind) ms (no_head r checks ms e))

-- ---- rules

rule_given : (n : ℕ) (d : Data) → first_fault (rule_checks n d) ≡ None → (r : Rule) × (plain_rule r ≡ rule_in d)
unfolding in_order entry_checks
rule_given n (table ms) e =
    let fault : KeyRow → Option ProfileFault = λ r. row_fault (part.Rule n) ms r in
    let none = each_none (unknown_fault (part.Rule n) rule_rows ms ∷ fault to_row ∷ fault direction_row ∷ fault subaddresses_row ∷ fault counts_row ∷ fault legal_row ∷ []) (sym (rule_fault n ms) ∙ e) in
    let p : PlainRule = rule_in (table ms) in
    let small = subaddresses_small (part.Rule n) (found subaddresses_row.key ms) none.1.1.1.0 in
    (record { own = p.own; broadcast = p.broadcast; receive = p.receive; transmit = p.transmit; subaddresses = p.subaddresses; counts = p.counts; legal = p.legal; thirty_subaddresses = small }, refl)
rule_given n _ e = absurd (cc)

rules_given : (n : ℕ) (ds : Items) → fault_of_parts (each_item rule_checks n ds) ≡ None → (rules : List Rule) × (map plain_rule rules ≡ each_of rule_in ds) × (length rules ≡ count_items ds)
rules_given n no_items e = ([], refl, refl)
rules_given n (item d ds) e =
    let here = rule_given n d (no_first (first_fault (rule_checks n d)) (fault_of_parts (each_item rule_checks (suc n) ds)) e) in
    let more = rules_given (suc n) ds (no_second (first_fault (rule_checks n d)) (fault_of_parts (each_item rule_checks (suc n) ds)) e) in
    (here.0 ∷ more.0, λ j. here.1 j ∷ more.1 j, ap suc more.2)

-- ---- initial entries

take-front : (xs ys : List ℕ) → take (length xs) (xs ++ ys) ≡ xs
take-front [] ys = refl
take-front (x ∷ xs) ys = ap (λ zs. x ∷ zs) (take-front xs ys)

abbrev zeros : ℕ → List ℕ
zeros n = replicate n 0

length-zeros : (n : ℕ) → length (zeros n) ≡ n
length-zeros zero = refl
length-zeros (suc n) = ap suc (length-zeros n)

initial_given : (n : ℕ) (d : Data) → first_fault (initial_checks n d) ≡ None → (i : InitialWords) × (plain_initial i ≡ initial_in d)
unfolding in_order entry_checks
initial_given n (table ms) e =
    let fault : KeyRow → Option ProfileFault = λ r. row_fault (part.Initial n) ms r in
    let head_fault : Option ProfileFault = first_fault (head_checks (part.Initial n) words_row (goes_beyond (value at_row ms)) ms) in
    let words_fault : Option ProfileFault = fault_of_parts (each_item (λ _. word_checks (part.Initial n)) 1 (items (value words_row ms))) in
    let none = each_none (unknown_fault (part.Initial n) initial_rows ms ∷ fault subaddress_row ∷ fault at_row ∷ option_or head_fault words_fault ∷ []) (sym (initial_fault n ms) ∙ e) in
    let subaddress = in_whole (part.Initial n) subaddress_row.key 1 30 (found subaddress_row.key ms) none.1.0 in
    let first : ℕ = whole_in (value at_row ms) in
    let at : IsFirstWord first (value at_row ms) = place_of (part.Initial n) ms first none.1.1.0 refl in
    let ds : Items = items (value words_row ms) in
    let head = no_first head_fault words_fault none.1.1.1.0 in
    let fits : nat_lt 32 (first - 1 + count_items ds) ≡ false = sym (at.beyond ds) ∙ not_long (part.Initial n) words_row (goes_beyond (value at_row ms)) ms head in
    let room : first + count_items ds ≤ 33 = room_of first (count_items ds) at.low fits in
    let words : List ℕ = each_of initial_word_in ds in
    let long : length words ≡ count_items ds = length-each_of initial_word_in ds in
    let all : length (words ++ zeros (32 - count_items ds)) ≡ 32 = whole_of words (count_items ds) long (at_most first (count_items ds) at.low room) in
    let front : take (count_items ds) (words ++ zeros (32 - count_items ds)) ≡ words = ap (λ k. take k (words ++ zeros (32 - count_items ds))) (sym long) ∙ take-front words (zeros (32 - count_items ds)) in (
      record { subaddress = whole_in (value subaddress_row ms); first = first; len = count_items ds; words = words ++ zeros (32 - count_items ds); subaddress_low = subaddress.0; subaddress_high = subaddress.1; first_low = at.low; first_high = at.high; room = room; whole = all },
      λ j. record { subaddress = whole_in (value subaddress_row ms); first = first; words = front j },
    )
  where
    room_of : (first count : ℕ) → 1 ≤ first → nat_lt 32 (first - 1 + count) ≡ false → first + count ≤ 33
    room_of first count low e = grind (arith, nat_tests)

    at_most : (first count : ℕ) → 1 ≤ first → first + count ≤ 33 → count ≤ 32
    at_most first count low room = omega arith

    whole_of : (words : List ℕ) (count : ℕ) → length words ≡ count → count ≤ 32 → length (words ++ zeros (32 - count)) ≡ 32
    whole_of words count long few = omega (arith, long, few, length-append words (zeros (32 - count)), length-zeros (32 - count))
initial_given n _ e = absurd (cc)

initials_given : (n : ℕ) (ds : Items) → fault_of_parts (each_item initial_checks n ds) ≡ None → (initials : List InitialWords) × (map plain_initial initials ≡ each_of initial_in ds) × (length initials ≡ count_items ds)
initials_given n no_items e = ([], refl, refl)
initials_given n (item d ds) e =
    let here = initial_given n d (no_first (first_fault (initial_checks n d)) (fault_of_parts (each_item initial_checks (suc n) ds)) e) in
    let more = initials_given (suc n) ds (no_second (first_fault (initial_checks n d)) (fault_of_parts (each_item initial_checks (suc n) ds)) e) in
    (here.0 ∷ more.0, λ j. here.1 j ∷ more.1 j, ap suc more.2)

-- ---- the tree

all_four : (a b c d : Bool) → option_map RequiredCode (cond (not a) (Some 2) (cond (not b) (Some 4) (cond (not c) (Some 5) (cond (not d) (Some 8) None)))) ≡ None → (a && (b && (c && (d && true)))) ≡ true
all_four false b c d e = absurd (cc)
all_four true false c d e = absurd (cc)
all_four true true false d e = absurd (cc)
all_four true true true false e = absurd (cc)
all_four true true true true e = refl

abbrev plain_with : Members → List PlainRule → List PlainInitial → PlainProfile
plain_with ms rules initials = record { address = (profile_of ms).address; broadcast = (profile_of ms).broadcast; wrap = (profile_of ms).wrap; accept = (profile_of ms).accept; vector = (profile_of ms).vector; bit = (profile_of ms).bit; rules = rules; modes = modes_of ms; initials = initials }

profile_given : (ms : Members) → HasNoFault (faults ms) → (p : Profile) × (plain p ≡ profile_of ms)
profile_given ms none =
    let faultless = sym (tree_fault ms) ∙ first_fault-none (faults ms) none in
    let legal : ℕ → Bool = λ code. is_own_code_legal (modes_of ms) code in
    let settings = (each_none (root_faults ms) (no_first (key_fault ms) (code_fault ms) faultless)).1 in
    let arrays = settings.1.1.1.1.1.1 in
    let rules = rules_given 1 (items (value rules_key ms)) (no_items_fault rules_key rule_checks ms arrays.0) in
    let initials = initials_given 1 (items (value initials_key ms)) (no_items_fault initials_key initial_checks ms arrays.1.1.0) in
    let few_rules = few_items rules_key.key rules_key.presence rule_checks ms arrays.0 in
    let few_modes = few_items modes_key.key modes_key.presence mode_checks ms arrays.1.0 in
    let few_initials = few_items initials_key.key initials_key.presence initial_checks ms arrays.1.1.0 in
    let own = profile_of ms in (
      record {
        address = own.address;
        broadcast = own.broadcast;
        wrap = own.wrap;
        accept = own.accept;
        vector = own.vector;
        bit = own.bit;
        rules = rules.0;
        modes = modes_of ms;
        initials = initials.0;
        own_address = (in_whole part.Root address_row.key 0 30 (found address_row.key ms) settings.0).1;
        own_wrap = wrap_small part.Root (found wraparound_row.key ms) settings.1.1.0;
        few_rules = omega (arith, few_rules, rules.2);
        few_modes = omega (arith, few_modes, length-each_of mode_in (items (value modes_key ms)));
        few_initials = omega (arith, few_initials, initials.2);
        required_codes = all_four (legal 2) (legal 4) (legal 5) (legal 8) (no_second (key_fault ms) (code_fault ms) faultless);
      },
      λ j. plain_with ms (rules.1 j) (initials.1 j),
    )

pub faultless_gives : (text : List ℕ) (tree : Members) → IsTree text tree → HasNoFault (faults tree) ↔ ((profile : Profile) × Accepts text profile)
faultless_gives text tree is = (
  λ none. let given = profile_given tree none in (given.0, record { tree = tree; is = is; faultless = none; gives = given.1 }),
  λ accepted. rw (same_Some tree accepted.1.tree (sym is.reads ∙ accepted.1.is.reads)) accepted.1.faultless,
)
