-- The ranges of what an accepted profile text describes.
use Rattle.std.proofs.Common.{◌≡◌, ℕ, zero, suc, ◌-◌, ◌^◌, ◌<◌, ◌≤◌, ◌==◌, ◌&&◌, nat_le, Bool, true, false, cond, pos, List, [], ◌∷◌, map, get_or, Option, Some, None, refl, ap, sym, subst, ◌∙◌, get_or-take, arith}
use Rattle.std.specs.Option.{option_or}
use Rattle.std.proofs.lemmas.Bool.Decides.{nat_tests}
use Rattle.bus_profile.specs.Data.{Data, integer, table, Items, no_items, item}
use Rattle.bus_legal.specs.declared.entries.InitialWords.{InitialWords}
use Rattle.bus_profile.specs.declared.fault.Key.{Key}
use Rattle.bus_profile.specs.declared.fault.Part.{Part}
use Rattle.bus_profile.specs.declared.fault.Part.TheVariants as part
use Rattle.bus_profile.specs.declared.fault.ProfileFault.{ProfileFault}
use Rattle.bus_legal.specs.declared.profile.Profile.{Profile}
use Rattle.bus_profile.specs.Checks.{in_order, first_fault}
use Rattle.bus_profile.specs.Faults.{key_checks, head_checks, each_item, entry_checks, initial_checks, word_checks, goes_beyond, faults}
use Rattle.bus_profile.specs.Keys.{KeyRow, key_row, whole, optional, vector_row, bit_row, initials_key, subaddress_row, at_row, words_row, initial_rows}
use Rattle.bus_profile.specs.Kinds.{found, value, whole_in, or_default, items, is_too_long}
use Rattle.bus_legal.specs.Last.{or_last, last_of}
use Rattle.bus_legal.specs.Plain.{PlainInitial, plain_initial}
use Rattle.bus_profile.specs.Gives.{each_of, initial_word_in, initial_in}
use Rattle.bus_profile.specs.Read.{Accepts}
use Rattle.bus_profile.specs.inner.FirstFault.{fault_of_parts}
use Rattle.bus_profile.proofs.Arrays.{range_of}
use Rattle.bus_profile.proofs.Sections.{unknown_fault, row_fault, initial_fault}
use Rattle.bus_profile.proofs.NoFault.{first_fault-none, no_first, no_second, each_none}
use Rattle.bus_profile.proofs.Tree.{root_faults, key_fault, code_fault, tree_fault}
use Rattle.bus_legal.specs.Initial.{gives_number, gives, word_given, initial_word}
use Rattle.bus_legal.specs.Meaning.{description_of}
use Rattle.bus_legal.proofs.Bools.{right_of}
use Rattle.bus_legal.proofs.LegalLaws.{legal_allowed, required_codes}
use Rattle.bus_legal.proofs.Made.{IsInRange}
use Rattle.bus_legal.proofs.PlainLaws.{number_within}

-- ---- words

word_below : (n : ℕ) → (nat_le 0 n && nat_le n 65535) ≡ true → n < 2 ^ 16
word_below n e = let high : n ≤ 65535 = grind (arith, nat_tests) in omega arith

-- a key of a word
key_word : (p : Part) (key : Key) (d : Option Data) → first_fault (key_checks p (key_row key (whole 0 65535) (optional (integer (pos 0)))) d) ≡ None →
    whole_in (or_default (optional (integer (pos 0))) d) < 2 ^ 16
unfolding in_order
key_word p key None e = omega arith
key_word p key (Some (integer (pos n))) e = word_below n (range_of (nat_le 0 n && nat_le n 65535) n _ e)
key_word p key _ e = absurd (cc)

-- an item of an array of words
item_word : (p : Part) (d : Data) → first_fault (word_checks p d) ≡ None → initial_word_in d < 2 ^ 16
unfolding in_order
item_word p (integer (pos n)) e = word_below n (range_of (nat_le 0 n && nat_le n 65535) n _ e)
item_word p _ e = absurd (cc)

-- all are words
abbrev AreBelow : List ℕ → Type 0
AreBelow words = (i : ℕ) → get_or words i 0 < 2 ^ 16

each_word : (p : Part) (n : ℕ) (ds : Items) → fault_of_parts (each_item (λ _. word_checks p) n ds) ≡ None → AreBelow (each_of initial_word_in ds)
each_word p n no_items e i = omega arith
each_word p n (item d ds) e zero = item_word p d (no_first (first_fault (word_checks p d)) (fault_of_parts (each_item (λ _. word_checks p) (suc n) ds)) e)
each_word p n (item d ds) e (suc i) = each_word p (suc n) ds (no_second (first_fault (word_checks p d)) (fault_of_parts (each_item (λ _. word_checks p) (suc n) ds)) e) i

-- ---- initial entries

entry_words : (n : ℕ) (d : Data) → first_fault (initial_checks n d) ≡ None → AreBelow (initial_in d).words
unfolding in_order entry_checks
entry_words n (table ms) e =
    let fault : (r : KeyRow) → Option ProfileFault = λ r. row_fault (part.Initial n) ms r in
    let head_fault : Option ProfileFault = first_fault (head_checks (part.Initial n) words_row (goes_beyond (value at_row ms)) ms) in
    let words_fault : Option ProfileFault = fault_of_parts (each_item (λ _. word_checks (part.Initial n)) 1 (items (value words_row ms))) in
    let none = each_none (unknown_fault (part.Initial n) initial_rows ms ∷ fault subaddress_row ∷ fault at_row ∷ option_or head_fault words_fault ∷ []) (sym (initial_fault n ms) ∙ e) in
    each_word (part.Initial n) 1 (items (value words_row ms)) (no_second head_fault words_fault none.1.1.1.0)
entry_words n _ e = absurd (cc)

abbrev HoldWords : List PlainInitial → Type 0
HoldWords [] = Unit {0}
HoldWords (e ∷ es) = AreBelow e.words × HoldWords es

entries_words : (n : ℕ) (ds : Items) → fault_of_parts (each_item initial_checks n ds) ≡ None → HoldWords (each_of initial_in ds)
entries_words n no_items e = tt
entries_words n (item d ds) e = (
  entry_words n d (no_first (first_fault (initial_checks n d)) (fault_of_parts (each_item initial_checks (suc n) ds)) e),
  entries_words (suc n) ds (no_second (first_fault (initial_checks n d)) (fault_of_parts (each_item initial_checks (suc n) ds)) e),
)

given_word : (entries : List InitialWords) (s n : ℕ) → HoldWords (map plain_initial entries) → initial_word entries s n < 2 ^ 16
given_word [] s n hold = omega arith
given_word (e ∷ entries) s n hold = pick (last_of (gives s n) entries) (given_word entries s n hold.1) (gives s n e) refl
  where
    pick : (o : Option InitialWords) → word_given 0 n o < 2 ^ 16 → (t : Bool) → gives s n e ≡ t → word_given 0 n (or_last o (cond t (Some e) None)) < 2 ^ 16
    pick (Some x) small t is = small
    pick None small false is = omega arith
    pick None small true is =
        subst (λ w. w < 2 ^ 16) (get_or-take e.len e.words (n - e.first) 0 (number_within e.first e.len n (right_of (s == e.subaddress) (gives_number n e) is))) (hold.0 (n - e.first))

-- ---- the tree

pub accepted_in_range : (text : List ℕ) (p : Profile) → Accepts text p → IsInRange (description_of p)
accepted_in_range text p accepts =
    let ms = accepts.tree in
    let faultless = sym (tree_fault ms) ∙ first_fault-none (faults ms) accepts.faultless in
    let settings = (each_none (root_faults ms) (no_first (key_fault ms) (code_fault ms) faultless)).1 in
    let arrays = settings.1.1.1.1.1.1 in
    let head_fault : Option ProfileFault = first_fault (head_checks part.Root initials_key (is_too_long initials_key.kind) ms) in
    let items_fault : Option ProfileFault = fault_of_parts (each_item initial_checks 1 (items (value initials_key ms))) in
    let hold : HoldWords (each_of initial_in (items (value initials_key ms))) = entries_words 1 (items (value initials_key ms)) (no_second head_fault items_fault arrays.1.1.0) in
    record {
      address = p.own_address;
      wrap = p.own_wrap;
      vector = subst (λ w. w < 2 ^ 16) (sym (ap (λ q. q.vector) accepts.gives)) (key_word part.Root vector_row.key (found vector_row.key ms) settings.1.1.1.1.0);
      bit = subst (λ w. w < 2 ^ 16) (sym (ap (λ q. q.bit) accepts.gives)) (key_word part.Root bit_row.key (found bit_row.key ms) settings.1.1.1.1.1.0);
      words = λ s i. given_word p.initials s i (subst HoldWords (sym (ap (λ q. q.initials) accepts.gives)) hold);
      allowed = legal_allowed p.rules p.modes;
      required = required_codes p;
    }
