-- What a tree without faults gives: a profile in plain values.
use Rattle.std.specs.Prelude.{ℕ, Bool, ◌||◌, List, [], ◌∷◌, Some, codes}
use Rattle.std.specs.Str.{bytes_eq}
use Rattle.toml.specs.Data.{Data, table, Items, no_items, item, Members, no_members}
use Rattle.bus_legal.specs.declared.entries.ModeRule.{ModeRule}
use Rattle.bus_legal.specs.Plain.{PlainRule, PlainInitial, PlainProfile}
use Rattle.bus_profile.specs.Keys.{address_row, broadcast_row, wraparound_row, accept_row, vector_row, bit_row, rules_key, modes_key, initials_key, to_row, direction_row, subaddresses_row, counts_row, legal_row, codes_row, subaddress_row, at_row, words_row}
use Rattle.bus_profile.specs.Kinds.{value, whole_in, truth_value, wrap_value, text, set_from, items}

-- the text is this one, or "both"
abbrev pub says : List ℕ → List ℕ → Bool
says wanted s = bytes_eq s wanted || bytes_eq s (codes "both")

-- what each item of an array gives
abbrev pub each_of : {A : Type 0} → (Data → A) → Items → List A
each_of f no_items = []
each_of f (item d ds) = f d ∷ each_of f ds

-- the keys of an entry
abbrev pub members : Data → Members
members (table ms) = ms
members _ = no_members

-- the rule that a table of these keys gives
abbrev pub rule_from : Members → PlainRule
rule_from ms = record {
  own = says (codes "own") (text (value to_row ms));
  broadcast = says (codes "broadcast") (text (value to_row ms));
  receive = says (codes "receive") (text (value direction_row ms));
  transmit = says (codes "transmit") (text (value direction_row ms));
  subaddresses = set_from 1 30 (value subaddresses_row ms);
  counts = set_from 1 32 (value counts_row ms);
  legal = truth_value (value legal_row ms);
}

-- the mode entry that a table of these keys gives
abbrev pub mode_from : Members → ModeRule
mode_from ms = record {
  own = says (codes "own") (text (value to_row ms));
  broadcast = says (codes "broadcast") (text (value to_row ms));
  codes = set_from 0 31 (value codes_row ms);
  legal = truth_value (value legal_row ms);
}

-- the word that an item of an array of words gives
abbrev pub initial_word_in : Data → ℕ
initial_word_in d = whole_in (Some d)

-- the initial entry that a table of these keys gives
abbrev pub initial_from : Members → PlainInitial
initial_from ms = record {
  subaddress = whole_in (value subaddress_row ms);
  first = whole_in (value at_row ms);
  words = each_of initial_word_in (items (value words_row ms));
}

-- the rule that an item of the array of rules gives
abbrev pub rule_in : Data → PlainRule
rule_in d = rule_from (members d)

-- the rules of the tree, in their order
abbrev pub rules_of : Members → List PlainRule
rules_of ms = each_of rule_in (items (value rules_key ms))

-- the mode entry that an item of the array of mode entries gives
abbrev pub mode_in : Data → ModeRule
mode_in d = mode_from (members d)

-- the mode entries of the tree, in their order
abbrev pub modes_of : Members → List ModeRule
modes_of ms = each_of mode_in (items (value modes_key ms))

-- the initial entry that an item of the array of initial entries gives
abbrev pub initial_in : Data → PlainInitial
initial_in d = initial_from (members d)

-- the initial entries of the tree, in their order
abbrev pub initials_of : Members → List PlainInitial
initials_of ms = each_of initial_in (items (value initials_key ms))

-- the whole profile that the tree gives
abbrev pub profile_of : Members → PlainProfile
profile_of ms = record {
  address = whole_in (value address_row ms);
  broadcast = truth_value (value broadcast_row ms);
  wrap = wrap_value (value wraparound_row ms);
  accept = truth_value (value accept_row ms);
  vector = whole_in (value vector_row ms);
  bit = whole_in (value bit_row ms);
  rules = rules_of ms;
  modes = modes_of ms;
  initials = initials_of ms;
}
