-- The full tree of what can be reached of a terminal: a profile with each setting, a rule for each subaddress, direction and
-- addressee, and all the words held.
use Rattle.std.specs.Prelude.{ℕ, suc, ◌==◌, false, not, if◌then◌else◌, pos, List, [], ◌∷◌, ◌++◌, map, codes}
use Rattle.std.specs.Ordering.{nat_cmp, match_ordering}
use Rattle.std.specs.Cmp.Lexicographic.{slice_cmp}
use Rattle.toml.specs.Data.{Data, string, integer, boolean, array, table, Members, no_members, member}
use Rattle.toml.specs.View.{items_of}
use Rattle.bus_legal.specs.declared.tables.Tables.{Tables}
use Rattle.bus_legal.specs.Parts.{Parts}
use Rattle.rt1553_toml.specs.Sets.{set_text}

-- ---- tables

-- the members with a value at a key, which stands in the order of the keys
abbrev pub put_member : List ℕ → Data → Members → Members
put_member k d no_members = member k d no_members
put_member k d (member l e ms) = match_ordering (slice_cmp nat_cmp k l) (member k d (member l e ms)) (member l d ms) (member l e (put_member k d ms))

-- what each item gives with its number, from n
abbrev pub from_number : {A B : Type 0} → (ℕ → A → B) → ℕ → List A → List B
from_number f n [] = []
from_number f n (x ∷ xs) = f n x ∷ from_number f (suc n) xs

-- ---- entries

-- which word counts are legal at a subaddress
abbrev pub rule_members : List ℕ → List ℕ → ℕ → ℕ → Members
rule_members to direction subaddress mask =
    member (codes "counts") (string (set_text 1 mask))
    (member (codes "direction") (string direction)
    (member (codes "legal") (boolean (not (mask == 0)))
    (member (codes "subaddresses") (integer (pos subaddress))
    (member (codes "to") (string to) no_members))))

-- the rule, as an item of its array
abbrev pub rule_data : List ℕ → List ℕ → ℕ → ℕ → Data
rule_data to direction subaddress mask = table (rule_members to direction subaddress mask)

-- which mode codes are legal
abbrev pub mode_members : List ℕ → ℕ → Members
mode_members to mask =
    member (codes "codes") (string (set_text 0 mask))
    (member (codes "legal") (boolean (not (mask == 0)))
    (member (codes "to") (string to) no_members))

-- the mode entry, as an item of its array
abbrev pub mode_data : List ℕ → ℕ → Data
mode_data to mask = table (mode_members to mask)

-- the word, as an item of an array of words
abbrev pub word_data : ℕ → Data
word_data word = integer (pos word)

-- all the words that a subaddress holds
abbrev pub initial_members : ℕ → List ℕ → Members
initial_members subaddress words =
    member (codes "subaddress") (integer (pos subaddress))
    (member (codes "words") (array (items_of (map word_data words))) no_members)

-- the words of a subaddress, as an item of the array of initial entries
abbrev pub initial_data : ℕ → List ℕ → Data
initial_data subaddress words = table (initial_members subaddress words)

-- ---- the tree

-- the rules: own receive commands first, then own transmit commands, then those by broadcast
abbrev pub rules_by : Tables → List Data
rules_by t =
    from_number (rule_data (codes "own") (codes "receive")) 1 t.own_receive
    ++ (from_number (rule_data (codes "own") (codes "transmit")) 1 t.own_transmit
    ++ from_number (rule_data (codes "broadcast") (codes "receive")) 1 t.broadcast_receive)

-- two mode entries, of own mode codes and of broadcast ones
abbrev pub modes_by : Tables → List Data
modes_by t = mode_data (codes "own") t.own_mode ∷ mode_data (codes "broadcast") t.broadcast_mode ∷ []

-- an initial entry for each subaddress, from 1 on
abbrev pub initials_by : List (List ℕ) → List Data
initials_by words = from_number initial_data 1 words

-- the value of `wraparound`: a subaddress, or false for none
abbrev pub wraparound_data : ℕ → Data
wraparound_data wrap = if wrap == 0 then boolean false else integer (pos wrap)

-- the whole tree, with its keys in alphabetical order
abbrev pub full_tree : Parts → Members
full_tree v =
    member (codes "accept_bus_control") (boolean v.accept)
    (member (codes "address") (integer (pos v.address))
    (member (codes "bit") (integer (pos v.bit))
    (member (codes "broadcast") (boolean v.broadcast)
    (member (codes "initial") (array (items_of (initials_by v.initial)))
    (member (codes "mode") (array (items_of (modes_by v.tables)))
    (member (codes "rule") (array (items_of (rules_by v.tables)))
    (member (codes "vector") (integer (pos v.vector))
    (member (codes "wraparound") (wraparound_data v.wrap) no_members))))))))
