-- The text of the full tree.
use Rattle.std.proofs.Common.{◌≡◌, ℕ, ◌≤◌, ◌==◌, ◌&&◌, Bool, true, false, cond, pos, List, [], ◌∷◌, ◌++◌, map, Some, IsUtf8, refl, ap, sym, subst, ◌∙◌, arith}
use Rattle.toml.specs.Data.{Data, boolean, integer, array, Members, no_members, member, depth, items_depth, members_depth, has_valid_dates, items_have_valid_dates, members_have_valid_dates}
use Rattle.toml.specs.Parse.{parse_document}
use Rattle.toml.specs.Text.{IsDocumentText}
use Rattle.toml_writer.specs.Text.{key_text}
use Rattle.toml.specs.View.{items_of}
use Rattle.bus_legal.specs.Meaning.{description_of}
use Rattle.bus_legal.specs.Parts.{Parts, IsNormal}
use Rattle.rt1553.specs.Load.{is_canon_text, OfBy, Reaches}
use Rattle.rt1553_toml.specs.Toml.{IsTomlOf}
use Rattle.rt1553_toml.specs.inner.FullTree.{word_data, initial_data, rules_by, modes_by, initials_by, wraparound_data, full_tree}
use Rattle.rt1553_toml.proofs.TreeFaults.{AllIn, each_rule, each_mode, each_initial, full_tree_faultless}
use Rattle.rt1553_toml.proofs.TreeMeaning.{full_tree_gives}

-- ---- it is not deep, and has no dates

record IsShallow (d : Data) : Type 0 where
  low : depth d ≤ 3
  dates : has_valid_dates d ≡ true

pub record AreShallow (ms : Members) : Type 0 where
  pub low : members_depth ms ≤ 3
  pub dates : members_have_valid_dates ms ≡ true

member_shallow : (k : List ℕ) (d : Data) (ms : Members) → IsShallow d → AreShallow ms → AreShallow (member k d ms)
member_shallow k d ms a b = record { low = omega (arith, a.low, b.low); dates = λ j. a.dates j && b.dates j }

abbrev IsShallowItem : Data → Type 0
IsShallowItem d = (depth d ≤ 2) × (has_valid_dates d ≡ true)

items_shallow : (ds : List Data) → AllIn IsShallowItem ds → (items_depth (items_of ds) ≤ 2) × (items_have_valid_dates (items_of ds) ≡ true)
items_shallow [] h = (omega arith, refl)
items_shallow (d ∷ ds) h = let more = items_shallow ds h.1 in (omega (arith, h.0.0, more.0), λ j. h.0.1 j && more.1 j)

array_shallow : (ds : List Data) → AllIn IsShallowItem ds → IsShallow (array (items_of ds))
array_shallow ds h = let all = items_shallow ds h in record { low = omega (arith, all.0); dates = all.1 }

words_flat : (ws : List ℕ) → (items_depth (items_of (map word_data ws)) ≡ 0) × (items_have_valid_dates (items_of (map word_data ws)) ≡ true)
words_flat [] = (refl, refl)
words_flat (w ∷ ws) = let more = words_flat ws in (omega (arith, more.0), more.1)

initial_shallow : (s : ℕ) (ws : List ℕ) → IsShallowItem (initial_data s ws)
initial_shallow s ws = let flat = words_flat ws in (omega (arith, flat.0), λ j. flat.1 j && true)

number_shallow : (n : ℕ) → IsShallow (integer (pos n))
number_shallow n = record { low = omega arith; dates = refl }

truth_shallow : (b : Bool) → IsShallow (boolean b)
truth_shallow b = record { low = omega arith; dates = refl }

wraparound_shallow : (w : ℕ) → IsShallow (wraparound_data w)
wraparound_shallow w = pick (w == 0)
  where
    pick : (b : Bool) → IsShallow (cond b (boolean false) (integer (pos w)))
    pick true = truth_shallow false
    pick false = number_shallow w

none_shallow : AreShallow no_members
none_shallow = record { low = omega arith; dates = refl }

pub full_tree_shallow : (v : Parts) → IsNormal v → AreShallow (full_tree v)
full_tree_shallow v is =
    let rules = array_shallow (rules_by v.tables) (each_rule IsShallowItem (λ to direction a b s mask low high fits. (omega arith, refl)) v is) in
    let modes = array_shallow (modes_by v.tables) (each_mode IsShallowItem (λ to a mask fits. (omega arith, refl)) v is) in
    let initials = array_shallow (initials_by v.initial) (each_initial IsShallowItem (λ s ws low high block. initial_shallow s ws) v is) in
    member_shallow _ _ _ (truth_shallow v.accept) (member_shallow _ _ _ (number_shallow v.address) (member_shallow _ _ _ (number_shallow v.bit) (member_shallow _ _ _ (truth_shallow v.broadcast)
    (member_shallow _ _ _ initials (member_shallow _ _ _ modes (member_shallow _ _ _ rules (member_shallow _ _ _ (number_shallow v.vector) (member_shallow _ _ _ (wraparound_shallow v.wrap) none_shallow))))))))

-- ---- it begins with the key `accept_bus_control`

pub full_text_begins : (v : Parts) (text : List ℕ) → IsDocumentText false (full_tree v) text → (more : List ℕ) × (text ≡ 97 ∷ more)
unfolding key_text
full_text_begins v text h = let (this, rest, whole, line, more) = h in (_, whole ∙ ap (λ t. t ++ rest) line.1)

-- ---- what the text means

pub full_text_is_toml : (v : Parts) (text : List ℕ) → IsDocumentText false (full_tree v) text → is_canon_text text ≡ false
full_text_is_toml v text h = let begins = full_text_begins v text h in ap is_canon_text begins.1

-- a text whose tree is the full tree is a profile text of the terminal
pub full_text_is_profile : (v : Parts) (text : List ℕ) → IsNormal v → IsUtf8 text → parse_document text ≡ Some (full_tree v) → IsTomlOf text v
full_text_is_profile v text is utf8 reads =
    let given = full_tree_gives v is in
    record {
      description = description_of given.profile;
      of = record {
        profile = given.profile;
        accepts = record { tree = full_tree v; is = record { utf8 = utf8; reads = reads }; faultless = full_tree_faultless v is; gives = given.gives };
        gives = refl;
      };
      reached = given.reached;
    }

pub full_text_reaches : (v : Parts) (text : List ℕ) → is_canon_text text ≡ false → IsTomlOf text v → Reaches text v
full_text_reaches v text toml of = record { description = of.description; of = subst (λ b. OfBy b text of.description) (sym toml) of.of; reached = of.reached }
