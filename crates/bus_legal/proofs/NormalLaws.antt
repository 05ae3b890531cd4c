-- The laws of what a `Normal` is seen as.
use Rattle.std.proofs.Common.{◌≡◌, ℕ, ◌-◌, ◌<◌, ◌==◌, ◌≤◌, bit_and, Bool, true, false, ◌&&◌, cond, nat_lt, List, get_or, is_some, refl, ap, sym, ◌∙◌, arith}
use Rattle.std.proofs.lemmas.Bool.{eqb-true}
use Rattle.std.proofs.lemmas.Bool.Decides.{nat_tests}
use Rattle.bus_word.specs.declared.cell.Cell.{Cell}
use Rattle.bus_word.specs.declared.cell.Cell.TheVariants.{OwnReceive, OwnTransmit, BroadReceive, OwnMode, BroadMode}
use Rattle.bus_word.specs.Cell.{is_data_place, is_allowed}
use Rattle.bus_word.specs.Mode.{is_required_code, dynamic_bus_control, vector_word, bit_word, mode_row}
use Rattle.bus_legal.specs.declared.profile.Profile.{Profile}
use Rattle.bus_word.specs.Mask.{has_bit}
use Rattle.bus_legal.specs.declared.setup.Setup.{Setup}
use Rattle.bus_legal.specs.declared.tables.Tables.{Tables}
use Rattle.bus_legal.specs.Description.{word_at, words_at_places, described}
use Rattle.bus_legal.specs.Initial.{initial_word}
use Rattle.bus_legal.specs.Legal.{is_legal, last_says}
use Rattle.bus_legal.specs.Meaning.{description_of, SetsUp}
use Rattle.bus_legal.specs.Reach.{is_heard, reach}
use Rattle.bus_legal.specs.Tables.{has_cell, tables_say, largest_in, masks_wrap}
use Rattle.bus_legal.specs.Parts.{Parts, parts_of, description_in, IsNormal}
use Rattle.bus_legal.proofs.Bits.{has_bit-and}
use Rattle.bus_legal.proofs.Bools.{right_of}
use Rattle.bus_legal.proofs.ModeMasks.{each_required}
use Rattle.bus_legal.proofs.Descriptions.{same_description, and-twice}
use Rattle.bus_legal.proofs.TableSteps.{required_codes-bits, row_below}
use Rattle.bus_legal.proofs.InitialSteps.{initial_word-outside}
use Rattle.bus_legal.proofs.PartsReach.{description_in-made}
use Rattle.bus_word.proofs.Places.{place_low, place_high}
use Rattle.bus_legal.proofs.TablesReach.{unheard-says}

-- of a flag that stands only where a test passes
flag-kept : (t flag : Bool) → (t ≡ false → flag ≡ false) → flag ≡ (t && flag)
flag-kept true flag h = refl
flag-kept false flag h = h refl

-- of a word that is 0 unless a test passes
word-kept : (t : Bool) (word : ℕ) → (t ≡ false → word ≡ 0) → word ≡ cond t word 0
word-kept true word h = refl
word-kept false word h = h refl

-- every legal cell of a `Normal` is one that its terminal hears
all-heard : (v : Parts) → IsNormal v → (cell : Cell) → tables_say v.tables cell ≡ (is_heard v.broadcast cell && tables_say v.tables cell)
all-heard v is cell = by_option v.broadcast refl
  where
    built : Tables → List ℕ → ℕ → Tables
    built t masks mask = record t { broadcast_receive = masks; broadcast_mode = mask }

    by_option : (b : Bool) → v.broadcast ≡ b → tables_say v.tables cell ≡ (is_heard v.broadcast cell && tables_say v.tables cell)
    by_option true e = sym (ap (λ b. is_heard b cell && tables_say v.tables cell) e ∙ all cell)
      where
        all : (cell : Cell) → (is_heard true cell && tables_say v.tables cell) ≡ tables_say v.tables cell
        all (OwnReceive s n) = refl
        all _ = refl
    by_option false e =
        (λ j. tables_say (record v.tables { broadcast_receive = is.unheard_receive e j; broadcast_mode = is.unheard_mode e j }) cell)
        ∙ (unheard-says v.tables cell ∙ ap (λ b. is_heard b cell && tables_say v.tables cell) (sym e))

-- the description of a `Normal` is its own reached part
pub reach-normal : (v : Parts) → IsNormal v → reach (description_in v) ≡ description_in v
reach-normal v is = sym (description_in-made (description_in v) v (record {
  address = refl;
  broadcast = refl;
  own_receive = is.own_receive;
  own_transmit = is.own_transmit;
  broadcast_receive = is.broadcast_receive;
  legal = all-heard v is;
  small = is.wrap;
  wrap = word-kept (masks_wrap v.tables v.wrap) v.wrap is.unwrapped;
  accept = flag-kept (has_bit v.tables.own_mode dynamic_bus_control) v.accept is.unasked_accept;
  vector = word-kept (has_bit v.tables.own_mode vector_word) v.vector is.unasked_vector;
  bit = word-kept (has_bit v.tables.own_mode bit_word) v.bit is.unasked_bit;
  initial = λ s i place.
      word-kept (nat_lt (i - 1) (most s)) (word_at v.initial s i) (λ past. is.unsent (s - 1) (i - 1) (place_low s i place) (place_high s i place) (beyond (i - 1) (most s) past))
      ∙ ap (λ w. cond (nat_lt (i - 1) (most s)) w 0) (sym (ap (λ b. cond b (word_at v.initial s i) 0) place));
}))
  where
    most : ℕ → ℕ
    most s = largest_in (get_or v.tables.own_transmit (s - 1) 0)

    beyond : (i n : ℕ) → nat_lt i n ≡ false → n ≤ i
    beyond i n e = grind (arith, nat_tests)

-- A terminal that is set up by a profile, with any legality that is the profile's, has the profile's description.
pub set_up_by : (p : Profile) (setup : Setup) (means : Cell → Bool) → SetsUp p setup → ((cell : Cell) →
    means cell ≡ is_legal p.rules p.modes cell) → described setup means ≡ description_of p
unfolding is_legal
set_up_by p setup means up legal = same_description (described setup means) (description_of p) up.address up.broadcast up.wrap up.accept up.vector up.bit
    (λ s i. words s i (is_data_place s i) refl)
    (λ cell. ap (λ b. is_allowed cell && b) (legal cell) ∙ and-twice (is_allowed cell) (last_says p.rules p.modes cell))
  where
    words : (s i : ℕ) (t : Bool) → is_data_place s i ≡ t → cond t (word_at setup.initial s i) 0 ≡ initial_word p.initials s i
    words s i true place = up.initial s i place
    words s i false outside = sym (initial_word-outside p.initials s i outside)

-- A terminal that is set up by parts has their description.
pub set_up_normal : (v : Parts) (setup : Setup) → parts_of setup v.tables ≡ v → described setup (tables_say v.tables) ≡ description_in v
set_up_normal v setup same = same_description (described setup (tables_say v.tables)) (description_in v)
    (ap (λ w. w.address) same) (ap (λ w. w.broadcast) same) (ap (λ w. w.wrap) same) (ap (λ w. w.accept) same) (ap (λ w. w.vector) same) (ap (λ w. w.bit) same)
    (λ s i. ap (λ w. words_at_places w.initial s i) same)
    (λ cell. and-twice (is_allowed cell) (has_cell v.tables cell))

-- and that of a `Normal` is its own reached part
pub reach-set_up_normal : (v : Parts) (setup : Setup) → IsNormal v → parts_of setup v.tables ≡ v → reach (described setup (tables_say v.tables)) ≡ description_in v
reach-set_up_normal v setup is same = ap reach (set_up_normal v setup same) ∙ reach-normal v is

-- own mode codes 2, 4, 5 and 8 are legal in a `Normal`
pub required-legal : (v : Parts) → IsNormal v → (c : ℕ) → is_required_code c ≡ true → tables_say v.tables (OwnMode c) ≡ true
required-legal v is c e =
    let row : is_some (mode_row c) ≡ true = each_required (λ c. is_some (mode_row c)) refl c e in
    let low : c < 32 = row_below c row in
    λ j. row j && has c low (required_codes-bits c low ∙ e) j
  where
    all : bit_and v.tables.own_mode 0x134 ≡ 0x134
    all = eqb-true (bit_and v.tables.own_mode 0x134) 0x134 (right_of (bit_and v.tables.own_mode 0x000f01ff == v.tables.own_mode) _ is.own_mode)

    has : (c : ℕ) → c < 32 → has_bit 0x134 c ≡ true → has_bit v.tables.own_mode c ≡ true
    has c l e = right_of (has_bit 0x134 c) (has_bit v.tables.own_mode c) (sym (has_bit-and v.tables.own_mode 0x134 c) ∙ (ap (λ m. has_bit m c) all ∙ e))
