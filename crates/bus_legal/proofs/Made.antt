-- Parts are made of any description of its ranges, and describe what can be reached of it.
use Rattle.std.proofs.Common.{◌≡◌, ℕ, zero, suc, ◌+◌, ◌-◌, ◌*◌, ◌^◌, ◌<◌, ◌≤◌, ◌==◌, Bool, true, false, ◌&&◌, cond, nat_lt, bit_and, is_some, List, [], ◌∷◌, get_or, length, replicate, refl, ap, sym, subst, ◌∙◌, ⊎_elim, arith, pow-suc}
use Rattle.std.proofs.lemmas.Bool.{cases_lt, eq-eqb}
use Rattle.std.proofs.lemmas.Bool.Decides.{nat_tests}
use Rattle.std.proofs.lemmas.List.{get_or_past}
use Rattle.std.proofs.lemmas.Nat.{and_le_r}
use Rattle.std.proofs.lemmas.Nat.Bits.{bit_at_cat_low, bit_at_cat_high}
use Rattle.std.specs.Int.{bit_at}
use Rattle.bus_word.specs.declared.cell.Cell.{Cell}
use Rattle.bus_word.specs.declared.cell.Cell.TheVariants.{OwnReceive, OwnTransmit, BroadReceive, OwnMode, BroadMode}
use Rattle.bus_word.specs.Cell.{is_data_place, is_allowed, allows_broadcast}
use Rattle.bus_word.specs.Mask.{has_bit}
use Rattle.bus_word.specs.Mode.{mode_row, is_required_code, dynamic_bus_control, vector_word, bit_word}
use Rattle.bus_legal.specs.declared.tables.Tables.{Tables}
use Rattle.bus_legal.specs.Description.{Description}
use Rattle.bus_legal.specs.Reach.{is_heard, reach}
use Rattle.bus_legal.specs.Tables.{has_count, tables_say, largest_in, masks_wrap, is_own_mask, is_broadcast_mask}
use Rattle.bus_legal.specs.Parts.{Parts, description_in, AreMasks, IsBlock, AreWords, IsNormal}
use Rattle.bus_legal.proofs.Bits.{has_bit-and, same_mask, and-contained}
use Rattle.bus_legal.proofs.Bools.{right_of}
use Rattle.bus_legal.proofs.PartsReach.{description_in-made}
use Rattle.bus_word.proofs.Places.{place_above, place_from, place_low, place_high}
use Rattle.bus_legal.proofs.TableSteps.{required_codes-bits, own_codes-bits, broadcast_codes-bits, row_below, broadcast_row_below}

-- A description of its ranges: only cells that some command has are legal, and the required own mode codes are.
pub record IsInRange (P : Description) : Type 0 where
  pub address : P.address ≤ 30
  pub wrap : P.wrap ≤ 30
  pub vector : P.vector < 2 ^ 16
  pub bit : P.bit < 2 ^ 16
  pub words : (s i : ℕ) → P.initial s i < 2 ^ 16
  pub allowed : (cell : Cell) → P.legal cell ≡ true → is_allowed cell ≡ true
  pub required : (code : ℕ) → is_required_code code ≡ true → P.legal (OwnMode code) ≡ true

-- ---- lists, by what stands at each place

listed : {A : Type 0} → ℕ → (ℕ → A) → List A
listed zero f = []
listed (suc n) f = f 0 ∷ listed n (λ i. f (suc i))

length-listed : {A : Type 0} (n : ℕ) (f : ℕ → A) → length (listed n f) ≡ n
unfolding listed
length-listed zero f = refl
length-listed (suc n) f = ap suc (length-listed n (λ i. f (suc i)))

get_or-listed : {A : Type 0} (n : ℕ) (f : ℕ → A) (i : ℕ) (d : A) → i < n → get_or (listed n f) i d ≡ f i
unfolding listed
get_or-listed zero f i d l = absurd (omega arith)
get_or-listed (suc n) f zero d l = refl
get_or-listed (suc n) f (suc i) d l = get_or-listed n (λ i. f (suc i)) i d (omega arith)

-- a bound of each element, and of the 0 behind them
listed-below : (n high : ℕ) (f : ℕ → ℕ) → 0 < high → ((i : ℕ) → f i < high) → (i : ℕ) → get_or (listed n f) i 0 < high
listed-below n high f some below i = ⊎_elim
    (λ lt. subst (λ x. x < high) (sym (get_or-listed n f i 0 lt)) (below i))
    (λ le. subst (λ x. x < high) (sym (get_or_past (listed n f) i 0 (omega (arith, le, length-listed n f)))) some)
    (cases_lt i n)

-- ---- masks, by what is said of each bit

mask_of : ℕ → (ℕ → Bool) → ℕ
mask_of zero said = 0
mask_of (suc n) said = cond (said n) 1 0 * 2 ^ n + mask_of n said

mask_of-small : (n : ℕ) (said : ℕ → Bool) → mask_of n said < 2 ^ n
unfolding mask_of
mask_of-small zero said = omega arith
mask_of-small (suc n) said = top (said n) (mask_of-small n said)
  where
    top : (b : Bool) → mask_of n said < 2 ^ n → cond b 1 0 * 2 ^ n + mask_of n said < 2 ^ suc n
    top true l = omega (arith, pow-suc 2 n)
    top false l = omega (arith, pow-suc 2 n)

bit_of-top : (b : Bool) → (bit_at (cond b 1 0) 0 == 1) ≡ b
bit_of-top true = refl
bit_of-top false = refl

mask_of-bit : (n : ℕ) (said : ℕ → Bool) (i : ℕ) → i < n → has_bit (mask_of n said) i ≡ said i
unfolding mask_of
mask_of-bit zero said i l = absurd (omega arith)
mask_of-bit (suc n) said i l = ⊎_elim
    (λ lt. ap (λ b. b == 1) (bit_at_cat_low (cond (said n) 1 0) n (mask_of n said) i lt) ∙ mask_of-bit n said i lt)
    (λ le.
    let here : i ≡ n = omega arith in
    let none : i - n ≡ 0 = omega arith in
    ap (λ b. b == 1) (bit_at_cat_high (cond (said n) 1 0) n (mask_of n said) i (mask_of-small n said) le ∙ ap (bit_at (cond (said n) 1 0)) none)
    ∙ (bit_of-top (said n) ∙ ap said (sym here)))
    (cases_lt i n)

-- the masks of all subaddresses, by what is said of each subaddress and word count
abbrev masks_of : (ℕ → ℕ → Bool) → List ℕ
masks_of said = listed 30 (λ s. mask_of 32 (λ i. said (suc s) (suc i)))

AreMasks-of : (said : ℕ → ℕ → Bool) → AreMasks (masks_of said)
AreMasks-of said = record {
  thirty = length-listed 30 (λ s. mask_of 32 (λ i. said (suc s) (suc i)));
  fit = listed-below 30 (2 ^ 32) (λ s. mask_of 32 (λ i. said (suc s) (suc i))) (omega arith) (λ s. mask_of-small 32 (λ i. said (suc s) (suc i)));
}

no_mask : mask_of 32 (λ c. false) ≡ 0
unfolding mask_of
no_mask = refl

no_masks : masks_of (λ s n. false) ≡ replicate 30 0
unfolding listed
no_masks = ap (λ mask. replicate 30 mask) no_mask

from_one : (n : ℕ) → 1 ≤ n → suc (n - 1) ≡ n
from_one n low = omega arith

has_count-of : (said : ℕ → ℕ → Bool) (s n : ℕ) → is_data_place s n ≡ true → has_count (masks_of said) s n ≡ said s n
has_count-of said s n place =
    ap (λ m. has_bit m (n - 1)) (get_or-listed 30 (λ s. mask_of 32 (λ i. said (suc s) (suc i))) (s - 1) 0 (place_low s n place))
    ∙ (mask_of-bit 32 (λ i. said (suc (s - 1)) (suc i)) (n - 1) (place_high s n place)
    ∙ (λ j. said (from_one s (place_above s n place) j) (from_one n (place_from s n place) j)))

-- ---- masks of mode codes

-- what is said where it may be
kept : (may_be bit said : Bool) → (may_be ≡ true → bit ≡ said) → (said ≡ true → may_be ≡ true) → (may_be && bit) ≡ said
kept true bit said h g = h refl
kept false bit true h g = g refl
kept false bit false h g = refl

-- a mask of codes that may be has no others
only_codes : (codes : ℕ) (may_be said : ℕ → Bool) → codes < 2 ^ 32 → ((c : ℕ) → c < 32 → has_bit codes c ≡ may_be c) → ((c : ℕ) → said c ≡ true → may_be c ≡ true) →
    bit_and (mask_of 32 said) codes ≡ mask_of 32 said
only_codes codes may_be said small table are =
    let mask = mask_of 32 said in
    let below : bit_and mask codes ≤ codes = and_le_r mask codes in
    same_mask (bit_and mask codes) mask (omega arith) (mask_of-small 32 said)
    (λ c l. has_bit-and mask codes c ∙ (ap (λ b. b && has_bit mask c) (table c l) ∙ (kept (may_be c) (has_bit mask c) (said c) (λ _. mask_of-bit 32 said c l) (are c) ∙ sym (mask_of-bit 32 said c l))))

is_own_mask-of : (said : ℕ → Bool) → ((c : ℕ) → said c ≡ true → is_some (mode_row c) ≡ true) → ((c : ℕ) → is_required_code c ≡ true → said c ≡ true) → is_own_mask (mask_of 32 said) ≡ true
is_own_mask-of said are required =
    let mask = mask_of 32 said in
    let all : bit_and mask 0x134 ≡ 0x134 = and-contained mask 0x134 (omega arith) (λ c l e. mask_of-bit 32 said c l ∙ required c (sym (required_codes-bits c l) ∙ e)) in
    ap (λ b. b && (bit_and mask 0x134 == 0x134)) (eq-eqb (bit_and mask 0x000f01ff) mask (only_codes 0x000f01ff (λ c. is_some (mode_row c)) said (omega arith) own_codes-bits are)) ∙ eq-eqb (bit_and mask 0x134) 0x134 all

is_broadcast_mask-of : (said : ℕ → Bool) → ((c : ℕ) → said c ≡ true → allows_broadcast (mode_row c) ≡ true) → is_broadcast_mask (mask_of 32 said) ≡ true
is_broadcast_mask-of said are =
    eq-eqb (bit_and (mask_of 32 said) 0x000201fa) (mask_of 32 said) (only_codes 0x000201fa (λ c. allows_broadcast (mode_row c)) said (omega arith) broadcast_codes-bits are)

-- ---- the tables

abbrev tables_of : Bool → (Cell → Bool) → Tables
tables_of broadcast legal = record {
  own_receive = masks_of (λ s n. legal (OwnReceive s n));
  own_transmit = masks_of (λ s n. legal (OwnTransmit s n));
  broadcast_receive = masks_of (λ s n. broadcast && legal (BroadReceive s n));
  own_mode = mask_of 32 (λ c. legal (OwnMode c));
  broadcast_mode = mask_of 32 (λ c. broadcast && legal (BroadMode c));
}

says-of : (broadcast : Bool) (legal : Cell → Bool) → ((cell : Cell) → legal cell ≡ true → is_allowed cell ≡ true) → (cell : Cell) →
    tables_say (tables_of broadcast legal) cell ≡ (is_heard broadcast cell && legal cell)
says-of broadcast legal allowed (OwnReceive s n) =
    kept (is_data_place s n) _ (legal (OwnReceive s n)) (λ place. has_count-of (λ s n. legal (OwnReceive s n)) s n place) (allowed (OwnReceive s n))
says-of broadcast legal allowed (OwnTransmit s n) =
    kept (is_data_place s n) _ (legal (OwnTransmit s n)) (λ place. has_count-of (λ s n. legal (OwnTransmit s n)) s n place) (allowed (OwnTransmit s n))
says-of broadcast legal allowed (BroadReceive s n) =
    kept (is_data_place s n) _ (broadcast && legal (BroadReceive s n)) (λ place. has_count-of (λ s n. broadcast && legal (BroadReceive s n)) s n place)
    (λ e. allowed (BroadReceive s n) (right_of broadcast (legal (BroadReceive s n)) e))
says-of broadcast legal allowed (OwnMode c) =
    kept (is_some (mode_row c)) _ (legal (OwnMode c)) (λ row. mask_of-bit 32 (λ c. legal (OwnMode c)) c (row_below c row)) (allowed (OwnMode c))
says-of broadcast legal allowed (BroadMode c) =
    kept (allows_broadcast (mode_row c)) _ (broadcast && legal (BroadMode c)) (λ row. mask_of-bit 32 (λ c. broadcast && legal (BroadMode c)) c (broadcast_row_below c row))
    (λ e. allowed (BroadMode c) (right_of broadcast (legal (BroadMode c)) e))

-- ---- the words

abbrev blocks_of : (ℕ → ℕ → ℕ) → List (List ℕ)
blocks_of word = listed 30 (λ s. listed 32 (word s))

get_or-blocks : (word : ℕ → ℕ → ℕ) (s i : ℕ) → s < 30 → i < 32 → get_or (get_or (blocks_of word) s []) i 0 ≡ word s i
get_or-blocks word s i l k = ap (λ block. get_or block i 0) (get_or-listed 30 (λ s. listed 32 (word s)) s [] l) ∙ get_or-listed 32 (word s) i 0 k

AreWords-of : (word : ℕ → ℕ → ℕ) → ((s i : ℕ) → word s i < 2 ^ 16) → AreWords (blocks_of word)
AreWords-of word small = record {
  thirty = length-listed 30 (λ s. listed 32 (word s));
  blocks = λ s l. subst IsBlock (sym (get_or-listed 30 (λ s. listed 32 (word s)) s [] l)) (record {
    long = length-listed 32 (word s);
    fit = listed-below 32 (2 ^ 16) (word s) (omega arith) (small s);
  });
}

-- ---- the parts

abbrev sent_word : Description → Tables → ℕ → ℕ → ℕ
sent_word P t s i = cond (nat_lt i (largest_in (get_or t.own_transmit s 0))) (P.initial (suc s) (suc i)) 0

abbrev made_with : Description → Tables → Parts
made_with P t = record {
  address = P.address;
  broadcast = P.broadcast;
  wrap = cond (masks_wrap t P.wrap) P.wrap 0;
  accept = has_bit t.own_mode dynamic_bus_control && P.accept;
  vector = cond (has_bit t.own_mode vector_word) P.vector 0;
  bit = cond (has_bit t.own_mode bit_word) P.bit 0;
  initial = blocks_of (sent_word P t);
  tables = t;
}

-- what can be reached of a description, as parts
pub made_of : Description → Parts
made_of P = made_with P (tables_of P.broadcast P.legal)

cond-below : (t : Bool) (n high : ℕ) → 0 < high → n < high → cond t n 0 < high
cond-below true n high some l = l
cond-below false n high some l = some

off : (t : Bool) (n : ℕ) → t ≡ false → cond t n 0 ≡ 0
off t n e = ap (λ b. cond b n 0) e

past : (i n : ℕ) → n ≤ i → nat_lt i n ≡ false
past i n l = grind (arith, nat_tests)

-- a place that the test doesn't pass is none
dropped : (test : ℕ → Bool) (n : ℕ) (t : Bool) → test n ≡ t → test (cond t n 0) ≡ false → cond t n 0 ≡ 0
dropped test n true is e = let wrong : true ≡ false = sym is ∙ e in cc
dropped test n false is e = refl

pub made-normal : (P : Description) → IsInRange P → IsNormal (made_of P)
unfolding made_of
made-normal P is =
    let t = tables_of P.broadcast P.legal in
    let wrap : cond (masks_wrap t P.wrap) P.wrap 0 < 31 = cond-below (masks_wrap t P.wrap) P.wrap 31 (omega arith) (let small : P.wrap ≤ 30 = is.wrap in omega arith) in
    record {
      address = is.address;
      wrap = omega arith;
      vector = cond-below (has_bit t.own_mode vector_word) P.vector (2 ^ 16) (omega arith) is.vector;
      bit = cond-below (has_bit t.own_mode bit_word) P.bit (2 ^ 16) (omega arith) is.bit;
      words = AreWords-of (sent_word P t) (λ s i. cond-below (nat_lt i (largest_in (get_or t.own_transmit s 0))) (P.initial (suc s) (suc i)) (2 ^ 16) (omega arith) (is.words (suc s) (suc i)));
      own_receive = AreMasks-of (λ s n. P.legal (OwnReceive s n));
      own_transmit = AreMasks-of (λ s n. P.legal (OwnTransmit s n));
      broadcast_receive = AreMasks-of (λ s n. P.broadcast && P.legal (BroadReceive s n));
      own_mode = is_own_mask-of (λ c. P.legal (OwnMode c)) (λ c e. is.allowed (OwnMode c) e) is.required;
      broadcast_mode = is_broadcast_mask-of (λ c. P.broadcast && P.legal (BroadMode c)) (λ c e. is.allowed (BroadMode c) (right_of P.broadcast (P.legal (BroadMode c)) e));
      unheard_receive = λ e. ap (λ b. masks_of (λ s n. b && P.legal (BroadReceive s n))) e ∙ no_masks;
      unheard_mode = λ e. ap (λ b. mask_of 32 (λ c. b && P.legal (BroadMode c))) e ∙ no_mask;
      unasked_accept = λ e. ap (λ b. b && P.accept) e;
      unasked_vector = λ e. off _ P.vector e;
      unasked_bit = λ e. off _ P.bit e;
      unwrapped = λ e. dropped (masks_wrap t) P.wrap (masks_wrap t P.wrap) refl e;
      unsent = λ s i l k beyond. get_or-blocks (sent_word P t) s i l k ∙ off _ (P.initial (suc s) (suc i)) (past i (largest_in (get_or t.own_transmit s 0)) beyond);
    }

-- the parts that are made of a description describe what can be reached of it
pub made-reach : (P : Description) → IsInRange P → description_in (made_of P) ≡ reach P
unfolding made_of
made-reach P is =
    let t = tables_of P.broadcast P.legal in
    let normal = made-normal P is in
    description_in-made P (made_of P) (record {
      address = refl;
      broadcast = refl;
      own_receive = normal.own_receive;
      own_transmit = normal.own_transmit;
      broadcast_receive = normal.broadcast_receive;
      legal = says-of P.broadcast P.legal is.allowed;
      small = is.wrap;
      wrap = refl;
      accept = refl;
      vector = refl;
      bit = refl;
      initial = λ s i place.
          get_or-blocks (sent_word P t) (s - 1) (i - 1) (place_low s i place) (place_high s i place)
          ∙ (λ j. cond (nat_lt (i - 1) (largest_in (get_or t.own_transmit (s - 1) 0))) (P.initial (from_one s (place_above s i place) j) (from_one i (place_from s i place) j)) 0);
    })
