-- What the full tree means.
use Rattle.std.proofs.Common.{◌≡◌, ◌≢◌, ℕ, suc, ◌+◌, ◌-◌, ◌^◌, ◌<◌, ◌≤◌, ◌==◌, ◌&&◌, min, nat_le, nat_lt, Bool, true, false, not, cond, pos, List, [], ◌∷◌, ◌++◌, map, take, length, get_or, replicate, Option, Some, None, is_some, codes, refl, ap, sym, ◌∙◌, ⊎_elim, length-append, arith}
use Rattle.std.proofs.lemmas.Bool.{eqb-true, cases_lt}
use Rattle.std.proofs.lemmas.Bool.Decides.{nat_tests}
use Rattle.std.proofs.lemmas.List.{take_all, map-append}
use Rattle.std.proofs.lemmas.Nat.{pow_below}
use Rattle.std.proofs.lemmas.Nat.Bits.{bit_at-pow_same, bit_at-pow_other}
use Rattle.std.specs.Result.{result_unwrap_or}
use Rattle.toml.specs.Data.{Data, integer, boolean}
use Rattle.toml.specs.View.{items_of}
use Rattle.bus_word.specs.declared.cell.Cell.{Cell}
use Rattle.bus_word.specs.declared.cell.Cell.TheVariants.{OwnReceive, OwnTransmit, BroadReceive, OwnMode, BroadMode}
use Rattle.bus_word.specs.Cell.{is_data_place, allows_broadcast}
use Rattle.bus_word.specs.Mode.{mode_row}
use Rattle.bus_word.specs.Mask.{has_bit}
use Rattle.bus_word.proofs.Places.{place_above, place_low}
use Rattle.bus_legal.specs.declared.entries.Rule.{Rule}
use Rattle.bus_legal.specs.declared.entries.ModeRule.{ModeRule}
use Rattle.bus_legal.specs.declared.entries.InitialWords.{InitialWords}
use Rattle.bus_legal.specs.declared.profile.Profile.{Profile}
use Rattle.bus_legal.specs.Last.{or_last, last_of}
use Rattle.bus_legal.specs.OwnCodes.{mode_says}
use Rattle.bus_legal.specs.Plain.{PlainRule, PlainInitial, PlainProfile, plain, plain_rule, plain_initial}
use Rattle.bus_profile.specs.Gives.{each_of, rule_in, initial_in, initial_word_in, rules_of, initials_of, profile_of}
use Rattle.bus_profile.specs.Kinds.{wrap_value}
use Rattle.bus_profile.specs.RangesOf.{ranges_of}
use Rattle.bus_legal.specs.declared.tables.Tables.{Tables}
use Rattle.bus_legal.specs.Description.{word_at, words_at_places}
use Rattle.bus_legal.specs.Initial.{gives, word_given, initial_word}
use Rattle.bus_legal.specs.Legal.{contains, rule_says, last_says, is_legal}
use Rattle.bus_legal.specs.Meaning.{description_of}
use Rattle.bus_legal.specs.Reach.{reach}
use Rattle.bus_legal.specs.Tables.{has_cell, tables_say}
use Rattle.bus_legal.specs.Parts.{Parts, description_in, AreMasks, IsBlock, IsNormal}
use Rattle.bus_legal.proofs.Bools.{guarded}
use Rattle.bus_legal.proofs.Descriptions.{same_description}
use Rattle.bus_legal.proofs.InitialSteps.{initial_word-outside}
use Rattle.bus_legal.proofs.NormalLaws.{reach-normal}
use Rattle.rt1553_toml.specs.Sets.{said_set, set_text}
use Rattle.rt1553_toml.specs.inner.FullTree.{from_number, rule_data, word_data, initial_data, rules_by, initials_by, wraparound_data, full_tree}
use Rattle.rt1553_toml.proofs.SetTexts.{set_read}
use Rattle.rt1553_toml.proofs.TreeFaults.{AllIn, IsMask32, all_masks, all_blocks, length-from_number, said_bit, broadcast_entry, entries_by, modes_given, own_codes_said, required_codes_given}

-- ---- the last of a numbered list

or_nothing : {X : Type 0} (o : Option X) → or_last o None ≡ o
or_nothing None = refl
or_nothing (Some x) = refl

only : {X : Type 0} (t : Bool) (x : X) → or_last None (cond t (Some x) None) ≡ cond t (Some x) None
only true x = refl
only false x = refl

last_of-append : {X : Type 0} (p : X → Bool) (xs ys : List X) → last_of p (xs ++ ys) ≡ or_last (last_of p ys) (last_of p xs)
last_of-append p [] ys = sym (or_nothing (last_of p ys))
last_of-append p (x ∷ xs) ys = ap (λ o. or_last o (cond (p x) (Some x) None)) (last_of-append p xs ys) ∙ later (last_of p ys) (last_of p xs) (cond (p x) (Some x) None)
  where
    later : {X : Type 0} (a b c : Option X) → or_last (or_last a b) c ≡ or_last a (or_last b c)
    later None b c = refl
    later (Some a) b c = refl

last_of-none : {A B : Type 0} (p : B → Bool) (f : ℕ → A → B) → ((s : ℕ) (x : A) → p (f s x) ≡ false) → (s : ℕ) (xs : List A) → last_of p (from_number f s xs) ≡ None
last_of-none p f h s [] = refl
last_of-none p f h s (x ∷ xs) = rw (last_of-none p f h (suc s) xs, h s x) refl

-- an item at one number alone passes, by a test of its value
abbrev PassesAt : {A B : Type 0} → (B → Bool) → (ℕ → A → B) → (A → Bool) → ℕ → Type 0
PassesAt {A} p f b t = (s : ℕ) (x : A) → 1 ≤ s → s ≤ 30 → p (f s x) ≡ ((t == s) && b x)

last_of-later : {A B : Type 0} (p : B → Bool) (f : ℕ → A → B) (b : A → Bool) (t : ℕ) → PassesAt p f b t → (s : ℕ) (xs : List A) → t < s → s + length xs ≤ 31 → last_of p (from_number f s xs) ≡ None
last_of-later p f b t h s [] l room = refl
last_of-later p f b t h s (x ∷ xs) l room =
    let other : (t == s) ≡ false = grind (arith, nat_tests) in
    rw (last_of-later p f b t h (suc s) xs (omega arith) (omega arith), h s x (omega arith) (omega arith), other) refl

last_of-at : {A B : Type 0} (p : B → Bool) (f : ℕ → A → B) (b : A → Bool) (d : A) (t : ℕ) → PassesAt p f b t → (s : ℕ) (xs : List A) → 1 ≤ s → s ≤ t → t < s + length xs → s + length xs ≤ 31
    → last_of p (from_number f s xs) ≡ cond (b (get_or xs (t - s) d)) (Some (f t (get_or xs (t - s) d))) None
last_of-at p f b d t h s [] low l k room = absurd (omega arith)
last_of-at p f b d t h s (x ∷ xs) low l k room = ⊎_elim (λ lt. further lt (last_of-at p f b d t h (suc s) xs (omega arith) (omega arith) (omega arith) (omega arith))) (λ le. here (omega arith)) (cases_lt s t)
  where
    further : s < t → last_of p (from_number f (suc s) xs) ≡ cond (b (get_or xs (t - suc s) d)) (Some (f t (get_or xs (t - suc s) d))) None
        → last_of p (from_number f s (x ∷ xs)) ≡ cond (b (get_or (x ∷ xs) (t - s) d)) (Some (f t (get_or (x ∷ xs) (t - s) d))) None
    further lt ih =
        let other : (t == s) ≡ false = grind (arith, nat_tests) in
        let place : t - s ≡ suc (t - suc s) = omega arith in
        rw (h s x low (omega arith), other, place) (or_nothing (last_of p (from_number f (suc s) xs)) ∙ ih)

    here : t ≡ s → last_of p (from_number f s (x ∷ xs)) ≡ cond (b (get_or (x ∷ xs) (t - s) d)) (Some (f t (get_or (x ∷ xs) (t - s) d))) None
    here e =
        let same : (t == s) ≡ true = grind (arith, nat_tests) in
        let place : t - s ≡ 0 = omega arith in
        rw (last_of-later p f b t h (suc s) xs (omega arith) (omega arith), h s x low (omega arith), same, place) (only (b x) (f s x) ∙ ap (λ n. cond (b x) (Some (f n x)) None) (sym e))

-- ---- the entries of the profile

abbrev clip : ℕ → ℕ
clip s = min (s - 1) 29

clip_small : (s : ℕ) → clip s < 30
clip_small s = omega arith

clip_is : (s : ℕ) → s ≤ 30 → clip s ≡ s - 1
clip_is s l = omega arith

abbrev rule_at : Bool → Bool → Bool → Bool → ℕ → ℕ → Rule
rule_at own broadcast receive transmit s mask = record { own = own; broadcast = broadcast; receive = receive; transmit = transmit; subaddresses = 2 ^ clip s; counts = said_set mask; legal = not (mask == 0); thirty_subaddresses = pow_below (clip s) 30 (clip_small s) }

abbrev profile_rules : Tables → List Rule
profile_rules t =
    from_number (rule_at true false true false) 1 t.own_receive
    ++ (from_number (rule_at true false false true) 1 t.own_transmit
    ++ from_number (rule_at false true true false) 1 t.broadcast_receive)

-- a block of 32 words, as it is, and zeros for any other
abbrev fit_block : List ℕ → List ℕ
fit_block ws = cond (length ws == 32) ws (replicate 32 0)

fit_long : (ws : List ℕ) → length (fit_block ws) ≡ 32
fit_long ws = pick (length ws == 32) refl
  where
    pick : (b : Bool) → (length ws == 32) ≡ b → length (cond b ws (replicate 32 0)) ≡ 32
    pick true e = eqb-true (length ws) 32 e
    pick false e = refl

fit_same : (ws : List ℕ) → length ws ≡ 32 → fit_block ws ≡ ws
fit_same ws long = let yes' : (length ws == 32) ≡ true = grind (arith, nat_tests, long) in rw yes' refl

abbrev initial_at : ℕ → List ℕ → InitialWords
initial_at s ws = record { subaddress = suc (clip s); first = 1; len = 32; words = fit_block ws; subaddress_low = omega arith; subaddress_high = omega (arith, clip_small s); first_low = omega arith; first_high = omega arith; room = omega arith; whole = fit_long ws }

-- ---- the profile is the one that the tree gives

each_of_items : {A : Type 0} (f : Data → A) (ds : List Data) → each_of f (items_of ds) ≡ map f ds
each_of_items f [] = refl
each_of_items f (d ∷ ds) = ap (λ xs. f d ∷ xs) (each_of_items f ds)

map_alike : {A B C : Type 0} (P : A → Type 0) (g : B → C) (h : Data → C) (f : ℕ → A → B) (k : ℕ → A → Data) → ((s : ℕ) (x : A) → 1 ≤ s → s ≤ 30 → P x → g (f s x) ≡ h (k s x))
    → (s : ℕ) (xs : List A) → 1 ≤ s → s + length xs ≤ 31 → AllIn P xs → map g (from_number f s xs) ≡ map h (from_number k s xs)
map_alike P g h f k same s [] low room all = refl
map_alike P g h f k same s (x ∷ xs) low room all = λ j. same s x low (omega arith) all.0 j ∷ map_alike P g h f k same (suc s) xs (omega arith) (omega arith) all.1 j

abbrev rule_by : Bool → Bool → Bool → Bool → Bool → ℕ → ℕ → PlainRule
rule_by own broadcast receive transmit legal subaddresses counts = record { own = own; broadcast = broadcast; receive = receive; transmit = transmit; subaddresses = subaddresses; counts = counts; legal = legal }

counts_read : (mask : ℕ) → mask < 2 ^ 32 → result_unwrap_or (ranges_of 1 32 (set_text 1 mask)) 0 ≡ said_set mask
counts_read mask fits = ap (λ r. result_unwrap_or r 0) (set_read 1 32 mask (omega arith) (omega arith) fits)

clip_pow : (s : ℕ) → s ≤ 30 → 2 ^ clip s ≡ 2 ^ (s - 1)
clip_pow s l = ap (λ n. 2 ^ n) (clip_is s l)

own_receive_given : (s mask : ℕ) → 1 ≤ s → s ≤ 30 → mask < 2 ^ 32 → plain_rule (rule_at true false true false s mask) ≡ rule_in (rule_data (codes "own") (codes "receive") s mask)
own_receive_given s mask low high fits = λ j. rule_by true false true false (not (mask == 0)) (clip_pow s high j) (sym (counts_read mask fits) j)

own_transmit_given : (s mask : ℕ) → 1 ≤ s → s ≤ 30 → mask < 2 ^ 32 → plain_rule (rule_at true false false true s mask) ≡ rule_in (rule_data (codes "own") (codes "transmit") s mask)
own_transmit_given s mask low high fits = λ j. rule_by true false false true (not (mask == 0)) (clip_pow s high j) (sym (counts_read mask fits) j)

broadcast_receive_given : (s mask : ℕ) → 1 ≤ s → s ≤ 30 → mask < 2 ^ 32 → plain_rule (rule_at false true true false s mask) ≡ rule_in (rule_data (codes "broadcast") (codes "receive") s mask)
broadcast_receive_given s mask low high fits = λ j. rule_by false true true false (not (mask == 0)) (clip_pow s high j) (sym (counts_read mask fits) j)

kind_given : (own broadcast receive transmit : Bool) (to direction : List ℕ)
    → ((s mask : ℕ) → 1 ≤ s → s ≤ 30 → mask < 2 ^ 32 → plain_rule (rule_at own broadcast receive transmit s mask) ≡ rule_in (rule_data to direction s mask))
    → (masks : List ℕ) → AreMasks masks → map plain_rule (from_number (rule_at own broadcast receive transmit) 1 masks) ≡ map rule_in (from_number (rule_data to direction) 1 masks)
kind_given own broadcast receive transmit to direction same masks are =
    map_alike IsMask32 plain_rule rule_in (rule_at own broadcast receive transmit) (rule_data to direction) same 1 masks (omega arith) (omega (arith, are.thirty)) (all_masks masks are)

rules_given : (v : Parts) → IsNormal v → map plain_rule (profile_rules v.tables) ≡ rules_of (full_tree v)
rules_given v is =
    let t = v.tables in
    map-append plain_rule (from_number (rule_at true false true false) 1 t.own_receive) (from_number (rule_at true false false true) 1 t.own_transmit ++ from_number (rule_at false true true false) 1 t.broadcast_receive)
    ∙ ap (λ rs. map plain_rule (from_number (rule_at true false true false) 1 t.own_receive) ++ rs) (map-append plain_rule (from_number (rule_at true false false true) 1 t.own_transmit) (from_number (rule_at false true true false) 1 t.broadcast_receive))
    ∙ (λ j. kind_given true false true false (codes "own") (codes "receive") own_receive_given t.own_receive is.own_receive j
    ++ (kind_given true false false true (codes "own") (codes "transmit") own_transmit_given t.own_transmit is.own_transmit j
    ++ kind_given false true true false (codes "broadcast") (codes "receive") broadcast_receive_given t.broadcast_receive is.broadcast_receive j))
    ∙ sym (map-append rule_in (from_number (rule_data (codes "own") (codes "receive")) 1 t.own_receive) (from_number (rule_data (codes "own") (codes "transmit")) 1 t.own_transmit ++ from_number (rule_data (codes "broadcast") (codes "receive")) 1 t.broadcast_receive)
    ∙ ap (λ rs. map rule_in (from_number (rule_data (codes "own") (codes "receive")) 1 t.own_receive) ++ rs) (map-append rule_in (from_number (rule_data (codes "own") (codes "transmit")) 1 t.own_transmit) (from_number (rule_data (codes "broadcast") (codes "receive")) 1 t.broadcast_receive)))
    ∙ sym (each_of_items rule_in (rules_by t))

words_given : (ws : List ℕ) → each_of initial_word_in (items_of (map word_data ws)) ≡ ws
words_given [] = refl
words_given (w ∷ ws) = ap (λ xs. w ∷ xs) (words_given ws)

abbrev initial_by : ℕ → List ℕ → PlainInitial
initial_by subaddress words = record { subaddress = subaddress; first = 1; words = words }

initial_given : (s : ℕ) (ws : List ℕ) → 1 ≤ s → s ≤ 30 → IsBlock ws → plain_initial (initial_at s ws) ≡ initial_in (initial_data s ws)
initial_given s ws low high block =
    let place : suc (clip s) ≡ s = omega (arith, clip_is s high) in
    let front : take 32 (fit_block ws) ≡ ws = ap (take 32) (fit_same ws block.long) ∙ take_all 32 ws (omega (arith, block.long)) in
    λ j. initial_by (place j) ((front ∙ sym (words_given ws)) j)

abbrev profile_initials : List (List ℕ) → List InitialWords
profile_initials words = from_number initial_at 1 words

initials_given : (v : Parts) → IsNormal v → map plain_initial (profile_initials v.initial) ≡ initials_of (full_tree v)
initials_given v is =
    map_alike IsBlock plain_initial initial_in initial_at initial_data initial_given 1 v.initial (omega arith) (omega (arith, is.words.thirty)) (all_blocks v.initial is.words)
    ∙ sym (each_of_items initial_in (initials_by v.initial))

profile_few : (v : Parts) → IsNormal v → length (profile_rules v.tables) ≤ 256
profile_few v is =
    let rs = from_number (rule_at true false true false) 1 v.tables.own_receive in
    let ts = from_number (rule_at true false false true) 1 v.tables.own_transmit in
    let bs = from_number (rule_at false true true false) 1 v.tables.broadcast_receive in
    let a = length-from_number (rule_at true false true false) 1 v.tables.own_receive in
    let b = length-from_number (rule_at true false false true) 1 v.tables.own_transmit in
    let c = length-from_number (rule_at false true true false) 1 v.tables.broadcast_receive in
    omega (arith, a, b, c, is.own_receive.thirty, is.own_transmit.thirty, is.broadcast_receive.thirty, length-append rs (ts ++ bs), length-append ts bs)

-- the profile of the full tree
abbrev full_profile : (v : Parts) → IsNormal v → Profile
full_profile v is = record {
  address = v.address;
  broadcast = v.broadcast;
  wrap = v.wrap;
  accept = v.accept;
  vector = v.vector;
  bit = v.bit;
  rules = profile_rules v.tables;
  modes = entries_by v.tables;
  initials = profile_initials v.initial;
  own_address = is.address;
  own_wrap = is.wrap;
  few_rules = profile_few v is;
  few_modes = omega arith;
  few_initials = omega (arith, length-from_number initial_at 1 v.initial, is.words.thirty);
  required_codes = required_codes_given v is;
}

wrap_given : (w : ℕ) → w ≡ wrap_value (Some (wraparound_data w))
wrap_given w = pick (w == 0) refl
  where
    pick : (b : Bool) → (w == 0) ≡ b → w ≡ wrap_value (Some (cond b (boolean false) (integer (pos w))))
    pick true e = eqb-true w 0 e
    pick false e = refl

abbrev profile_by : Parts → ℕ → List PlainRule → List ModeRule → List PlainInitial → PlainProfile
profile_by v wrap rules modes initials = record { address = v.address; broadcast = v.broadcast; wrap = wrap; accept = v.accept; vector = v.vector; bit = v.bit; rules = rules; modes = modes; initials = initials }

full_profile_given : (v : Parts) (is : IsNormal v) → plain (full_profile v is) ≡ profile_of (full_tree v)
full_profile_given v is = λ j. profile_by v (wrap_given v.wrap j) (rules_given v is j) (sym (modes_given v is) j) (initials_given v is j)

-- ---- what the profile describes

among_one : (t s : ℕ) → 1 ≤ t → 1 ≤ s → s ≤ 30 → has_bit (2 ^ clip s) (t - 1) ≡ (t == s)
among_one t s low from to = ⊎_elim (λ lt. other (λ e. absurd (omega (arith, e))) (omega arith)) (λ le. ⊎_elim (λ lt. other (λ e. absurd (omega (arith, e))) (omega arith)) (λ le'. same (omega arith)) (cases_lt s t)) (cases_lt t s)
  where
    other : t ≢ s → t - 1 ≢ clip s → has_bit (2 ^ clip s) (t - 1) ≡ (t == s)
    other apart far = let differs : (t == s) ≡ false = grind (arith, nat_tests) in rw (bit_at-pow_other (clip s) (t - 1) far, differs) refl

    same : t ≡ s → has_bit (2 ^ clip s) (t - 1) ≡ (t == s)
    same e =
        let alike : (t == s) ≡ true = grind (arith, nat_tests) in
        let place : t - 1 ≡ clip s = omega (arith, clip_is s to) in
        rw (place, bit_at-pow_same (clip s), alike) refl

rule_says-cond : (t : Bool) (r : Rule) → rule_says (cond t (Some r) None) ≡ cond t r.legal false
rule_says-cond true r = refl
rule_says-cond false r = refl

never : false ≡ true → (b : Bool) → b ≡ true
never e b = cc

-- the rules of one kind, of a cell of this kind
kind_says : (own broadcast receive transmit : Bool) (p : Rule → Bool) (t n : ℕ) (masks : List ℕ) → AreMasks masks → is_data_place t n ≡ true
    → ((s mask : ℕ) → p (rule_at own broadcast receive transmit s mask) ≡ (has_bit (2 ^ clip s) (t - 1) && has_bit (said_set mask) (n - 1)))
    → rule_says (last_of p (from_number (rule_at own broadcast receive transmit) 1 masks)) ≡ has_bit (get_or masks (t - 1) 0) (n - 1)
kind_says own broadcast receive transmit p t n masks are place said =
    let f = rule_at own broadcast receive transmit in
    let test : ℕ → Bool = λ mask. has_bit (said_set mask) (n - 1) in
    let low = place_above t n place in
    let below = place_low t n place in
    let mask : ℕ = get_or masks (t - 1) 0 in
    let at : PassesAt p f test t = λ s x from to. said s x ∙ ap (λ b. b && test x) (among_one t s low from to) in
    ap rule_says (last_of-at p f test 0 t at 1 masks (omega arith) low (omega (arith, are.thirty, below)) (omega (arith, are.thirty)))
    ∙ rule_says-cond (test mask) (f t mask) ∙ said_bit mask (n - 1) false (λ e. never e (has_bit mask (n - 1)))

last_of-three : (p : Rule → Bool) (A B C : List Rule) → last_of p (A ++ (B ++ C)) ≡ or_last (or_last (last_of p C) (last_of p B)) (last_of p A)
last_of-three p A B C = last_of-append p A (B ++ C) ∙ ap (λ o. or_last o (last_of p A)) (last_of-append p B C)

in_first : (p : Rule → Bool) (A B C : List Rule) → last_of p B ≡ None → last_of p C ≡ None → last_of p (A ++ (B ++ C)) ≡ last_of p A
in_first p A B C b c = last_of-three p A B C ∙ (λ j. or_last (or_last (c j) (b j)) (last_of p A))

in_second : (p : Rule → Bool) (A B C : List Rule) → last_of p A ≡ None → last_of p C ≡ None → last_of p (A ++ (B ++ C)) ≡ last_of p B
in_second p A B C a c = last_of-three p A B C ∙ (λ j. or_last (or_last (c j) (last_of p B)) (a j)) ∙ or_nothing (last_of p B)

in_third : (p : Rule → Bool) (A B C : List Rule) → last_of p A ≡ None → last_of p B ≡ None → last_of p (A ++ (B ++ C)) ≡ last_of p C
in_third p A B C a b = last_of-three p A B C ∙ (λ j. or_last (or_last (last_of p C) (b j)) (a j)) ∙ or_nothing (or_last (last_of p C) None) ∙ or_nothing (last_of p C)

abbrev receives : Tables → List Rule
receives t = from_number (rule_at true false true false) 1 t.own_receive

abbrev transmits : Tables → List Rule
transmits t = from_number (rule_at true false false true) 1 t.own_transmit

abbrev broadcasts : Tables → List Rule
broadcasts t = from_number (rule_at false true true false) 1 t.broadcast_receive

own_receive_said : (v : Parts) → IsNormal v → (t n : ℕ) → is_data_place t n ≡ true → last_says (profile_rules v.tables) (entries_by v.tables) (OwnReceive t n) ≡ has_cell v.tables (OwnReceive t n)
own_receive_said v is t n place =
    let p : Rule → Bool = contains (OwnReceive t n) in
    ap rule_says (in_first p (receives v.tables) (transmits v.tables) (broadcasts v.tables) (last_of-none p (rule_at true false false true) (λ s x. refl) 1 v.tables.own_transmit) (last_of-none p (rule_at false true true false) (λ s x. refl) 1 v.tables.broadcast_receive))
    ∙ kind_says true false true false p t n v.tables.own_receive is.own_receive place (λ s mask. refl)

own_transmit_said : (v : Parts) → IsNormal v → (t n : ℕ) → is_data_place t n ≡ true → last_says (profile_rules v.tables) (entries_by v.tables) (OwnTransmit t n) ≡ has_cell v.tables (OwnTransmit t n)
own_transmit_said v is t n place =
    let p : Rule → Bool = contains (OwnTransmit t n) in
    ap rule_says (in_second p (receives v.tables) (transmits v.tables) (broadcasts v.tables) (last_of-none p (rule_at true false true false) (λ s x. refl) 1 v.tables.own_receive) (last_of-none p (rule_at false true true false) (λ s x. refl) 1 v.tables.broadcast_receive))
    ∙ kind_says true false false true p t n v.tables.own_transmit is.own_transmit place (λ s mask. refl)

broadcast_receive_said : (v : Parts) → IsNormal v → (t n : ℕ) → is_data_place t n ≡ true → last_says (profile_rules v.tables) (entries_by v.tables) (BroadReceive t n) ≡ has_cell v.tables (BroadReceive t n)
broadcast_receive_said v is t n place =
    let p : Rule → Bool = contains (BroadReceive t n) in
    ap rule_says (in_third p (receives v.tables) (transmits v.tables) (broadcasts v.tables) (last_of-none p (rule_at true false true false) (λ s x. refl) 1 v.tables.own_receive) (last_of-none p (rule_at true false false true) (λ s x. refl) 1 v.tables.own_transmit))
    ∙ kind_says false true true false p t n v.tables.broadcast_receive is.broadcast_receive place (λ s mask. refl)

mode_cond : (t : Bool) (m : ModeRule) → mode_says false (or_last (cond t (Some m) None) None) ≡ cond t m.legal false
mode_cond true m = refl
mode_cond false m = refl

broadcast_mode_said : (v : Parts) (c : ℕ) → last_says (profile_rules v.tables) (entries_by v.tables) (BroadMode c) ≡ has_cell v.tables (BroadMode c)
broadcast_mode_said v c =
    let mask = v.tables.broadcast_mode in
    ap (λ o. mode_says false (or_last o None)) (only (has_bit (said_set mask) c) (broadcast_entry mask))
    ∙ mode_cond (has_bit (said_set mask) c) (broadcast_entry mask) ∙ said_bit mask c false (λ e. never e (has_bit mask c))

legal_said : (v : Parts) → IsNormal v → (cell : Cell) → is_legal (profile_rules v.tables) (entries_by v.tables) cell ≡ tables_say v.tables cell
unfolding is_legal
legal_said v is (OwnReceive t n) = guarded (is_data_place t n) _ _ (own_receive_said v is t n)
legal_said v is (OwnTransmit t n) = guarded (is_data_place t n) _ _ (own_transmit_said v is t n)
legal_said v is (BroadReceive t n) = guarded (is_data_place t n) _ _ (broadcast_receive_said v is t n)
legal_said v is (OwnMode c) = guarded (is_some (mode_row c)) _ _ (λ e. own_codes_said v is c)
legal_said v is (BroadMode c) = guarded (allows_broadcast (mode_row c)) _ _ (λ e. broadcast_mode_said v c)

initial_said : (v : Parts) → IsNormal v → (s i : ℕ) → initial_word (profile_initials v.initial) s i ≡ words_at_places v.initial s i
initial_said v is s i = by_place (is_data_place s i) refl
  where
    at : is_data_place s i ≡ true → PassesAt (gives s i) initial_at (λ ws. true) s
    at place t ws low high =
        let inside : (nat_le 1 i && nat_lt i 33) ≡ true = grind (arith, nat_tests) in
        let same : suc (clip t) ≡ t = omega (arith, clip_is t high) in
        λ j. (s == same j) && inside j

    by_place : (b : Bool) → is_data_place s i ≡ b → initial_word (profile_initials v.initial) s i ≡ cond b (word_at v.initial s i) 0
    by_place true place =
        let below = place_low s i place in
        let long : length (get_or v.initial (s - 1) []) ≡ 32 = (is.words.blocks (s - 1) below).long in
        ap (word_given 0 i) (last_of-at (gives s i) initial_at (λ ws. true) [] s (at place) 1 v.initial (omega arith) (place_above s i place) (omega (arith, is.words.thirty, below)) (omega (arith, is.words.thirty)))
        ∙ ap (λ ws. get_or ws (i - 1) 0) (fit_same (get_or v.initial (s - 1) []) long)
    by_place false outside = initial_word-outside (profile_initials v.initial) s i outside

full_description : (v : Parts) (is : IsNormal v) → description_of (full_profile v is) ≡ description_in v
full_description v is = same_description (description_of (full_profile v is)) (description_in v) refl refl refl refl refl refl (initial_said v is) (legal_said v is)

-- The tree gives a profile, and just these parts can be reached of its terminal.
pub record Gives (v : Parts) : Type 0 where
  pub profile : Profile
  pub gives : plain profile ≡ profile_of (full_tree v)
  pub reached : description_in v ≡ reach (description_of profile)

pub full_tree_gives : (v : Parts) → IsNormal v → Gives v
full_tree_gives v is = record {
  profile = full_profile v is;
  gives = full_profile_given v is;
  reached = sym (ap reach (full_description v is) ∙ reach-normal v is);
}
