-- Where no difference is told, the two are equal, and the other way round.
use Rattle.std.proofs.Common.{◌≡◌, ℕ, zero, suc, ◌+◌, ◌-◌, ◌≤◌, ◌<◌, Bool, true, false, not, ◌&&◌, ◌||◌, ◌==◌, nat_lt, nat_le, get_or, cond, Option, Some, None, is_some, List, [], ◌∷◌, ◌++◌, refl, ap, sym, ◌∙◌, ⊎_elim, arith}
use Rattle.std.proofs.lemmas.Bool.{cases_lt, eqb-true}
use Rattle.std.proofs.lemmas.Bool.Decides.{nat_tests}
use Rattle.bus_word.specs.Cell.{is_data_place, allows_broadcast}
use Rattle.bus_word.specs.Mask.{has_bit}
use Rattle.bus_word.specs.Mode.{mode_row, mode_table}
use Rattle.bus_word.specs.declared.mode.ModeRow.{ModeRow}
use Rattle.bus_word.specs.declared.cell.Cell.TheVariants.{OwnReceive, OwnTransmit, BroadReceive, OwnMode, BroadMode}
use Rattle.bus_word.proofs.ModeLaws.{passes_in}
use Rattle.bus_word.proofs.Places.{place_above, place_from, place_count, place_low}
use Rattle.bus_legal.specs.declared.tables.Tables.{Tables}
use Rattle.bus_legal.specs.Parts.{Parts, description_in, IsNormal}
use Rattle.bus_legal.specs.Tables.{has_count, has_any, largest_in, mask_at, masks_wrap, tables_say}
use Rattle.bus_legal.specs.Description.{word_at}
use Rattle.bus_legal.proofs.Places.{mask_from}
use Rattle.bus_canon.specs.declared.difference.Difference.{Difference}
use Rattle.bus_canon.specs.declared.difference.Difference.TheVariants.{Address, BroadcastOption, ReceiveCell, TransmitCell, BroadcastReceiveCell, OwnCode, BroadcastCode, Acceptance, VectorWord, BitWord, InitialWord, Wraparound}
use Rattle.bus_canon.specs.Difference.{AreAlike}
use Rattle.bus_canon.proofs.ApartLaws.{equal_by_all, same_at}
use Rattle.rt1553_differ.specs.declared.differing.PlaceKind.TheVariants.{Receiving, Transmitting, Broadcasting, Holding}
use Rattle.rt1553_differ.specs.Told.{unlike, differ, follows, wraps_alone, is_sent, is_told, told_differences, at_place, of_code, in_row, in_rows, possible}
use Rattle.rt1553_differ.proofs.Lists.{told-append}

parts_nil : (xs ys : List Difference) → xs ++ ys ≡ [] → (xs ≡ []) × (ys ≡ [])
parts_nil [] ys e = (refl, e)
parts_nil (x ∷ xs) ys e = absurd (cc)

-- none is told of two lists, so none of either
left_none : (v w : Parts) (ds es : List Difference) → told_differences v w (ds ++ es) ≡ [] → told_differences v w ds ≡ []
left_none v w ds es e = (parts_nil _ _ (sym (told-append v w ds es) ∙ e)).0

right_none : (v w : Parts) (ds es : List Difference) → told_differences v w (ds ++ es) ≡ [] → told_differences v w es ≡ []
right_none v w ds es e = (parts_nil _ _ (sym (told-append v w ds es) ∙ e)).1

kept_nil : (b : Bool) (d : Difference) (xs : List Difference) → cond b (d ∷ xs) xs ≡ [] → (b ≡ false) × (xs ≡ [])
kept_nil true d xs e = absurd (cc)
kept_nil false d xs e = (refl, e)

-- a difference that isn't told, and those behind it
first_none : (v w : Parts) (d : Difference) (ds : List Difference) → told_differences v w (d ∷ ds) ≡ [] → (is_told v w d ≡ false) × (told_differences v w ds ≡ [])
unfolding told_differences
first_none v w d ds e = kept_nil (is_told v w d) d (told_differences v w ds) e

row_none : (v w : Parts) (kind : ℕ → Difference) (n k : ℕ) → told_differences v w (in_row kind n k) ≡ [] → (i : ℕ) → n ≤ i → i < n + k → is_told v w (kind i) ≡ false
unfolding in_row
row_none v w kind n zero e i l m = absurd (omega arith)
row_none v w kind n (suc k) e i l m =
    let both = first_none v w (kind n) (in_row kind (suc n) k) e in
    ⊎_elim (λ lt. row_none v w kind (suc n) k both.1 i lt (omega arith)) (λ le. let at : i ≡ n = omega arith in ap (λ j. is_told v w (kind j)) at ∙ both.0) (cases_lt n i)

rows_none : (v w : Parts) (kind : ℕ → ℕ → Difference) (s k : ℕ) → told_differences v w (in_rows kind s k) ≡ [] → (t i : ℕ) → s ≤ t → t < s + k → 1 ≤ i → i ≤ 32 → is_told v w (kind t i) ≡ false
unfolding in_rows
rows_none v w kind s zero e t i l m low high = absurd (omega arith)
rows_none v w kind s (suc k) e t i l m low high =
    let here = left_none v w (in_row (kind s) 1 32) (in_rows kind (suc s) k) e in
    let later = right_none v w (in_row (kind s) 1 32) (in_rows kind (suc s) k) e in
    ⊎_elim (λ lt. rows_none v w kind (suc s) k later t i lt (omega arith) low high)
    (λ le. let at : t ≡ s = omega arith in ap (λ r. is_told v w (kind r i)) at ∙ row_none v w (kind s) 1 32 here i low (omega arith)) (cases_lt s t)

-- at each place of a kind
places_none : (v w : Parts) (kind : ℕ → ℕ → Difference) → told_differences v w (in_rows kind 1 30) ≡ [] → (s n : ℕ) → is_data_place s n ≡ true → is_told v w (kind s n) ≡ false
places_none v w kind e s n place =
    let low : 1 ≤ s = place_above s n place in
    let small : s - 1 < 30 = place_low s n place in
    rows_none v w kind 1 30 e s n low (omega arith) (place_from s n place) (place_count s n place)

-- no possible difference is told
record IsSilent (v w : Parts) : Type 0 where
  address : is_told v w Address ≡ false
  option : is_told v w BroadcastOption ≡ false
  receive : (s n : ℕ) → is_data_place s n ≡ true → is_told v w (ReceiveCell s n) ≡ false
  transmit : (s n : ℕ) → is_data_place s n ≡ true → is_told v w (TransmitCell s n) ≡ false
  broadcast : (s n : ℕ) → is_data_place s n ≡ true → is_told v w (BroadcastReceiveCell s n) ≡ false
  own_code : (c : ℕ) → c < 32 → is_told v w (OwnCode c) ≡ false
  broadcast_code : (c : ℕ) → c < 32 → is_told v w (BroadcastCode c) ≡ false
  acceptance : is_told v w Acceptance ≡ false
  vector : is_told v w VectorWord ≡ false
  bit : is_told v w BitWord ≡ false
  initial : (s i : ℕ) → is_data_place s i ≡ true → is_told v w (InitialWord s i) ≡ false
  wraparound : is_told v w Wraparound ≡ false

-- the possible differences up to those of a kind
abbrev to_option : List Difference
to_option = (Address ∷ []) ++ (BroadcastOption ∷ [])

abbrev to_receive : List Difference
to_receive = to_option ++ in_rows (at_place Receiving) 1 30

abbrev to_transmit : List Difference
to_transmit = to_receive ++ in_rows (at_place Transmitting) 1 30

abbrev to_broadcast : List Difference
to_broadcast = to_transmit ++ in_rows (at_place Broadcasting) 1 30

abbrev to_own_code : List Difference
to_own_code = to_broadcast ++ in_row (of_code false) 0 32

abbrev to_broadcast_code : List Difference
to_broadcast_code = to_own_code ++ in_row (of_code true) 0 32

abbrev to_acceptance : List Difference
to_acceptance = to_broadcast_code ++ (Acceptance ∷ [])

abbrev to_vector : List Difference
to_vector = to_acceptance ++ (VectorWord ∷ [])

abbrev to_bit : List Difference
to_bit = to_vector ++ (BitWord ∷ [])

abbrev to_initial : List Difference
to_initial = to_bit ++ in_rows (at_place Holding) 1 30

silent_where_none : (v w : Parts) → told_differences v w possible ≡ [] → IsSilent v w
unfolding possible
silent_where_none v w e =
    let l10 : told_differences v w to_initial ≡ [] = left_none v w to_initial (Wraparound ∷ []) e in
    let l9 : told_differences v w to_bit ≡ [] = left_none v w to_bit (in_rows (at_place Holding) 1 30) l10 in
    let l8 : told_differences v w to_vector ≡ [] = left_none v w to_vector (BitWord ∷ []) l9 in
    let l7 : told_differences v w to_acceptance ≡ [] = left_none v w to_acceptance (VectorWord ∷ []) l8 in
    let l6 : told_differences v w to_broadcast_code ≡ [] = left_none v w to_broadcast_code (Acceptance ∷ []) l7 in
    let l5 : told_differences v w to_own_code ≡ [] = left_none v w to_own_code (in_row (of_code true) 0 32) l6 in
    let l4 : told_differences v w to_broadcast ≡ [] = left_none v w to_broadcast (in_row (of_code false) 0 32) l5 in
    let l3 : told_differences v w to_transmit ≡ [] = left_none v w to_transmit (in_rows (at_place Broadcasting) 1 30) l4 in
    let l2 : told_differences v w to_receive ≡ [] = left_none v w to_receive (in_rows (at_place Transmitting) 1 30) l3 in
    let l1 : told_differences v w to_option ≡ [] = left_none v w to_option (in_rows (at_place Receiving) 1 30) l2 in
    record {
      address = (first_none v w Address [] (left_none v w (Address ∷ []) (BroadcastOption ∷ []) l1)).0;
      option = (first_none v w BroadcastOption [] (right_none v w (Address ∷ []) (BroadcastOption ∷ []) l1)).0;
      receive = places_none v w (at_place Receiving) (right_none v w to_option (in_rows (at_place Receiving) 1 30) l2);
      transmit = places_none v w (at_place Transmitting) (right_none v w to_receive (in_rows (at_place Transmitting) 1 30) l3);
      broadcast = places_none v w (at_place Broadcasting) (right_none v w to_transmit (in_rows (at_place Broadcasting) 1 30) l4);
      own_code = λ c l. row_none v w (of_code false) 0 32 (right_none v w to_broadcast (in_row (of_code false) 0 32) l5) c (omega arith) l;
      broadcast_code = λ c l. row_none v w (of_code true) 0 32 (right_none v w to_own_code (in_row (of_code true) 0 32) l6) c (omega arith) l;
      acceptance = (first_none v w Acceptance [] (right_none v w to_broadcast_code (Acceptance ∷ []) l7)).0;
      vector = (first_none v w VectorWord [] (right_none v w to_acceptance (VectorWord ∷ []) l8)).0;
      bit = (first_none v w BitWord [] (right_none v w to_vector (BitWord ∷ []) l9)).0;
      initial = places_none v w (at_place Holding) (right_none v w to_bit (in_rows (at_place Holding) 1 30) l10);
      wraparound = (first_none v w Wraparound [] (right_none v w to_initial (Wraparound ∷ []) e)).0;
    }

-- what isn't told, and follows from no other, doesn't differ
same_truth : (a b t : Bool) → (unlike a b && not t) ≡ false → t ≡ false → a ≡ b
same_truth true true t e f = refl
same_truth false false t e f = refl
same_truth true false true e f = absurd (cc)
same_truth true false false e f = absurd (cc)
same_truth false true true e f = absurd (cc)
same_truth false true false e f = absurd (cc)

same_number_by : (a b : ℕ) (same t : Bool) → (a == b) ≡ same → (not same && not t) ≡ false → t ≡ false → a ≡ b
same_number_by a b true t is e f = eqb-true a b is
same_number_by a b false true is e f = absurd (cc)
same_number_by a b false false is e f = absurd (cc)

same_number : (a b : ℕ) (t : Bool) → (not (a == b) && not t) ≡ false → t ≡ false → a ≡ b
same_number a b t e f = same_number_by a b (a == b) t refl e f

unlike-same : (a b : Bool) → a ≡ b → unlike a b ≡ false
unlike-same true true e = refl
unlike-same true false e = absurd (cc)
unlike-same false true e = absurd (cc)
unlike-same false false e = refl

-- a code that has a row is below 32
no_row : (c : ℕ) (o : Option ModeRow) → mode_row c ≡ o → 32 ≤ c → o ≡ None
no_row c None is l = refl
no_row c (Some row) is l = let low : nat_lt c 32 ≡ true = passes_in (λ e. nat_lt e.code 32) mode_table c row refl is in absurd (grind (arith, nat_tests))

module _ (v w : Parts) (p : IsNormal v) (q : IsNormal w) (silent : IsSilent v w) where
  option_same : v.broadcast ≡ w.broadcast
  option_same = same_truth v.broadcast w.broadcast false silent.option refl

  option_alike : unlike v.broadcast w.broadcast ≡ false
  option_alike = unlike-same v.broadcast w.broadcast option_same

  receive_same : (s n : ℕ) → tables_say v.tables (OwnReceive s n) ≡ tables_say w.tables (OwnReceive s n)
  receive_same s n = by_place (is_data_place s n) refl
    where
      by_place : (t : Bool) → is_data_place s n ≡ t → tables_say v.tables (OwnReceive s n) ≡ tables_say w.tables (OwnReceive s n)
      by_place true e = same_truth _ _ false (silent.receive s n e) refl
      by_place false e = ap (λ t. t && has_count v.tables.own_receive s n) e ∙ sym (ap (λ t. t && has_count w.tables.own_receive s n) e)

  transmit_same : (s n : ℕ) → tables_say v.tables (OwnTransmit s n) ≡ tables_say w.tables (OwnTransmit s n)
  transmit_same s n = by_place (is_data_place s n) refl
    where
      by_place : (t : Bool) → is_data_place s n ≡ t → tables_say v.tables (OwnTransmit s n) ≡ tables_say w.tables (OwnTransmit s n)
      by_place true e = same_truth _ _ false (silent.transmit s n e) refl
      by_place false e = ap (λ t. t && has_count v.tables.own_transmit s n) e ∙ sym (ap (λ t. t && has_count w.tables.own_transmit s n) e)

  broadcast_same : (s n : ℕ) → tables_say v.tables (BroadReceive s n) ≡ tables_say w.tables (BroadReceive s n)
  broadcast_same s n = by_place (is_data_place s n) refl
    where
      by_place : (t : Bool) → is_data_place s n ≡ t → tables_say v.tables (BroadReceive s n) ≡ tables_say w.tables (BroadReceive s n)
      by_place true e = same_truth _ _ (unlike v.broadcast w.broadcast) (silent.broadcast s n e) option_alike
      by_place false e = ap (λ t. t && has_count v.tables.broadcast_receive s n) e ∙ sym (ap (λ t. t && has_count w.tables.broadcast_receive s n) e)

  own_code_same : (c : ℕ) → tables_say v.tables (OwnMode c) ≡ tables_say w.tables (OwnMode c)
  own_code_same c =
      ⊎_elim (λ lt. same_truth _ _ false (silent.own_code c lt) refl)
      (λ le. let none : mode_row c ≡ None = no_row c (mode_row c) refl le in ap (λ o. is_some o && has_bit v.tables.own_mode c) none ∙ sym (ap (λ o. is_some o && has_bit w.tables.own_mode c) none)) (cases_lt c 32)

  broadcast_code_same : (c : ℕ) → tables_say v.tables (BroadMode c) ≡ tables_say w.tables (BroadMode c)
  broadcast_code_same c =
      ⊎_elim (λ lt. same_truth _ _ (unlike v.broadcast w.broadcast) (silent.broadcast_code c lt) option_alike)
      (λ le. let none : mode_row c ≡ None = no_row c (mode_row c) refl le in ap (λ o. allows_broadcast o && has_bit v.tables.broadcast_mode c) none ∙ sym (ap (λ o. allows_broadcast o && has_bit w.tables.broadcast_mode c) none)) (cases_lt c 32)

  mask_same : (a b : List ℕ) (s : ℕ) → 1 ≤ s → get_or a (s - 1) 0 ≡ get_or b (s - 1) 0 → mask_at a s ≡ mask_at b s
  mask_same a b s low e = sym (mask_from a s low) ∙ (e ∙ mask_from b s low)

  transmit_masks : (s : ℕ) → 1 ≤ s → s ≤ 30 → mask_at v.tables.own_transmit s ≡ mask_at w.tables.own_transmit s
  transmit_masks s low high = mask_same _ _ s low (same_at v.tables.own_transmit w.tables.own_transmit s p.own_transmit q.own_transmit low high (transmit_same s))

  wrap_same : (s : ℕ) → 1 ≤ s → s ≤ 30 → masks_wrap v.tables s ≡ masks_wrap w.tables s
  wrap_same s low high =
      let receive = mask_same _ _ s low (same_at v.tables.own_receive w.tables.own_receive s p.own_receive q.own_receive low high (receive_same s)) in
      let broadcast = mask_same _ _ s low (same_at v.tables.broadcast_receive w.tables.broadcast_receive s p.broadcast_receive q.broadcast_receive low high (broadcast_same s)) in
      λ j. (has_any (receive j) || has_any (broadcast j)) && has_any (transmit_masks s low high j)

  initial_same : (s i : ℕ) → (description_in v).initial s i ≡ (description_in w).initial s i
  initial_same s i = by_place (is_data_place s i) refl
    where
      by_place : (t : Bool) → is_data_place s i ≡ t → cond (is_data_place s i) (word_at v.initial s i) 0 ≡ cond (is_data_place s i) (word_at w.initial s i) 0
      by_place true e =
          let low : 1 ≤ s = place_above s i e in
          let small : s - 1 < 30 = place_low s i e in
          let sent : is_sent v.tables s i ≡ is_sent w.tables s i = ap (λ m. nat_le i (largest_in m)) (transmit_masks s low (omega arith)) in
          same_number _ _ (unlike (is_sent v.tables s i) (is_sent w.tables s i)) (silent.initial s i e) (unlike-same _ _ sent)
      by_place false e = ap (λ t. cond t (word_at v.initial s i) 0) e ∙ sym (ap (λ t. cond t (word_at w.initial s i) 0) e)

-- words that come back in one alone, where they could in both
not_alone : (wrap other : ℕ) (s t : Tables) → wrap ≤ 30 → (masks_wrap s wrap ≡ false → wrap ≡ 0) → (1 ≤ wrap → masks_wrap s wrap ≡ masks_wrap t wrap) → wraps_alone wrap other t ≡ false
not_alone wrap other s t high somewhere same = by_wrap (wrap == 0) (other == 0) (masks_wrap t wrap) refl refl
  where
    by_wrap : (a e b : Bool) → (wrap == 0) ≡ a → masks_wrap t wrap ≡ b → (not a && (e && not b)) ≡ false
    by_wrap true e b none is = refl
    by_wrap false true true none is = refl
    by_wrap false false true none is = refl
    by_wrap false e false none is = let low : 1 ≤ wrap = grind (arith, nat_tests) in let zero : wrap ≡ 0 = somewhere (same low ∙ is) in absurd (omega arith)

module _ (v w : Parts) (p : IsNormal v) (q : IsNormal w) (silent : IsSilent v w) where
  wraparound_same : v.wrap ≡ w.wrap
  wraparound_same =
      let first : wraps_alone v.wrap w.wrap w.tables ≡ false = not_alone v.wrap w.wrap v.tables w.tables p.wrap p.unwrapped (λ low. wrap_same v w p q silent v.wrap low p.wrap) in
      let second : wraps_alone w.wrap v.wrap v.tables ≡ false = not_alone w.wrap v.wrap w.tables v.tables q.wrap q.unwrapped (λ low. sym (wrap_same v w p q silent w.wrap low q.wrap)) in
      same_number v.wrap w.wrap (wraps_alone v.wrap w.wrap w.tables || wraps_alone w.wrap v.wrap v.tables) silent.wraparound (λ j. first j || second j)

  alike : (d : Difference) → AreAlike (description_in v) (description_in w) d
  alike Address = same_number v.address w.address false silent.address refl
  alike BroadcastOption = option_same v w p q silent
  alike (ReceiveCell s n) = receive_same v w p q silent s n
  alike (TransmitCell s n) = transmit_same v w p q silent s n
  alike (BroadcastReceiveCell s n) = broadcast_same v w p q silent s n
  alike (OwnCode c) = own_code_same v w p q silent c
  alike (BroadcastCode c) = broadcast_code_same v w p q silent c
  alike Acceptance = same_truth v.accept w.accept _ silent.acceptance (unlike-same _ _ (own_code_same v w p q silent 0))
  alike VectorWord = same_number v.vector w.vector _ silent.vector (unlike-same _ _ (own_code_same v w p q silent 16))
  alike BitWord = same_number v.bit w.bit _ silent.bit (unlike-same _ _ (own_code_same v w p q silent 19))
  alike (InitialWord s i) = initial_same v w p q silent s i
  alike Wraparound = wraparound_same

pub equal_where_none : (v w : Parts) → IsNormal v → IsNormal w → told_differences v w possible ≡ [] → v ≡ w
equal_where_none v w p q e = equal_by_all v w p q (λ d _. alike v w p q (silent_where_none v w e) d)

-- a terminal doesn't differ from itself
not_self : (n : ℕ) → not (n == n) ≡ false
not_self n = grind (arith, nat_tests)

self_alike : (v : Parts) (d : Difference) → differ (description_in v) (description_in v) d ≡ false
self_alike v Address = not_self v.address
self_alike v BroadcastOption = unlike-same v.broadcast v.broadcast refl
self_alike v (ReceiveCell s n) = unlike-same (tables_say v.tables (OwnReceive s n)) _ refl
self_alike v (TransmitCell s n) = unlike-same (tables_say v.tables (OwnTransmit s n)) _ refl
self_alike v (BroadcastReceiveCell s n) = unlike-same (tables_say v.tables (BroadReceive s n)) _ refl
self_alike v (OwnCode c) = unlike-same (tables_say v.tables (OwnMode c)) _ refl
self_alike v (BroadcastCode c) = unlike-same (tables_say v.tables (BroadMode c)) _ refl
self_alike v Acceptance = unlike-same v.accept v.accept refl
self_alike v VectorWord = not_self v.vector
self_alike v BitWord = not_self v.bit
self_alike v (InitialWord s i) = not_self _
self_alike v Wraparound = not_self v.wrap

none_of_self : (v : Parts) (ds : List Difference) → told_differences v v ds ≡ []
unfolding told_differences
none_of_self v [] = refl
none_of_self v (d ∷ ds) = ap (λ b. cond (b && not (follows v v d)) (d ∷ told_differences v v ds) (told_differences v v ds)) (self_alike v d) ∙ none_of_self v ds

pub none_where_equal : (v w : Parts) (ds : List Difference) → v ≡ w → told_differences v w ds ≡ []
none_where_equal v w ds e = ap (λ x. told_differences v x ds) (sym e) ∙ none_of_self v ds
