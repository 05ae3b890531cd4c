-- What a text of ranges answers, by the grammar.
use Rattle.std.proofs.Common.{◌≡◌, ℕ, ◌+◌, ◌-◌, ◌^◌, ◌<◌, ◌≤◌, ◌&&◌, ◌||◌, nat_le, Bool, true, false, cond, List, [], ◌∷◌, Option, Some, None, Ok, Err, refl, ap, sym, ◌∙◌, arith, inl, inr, ◌⊎◌}
use Rattle.std.proofs.Math.Bool.{or-true}
use Rattle.std.proofs.lemmas.Bool.Decides.{nat_tests}
use Rattle.std.proofs.lemmas.Bool.{and_parts}
use Rattle.std.proofs.lemmas.Option.{same_Some}
use Rattle.std.specs.List.{list_all}
use Rattle.bus_profile.specs.declared.ranges.Item.{Item}
use Rattle.bus_profile.specs.declared.ranges.RangeFault.TheVariants.{Bounds}
use Rattle.bus_profile.specs.RangesOf.{is_within, is_named, items_of, mask_of, mask_within, ranges_of}
use Rattle.bus_profile.specs.Ranges.{Denotes, IsWithin, AreWithin, Names, IsReading}
use Rattle.bus_profile.proofs.RangesGrammar.{items_found, items_are}
use Rattle.bus_word.specs.Mask.{has_bit}
use Rattle.bus_profile.proofs.Bits.{bits_where-bit, bits_where-cut}

within_is : (low high : ℕ) (s : Item) → is_within low high s ≡ true → IsWithin low high s
within_is low high s e = (grind (arith, nat_tests), grind (arith, nat_tests), grind (arith, nat_tests))

is_within_from : (low high : ℕ) (s : Item) → IsWithin low high s → is_within low high s ≡ true
is_within_from low high s h = grind (arith, nat_tests, h.0, h.1, h.2)

all_are : (low high : ℕ) (ss : List Item) → list_all (is_within low high) ss ≡ true → AreWithin low high ss
all_are low high [] e = tt
all_are low high (s ∷ ss) e = let (a, b) = and_parts _ _ e in (within_is low high s a, all_are low high ss b)

are_all : (low high : ℕ) (ss : List Item) → AreWithin low high ss → list_all (is_within low high) ss ≡ true
are_all low high [] h = refl
are_all low high (s ∷ ss) h = rw (is_within_from low high s h.0, are_all low high ss h.1)

named_is : (ss : List Item) (n : ℕ) → is_named ss n ≡ true → Names ss n
named_is [] n e = absurd (cc)
named_is (s ∷ ss) n e = pick (nat_le s.first n && nat_le n s.last) refl e (named_is ss n)
  where
    pick : (b : Bool) → (nat_le s.first n && nat_le n s.last) ≡ b → (b || is_named ss n) ≡ true → (is_named ss n ≡ true → Names ss n) → ((s.first ≤ n) × (n ≤ s.last)) ⊎ Names ss n
    pick true here e more = inl (grind (arith, nat_tests), grind (arith, nat_tests))
    pick false here e more = inr (more e)

is_named_from : (ss : List Item) (n : ℕ) → Names ss n → is_named ss n ≡ true
is_named_from [] n h = absurd h
is_named_from (s ∷ ss) n (inl h) = let yes' : (nat_le s.first n && nat_le n s.last) ≡ true = grind (arith, nat_tests, h.0, h.1) in rw yes'
is_named_from (s ∷ ss) n (inr h) = rw (is_named_from ss n h) (or-true _)

bit_of : (low n : ℕ) (ss : List Item) → low ≤ n → n - low < 32 → has_bit (mask_of low ss) (n - low) ≡ is_named ss n
unfolding mask_of
bit_of low n ss l h = let same : low + (n - low) ≡ n = omega arith in bits_where-bit 32 (λ i. is_named ss (low + i)) (n - low) h ∙ ap (is_named ss) same

-- nothing above the range is named
none_above : (low high : ℕ) (ss : List Item) (i : ℕ) → AreWithin low high ss → high < i → is_named ss i ≡ false
none_above low high [] i w l = refl
none_above low high (s ∷ ss) i w l = let no_here : (nat_le s.first i && nat_le i s.last) ≡ false = grind (arith, nat_tests, w.0.2) in rw (no_here, none_above low high ss i w.1 l)

small_mask : (low high : ℕ) (ss : List Item) → high - low ≤ 31 → AreWithin low high ss → mask_of low ss < 2 ^ (high - low + 1)
unfolding mask_of
small_mask low high ss narrow w = bits_where-cut 32 (high - low + 1) (λ i. is_named ss (low + i)) (omega arith) (λ i l. none_above low high ss (low + i) w (omega arith))

clash : (b : Bool) → b ≡ true → b ≡ false → ⊥
clash b e f = cc

pub reading : (text : List ℕ) (low high : ℕ) → high - low ≤ 31 → IsReading text low high (ranges_of low high text)
unfolding ranges_of
reading text low high small = pick (items_of text) refl
  where
    only : (ss : List Item) → items_of text ≡ Some ss → (others : List Item) → Denotes text others → others ≡ ss
    only ss e others d = same_Some _ _ (sym (items_found text others d) ∙ e)

    inside : (ss : List Item) → items_of text ≡ Some ss → (b : Bool) → list_all (is_within low high) ss ≡ b → IsReading text low high (cond b (Ok (mask_of low ss)) (Err Bounds))
    inside ss e true all = record {
      items = ss;
      denoted = items_are text ss e;
      only = only ss e;
      within = all_are low high ss all;
      small = small_mask low high ss small (all_are low high ss all);
      bits = λ n l h. (λ set. named_is ss n (sym (bit_of low n ss l (omega arith)) ∙ set), λ names. bit_of low n ss l (omega arith) ∙ is_named_from ss n names);
    }
    inside ss e false all = record { items = ss; denoted = items_are text ss e; only = only ss e; outside = λ within. absurd (clash _ (are_all low high ss within) all) }

    none : items_of text ≡ None → (items : List Item) → Denotes text items → ⊥
    none e items d = let f = items_found text items d in cc

    pick : (o : Option (List Item)) → items_of text ≡ o → IsReading text low high (mask_within low high o)
    pick None e = none e
    pick (Some ss) e = inside ss e (list_all (is_within low high) ss) refl
