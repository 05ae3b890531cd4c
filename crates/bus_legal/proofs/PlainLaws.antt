-- What a profile describes depends on its plain values alone.
use Rattle.std.proofs.Common.{◌≡◌, ℕ, ◌+◌, ◌-◌, ◌<◌, ◌≤◌, ◌==◌, Bool, true, false, ◌&&◌, cond, nat_le, nat_lt, List, [], ◌∷◌, length, map, get_or}
use Rattle.std.proofs.Common.{Option, Some, None, option_map, refl, ap, sym, ◌∙◌, get_or-take, length-take-le, arith}
use Rattle.std.proofs.lemmas.Bool.Decides.{nat_tests}
use Rattle.bus_word.specs.declared.cell.Cell.{Cell}
use Rattle.bus_word.specs.declared.cell.Cell.TheVariants.{OwnReceive, OwnTransmit, BroadReceive, OwnMode, BroadMode}
use Rattle.bus_word.specs.Cell.{is_allowed}
use Rattle.bus_legal.specs.declared.entries.Rule.{Rule}
use Rattle.bus_legal.specs.declared.entries.ModeRule.{ModeRule}
use Rattle.bus_legal.specs.declared.entries.InitialWords.{InitialWords}
use Rattle.bus_legal.specs.declared.profile.Profile.{Profile}
use Rattle.bus_legal.specs.Last.{or_last, last_of}
use Rattle.bus_word.specs.Mask.{has_bit}
use Rattle.bus_legal.specs.Plain.{PlainRule, PlainInitial, PlainProfile, plain_rule, plain_initial, plain}
use Rattle.bus_legal.specs.Description.{Description}
use Rattle.bus_legal.specs.Initial.{gives_number, gives, word_given, initial_word}
use Rattle.bus_legal.specs.Legal.{contains, rule_says, last_says, is_legal}
use Rattle.bus_legal.specs.Meaning.{description_of}
use Rattle.bus_legal.proofs.Bools.{right_of}
use Rattle.bus_legal.proofs.Descriptions.{same_description}

-- ---- the last of a list, and of what its items are plainly

or_last-map : {X Y : Type 0} (f : X → Y) (t : Bool) (x : X) (o : Option X) → option_map f (or_last o (cond t (Some x) None)) ≡ or_last (option_map f o) (cond t (Some (f x)) None)
or_last-map f t x (Some y) = refl
or_last-map f true x None = refl
or_last-map f false x None = refl

-- a test that sees an item's plain form alone finds the same there
last_of-map : {X Y : Type 0} (f : X → Y) (p : X → Bool) (q : Y → Bool) → ((x : X) → p x ≡ q (f x)) → (xs : List X) → option_map f (last_of p xs) ≡ last_of q (map f xs)
last_of-map f p q same [] = refl
last_of-map f p q same (x ∷ xs) =
    or_last-map f (p x) x (last_of p xs)
    ∙ (λ j. or_last (last_of-map f p q same xs j) (cond (same x j) (Some (f x)) None))

-- the later found, or else this one where it passes
found-passes : {X : Type 0} (p : X → Bool) (o : Option X) (y x : X) (t : Bool) → p y ≡ t → (o ≡ Some x → p x ≡ true) → or_last o (cond t (Some y) None) ≡ Some x → p x ≡ true
found-passes p (Some z) y x t is later e = later e
found-passes p None y x true is later e = cc
found-passes p None y x false is later e = cc

-- what is found passes
last_of-passes : {X : Type 0} (p : X → Bool) (xs : List X) (x : X) → last_of p xs ≡ Some x → p x ≡ true
last_of-passes p [] x e = cc
last_of-passes p (y ∷ ys) x e = found-passes p (last_of p ys) y x (p y) refl (last_of-passes p ys x) e

-- ---- rules

abbrev plain_among : ℕ → ℕ → PlainRule → Bool
plain_among subaddress count r = has_bit r.subaddresses (subaddress - 1) && has_bit r.counts (count - 1)

abbrev plain_contains : Cell → PlainRule → Bool
plain_contains (OwnReceive s n) r = r.own && r.receive && plain_among s n r
plain_contains (OwnTransmit s n) r = r.own && r.transmit && plain_among s n r
plain_contains (BroadReceive s n) r = r.broadcast && r.receive && plain_among s n r
plain_contains _ r = false

abbrev plain_rule_says : Option PlainRule → Bool
plain_rule_says None = false
plain_rule_says (Some r) = r.legal

abbrev plain_last_says : List PlainRule → List ModeRule → Cell → Bool
plain_last_says rules modes (OwnMode c) = last_says [] modes (OwnMode c)
plain_last_says rules modes (BroadMode c) = last_says [] modes (BroadMode c)
plain_last_says rules modes cell = plain_rule_says (last_of (plain_contains cell) rules)

contains-plain : (cell : Cell) (r : Rule) → contains cell r ≡ plain_contains cell (plain_rule r)
contains-plain (OwnReceive s n) r = refl
contains-plain _ r = refl

says-plain : (o : Option Rule) → rule_says o ≡ plain_rule_says (option_map plain_rule o)
says-plain None = refl
says-plain (Some r) = refl

rules-plain : (rules : List Rule) (cell : Cell) → rule_says (last_of (contains cell) rules) ≡ plain_rule_says (last_of (plain_contains cell) (map plain_rule rules))
rules-plain rules cell =
    says-plain (last_of (contains cell) rules)
    ∙ ap plain_rule_says (last_of-map plain_rule (contains cell) (plain_contains cell) (contains-plain cell) rules)

last_says-plain : (rules : List Rule) (modes : List ModeRule) (cell : Cell) → last_says rules modes cell ≡ plain_last_says (map plain_rule rules) modes cell
last_says-plain rules modes (OwnReceive s n) = rules-plain rules (OwnReceive s n)
last_says-plain rules modes (OwnTransmit s n) = rules-plain rules (OwnTransmit s n)
last_says-plain rules modes (BroadReceive s n) = rules-plain rules (BroadReceive s n)
last_says-plain rules modes _ = refl

legal-plain : (rules : List Rule) (modes : List ModeRule) (cell : Cell) → is_legal rules modes cell ≡ (is_allowed cell && plain_last_says (map plain_rule rules) modes cell)
unfolding is_legal
legal-plain rules modes cell = ap (λ says. is_allowed cell && says) (last_says-plain rules modes cell)

-- ---- initial entries

abbrev plain_gives : ℕ → ℕ → PlainInitial → Bool
plain_gives subaddress number i = (subaddress == i.subaddress) && (nat_le i.first number && nat_lt number (i.first + length i.words))

abbrev plain_word_given : ℕ → Option PlainInitial → ℕ
plain_word_given number None = 0
plain_word_given number (Some i) = get_or i.words (number - i.first) 0

abbrev plain_initial_word : List PlainInitial → ℕ → ℕ → ℕ
plain_initial_word entries subaddress number = plain_word_given number (last_of (plain_gives subaddress number) entries)

gives-plain : (s n : ℕ) (e : InitialWords) → gives s n e ≡ plain_gives s n (plain_initial e)
gives-plain s n e =
    let low : 1 ≤ e.first = e.first_low in
    let room : e.first + e.len ≤ 33 = e.room in
    let whole : length e.words ≡ 32 = e.whole in
    ap (λ len. (s == e.subaddress) && (nat_le e.first n && nat_lt n (e.first + len))) (sym (length-take-le e.len e.words (omega arith)))

-- a number that is given is among the words that count
pub number_within : (first len n : ℕ) → (nat_le first n && nat_lt n (first + len)) ≡ true → n - first < len
number_within first len n e = grind (arith, nat_tests)

initial_word-plain : (entries : List InitialWords) (s n : ℕ) → initial_word entries s n ≡ plain_initial_word (map plain_initial entries) s n
initial_word-plain entries s n =
    given (last_of (gives s n) entries) refl
    ∙ ap (plain_word_given n) (last_of-map plain_initial (gives s n) (plain_gives s n) (gives-plain s n) entries)
  where
    given : (o : Option InitialWords) → last_of (gives s n) entries ≡ o → word_given 0 n o ≡ plain_word_given n (option_map plain_initial o)
    given None found = refl
    given (Some e) found =
        let passes : gives s n e ≡ true = last_of-passes (gives s n) entries e found in
        sym (get_or-take e.len e.words (n - e.first) 0 (number_within e.first e.len n (right_of (s == e.subaddress) (gives_number n e) passes)))

-- ---- descriptions

-- what plain values describe
abbrev plain_description : PlainProfile → Description
plain_description p = record {
  address = p.address;
  broadcast = p.broadcast;
  wrap = p.wrap;
  accept = p.accept;
  vector = p.vector;
  bit = p.bit;
  initial = plain_initial_word p.initials;
  legal = λ cell. is_allowed cell && plain_last_says p.rules p.modes cell;
}

description-plain : (p : Profile) → description_of p ≡ plain_description (plain p)
description-plain p = same_description (description_of p) (plain_description (plain p)) refl refl refl refl refl refl (initial_word-plain p.initials) (legal-plain p.rules p.modes)

pub described_alike : (p q : Profile) → plain p ≡ plain q → description_of p ≡ description_of q
described_alike p q same = description-plain p ∙ ap plain_description same ∙ sym (description-plain q)
