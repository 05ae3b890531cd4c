-- What is put into a table, and lists of entries as they grow.
use Rattle.std.proofs.Common.{◌≡◌, ℕ, suc, ◌+◌, ◌<◌, Bool, true, false, List, [], ◌∷◌, ◌++◌, map, length, get_or, take, String, Global, Ordering, Less, Equal, Greater, string_bytes, codes, pos, not, ◌==◌, refl, ap, sym, subst, cond, ◌∙◌, append_assoc, append-nil, length-take-le, arith}
use Rattle.std.proofs.lemmas.List.{take_more}
use Rattle.std.specs.String.{string_cmp}
use Rattle.std.specs.Ordering.{match_ordering}
use Rattle.std.specs.BTreeMap.{insert_entry}
use Rattle.toml.specs.Data.{Data, string, integer, boolean, Members, no_members}
use Rattle.toml.specs.View.{view, members_view}
use Rattle.toml.specs.declared.value.Value.{Value}
use Rattle.bus_word.specs.Mask.{has_bit}
use Rattle.rt1553_toml.specs.Sets.{two_digits, lone_range, more_numbers, numbers_below, numbers_text, set_text}
use Rattle.rt1553_toml.specs.inner.FullTree.{put_member, from_number, rule_members, mode_members}

abbrev Entry : Type 0
Entry = String Global × Value

match_members : (o : Ordering) (a b c : List Entry) → members_view (match_ordering o a b c) ≡ match_ordering o (members_view a) (members_view b) (members_view c)
match_members Less a b c = refl
match_members Equal a b c = refl
match_members Greater a b c = refl

put_entry : (k : String Global) (v : Value) (es : List Entry) → members_view (insert_entry string_cmp es k v) ≡ put_member (string_bytes k) (view v) (members_view es)
put_entry k v [] = refl
put_entry k v (e ∷ es) = match_members (string_cmp k e.0) _ _ _ ∙ rw (put_entry k v es)

-- the members of a map after an insert
pub put_table : (k : String Global) (name : List ℕ) (v : Value) (es fs : List Entry) → string_bytes k ≡ name → fs ≡ insert_entry string_cmp es k v
    → members_view fs ≡ put_member name (view v) (members_view es)
put_table k name v es fs same put = ap members_view put ∙ put_entry k v es ∙ ap (λ n. put_member n (view v) (members_view es)) same

-- ---- lists that grow at the end

pub map-last : {A B : Type 0} (f : A → B) (xs : List A) (x : A) → map f (xs ++ x ∷ []) ≡ map f xs ++ f x ∷ []
map-last f [] x = refl
map-last f (y ∷ ys) x = ap (λ zs. f y ∷ zs) (map-last f ys x)

pub from_number-last : {A B : Type 0} (f : ℕ → A → B) (n : ℕ) (xs : List A) (x : A) → from_number f n (xs ++ x ∷ []) ≡ from_number f n xs ++ f (n + length xs) x ∷ []
from_number-last f n [] x = let e : n ≡ n + 0 = omega arith in ap (λ m. f m x ∷ []) e
from_number-last f n (y ∷ ys) x =
    let e : suc n + length ys ≡ n + suc (length ys) = omega arith in
    ap (λ zs. f n y ∷ zs) (from_number-last f (suc n) ys x ∙ ap (λ m. from_number f (suc n) ys ++ f m x ∷ []) e)

-- one more value, for one more item
pub grown : {A : Type 0} (f : ℕ → A → Data) (xs : List A) (at : ℕ) (d : A) (before : List Data) (old : List Value) (v : Value) → at < length xs
    → map view old ≡ before ++ from_number f 1 (take at xs) → view v ≡ f (at + 1) (get_or xs at d) → map view (old ++ v ∷ []) ≡ before ++ from_number f 1 (take (at + 1) xs)
grown f xs at d before old v within so_far made =
    let long : 1 + length (take at xs) ≡ at + 1 = omega (arith, length-take-le at xs (omega arith)) in
    map-last view old v
    ∙ (λ j. so_far j ++ made j ∷ [])
    ∙ append_assoc before (from_number f 1 (take at xs)) (f (at + 1) (get_or xs at d) ∷ [])
    ∙ ap (λ ys. before ++ ys) ((λ j. from_number f 1 (take at xs) ++ f (sym long j) (get_or xs at d) ∷ []) ∙ sym (from_number-last f 1 (take at xs) (get_or xs at d)) ∙ ap (from_number f 1) (sym (take_more xs at d within)))

-- ---- the text of a set as it is written

none_left : (first mask : ℕ) → numbers_below first mask 32 ≡ numbers_text first mask
unfolding numbers_text
none_left first mask = refl

-- the text so far, where the bits from `left` on are written
abbrev pub SoFar : ℕ → ℕ → ℕ → Bool → List ℕ → Type 0
SoFar first mask left true text = text ++ more_numbers first mask left ≡ numbers_text first mask
SoFar first mask left false text = (text ≡ []) × (numbers_below first mask left ≡ numbers_text first mask)

pub so_far_start : (first mask : ℕ) (text : List ℕ) → text ≡ [] → SoFar first mask 32 false text
so_far_start first mask text e = (e, none_left first mask)

pub so_far_skip : (first mask left k : ℕ) (started : Bool) (text : List ℕ) → left ≡ suc k → has_bit mask k ≡ false → SoFar first mask left started text → SoFar first mask k started text
so_far_skip first mask left k started text e unset h = skip started (subst (λ l. SoFar first mask l started text) e h)
  where
    skip : (started : Bool) → SoFar first mask (suc k) started text → SoFar first mask k started text
    skip true h = sym (ap (λ b. text ++ cond b (44 ∷ (two_digits (first + k) ++ more_numbers first mask k)) (more_numbers first mask k)) unset) ∙ h
    skip false h = (h.0, sym (ap (λ b. cond b (lone_range (first + k) ++ more_numbers first mask k) (numbers_below first mask k)) unset) ∙ h.1)

pub so_far_step : (first mask left k : ℕ) (started : Bool) (text new : List ℕ) → left ≡ suc k → has_bit mask k ≡ true → SoFar first mask left started text
    → new ≡ text ++ cond started (44 ∷ two_digits (first + k)) (lone_range (first + k)) → SoFar first mask k true new
so_far_step first mask left k started text new e set h written = ap (λ n. n ++ more_numbers first mask k) written ∙ step started (subst (λ l. SoFar first mask l started text) e h)
  where
    step : (started : Bool) → SoFar first mask (suc k) started text → (text ++ cond started (44 ∷ two_digits (first + k)) (lone_range (first + k))) ++ more_numbers first mask k ≡ numbers_text first mask
    step true h =
        append_assoc text (44 ∷ two_digits (first + k)) (more_numbers first mask k)
        ∙ sym (ap (λ b. text ++ cond b (44 ∷ (two_digits (first + k) ++ more_numbers first mask k)) (more_numbers first mask k)) set) ∙ h
    step false h = ap (λ t. (t ++ lone_range (first + k)) ++ more_numbers first mask k) h.0
        ∙ sym (ap (λ b. cond b (lone_range (first + k) ++ more_numbers first mask k) (numbers_below first mask k)) set) ∙ h.1

pub so_far_end : (first mask : ℕ) (started : Bool) (text : List ℕ) → SoFar first mask 0 started text → text ≡ numbers_text first mask
so_far_end first mask true text h = sym (append-nil text) ∙ h
so_far_end first mask false text h = h.0 ∙ h.1

-- ---- tables made key by key

pub rule_made : (to direction : List ℕ) (subaddress mask : ℕ) (c d l s t : Data) (m0 m1 m2 m3 m4 m5 : Members) → m0 ≡ no_members
    → m1 ≡ put_member (codes "counts") c m0 → m2 ≡ put_member (codes "direction") d m1 → m3 ≡ put_member (codes "legal") l m2
    → m4 ≡ put_member (codes "subaddresses") s m3 → m5 ≡ put_member (codes "to") t m4
    → c ≡ string (set_text 1 mask) → d ≡ string direction → l ≡ boolean (not (mask == 0)) → s ≡ integer (pos subaddress) → t ≡ string to
    → m5 ≡ rule_members to direction subaddress mask
rule_made to direction subaddress mask c d l s t m0 m1 m2 m3 m4 m5 e0 e1 e2 e3 e4 e5 ec ed el es et =
    e5 ∙ (λ j. put_member (codes "to") (et j) ((e4 ∙ (λ j. put_member (codes "subaddresses") (es j) ((e3 ∙ (λ j. put_member (codes "legal") (el j)
    ((e2 ∙ (λ j. put_member (codes "direction") (ed j) ((e1 ∙ (λ j. put_member (codes "counts") (ec j) (e0 j))) j))) j))) j))) j))

pub mode_made : (to : List ℕ) (mask : ℕ) (c l t : Data) (m0 m1 m2 m3 : Members) → m0 ≡ no_members
    → m1 ≡ put_member (codes "codes") c m0 → m2 ≡ put_member (codes "legal") l m1 → m3 ≡ put_member (codes "to") t m2
    → c ≡ string (set_text 0 mask) → l ≡ boolean (not (mask == 0)) → t ≡ string to → m3 ≡ mode_members to mask
mode_made to mask c l t m0 m1 m2 m3 e0 e1 e2 e3 ec el et =
    e3 ∙ (λ j. put_member (codes "to") (et j) ((e2 ∙ (λ j. put_member (codes "legal") (el j) ((e1 ∙ (λ j. put_member (codes "codes") (ec j) (e0 j))) j))) j))
