-- The items of a text are those that the grammar gives it.
use Rattle.std.proofs.Common.{◌≡◌, ℕ, ◌<◌, ◌==◌, Bool, true, false, cond, List, [], ◌∷◌, ◌++◌, map, Option, Some, None, refl, ap, sym, ◌∙◌, arith, inl, inr, lit<}
use Rattle.std.proofs.lemmas.Bool.{and_parts}
use Rattle.std.proofs.lemmas.Option.{cond_some, same_Some}
use Rattle.std.proofs.lemmas.Bool.Decides.{nat_tests}
use Rattle.std.specs.List.{slice_split, onto_first}
use Rattle.std.specs.Char.{is_ascii_digit}
use Rattle.bus_profile.specs.declared.ranges.Item.{Item}
use Rattle.bus_profile.specs.RangesOf.{trim_start, trim_end, before_trimmed, decimal_of, range_number, range_item, item_of, in_front, all_of, items_of}
use Rattle.bus_profile.proofs.Parts.{range_item-more}
use Rattle.bus_profile.specs.Ranges.{AreSpaces, IsDigit, AreDigits, IsNumber, IsItem, Denotes}

-- ---- what the grammar gives is found

trim_start-spaces : (before rest : List ℕ) → AreSpaces before → trim_start (before ++ rest) ≡ trim_start rest
trim_start-spaces [] rest s = refl
trim_start-spaces (b ∷ bs) rest s = rw (s.0) (trim_start-spaces bs rest s.1)

trim_end-spaces : (after : List ℕ) → AreSpaces after → trim_end after ≡ []
trim_end-spaces [] s = refl
trim_end-spaces (b ∷ bs) s = rw (trim_end-spaces bs s.1, s.0)

not_space : (b : ℕ) → IsDigit b → (b == 32) ≡ false
not_space b d = grind (arith, nat_tests)

is_digit : (b : ℕ) → IsDigit b → is_ascii_digit b ≡ true
is_digit b d = grind (arith, nat_tests)

digits_found : (ds after : List ℕ) (n : ℕ) → AreDigits ds n → AreSpaces after → decimal_of (trim_end (trim_start (ds ++ after))) ≡ Some n
digits_found [] after n v s = absurd v
digits_found (a ∷ []) after n v s = rw (not_space a v.0, trim_end-spaces after s, not_space a v.0, is_digit a v.0) (ap Some (sym v.1))
digits_found (a ∷ b ∷ []) after n v s = rw (not_space a v.0, trim_end-spaces after s, not_space b v.1, is_digit a v.0, is_digit b v.1) (ap Some (sym v.2))
digits_found (a ∷ b ∷ c ∷ []) after n v s = rw (not_space a v.0, trim_end-spaces after s, not_space c v.2, is_digit a v.0, is_digit b v.1, is_digit c v.2) (ap Some (sym v.3))
digits_found (a ∷ b ∷ c ∷ d ∷ ds) after n v s = absurd v

number_found : (text : List ℕ) (n : ℕ) → IsNumber text n → range_number text ≡ Some n
unfolding range_number
number_found text n h = rw (h.is, trim_start-spaces h.before (h.digits ++ h.after) h.spaces_before) (digits_found h.digits h.after n h.value h.spaces_after)

-- no byte of the text is this one
abbrev Lacks : ℕ → List ℕ → Type 0
Lacks at [] = Unit {0}
Lacks at (b ∷ bs) = ((b == at) ≡ false) × Lacks at bs

Lacks-append : (at : ℕ) (xs ys : List ℕ) → Lacks at xs → Lacks at ys → Lacks at (xs ++ ys)
Lacks-append at [] ys a b = b
Lacks-append at (x ∷ xs) ys a b = (a.0, Lacks-append at xs ys a.1 b)

spaces_lack : (at : ℕ) (bs : List ℕ) → 32 < at → at < 48 → AreSpaces bs → Lacks at bs
spaces_lack at [] l h s = tt
spaces_lack at (b ∷ bs) l h s = (grind (arith, nat_tests, s.0), spaces_lack at bs l h s.1)

digit_lacks : (at b : ℕ) → at < 48 → IsDigit b → (b == at) ≡ false
digit_lacks at b h d = grind (arith, nat_tests)

digits_lack : (at : ℕ) (ds : List ℕ) (n : ℕ) → at < 48 → AreDigits ds n → Lacks at ds
digits_lack at [] n h v = tt
digits_lack at (a ∷ []) n h v = (digit_lacks at a h v.0, tt)
digits_lack at (a ∷ b ∷ []) n h v = (digit_lacks at a h v.0, (digit_lacks at b h v.1, tt))
digits_lack at (a ∷ b ∷ c ∷ []) n h v = (digit_lacks at a h v.0, (digit_lacks at b h v.1, (digit_lacks at c h v.2, tt)))
digits_lack at (a ∷ b ∷ c ∷ d ∷ ds) n h v = absurd v

number_lacks : (at : ℕ) (text : List ℕ) (n : ℕ) → 32 < at → at < 48 → IsNumber text n → Lacks at text
number_lacks at text n l h i = rw (i.is) (Lacks-append at i.before (i.digits ++ i.after) (spaces_lack at i.before l h i.spaces_before) (Lacks-append at i.digits i.after (digits_lack at i.digits n h i.value) (spaces_lack at i.after l h i.spaces_after)))

split_whole : (at : ℕ) (text : List ℕ) → Lacks at text → slice_split (λ b. b == at) text ≡ text ∷ []
split_whole at [] a = refl
split_whole at (b ∷ bs) a = rw (a.0) (ap (onto_first b) (split_whole at bs a.1))

same_byte : (at : ℕ) → (at == at) ≡ true
same_byte at = grind (arith, nat_tests)

split_part : (at : ℕ) (part rest : List ℕ) → Lacks at part → slice_split (λ b. b == at) (part ++ (at ∷ rest)) ≡ part ∷ slice_split (λ b. b == at) rest
split_part at [] rest a = rw (same_byte at)
split_part at (b ∷ bs) rest a = rw (a.0) (ap (onto_first b) (split_part at bs rest a.1))

item_found : (text : List ℕ) (s : Item) → IsItem text s → item_of text ≡ Some s
unfolding item_of
item_found text s (inl h) = rw (split_whole 45 text (number_lacks 45 text s.first (lit< tt) (lit< tt) h.0), number_found text s.first h.0, h.1)
item_found text s (inr p) =
    rw (p.is, split_part 45 p.left p.right (number_lacks 45 p.left s.first (lit< tt) (lit< tt) p.first), split_whole 45 p.right (number_lacks 45 p.right s.last (lit< tt) (lit< tt) p.last), number_found p.left s.first p.first, number_found p.right s.last p.last)

item_lacks : (text : List ℕ) (s : Item) → IsItem text s → Lacks 44 text
item_lacks text s (inl h) = number_lacks 44 text s.first (lit< tt) (lit< tt) h.0
item_lacks text s (inr p) =
    rw (p.is) (Lacks-append 44 p.left (45 ∷ p.right) (number_lacks 44 p.left s.first (lit< tt) (lit< tt) p.first) (refl, number_lacks 44 p.right s.last (lit< tt) (lit< tt) p.last))

pub items_found : (text : List ℕ) (ss : List Item) → Denotes text ss → items_of text ≡ Some ss
unfolding items_of
items_found text [] h = absurd h
items_found text (s ∷ []) h = rw (split_whole 44 text (item_lacks text s h), item_found text s h)
items_found text (s ∷ t ∷ ss) (part, rest, is, here, more) =
    rw (is, split_part 44 part rest (item_lacks part s here), item_found part s here, items_found rest (t ∷ ss) more)

-- ---- what is found the grammar gives

is_space : (b : ℕ) → (b == 32) ≡ true → b ≡ 32
is_space b e = grind (arith, nat_tests)

start_cut : (text : List ℕ) → (before : List ℕ) × (text ≡ before ++ trim_start text) × AreSpaces before
start_cut [] = ([], refl, tt)
start_cut (b ∷ bs) = pick (b == 32) refl (start_cut bs)
  where
    pick : (t : Bool) → (b == 32) ≡ t → (before : List ℕ) × (bs ≡ before ++ trim_start bs) × AreSpaces before
        → (before : List ℕ) × (b ∷ bs ≡ before ++ cond t (trim_start bs) (b ∷ bs)) × AreSpaces before
    pick true e r = (b ∷ r.0, ap (λ xs. b ∷ xs) r.1, (is_space b e, r.2))
    pick false e r = ([], refl, tt)

end_cut : (text : List ℕ) → (after : List ℕ) × (text ≡ trim_end text ++ after) × AreSpaces after
end_cut [] = ([], refl, tt)
end_cut (b ∷ bs) = pick (trim_end bs) (end_cut bs)
  where
    last : (t : Bool) → (b == 32) ≡ t → (after : List ℕ) → bs ≡ after → AreSpaces after → (more : List ℕ) × (b ∷ bs ≡ cond t [] (b ∷ []) ++ more) × AreSpaces more
    last true e after is s = (b ∷ after, ap (λ xs. b ∷ xs) is, (is_space b e, s))
    last false e after is s = (after, ap (λ xs. b ∷ xs) is, s)

    pick : (t : List ℕ) → (after : List ℕ) × (bs ≡ t ++ after) × AreSpaces after → (more : List ℕ) × (b ∷ bs ≡ before_trimmed b t ++ more) × AreSpaces more
    pick [] r = last (b == 32) refl r.0 r.1 r.2
    pick (c ∷ cs) r = (r.0, ap (λ xs. b ∷ xs) r.1, r.2)

digit_is : (b : ℕ) → is_ascii_digit b ≡ true → IsDigit b
digit_is b e = (grind (arith, nat_tests), grind (arith, nat_tests))

digits_are : (ds : List ℕ) (n : ℕ) → decimal_of ds ≡ Some n → AreDigits ds n
digits_are [] n e = absurd (cc)
digits_are (a ∷ []) n e = let (p, q) = cond_some _ _ _ e in (digit_is a p, sym q)
digits_are (a ∷ b ∷ []) n e = let (p, q) = cond_some _ _ _ e in let (x, y) = and_parts _ _ p in (digit_is a x, digit_is b y, sym q)
digits_are (a ∷ b ∷ c ∷ []) n e = let (p, q) = cond_some _ _ _ e in let (xy, z) = and_parts _ _ p in let (x, y) = and_parts _ _ xy in (digit_is a x, digit_is b y, digit_is c z, sym q)
digits_are (a ∷ b ∷ c ∷ d ∷ ds) n e = absurd (cc)

number_is : (text : List ℕ) (n : ℕ) → range_number text ≡ Some n → IsNumber text n
unfolding range_number
number_is text n e =
    let (before, cut, spaces) = start_cut text in
    let (after, cut', spaces') = end_cut (trim_start text) in
    record { before = before; digits = trim_end (trim_start text); after = after; is = cut ∙ ap (λ xs. before ++ xs) cut'; spaces_before = spaces; spaces_after = spaces'; value = digits_are _ n e }

-- the parts of a text are it, with the byte between them
abbrev Joined : ℕ → List ℕ → List (List ℕ) → Type 0
Joined at text [] = ⊥
Joined at text (x ∷ []) = text ≡ x
Joined at text (x ∷ y ∷ ys) = (rest : List ℕ) × (text ≡ x ++ (at ∷ rest)) × (slice_split (λ b. b == at) rest ≡ y ∷ ys)

is_byte : (at b : ℕ) → (b == at) ≡ true → b ≡ at
is_byte at b e = grind (arith, nat_tests)

joined : (at : ℕ) (text : List ℕ) → Joined at text (slice_split (λ b. b == at) text)
joined at [] = refl
joined at (b ∷ bs) = pick (b == at) refl (slice_split (λ c. c == at) bs) refl (joined at bs)
  where
    pick : (t : Bool) → (b == at) ≡ t → (parts : List (List ℕ)) → slice_split (λ c. c == at) bs ≡ parts → Joined at bs parts → Joined at (b ∷ bs) (cond t ([] ∷ parts) (onto_first b parts))
    pick t e [] f j = absurd j
    pick true e (x ∷ ys) f j = (bs, ap (λ c. c ∷ bs) (is_byte at b e), f)
    pick false e (x ∷ []) f j = ap (λ xs. b ∷ xs) j
    pick false e (x ∷ y ∷ ys) f j = (j.0, ap (λ xs. b ∷ xs) j.1, j.2)

none_is_some : {A : Type 0} (o : Option A) (x : A) → o ≡ None → o ≡ Some x → ⊥
none_is_some o x e f = cc

item_is : (text : List ℕ) (s : Item) → item_of text ≡ Some s → IsItem text s
unfolding item_of
item_is text s e = pick (slice_split (λ b. b == 45) text) (joined 45 text) e
  where
    one : (x : List ℕ) (o : Option ℕ) → range_number x ≡ o → text ≡ x → range_item (o ∷ []) ≡ Some s → IsItem text s
    one x None f is e = absurd (cc)
    one x (Some n) f is e = let same = same_Some _ _ e in inl (number_is text s.first (rw is (f ∙ ap (λ (t : Item). Some t.first) same)), sym (ap (λ (t : Item). t.last) same) ∙ ap (λ (t : Item). t.first) same)

    two : (x y rest : List ℕ) (ys : List (List ℕ)) → text ≡ x ++ (45 ∷ rest) → slice_split (λ b. b == 45) rest ≡ y ∷ ys → (a b : Option ℕ) → range_number x ≡ a → range_number y ≡ b → range_item (a ∷ b ∷ map range_number ys) ≡ Some s → IsItem text s
    two x y rest (z ∷ zs) is split a b f g e = absurd (none_is_some _ _ (range_item-more a b (range_number z) (map range_number zs)) e)
    two x y rest [] is split None b f g e = absurd (cc)
    two x y rest [] is split (Some m) None f g e = absurd (cc)
    two x y rest [] is split (Some m) (Some n) f g e =
        let same = same_Some _ _ e in
        let whole : rest ≡ y = rw split at (joined 45 rest) in
        inr (record { left = x; right = rest; is = is; first = number_is x s.first (f ∙ ap (λ (t : Item). Some t.first) same); last = number_is rest s.last (rw whole (g ∙ ap (λ (t : Item). Some t.last) same)) })

    pick : (parts : List (List ℕ)) → Joined 45 text parts → range_item (map range_number parts) ≡ Some s → IsItem text s
    pick [] j e = absurd j
    pick (x ∷ []) j e = one x (range_number x) refl j e
    pick (x ∷ y ∷ ys) j e = two x y j.0 ys j.1 j.2 (range_number x) (range_number y) refl refl e

-- what comes before the items of a rest
abbrev Longer : List ℕ → List ℕ → Option Item → Option (List Item) → List Item → Type 0
Longer part rest o os ss = in_front o os ≡ Some ss → Denotes (part ++ (44 ∷ rest)) ss

longer : (part rest : List ℕ) (o : Option Item) (os : Option (List Item)) → item_of part ≡ o → ((ss : List Item) → os ≡ Some ss → Denotes rest ss) → (ss : List Item) → Longer part rest o os ss
longer part rest None os f more ss e = absurd (cc)
longer part rest (Some s) None f more ss e = absurd (cc)
longer part rest (Some s) (Some []) f more ss e = absurd (more [] refl)
longer part rest (Some s) (Some (t ∷ ts)) f more ss e =
    let same = same_Some _ _ e in
    rw (← same) (part, rest, refl, item_is part s f, more (t ∷ ts) refl)

alone : (part : List ℕ) (o : Option Item) → item_of part ≡ o → (ss : List Item) → in_front o (Some []) ≡ Some ss → Denotes part ss
alone part None f ss e = absurd (cc)
alone part (Some s) f ss e = let same = same_Some _ _ e in rw (← same) (item_is part s f)

parts_are : (parts : List (List ℕ)) (text : List ℕ) → slice_split (λ b. b == 44) text ≡ parts → (ss : List Item) → all_of (map item_of parts) ≡ Some ss → Denotes text ss
parts_are [] text f ss e = absurd (rw f at (joined 44 text))
parts_are (x ∷ []) text f ss e = let whole : text ≡ x = rw f at (joined 44 text) in rw whole (alone x (item_of x) refl ss e)
parts_are (x ∷ y ∷ ys) text f ss e =
    let (rest, is, split) = rw f at (joined 44 text) in
    rw is (longer x rest (item_of x) (all_of (map item_of (y ∷ ys))) refl (λ ts g. parts_are (y ∷ ys) rest split ts g) ss e)

pub items_are : (text : List ℕ) (ss : List Item) → items_of text ≡ Some ss → Denotes text ss
unfolding items_of
items_are text ss e = parts_are (slice_split (λ b. b == 44) text) text refl ss e
