-- What is found byte by byte is what the definitions say.
use Rattle.std.proofs.Common.{◌≡◌, ◌≢◌, inl, inr, ℕ, suc, ◌+◌, ◌==◌, ◌&&◌, ◌||◌, not, Bool, true, false, if◌then◌else◌, Option, Some, None, List, [], ◌∷◌, ◌++◌, refl, sym, ap, subst, ◌∙◌, append_assoc, append-nil, length, drop, ◌<◌, ◌≤◌, slice_index_or, arith}
use Rattle.std.proofs.lemmas.Bool.Decides.{nat_tests}
use Rattle.std.proofs.lemmas.List.{drop_more, drop_all}
use Rattle.csv_rows.specs.declared.place.CellPlace.{CellPlace}
use Rattle.csv_rows.specs.declared.field.FieldState.{FieldState}
use Rattle.csv_rows.specs.declared.field.FieldState.TheVariants.{Start, Plain, Quoted, Closed}
use Rattle.csv_rows.specs.Csv.{is_separator, is_unquoted, all_unquoted, doubled, quoted, IsField, IsBroken, AreFields, joined, IsCsv, line_ends, column_after, line_end_of, IsBrokenAt, CsvOrBroken}
use Rattle.csv_rows.specs.inner.Scan.{next_state, line_after, place_after}

-- ---- the walk over a text

-- what is found where the text ends in a field that began at this place
abbrev pub at_end : FieldState → CellPlace → Option CellPlace
at_end Start at = None
at_end Plain at = None
at_end Quoted at = Some at
at_end Closed at = None

-- the place of the field to which the next byte belongs
abbrev pub place_on : ℕ → FieldState → CellPlace → ℕ → ℕ → CellPlace
place_on d Start at line b = place_after d at line b
place_on d Plain at line b = at
place_on d Quoted at line b = at
place_on d Closed at line b = at

-- what is found after a byte: the field at hand, where it is broken
abbrev pub found_on : (FieldState → Option CellPlace) → CellPlace → Option FieldState → Option CellPlace
found_on more at None = Some at
found_on more at (Some next) = more next

-- what is found from a state on, in a field that began at this place
unfoldable pub scan : ℕ → ℕ → FieldState → CellPlace → ℕ → List ℕ → Option CellPlace
scan feed d s at line [] = at_end s at
scan feed d s at line (b ∷ bs) = found_on (λ next. scan feed d next (place_on d next at (line_after feed line b) b) (line_after feed line b) bs) at (next_state d s b)

-- ---- fields as far as they are read

-- what of a field was read in a state
abbrev Held : ℕ → FieldState → List ℕ → Type 0
Held d Start f = f ≡ []
Held d Plain f = (b : ℕ) × (bs : List ℕ) × (f ≡ b ∷ bs) × (all_unquoted d (b ∷ bs) ≡ true)
Held d Quoted f = (text : List ℕ) × (f ≡ 34 ∷ doubled text)
Held d Closed f = (text : List ℕ) × (f ≡ quoted text)

-- what a byte makes of it
abbrev After : ℕ → List ℕ → ℕ → Option FieldState → Type 0
After d f b None = (bs : List ℕ) → IsBroken d (f ++ b ∷ bs)
After d f b (Some Start) = IsField d f × (is_separator d b ≡ true)
After d f b (Some Plain) = Held d Plain (f ++ b ∷ [])
After d f b (Some Quoted) = Held d Quoted (f ++ b ∷ [])
After d f b (Some Closed) = Held d Closed (f ++ b ∷ [])

and_both : (a b : Bool) → a ≡ true → b ≡ true → (a && b) ≡ true
and_both true b x y = y
and_both false b x y = cc x

and_first : (a b : Bool) → (a && b) ≡ true → a ≡ true
and_first true b e = refl
and_first false b e = cc e

and_second : (a b : Bool) → (a && b) ≡ true → b ≡ true
and_second true b e = e
and_second false b e = cc e

plain_by : (d b : ℕ) → is_separator d b ≡ false → (b == 34) ≡ false → is_unquoted d b ≡ true
plain_by d b s q = λ j. not (s j) && not (q j)

all_unquoted_more : (d : ℕ) (f : List ℕ) (b : ℕ) → all_unquoted d f ≡ true → is_unquoted d b ≡ true → all_unquoted d (f ++ b ∷ []) ≡ true
unfolding all_unquoted
all_unquoted_more d [] b all is = and_both (is_unquoted d b) true is refl
all_unquoted_more d (x ∷ f) b all is = and_both (is_unquoted d x) (all_unquoted d (f ++ b ∷ []))
    (and_first (is_unquoted d x) (all_unquoted d f) all) (all_unquoted_more d f b (and_second (is_unquoted d x) (all_unquoted d f) all) is)

joins : (q : Bool) (x : ℕ) (text more all : List ℕ) → text ++ more ≡ all → (if q then 34 ∷ 34 ∷ text else x ∷ text) ++ more ≡ (if q then 34 ∷ 34 ∷ all else x ∷ all)
joins true x text more all is = ap (λ all. 34 ∷ 34 ∷ all) is
joins false x text more all is = ap (λ all. x ∷ all) is

doubled_more : (text : List ℕ) (b : ℕ) → (b == 34) ≡ false → doubled text ++ b ∷ [] ≡ doubled (text ++ b ∷ [])
unfolding doubled
doubled_more [] b other = sym (ap (λ x. if x then 34 ∷ 34 ∷ [] else b ∷ []) other)
doubled_more (x ∷ text) b other = joins (x == 34) x (doubled text) (b ∷ []) (doubled (text ++ b ∷ [])) (doubled_more text b other)

doubled_quote : (text : List ℕ) → doubled text ++ 34 ∷ 34 ∷ [] ≡ doubled (text ++ 34 ∷ [])
unfolding doubled
doubled_quote [] = refl
doubled_quote (x ∷ text) = joins (x == 34) x (doubled text) (34 ∷ 34 ∷ []) (doubled (text ++ 34 ∷ [])) (doubled_quote text)

is_34 : (b : ℕ) → (b == 34) ≡ true → b ≡ 34
is_34 b e = grind (arith, nat_tests)

after_start : (d : ℕ) (f : List ℕ) (b : ℕ) → Held d Start f → After d f b (next_state d Start b)
unfolding all_unquoted doubled
after_start d f b none = by (b == 34) (is_separator d b) refl refl
  where
    by : (q s : Bool) → (b == 34) ≡ q → is_separator d b ≡ s → After d f b (if q then Some Quoted else if s then Some Start else Some Plain)
    by true s qe se = ([], (λ j. (none j) ++ (is_34 b qe j) ∷ []))
    by false true qe se = (inl (ap (all_unquoted d) none), se)
    by false false qe se = (b, [], ap (λ f. f ++ b ∷ []) none, and_both (is_unquoted d b) true (plain_by d b se qe) refl)

after_plain : (d : ℕ) (f : List ℕ) (b : ℕ) → Held d Plain f → After d f b (next_state d Plain b)
unfolding all_unquoted
after_plain d f b held = by (b == 34) (is_separator d b) refl refl
  where
    by : (q s : Bool) → (b == 34) ≡ q → is_separator d b ≡ s → After d f b (if s then Some Start else if q then None else Some Plain)
    by q true qe se = (inl (ap (all_unquoted d) held.2 ∙ held.3), se)
    by true false qe se = λ bs. inl (held.0, held.1, bs, held.3, (λ j. (held.2 j) ++ (is_34 b qe j) ∷ bs))
    by false false qe se = (held.0, held.1 ++ b ∷ [], ap (λ f. f ++ b ∷ []) held.2, all_unquoted_more d (held.0 ∷ held.1) b held.3 (plain_by d b se qe))

after_quoted : (d : ℕ) (f : List ℕ) (b : ℕ) → Held d Quoted f → After d f b (next_state d Quoted b)
after_quoted d f b held = by (b == 34) refl
  where
    by : (q : Bool) → (b == 34) ≡ q → After d f b (if q then Some Closed else Some Quoted)
    by true qe = (held.0, (λ j. (held.1 j) ++ (is_34 b qe j) ∷ []))
    by false qe = (held.0 ++ b ∷ [], ap (λ f. f ++ b ∷ []) held.1 ∙ ap (λ more. 34 ∷ more) (doubled_more held.0 b qe))

after_closed : (d : ℕ) (f : List ℕ) (b : ℕ) → Held d Closed f → After d f b (next_state d Closed b)
after_closed d f b held = by (b == 34) (is_separator d b) refl refl
  where
    twice : 34 ∷ (doubled held.0 ++ 34 ∷ []) ++ 34 ∷ [] ≡ 34 ∷ doubled (held.0 ++ 34 ∷ [])
    twice = ap (λ more. 34 ∷ more) (append_assoc (doubled held.0) (34 ∷ []) (34 ∷ []) ∙ doubled_quote held.0)

    by : (q s : Bool) → (b == 34) ≡ q → is_separator d b ≡ s → After d f b (if q then Some Quoted else if s then Some Start else None)
    by true s qe se = (held.0 ++ 34 ∷ [], (λ j. (held.1 j) ++ (is_34 b qe j) ∷ []) ∙ twice)
    by false true qe se = (inr (held.0, held.1), se)
    by false false qe se = λ bs. inr (inl (held.0, b, bs, plain_by d b se qe, ap (λ f. f ++ b ∷ bs) held.1))

after : (d : ℕ) (s : FieldState) (f : List ℕ) (b : ℕ) → Held d s f → After d f b (next_state d s b)
after d Start f b held = after_start d f b held
after d Plain f b held = after_plain d f b held
after d Quoted f b held = after_quoted d f b held
after d Closed f b held = after_closed d f b held

-- ---- where nothing is found, the text is CSV

field_at_end : (d : ℕ) (s : FieldState) (f : List ℕ) (at : CellPlace) → Held d s f → at_end s at ≡ None → IsField d f
unfolding all_unquoted
field_at_end d Start f at held none = inl (ap (all_unquoted d) held)
field_at_end d Plain f at held none = inl (ap (all_unquoted d) held.2 ∙ held.3)
field_at_end d Quoted f at held none = cc none
field_at_end d Closed f at held none = inr held

csv_end : (d : ℕ) (f : List ℕ) → IsField d f → IsCsv d (f ++ [])
unfolding AreFields joined
csv_end d f is = record { fields = []; last = f; are = tt; is = is; whole = append-nil f }

pub csv_more : (d : ℕ) (f : List ℕ) (b : ℕ) (bs : List ℕ) → IsField d f → is_separator d b ≡ true → IsCsv d bs → IsCsv d (f ++ b ∷ bs)
unfolding AreFields joined
csv_more d f b bs is separates more = record {
  fields = (f, b) ∷ more.fields;
  last = more.last;
  are = (is, separates, more.are);
  is = more.is;
  whole = ap (λ bs. f ++ b ∷ bs) more.whole;
}

-- what a step of the walk gives, if each way on gives this
step_by : (d : ℕ) (f : List ℕ) (b : ℕ) (at : CellPlace) (Is : Option CellPlace → Type 0) (more : FieldState → Option CellPlace) (next : Option FieldState) → After d f b next
    → (((bs : List ℕ) → IsBroken d (f ++ b ∷ bs)) → Is (Some at))
    → (IsField d f → is_separator d b ≡ true → Is (more Start))
    → ((next : FieldState) → Held d next (f ++ b ∷ []) → ((line : ℕ) → place_on d next at line b ≡ at) → Is (more next))
    → Is (found_on more at next)
step_by d f b at Is more None a broken ends goes = broken a
step_by d f b at Is more (Some Start) a broken ends goes = ends a.0 a.1
step_by d f b at Is more (Some Plain) a broken ends goes = goes Plain a (λ line. refl)
step_by d f b at Is more (Some Quoted) a broken ends goes = goes Quoted a (λ line. refl)
step_by d f b at Is more (Some Closed) a broken ends goes = goes Closed a (λ line. refl)

pub none_found : (feed : ℕ) (d : ℕ) (s : FieldState) (f : List ℕ) (at : CellPlace) (line : ℕ) (xs : List ℕ) → Held d s f → scan feed d s at line xs ≡ None → IsCsv d (f ++ xs)
unfolding scan
none_found feed d s f at line [] held none = csv_end d f (field_at_end d s f at held none)
none_found feed d s f at line (b ∷ bs) held none =
    step_by d f b at (λ o. o ≡ None → IsCsv d (f ++ b ∷ bs))
    (λ next. scan feed d next (place_on d next at (line_after feed line b) b) (line_after feed line b) bs) (next_state d s b) (after d s f b held)
    (λ broken e. cc e)
    (λ is separates e. csv_more d f b bs is separates (none_found feed d Start [] (place_after d at (line_after feed line b) b) (line_after feed line b) bs refl e))
    (λ next held here e. subst (IsCsv d) (append_assoc f (b ∷ []) bs) (none_found feed d next (f ++ b ∷ []) (place_on d next at (line_after feed line b) b) (line_after feed line b) bs held e))
    none

-- ---- what is found is where the text is broken

feeds_by : (q : Bool) (n m : ℕ) → (if q then suc (n + m) else n + m) ≡ (if q then suc n else n) + m
feeds_by true n m = omega arith
feeds_by false n m = refl

feeds_append : (feed : ℕ) (f ys : List ℕ) → line_ends feed (f ++ ys) ≡ line_ends feed f + line_ends feed ys
unfolding line_ends
feeds_append feed [] ys = omega arith
feeds_append feed (b ∷ f) ys = ap (λ n. if b == feed then suc n else n) (feeds_append feed f ys) ∙ feeds_by (b == feed) (line_ends feed f) (line_ends feed ys)

line_by : (q : Bool) (row feeds line n : ℕ) → line ≡ row + feeds → (if q then suc line else line) + n ≡ row + (feeds + (if q then suc n else n))
line_by true row feeds line n is = omega (arith, is)
line_by false row feeds line n is = omega (arith, is)

-- the line after a byte, and the line feeds from there on
line_on : (feed : ℕ) (row line : ℕ) (f : List ℕ) (b : ℕ) (more : List ℕ) → line ≡ row + line_ends feed f → line_after feed line b + line_ends feed more ≡ row + line_ends feed (f ++ b ∷ more)
unfolding line_ends
line_on feed row line f b more is = line_by (b == feed) row (line_ends feed f) line (line_ends feed more) is ∙ ap (λ n. row + n) (sym (feeds_append feed f (b ∷ more)))

line_more : (feed : ℕ) (row line : ℕ) (f : List ℕ) (b : ℕ) → line ≡ row + line_ends feed f → line_after feed line b ≡ row + line_ends feed (f ++ b ∷ [])
unfolding line_ends
line_more feed row line f b is = let on : line_after feed line b + 0 ≡ row + line_ends feed (f ++ b ∷ []) = line_on feed row line f b [] is in omega (arith, on)

-- from the field at this place on, the text is broken
pub record BrokenFrom (feed d : ℕ) (text : List ℕ) (at place : CellPlace) : Type 0 where
  pub fields : List (List ℕ × ℕ)
  pub rest : List ℕ
  pub are : AreFields d fields
  pub broken : IsBroken d rest
  pub whole : text ≡ joined fields rest
  pub row : place.row ≡ at.row + line_ends feed (joined fields [])
  pub column : place.column ≡ column_after d at.column fields

broken_here : (feed : ℕ) (d : ℕ) (text : List ℕ) (at place : CellPlace) → IsBroken d text → at ≡ place → BrokenFrom feed d text at place
unfolding AreFields joined line_ends column_after
broken_here feed d text at place broken is = record {
  fields = [];
  rest = text;
  are = tt;
  broken = broken;
  whole = refl;
  row = (let row : at.row ≡ place.row = ap (λ p. p.row) is in omega (arith, row));
  column = sym (ap (λ p. p.column) is);
}

broken_next : (feed : ℕ) (d : ℕ) (f : List ℕ) (b : ℕ) (bs : List ℕ) (at place : CellPlace) (line : ℕ) → IsField d f → is_separator d b ≡ true → line ≡ at.row + line_ends feed f
    → BrokenFrom feed d bs (place_after d at (line_after feed line b) b) place → BrokenFrom feed d (f ++ b ∷ bs) at place
unfolding AreFields joined column_after
broken_next feed d f b bs at place line is separates on more = record {
  fields = (f, b) ∷ more.fields;
  rest = more.rest;
  are = (is, separates, more.are);
  broken = more.broken;
  whole = ap (λ bs. f ++ b ∷ bs) more.whole;
  row = more.row ∙ line_on feed at.row line f b (joined more.fields []) on;
  column = more.column;
}

broken_end : (feed : ℕ) (d : ℕ) (s : FieldState) (f : List ℕ) (at place : CellPlace) → Held d s f → at_end s at ≡ Some place → BrokenFrom feed d f at place
broken_end feed d Start f at place held some = cc some
broken_end feed d Plain f at place held some = cc some
broken_end feed d Quoted f at place held some = broken_here feed d f at place (inr (inr held)) (cc some)
broken_end feed d Closed f at place held some = cc some

pub some_found : (feed : ℕ) (d : ℕ) (s : FieldState) (f : List ℕ) (at : CellPlace) (line : ℕ) (xs : List ℕ) (place : CellPlace) → Held d s f → line ≡ at.row + line_ends feed f
    → scan feed d s at line xs ≡ Some place → BrokenFrom feed d (f ++ xs) at place
unfolding scan line_ends
some_found feed d s f at line [] place held on some = subst (λ f. BrokenFrom feed d f at place) (sym (append-nil f)) (broken_end feed d s f at place held some)
some_found feed d s f at line (b ∷ bs) place held on some =
    step_by d f b at (λ o. o ≡ Some place → BrokenFrom feed d (f ++ b ∷ bs) at place)
    (λ next. scan feed d next (place_on d next at (line_after feed line b) b) (line_after feed line b) bs) (next_state d s b) (after d s f b held)
    (λ broken e. broken_here feed d (f ++ b ∷ bs) at place (broken bs) (cc e))
    (λ is separates e. broken_next feed d f b bs at place line is separates on
    (some_found feed d Start [] (place_after d at (line_after feed line b) b) (line_after feed line b) bs place refl (omega arith) e))
    (λ next held here e. subst (λ text. BrokenFrom feed d text at place) (append_assoc f (b ∷ []) bs)
    (some_found feed d next (f ++ b ∷ []) at (line_after feed line b) bs place held (line_more feed at.row line f b on)
    (ap (λ at. scan feed d next at (line_after feed line b) bs) (sym (here (line_after feed line b))) ∙ e)))
    some

abbrev pub first_place : CellPlace
first_place = record { row = 1; column = 1 }

pub csv_found : (feed : ℕ) (d : ℕ) (text : List ℕ) → scan feed d Start first_place 1 text ≡ None → IsCsv d text
csv_found feed d text none = none_found feed d Start [] first_place 1 text refl none

pub broken_found : (d : ℕ) (text : List ℕ) (place : CellPlace) → scan (line_end_of text) d Start first_place 1 text ≡ Some place → IsBrokenAt d text place
unfolding line_ends
broken_found d text place some =
    let from : BrokenFrom (line_end_of text) d text first_place place = some_found (line_end_of text) d Start [] first_place 1 text place refl refl some in
    record { fields = from.fields; rest = from.rest; are = from.are; broken = from.broken; whole = from.whole; row = (let row = from.row in omega (arith, row)); column = from.column }

-- ---- steps at a place of a text

pub scan_breaks : (feed : ℕ) (d : ℕ) (s : FieldState) (at : CellPlace) (line : ℕ) (text : List ℕ) (i : ℕ) → i < length text → next_state d s (slice_index_or text i 0) ≡ None
    → scan feed d s at line (drop i text) ≡ Some at
unfolding scan
scan_breaks feed d s at line text i few is =
    let b = slice_index_or text i 0 in
    ap (scan feed d s at line) (drop_more text i 0 few)
    ∙ ap (found_on (λ next. scan feed d next (place_on d next at (line_after feed line b) b) (line_after feed line b) (drop (i + 1) text)) at) is

pub scan_goes_on : (feed : ℕ) (d : ℕ) (s next : FieldState) (at at' : CellPlace) (line line' : ℕ) (text : List ℕ) (i : ℕ) → i < length text → next_state d s (slice_index_or text i 0) ≡ Some next
    → line' ≡ line_after feed line (slice_index_or text i 0) → at' ≡ place_on d next at line' (slice_index_or text i 0)
    → scan feed d next at' line' (drop (i + 1) text) ≡ scan feed d s at line (drop i text)
unfolding scan
scan_goes_on feed d s next at at' line line' text i few is l p =
    let b = slice_index_or text i 0 in
    let place : at' ≡ place_on d next at (line_after feed line b) b = p ∙ ap (λ line. place_on d next at line b) l in
    (λ j. scan feed d next (place j) (l j) (drop (i + 1) text))
    ∙ (sym (ap (found_on (λ next. scan feed d next (place_on d next at (line_after feed line b) b) (line_after feed line b) (drop (i + 1) text)) at) is)
    ∙ sym (ap (scan feed d s at line) (drop_more text i 0 few)))

pub place_kept : (d : ℕ) (next : FieldState) (at : CellPlace) (line b : ℕ) → (next ≡ Start → ⊥) → place_on d next at line b ≡ at
place_kept d Start at line b other = absurd (other refl)
place_kept d Plain at line b other = refl
place_kept d Quoted at line b other = refl
place_kept d Closed at line b other = refl

pub few_on : (q : Bool) (x y n : ℕ) → x ≤ n → y ≤ n + 1 → (if q then suc x else y) ≤ n + 1
few_on true x y n few other = omega (arith, few)
few_on false x y n few other = other

pub scan_ends : (feed : ℕ) (d : ℕ) (s : FieldState) (at : CellPlace) (line : ℕ) (text : List ℕ) (i : ℕ) → length text ≤ i → scan feed d s at line (drop i text) ≡ at_end s at
unfolding scan
scan_ends feed d s at line text i over = ap (scan feed d s at line) (drop_all i text over)

pub none_at_end : (s : FieldState) (at : CellPlace) → (s ≡ Quoted → ⊥) → at_end s at ≡ None
none_at_end Start at other = refl
none_at_end Plain at other = refl
none_at_end Quoted at other = absurd (other refl)
none_at_end Closed at other = refl

-- ---- and both ways

plain_tests : (d b : ℕ) → is_unquoted d b ≡ true → (is_separator d b ≡ false) × ((b == 34) ≡ false)
plain_tests d b is = by (is_separator d b) (b == 34) is
  where
    by : (s q : Bool) → (not s && not q) ≡ true → (s ≡ false) × (q ≡ false)
    by true q e = cc e
    by false true e = cc e
    by false false e = (refl, refl)

separator_is_no_quote : (d b : ℕ) → d ≢ 34 → is_separator d b ≡ true → (b == 34) ≡ false
separator_is_no_quote d b other is = by (b == 34) refl
  where
    by : (q : Bool) → (b == 34) ≡ q → q ≡ false
    by true e = absurd (grind (arith, nat_tests, other, is, e))
    by false e = refl

quote_is_no_separator : (d : ℕ) → d ≢ 34 → is_separator d 34 ≡ false
quote_is_no_separator d other = by (34 == d) refl
  where
    by : (q : Bool) → (34 == d) ≡ q → (q || ((34 == 10) || (34 == 13))) ≡ false
    by true e = absurd (grind (arith, nat_tests, other, e))
    by false e = refl

on_next : (Is : Option CellPlace → Type 0) (more : FieldState → Option CellPlace) (at : CellPlace) (o p : Option FieldState) → o ≡ p → Is (found_on more at p) → Is (found_on more at o)
on_next Is more at o p is h = subst (λ o. Is (found_on more at o)) (sym is) h

start_plain : (d b : ℕ) → is_unquoted d b ≡ true → next_state d Start b ≡ Some Plain
start_plain d b is = let t = plain_tests d b is in λ j. if t.1 j then Some Quoted else if t.0 j then Some Start else Some Plain

plain_plain : (d b : ℕ) → is_unquoted d b ≡ true → next_state d Plain b ≡ Some Plain
plain_plain d b is = let t = plain_tests d b is in λ j. if t.0 j then Some Start else if t.1 j then None else Some Plain

closed_plain : (d b : ℕ) → is_unquoted d b ≡ true → next_state d Closed b ≡ None
closed_plain d b is = let t = plain_tests d b is in λ j. if t.1 j then Some Quoted else if t.0 j then Some Start else None

start_ends : (d b : ℕ) → d ≢ 34 → is_separator d b ≡ true → next_state d Start b ≡ Some Start
start_ends d b other is = let q = separator_is_no_quote d b other is in λ j. if q j then Some Quoted else if is j then Some Start else Some Plain

plain_ends : (d b : ℕ) → is_separator d b ≡ true → next_state d Plain b ≡ Some Start
plain_ends d b is = λ j. if is j then Some Start else if b == 34 then None else Some Plain

closed_ends : (d b : ℕ) → d ≢ 34 → is_separator d b ≡ true → next_state d Closed b ≡ Some Start
closed_ends d b other is = let q = separator_is_no_quote d b other is in λ j. if q j then Some Quoted else if is j then Some Start else None

plain_breaks : (d : ℕ) → d ≢ 34 → next_state d Plain 34 ≡ None
plain_breaks d other = let s = quote_is_no_separator d other in λ j. if s j then Some Start else None

-- what holds from every place and line
abbrev Everywhere : ℕ → (Option CellPlace → Type 0) → ℕ → FieldState → List ℕ → Type 0
Everywhere feed Is d s xs = (at : CellPlace) (line : ℕ) → Is (scan feed d s at line xs)

plain_run : (feed : ℕ) (Is : Option CellPlace → Type 0) (d : ℕ) (f ys : List ℕ) → all_unquoted d f ≡ true → Everywhere feed Is d Plain ys → Everywhere feed Is d Plain (f ++ ys)
unfolding scan all_unquoted
plain_run feed Is d [] ys all end at line = end at line
plain_run feed Is d (b ∷ f) ys all end at line =
    on_next Is (λ next. scan feed d next (place_on d next at (line_after feed line b) b) (line_after feed line b) (f ++ ys)) at (next_state d Plain b) (Some Plain) (plain_plain d b (and_first (is_unquoted d b) (all_unquoted d f) all))
    (plain_run feed Is d f ys (and_second (is_unquoted d b) (all_unquoted d f) all) end at (line_after feed line b))

first_plain : (feed : ℕ) (Is : Option CellPlace → Type 0) (d b : ℕ) (f ys : List ℕ) → all_unquoted d (b ∷ f) ≡ true → Everywhere feed Is d Plain ys → Everywhere feed Is d Start ((b ∷ f) ++ ys)
unfolding scan all_unquoted
first_plain feed Is d b f ys all end at line =
    on_next Is (λ next. scan feed d next (place_on d next at (line_after feed line b) b) (line_after feed line b) (f ++ ys)) at (next_state d Start b) (Some Plain) (start_plain d b (and_first (is_unquoted d b) (all_unquoted d f) all))
    (plain_run feed Is d f ys (and_second (is_unquoted d b) (all_unquoted d f) all) end at (line_after feed line b))

quoted_step : (feed : ℕ) (Is : Option CellPlace → Type 0) (d b : ℕ) (t ys : List ℕ) (q : Bool) → (b == 34) ≡ q → Everywhere feed Is d Quoted (t ++ ys) → Everywhere feed Is d Quoted ((if q then 34 ∷ 34 ∷ t else b ∷ t) ++ ys)
unfolding scan
quoted_step feed Is d b t ys true e more at line = more at (line_after feed (line_after feed line 34) 34)
quoted_step feed Is d b t ys false e more at line =
    on_next Is (λ next. scan feed d next (place_on d next at (line_after feed line b) b) (line_after feed line b) (t ++ ys)) at (next_state d Quoted b) (Some Quoted) (λ j. if e j then Some Closed else Some Quoted)
    (more at (line_after feed line b))

quoted_run : (feed : ℕ) (Is : Option CellPlace → Type 0) (d : ℕ) (text ys : List ℕ) → Everywhere feed Is d Quoted ys → Everywhere feed Is d Quoted (doubled text ++ ys)
unfolding doubled
quoted_run feed Is d [] ys end = end
quoted_run feed Is d (b ∷ text) ys end = quoted_step feed Is d b (doubled text) ys (b == 34) refl (quoted_run feed Is d text ys end)

first_quoted : (feed : ℕ) (Is : Option CellPlace → Type 0) (d : ℕ) (text ys : List ℕ) → Everywhere feed Is d Closed ys → Everywhere feed Is d Start (quoted text ++ ys)
unfolding scan
first_quoted feed Is d text ys end at line =
    subst (λ xs. Is (scan feed d Quoted at (line_after feed line 34) xs)) (sym (append_assoc (doubled text) (34 ∷ []) ys)) (quoted_run feed Is d text (34 ∷ ys) (λ at line. end at (line_after feed line 34)) at (line_after feed line 34))

ends_by : (feed : ℕ) (Is : Option CellPlace → Type 0) (d : ℕ) (s : FieldState) (b : ℕ) (ys : List ℕ) → next_state d s b ≡ Some Start → Everywhere feed Is d Start ys → Everywhere feed Is d s (b ∷ ys)
unfolding scan
ends_by feed Is d s b ys is more at line =
    on_next Is (λ next. scan feed d next (place_on d next at (line_after feed line b) b) (line_after feed line b) ys) at (next_state d s b) (Some Start) is (more (place_after d at (line_after feed line b) b) (line_after feed line b))

field_then : (feed : ℕ) (Is : Option CellPlace → Type 0) (d : ℕ) (f : List ℕ) (b : ℕ) (ys : List ℕ) → d ≢ 34 → IsField d f → is_separator d b ≡ true → Everywhere feed Is d Start ys → Everywhere feed Is d Start (f ++ b ∷ ys)
field_then feed Is d [] b ys other (inl all) separates more = ends_by feed Is d Start b ys (start_ends d b other separates) more
field_then feed Is d (x ∷ f) b ys other (inl all) separates more = first_plain feed Is d x f (b ∷ ys) all (ends_by feed Is d Plain b ys (plain_ends d b separates) more)
field_then feed Is d f b ys other (inr is) separates more =
    subst (λ f. Everywhere feed Is d Start (f ++ b ∷ ys)) (sym is.1) (first_quoted feed Is d is.0 (b ∷ ys) (ends_by feed Is d Closed b ys (closed_ends d b other separates) more))

fields_then : (feed : ℕ) (Is : Option CellPlace → Type 0) (d : ℕ) (fields : List (List ℕ × ℕ)) (rest : List ℕ) → d ≢ 34 → AreFields d fields → Everywhere feed Is d Start rest → Everywhere feed Is d Start (joined fields rest)
unfolding AreFields joined
fields_then feed Is d [] rest other are more = more
fields_then feed Is d (p ∷ fields) rest other are more = field_then feed Is d p.0 p.1 (joined fields rest) other are.0 are.1 (fields_then feed Is d fields rest other are.2 more)

abbrev IsNothing : Option CellPlace → Type 0
IsNothing o = o ≡ None

last_field : (feed : ℕ) (d : ℕ) (f : List ℕ) → IsField d f → Everywhere feed IsNothing d Start f
unfolding scan
last_field feed d [] (inl all) at line = refl
last_field feed d (x ∷ f) (inl all) at line = subst (λ f. IsNothing (scan feed d Start at line f)) (append-nil (x ∷ f)) (first_plain feed IsNothing d x f [] all (λ at line. refl) at line)
last_field feed d f (inr is) at line = subst (λ f. IsNothing (scan feed d Start at line f)) (append-nil (quoted is.0) ∙ sym is.1) (first_quoted feed IsNothing d is.0 [] (λ at line. refl) at line)

abbrev IsFound : Option CellPlace → Type 0
IsFound o = o ≡ None → ⊥

breaks_by : (feed : ℕ) (d : ℕ) (s : FieldState) (b : ℕ) (ys : List ℕ) → next_state d s b ≡ None → Everywhere feed IsFound d s (b ∷ ys)
unfolding scan
breaks_by feed d s b ys is at line =
    on_next IsFound (λ next. scan feed d next (place_on d next at (line_after feed line b) b) (line_after feed line b) ys) at (next_state d s b) None is (λ none. cc none)

broken_rest : (feed : ℕ) (d : ℕ) (rest : List ℕ) → d ≢ 34 → IsBroken d rest → Everywhere feed IsFound d Start rest
unfolding scan
broken_rest feed d rest other (inl (b, bs, after, all, is)) at line =
    subst (λ xs. IsFound (scan feed d Start at line xs)) (sym is) (first_plain feed IsFound d b bs (34 ∷ after) all (breaks_by feed d Plain 34 after (plain_breaks d other)) at line)
broken_rest feed d rest other (inr (inl (text, b, after, plain, is))) at line =
    subst (λ xs. IsFound (scan feed d Start at line xs)) (sym is) (first_quoted feed IsFound d text (b ∷ after) (breaks_by feed d Closed b after (closed_plain d b plain)) at line)
broken_rest feed d rest other (inr (inr (text, is))) at line =
    subst (λ xs. IsFound (scan feed d Start at line xs)) (sym is)
    (subst (λ xs. IsFound (scan feed d Quoted at (line_after feed line 34) xs)) (append-nil (doubled text)) (quoted_run feed IsFound d text [] (λ at line none. cc none) at (line_after feed line 34)))

pub csv_or_broken : CsvOrBroken
csv_or_broken d text place other csv broken =
    let none : scan 10 d Start place 0 text ≡ None =
    ap (λ xs. scan 10 d Start place 0 xs) csv.whole ∙ fields_then 10 IsNothing d csv.fields csv.last other csv.are (last_field 10 d csv.last csv.is) place 0 in
    fields_then 10 IsFound d broken.fields broken.rest other broken.are (broken_rest 10 d broken.rest other broken.broken) place 0
    (ap (λ xs. scan 10 d Start place 0 xs) (sym broken.whole) ∙ none)
