-- What a read that the grammar does was made of, a turn of each loop at a time.
use Rattle.std.proofs.Common.{◌≡◌, ℕ, zero, suc, Bool, true, false, cond, ◌==◌, List, [], ◌∷◌, length, slice_index, drop, Option, Some, None, option_map, option_and_then, refl, sym, ap, subst, ◌∙◌, arith}
use Rattle.toml_parser.specs.Lexical.{Read, first, skip_ws, skip_blank}
use Rattle.toml_parser.specs.Strings.{Key, key, quoted, starts_string}
use Rattle.toml_parser.specs.Numbers.{unquoted}
use Rattle.toml_parser.specs.declared.scalar.Scalar.{Scalar}
use Rattle.toml.specs.Data.{Data, Items, push_item, Members}
use Rattle.toml.specs.Tables.{Nodes, put, key_value, std_table, array_table, Expression, Document, define}
use Rattle.toml.specs.Parse.{read_map, after_byte, after_element, key_equals, keyval, items, members, atom, val, header_key, expression, line, lines}
use Rattle.toml_places.specs.declared.statement.StatementKind.{StatementKind}
use Rattle.toml_places.specs.declared.statement.StatementKind.TheVariants as kind
use Rattle.toml_places.specs.Parsed.{statements, statement_kind}
use Rattle.toml_places.specs.inner.Steps.{key_before, Heading, heading}

-- what follows of a fact: a name for it, where its proof is long
pub given : {A C : Type 0} → A → (A → C) → C
given fact use_it = use_it fact

-- what an option that gives something was made of, for what follows of it
from_and_then : {A B C : Type 0} (f : A → Option B) (o : Option A) (y : B) → option_and_then f o ≡ Some y → ((x : A) → o ≡ Some x → f x ≡ Some y → C) → C
from_and_then f o y h h1 = search arith

pub map_some : {A B : Type 0} (f : A → B) (o : Option A) (y : B) → option_map f o ≡ Some y → (x : A) × (o ≡ Some x) × (f x ≡ y)
map_some f o y h = search arith

from_map : {A B C : Type 0} (f : A → B) (o : Option A) (y : B) → option_map f o ≡ Some y → ((x : A) → o ≡ Some x → f x ≡ y → C) → C
from_map f o y h h1 = search arith

-- this value is read, and this text is left
abbrev pub got : {A : Type 0} → A → List ℕ → Read A
got x rest = Some (x, rest)

pub same_read : {A : Type 0} (x y : A) (after rest : List ℕ) → got x after ≡ got y rest → (x ≡ y) × (after ≡ rest)
same_read {A} x y after rest h = search arith

pub read_map_some : {A B : Type 0} (f : A → B) (r : Read A) (y : B) (rest : List ℕ) → read_map f r ≡ Some (y, rest) → (x : A) × (r ≡ Some (x, rest)) × (f x ≡ y)
read_map_some f r y rest h = search (arith, same_read)

from_read_map : {A B C : Type 0} (f : A → B) (r : Read A) (y : B) (rest : List ℕ) → read_map f r ≡ Some (y, rest) → ((x : A) → r ≡ Some (x, rest) → f x ≡ y → C) → C
from_read_map f r y rest h use_it = let (x, read, same) = read_map_some f r y rest h in use_it x read same

-- a choice that gives something only where the test holds
pub if_some : {A : Type 0} (b : Bool) (x y : A) → cond b (Some x) None ≡ Some y → (b ≡ true) × (x ≡ y)
if_some b x y h = search arith

pub after_byte_some : (byte : ℕ) (text rest : List ℕ) → after_byte byte text ≡ Some rest → ((first text == byte) ≡ true) × (drop 1 text ≡ rest)
after_byte_some byte text rest h = if_some (first text == byte) (drop 1 text) rest h

-- a key, the byte behind it, and what follows
pub record KeyBefore (byte : ℕ) (text : List ℕ) (k : Key) (rest : List ℕ) : Type 0 where
  pub after : List ℕ
  pub read : key text ≡ Some (k, after)
  pub there : (first after == byte) ≡ true
  pub goes_on : drop 1 after ≡ rest

-- the text behind the byte, under f
abbrev behind_byte : ℕ → (List ℕ → List ℕ) → Key × List ℕ → Read Key
behind_byte byte f p = option_map (λ left. (p.0, f left)) (after_byte byte p.1)

read_key_before : (byte : ℕ) (f : List ℕ → List ℕ) (text : List ℕ) (k : Key) (rest : List ℕ) → option_and_then (behind_byte byte f) (key text) ≡ Some (k, rest)
    → (left : List ℕ) × KeyBefore byte text k left × (f left ≡ rest)
read_key_before byte f text k rest h = search (arith, from_and_then, from_map, after_byte_some)

pub key_before_some : (byte : ℕ) (text : List ℕ) (k : Key) (rest : List ℕ) → key_before byte text ≡ Some (k, rest) → KeyBefore byte text k rest
key_before_some byte text k rest h = search (arith, read_key_before)

-- a key with its `=`, and the text where its value stands
pub key_equals_some : (text : List ℕ) (k : Key) (rest : List ℕ) → key_equals text ≡ Some (k, rest) → (left : List ℕ) × (key_before 61 text ≡ Some (k, left)) × (skip_ws left ≡ rest)
unfolding key_equals
key_equals_some text k rest h = search (arith, read_key_before)

pub atom_string : (text : List ℕ) (d : Data) (rest : List ℕ) → starts_string text ≡ true → atom text ≡ Some (d, rest) → (s : List ℕ) × (quoted text ≡ Some (s, rest))
unfolding atom
atom_string text d rest starts h = search (arith, read_map_some)

pub atom_scalar : (text : List ℕ) (d : Data) (rest : List ℕ) → starts_string text ≡ false → atom text ≡ Some (d, rest) → (s : Scalar) × (unquoted text ≡ Some (s, rest))
unfolding atom
atom_scalar text d rest starts h = search (arith, read_map_some)

pub items_done : (val : List ℕ → Read Data) (n : ℕ) (found all : Items) (text rest : List ℕ) → items val n found text ≡ Some (all, rest) → (first (skip_blank text) == 93) ≡ true
    → drop 1 (skip_blank text) ≡ rest
unfolding items
items_done val n found all text rest h h1 = search (arith, same_read)

-- an element of an array, and what follows
pub record Element (val : List ℕ → Read Data) (all : Items) (text rest : List ℕ) : Type 0 where
  pub value : Data
  pub after : List ℕ
  pub next : List ℕ
  pub fuel : ℕ
  pub found : Items
  pub read : val (skip_blank text) ≡ Some (value, after)
  pub goes_on : after_element 93 after ≡ Some next
  pub more : items val fuel found next ≡ Some (all, rest)

pub items_on : (val : List ℕ → Read Data) (n : ℕ) (found all : Items) (text rest : List ℕ) → items val n found text ≡ Some (all, rest) → (first (skip_blank text) == 93) ≡ false
    → Element val all text rest
unfolding items
items_on val zero found all text rest h other = absurd cc
items_on val (suc n) found all text rest h other =
    let last : Data × List ℕ → List ℕ → Read Items = λ v. items val n (push_item found v.0) in
    let then : Data × List ℕ → Read Items = λ v. option_and_then (last v) (after_element 93 v.1) in
    from_and_then then (val (skip_blank text)) (all, rest) (rw other at h) λ v read more.
    from_and_then (last v) (after_element 93 v.1) (all, rest) more λ next goes_on end.
    record { value = v.0; after = v.1; next = next; fuel = n; found = push_item found v.0; read = read; goes_on = goes_on; more = end }

pub members_done : (val : List ℕ → Read Data) (n : ℕ) (found : Nodes) (all : Members) (text rest : List ℕ) → members val n found text ≡ Some (all, rest) → (first (skip_blank text) == 125) ≡ true
    → drop 1 (skip_blank text) ≡ rest
unfolding members
members_done val n found all text rest h h1 = search (arith, same_read)

-- a key and a value, as in an inline table
pub record Pair (val : List ℕ → Read Data) (text : List ℕ) (k : Key) (d : Data) (rest : List ℕ) : Type 0 where
  pub at_value : List ℕ
  pub key : key_equals text ≡ Some (k, at_value)
  pub value : val at_value ≡ Some (d, rest)

pub keyval_some : (val : List ℕ → Read Data) (text : List ℕ) (k : Key) (d : Data) (rest : List ℕ) → keyval val text ≡ Some ((k, d), rest) → Pair val text k d rest
keyval_some val text k d rest h = search (arith, from_and_then, from_read_map)

-- a member of an inline table, and what follows
pub record Member (val : List ℕ → Read Data) (all : Members) (text rest : List ℕ) : Type 0 where
  pub name : Key
  pub value : Data
  pub after : List ℕ
  pub next : List ℕ
  pub fuel : ℕ
  pub found : Nodes
  pub read : Pair val (skip_blank text) name value after
  pub goes_on : after_element 125 after ≡ Some next
  pub more : members val fuel found next ≡ Some (all, rest)

pub members_on : (val : List ℕ → Read Data) (n : ℕ) (found : Nodes) (all : Members) (text rest : List ℕ) → members val n found text ≡ Some (all, rest) → (first (skip_blank text) == 125) ≡ false
    → Member val all text rest
unfolding members
members_on val zero found all text rest h other = absurd cc
members_on val (suc n) found all text rest h other =
    let last : Nodes → List ℕ → Read Members = λ more. members val n more in
    let put_in : (Key × Data) × List ℕ → Nodes → Read Members = λ e more. option_and_then (last more) (after_element 125 e.1) in
    let then : (Key × Data) × List ℕ → Read Members = λ e. option_and_then (put_in e) (put e.0.0 e.0.1 found) in
    from_and_then then (keyval val (skip_blank text)) (all, rest) (rw other at h) λ e read more.
    from_and_then (put_in e) (put e.0.0 e.0.1 found) (all, rest) more λ new edit behind.
    from_and_then (last new) (after_element 125 e.1) (all, rest) behind λ next goes_on end.
    record {
      name = e.0.0;
      value = e.0.1;
      after = e.1;
      next = next;
      fuel = n;
      found = new;
      read = keyval_some val (skip_blank text) e.0.0 e.0.1 e.1 read;
      goes_on = goes_on;
      more = end;
    }

-- a line holds an expression
pub line_some : (text : List ℕ) (e : Expression) (rest : List ℕ) → line text ≡ Some (e, rest) → expression text ≡ Some (e, rest)
unfolding line
line_some text e rest h = search (arith, from_and_then, if_some)

-- a pair, which stands alone on its line
pub expression_pair : (text : List ℕ) (e : Expression) (rest : List ℕ) → (first text == 91) ≡ false → expression text ≡ Some (e, rest)
    → (d : Data) × Pair (val 80) text e.0 d rest × (e.1 ≡ key_value d)
unfolding expression
expression_pair text e rest other h =
    let defines : Key × Data → Expression = λ p. (p.0, key_value p.1) in
    from_read_map defines (keyval (val 80) text) e rest (rw other at h) λ p read same.
    let same_key : p.0 ≡ e.0 = ap (λ (q : Expression). q.0) same in
    let pair : Pair (val 80) text p.0 p.1 rest = keyval_some (val 80) text p.0 p.1 rest read in
    (p.1, subst (λ k. Pair (val 80) text k p.1 rest) same_key pair, sym (ap (λ (q : Expression). q.1) same))

pub expression_table : (text : List ℕ) (e : Expression) (rest : List ℕ) → (first text == 91) ≡ true → (slice_index text 1 == 91) ≡ false → expression text ≡ Some (e, rest)
    → (header_key (drop 1 text) ≡ Some (e.0, rest)) × (e.1 ≡ std_table)
unfolding expression
expression_table text e rest bracket other h = search (arith, from_read_map)

pub expression_entry : (text : List ℕ) (e : Expression) (rest : List ℕ) → (first text == 91) ≡ true → (slice_index text 1 == 91) ≡ true → expression text ≡ Some (e, rest)
    → (after : List ℕ) × (header_key (drop 2 text) ≡ Some (e.0, after)) × ((first after == 93) ≡ true) × (drop 1 after ≡ rest) × (e.1 ≡ array_table)
unfolding expression
expression_entry text e rest bracket second h = search (arith, from_and_then, from_map, after_byte_some)

-- a key and a kind make a heading
abbrev pub headed : Key → StatementKind → Heading
headed k what = (k, what)

pub same_heading : (k : Key) (what : StatementKind) (x : Heading) → k ≡ x.0 → what ≡ x.1 → headed k what ≡ x
same_heading k what x same_key same_kind = ap (λ l. headed l what) same_key ∙ ap (headed x.0) same_kind

pub pair_heading : (text : List ℕ) (x : Heading) (rest : List ℕ) → (first text == 91) ≡ false → read_map heading (line text) ≡ Some (x, rest)
    → (d : Data) × Pair (val 80) text x.0 d rest × (kind.Pair ≡ x.1)
pair_heading text x rest other h =
    from_read_map heading (line text) x rest h λ e read same.
    let (d, pair, is) = expression_pair text e rest other (line_some text e rest read) in
    let same_key : e.0 ≡ x.0 = ap (λ (q : Heading). q.0) same in
    let same_kind : statement_kind e.1 ≡ x.1 = ap (λ (q : Heading). q.1) same in
    (d, subst (λ k. Pair (val 80) text k d rest) same_key pair, sym (ap statement_kind is) ∙ same_kind)

pub table_heading : (text : List ℕ) (x : Heading) (rest : List ℕ) → (first text == 91) ≡ true → (slice_index text 1 == 91) ≡ false → read_map heading (line text) ≡ Some (x, rest)
    → (header_key (drop 1 text) ≡ Some (x.0, rest)) × (kind.Table ≡ x.1)
table_heading text x rest bracket other h =
    from_read_map heading (line text) x rest h λ e read same.
    let (header, is) = expression_table text e rest bracket other (line_some text e rest read) in
    let same_key : e.0 ≡ x.0 = ap (λ (q : Heading). q.0) same in
    let same_kind : statement_kind e.1 ≡ x.1 = ap (λ (q : Heading). q.1) same in
    (header ∙ ap (λ l. got l rest) same_key, sym (ap statement_kind is) ∙ same_kind)

pub entry_heading : (text : List ℕ) (x : Heading) (rest : List ℕ) → (first text == 91) ≡ true → (slice_index text 1 == 91) ≡ true → read_map heading (line text) ≡ Some (x, rest)
    → (after : List ℕ) × (header_key (drop 2 text) ≡ Some (x.0, after)) × ((first after == 93) ≡ true) × (drop 1 after ≡ rest) × (kind.Entry ≡ x.1)
entry_heading text x rest bracket second h =
    from_read_map heading (line text) x rest h λ e read same.
    let (after, header, there, goes_on, is) = expression_entry text e rest bracket second (line_some text e rest read) in
    let same_key : e.0 ≡ x.0 = ap (λ (q : Heading). q.0) same in
    let same_kind : statement_kind e.1 ≡ x.1 = ap (λ (q : Heading). q.1) same in
    (after, header ∙ ap (λ l. got l after) same_key, there, goes_on, sym (ap statement_kind is) ∙ same_kind)

pub no_lines : (doc final : Document) (text : List ℕ) → lines 0 doc text ≡ Some final → ⊥
unfolding lines
no_lines doc final text h = cc

pub lines_done : (n : ℕ) (doc final : Document) (text : List ℕ) → lines n doc text ≡ Some final → (length (skip_blank text) == 0) ≡ true → (doc ≡ final) × (statements n text ≡ [])
unfolding lines statements
lines_done n doc final text h h1 = search arith

-- a statement of a document, and what follows
pub record Statement (n : ℕ) (doc final : Document) (text : List ℕ) : Type 0 where
  pub expression : Expression
  pub after : List ℕ
  pub next : Document
  pub read : line (skip_blank text) ≡ Some (expression, after)
  pub defines : define doc expression ≡ Some next
  pub more : lines n next after ≡ Some final
  pub all : statements (suc n) text ≡ (expression, length (skip_blank text)) ∷ statements n after

pub lines_on : (n : ℕ) (doc final : Document) (text : List ℕ) → lines (suc n) doc text ≡ Some final → (length (skip_blank text) == 0) ≡ false → Statement n doc final text
unfolding lines statements
lines_on n doc final text h other = search (arith, from_and_then)

-- the same for lines that are not known to be left
pub some_lines_on : (m : ℕ) (doc final : Document) (text : List ℕ) → lines m doc text ≡ Some final → (length (skip_blank text) == 0) ≡ false → (n : ℕ) × (m ≡ suc n) × Statement n doc final text
some_lines_on zero doc final text h other = absurd (no_lines doc final text h)
some_lines_on (suc n) doc final text h other = (n, refl, lines_on n doc final text h other)
