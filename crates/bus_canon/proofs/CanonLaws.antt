-- Laws of the canonical text.
use Rattle.std.proofs.Common.{◌≡◌, ℕ, zero, suc, ◌+◌, ◌*◌, ◌^◌, ◌<◌, ◌≤◌, ◌==◌, ◌&&◌, ◌||◌, bit_and, cond, if◌then◌else◌, Bool, true, false, nat_le, Ok, List, [], ◌++◌, codes, replicate, length, get_or, refl, ap, ap₂, sym, ◌∙◌, subst, append-nil, length-append, arith, lit<}
use Rattle.std.proofs.lemmas.Bool.{eqb-true}
use Rattle.std.proofs.lemmas.Bool.Decides.{nat_tests}
use Rattle.std.proofs.lemmas.Nat.{and_le_r}
use Rattle.bus_word.specs.declared.cell.Cell.TheVariants.{OwnMode}
use Rattle.bus_legal.specs.declared.tables.Tables.{Tables}
use Rattle.bus_legal.specs.declared.tables.TheConstants.{OWN_CODES, BROADCAST_CODES}
use Rattle.bus_legal.specs.Tables.{tables_say, masks_wrap, any_wraps, is_own_mask, is_broadcast_mask}
use Rattle.bus_legal.specs.Parts.{Parts, AreMasks, IsNormal}
use Rattle.bus_legal.proofs.Counts.{any_to-true}
use Rattle.line_format.specs.Format.{Format, done, Spells, IsSound}
use Rattle.line_format.specs.Reading.{Spot, read}
use Rattle.line_format.specs.Writing.{Adds}
use Rattle.line_format.specs.Shapes.{decimal, word, mask, number_line, bit_line}
use Rattle.line_format.proofs.SoundLaws.{sound_then, sound_after, sound_number, sound_bit}
use Rattle.line_format.proofs.Writes.{spells-then, number_spelled, number_text, bit_spelled}
use Rattle.line_format.proofs.FormatLaws.{read-is, Meets}
use Rattle.line_format.proofs.AnswerLaws.{one_front}
use Rattle.line_format.proofs.OneText.{Parted, parted, number_one, number_value, number_weaker, number_fits, bit_one}
use Rattle.line_format.proofs.SizeLaws.{HasSize, size_done, size_then, size_number, size_bit}
use Rattle.bus_canon.specs.Canon.{when, masks, cells, blocks, wrap_bit, wrap_switch, may_wrap, wrap_name, wrap_lines, version_field, is_written, is_read, versions_of, canon, Text, AnyText}
use Rattle.bus_canon.proofs.Several.{when_sound, when_one, when_size, when_absent, when_holds, when_spelled}
use Rattle.bus_canon.proofs.MaskLaws.{AreSoMany, masks_are, are_masks, masks_some}
use Rattle.bus_canon.proofs.BlockLaws.{zero_words, zero_at, FitBlocks, blocks_sound, blocks_one, blocks_size, blocks_fit, blocks_some}
use Rattle.bus_canon.proofs.CellLaws.{CellLines, cells_cut, cells_spelled, cells_sound, cells_one, cells_size, broadcast_codes_line, broadcast_masks}

abbrev head_line : (ℕ → Bool) → Format ℕ
head_line versions = number_line (codes "rt1553") version_field versions

abbrev address_line : Format ℕ
address_line = number_line (codes "address") decimal (λ n. nat_le n 30)

abbrev accept_line : Format Bool
accept_line = bit_line (codes "accept")

abbrev vector_line : Format ℕ
vector_line = number_line (codes "vector") word (λ _. true)

abbrev bit_word_line : Format ℕ
bit_word_line = number_line (codes "bit") word (λ _. true)

abbrev wrap_line : Tables → Format ℕ
wrap_line t = number_line (codes "wraparound") decimal (may_wrap t)

-- the lines of each kind
pub record TextLines (versions : ℕ → Bool) (v : Parts) (bytes : List ℕ) : Type 0 where
  pub version : ℕ
  pub head : List ℕ
  pub address : List ℕ
  pub broadcast : List ℕ
  pub cells : List ℕ
  pub accept : List ℕ
  pub vector : List ℕ
  pub bit : List ℕ
  pub wrap : List ℕ
  pub initial : List ℕ
  pub is : bytes ≡ head ++ (address ++ (broadcast ++ (cells ++ (accept ++ (vector ++ (bit ++ (wrap ++ initial)))))))
  pub head_is : Spells (number_line (codes "rt1553") version_field versions) version head
  pub address_is : Spells (number_line (codes "address") decimal (λ n. nat_le n 30)) v.address address
  pub broadcast_is : Spells (bit_line (codes "broadcast")) v.broadcast broadcast
  pub cells_are : Spells (Rattle.bus_canon.specs.Canon.cells v.broadcast) v.tables cells
  pub accept_is : Spells (when (tables_say v.tables (OwnMode 0)) false (bit_line (codes "accept"))) v.accept accept
  pub vector_is : Spells (when (tables_say v.tables (OwnMode 16)) 0 (number_line (codes "vector") word (λ _. true))) v.vector vector
  pub bit_is : Spells (when (tables_say v.tables (OwnMode 19)) 0 (number_line (codes "bit") word (λ _. true))) v.bit bit
  pub wrap_is : Spells (wrap_lines version v.tables) v.wrap wrap
  pub initial_is : Spells (blocks 1 v.tables.own_transmit) v.initial initial

abbrev made : ℕ → Bool → Tables → Bool → ℕ → ℕ → ℕ → List (List ℕ) → Parts
made address broadcast tables accept vector bit wrap initial =
    record { address = address; broadcast = broadcast; wrap = wrap; accept = accept; vector = vector; bit = bit; initial = initial; tables = tables }

pub text_cut : (versions : ℕ → Bool) (v : Parts) (bytes : List ℕ) → Spells (canon versions) v bytes → TextLines versions v bytes
unfolding canon
text_cut versions v bytes h =
    let a = parted _ _ v bytes h in
    let b = parted _ _ v a.rest a.spells_rest in
    let c = parted _ _ v b.rest b.spells_rest in
    let d = parted _ _ v c.rest c.spells_rest in
    let e = parted _ _ v d.rest d.spells_rest in
    let f = parted _ _ v e.rest e.spells_rest in
    let g = parted _ _ v f.rest f.spells_rest in
    let i = parted _ _ v g.rest g.spells_rest in
    let j = parted _ _ v i.rest i.spells_rest in
    let (same, none) = j.spells_rest in
    let lines : TextLines versions (made b.value c.value d.value e.value f.value g.value i.value j.value) bytes = record {
      version = a.value;
      head = a.front;
      address = b.front;
      broadcast = c.front;
      cells = d.front;
      accept = e.front;
      vector = f.front;
      bit = g.front;
      wrap = i.front;
      initial = j.front;
      is =
          a.is ∙ ap (λ x. a.front ++ x) (b.is ∙ ap (λ x. b.front ++ x) (c.is ∙ ap (λ x. c.front ++ x) (d.is ∙ ap (λ x. d.front ++ x)
          (e.is ∙ ap (λ x. e.front ++ x) (f.is ∙ ap (λ x. f.front ++ x) (g.is ∙ ap (λ x. g.front ++ x) (i.is ∙ ap (λ x. i.front ++ x)
          (j.is ∙ ap (λ x. j.front ++ x) none ∙ append-nil j.front))))))));
      head_is = a.spells_front;
      address_is = b.spells_front;
      broadcast_is = c.spells_front;
      cells_are = d.spells_front;
      accept_is = e.spells_front;
      vector_is = f.spells_front;
      bit_is = g.spells_front;
      wrap_is = i.spells_front;
      initial_is = j.spells_front;
    } in
    subst (λ w. TextLines versions w bytes) (sym same) lines

pub text_spelled : (versions : ℕ → Bool) (v : Parts) (bytes : List ℕ) → TextLines versions v bytes → Spells (canon versions) v bytes
unfolding canon
text_spelled versions v bytes l =
    subst (λ x. Spells (canon versions) v x)
    (sym (l.is ∙ ap (λ x. l.head ++ (l.address ++ (l.broadcast ++ (l.cells ++ (l.accept ++ (l.vector ++ (l.bit ++ (l.wrap ++ x)))))))) (sym (append-nil l.initial))))
    (spells-then _ _ l.version v l.head _ l.head_is
    (spells-then _ _ v.address v l.address _ l.address_is
    (spells-then _ _ v.broadcast v l.broadcast _ l.broadcast_is
    (spells-then _ _ v.tables v l.cells _ l.cells_are
    (spells-then _ _ v.accept v l.accept _ l.accept_is
    (spells-then _ _ v.vector v l.vector _ l.vector_is
    (spells-then _ _ v.bit v l.bit _ l.bit_is
    (spells-then _ _ v.wrap v l.wrap _ l.wrap_is
    (spells-then _ _ v.initial v l.initial [] l.initial_is (refl, refl))))))))))

transmit_long : (broadcast : Bool) (t : Tables) (x : List ℕ) → Spells (cells broadcast) t x → length t.own_transmit ≡ 30
transmit_long broadcast t x h =
    let l : CellLines broadcast t x = cells_cut broadcast t x h in
    let are : AreSoMany 30 t.own_transmit = masks_are (codes "own-transmit") 1 30 t.own_transmit l.transmit l.transmit_is in
    are.long

-- ---- the line of wraparound

bit_value_sound : IsSound wrap_bit
bit_value_sound = sound_then _ _ (sound_bit _ refl) (λ on. tt)

wrap_sound : (version : ℕ) (t : Tables) → IsSound (wrap_lines version t)
unfolding wrap_lines wrap_switch wrap_name
wrap_sound version t = by_version (version == 1)
  where
    by_version : (b : Bool) → IsSound (if b then wrap_switch t else wrap_name t)
    by_version true = when_sound (masks_wrap t 30) 0 wrap_bit bit_value_sound
    by_version false = when_sound (any_wraps t) 0 (wrap_line t) (sound_number _ decimal (may_wrap t) 0 refl (lit< tt) refl)

wrap_size : (version : ℕ) (t : Tables) → HasSize (wrap_lines version t) 0 14
unfolding wrap_lines wrap_switch wrap_name
wrap_size version t = by_version (version == 1)
  where
    bit_size : HasSize wrap_bit (13 + 0) (13 + 0)
    bit_size = size_then (bit_line (codes "wraparound")) (λ on. done (if on then 30 else 0)) 13 13 0 0 (size_bit (codes "wraparound") 13 refl) (λ on. size_done _)

    by_version : (b : Bool) → HasSize (if b then wrap_switch t else wrap_name t) 0 14
    by_version true =
        let switch : HasSize (when (masks_wrap t 30) 0 wrap_bit) 0 13 = when_size (masks_wrap t 30) 0 wrap_bit 13 13 bit_size in
        record { least = switch.least; most = λ v x h. omega (arith, switch.most v x h) }
    by_version false = when_size (any_wraps t) 0 (wrap_line t) 14 14 (size_number (codes "wraparound") decimal (may_wrap t) 14 refl)

-- what the line means, or its absence, may be the wraparound subaddress
bit_may_wrap : (t : Tables) → masks_wrap t 30 ≡ true → (v : ℕ) (x : List ℕ) → Spells wrap_bit v x → may_wrap t v ≡ true
bit_may_wrap t wraps v x h = by_value (parted (bit_line (codes "wraparound")) (λ on. done (if on then 30 else 0)) v x h)
  where
    by_bit : (on : Bool) → may_wrap t (if on then 30 else 0) ≡ true
    by_bit true = wraps
    by_bit false = refl

    by_value : Parted (bit_line (codes "wraparound")) (λ on. done (if on then 30 else 0)) v x → may_wrap t v ≡ true
    by_value p = ap (may_wrap t) p.spells_rest.0 ∙ by_bit p.value

wrap_may : (version : ℕ) (t : Tables) (v : ℕ) (x : List ℕ) → Spells (wrap_lines version t) v x → may_wrap t v ≡ true
unfolding wrap_lines wrap_switch wrap_name
wrap_may version t v x h = by_version (version == 1) h
  where
    by_switch : (b : Bool) → masks_wrap t 30 ≡ b → Spells (when b 0 wrap_bit) v x → may_wrap t v ≡ true
    by_switch true e h = bit_may_wrap t e v x h
    by_switch false e h = ap (may_wrap t) h.0

    by_version : (b : Bool) → Spells (if b then wrap_switch t else wrap_name t) v x → may_wrap t v ≡ true
    by_version true h = by_switch (masks_wrap t 30) refl h
    by_version false h = when_holds (λ n. may_wrap t n ≡ true) (any_wraps t) 0 (wrap_line t) (number_value _ decimal (may_wrap t)) refl v x h

may_small : (t : Tables) (s : ℕ) → may_wrap t s ≡ true → s ≤ 30
may_small t s e = by_wraps (masks_wrap t s) e
  where
    by_wraps : (b : Bool) → (s == 0) || (nat_le s 30 && b) ≡ true → s ≤ 30
    by_wraps true e = grind (arith, nat_tests)
    by_wraps false e = grind (arith, nat_tests)

may_none : (t : Tables) (s : ℕ) → may_wrap t s ≡ true → masks_wrap t s ≡ false → s ≡ 0
may_none t s e f = by_wraps (masks_wrap t s) f e
  where
    by_wraps : (b : Bool) → b ≡ false → (s == 0) || (nat_le s 30 && b) ≡ true → s ≡ 0
    by_wraps true f e = cc
    by_wraps false f e = grind (arith, nat_tests)

-- the wraparound subaddress of a `Normal`
pub normal_may : (t : Tables) (s : ℕ) → s ≤ 30 → (masks_wrap t s ≡ false → s ≡ 0) → may_wrap t s ≡ true
normal_may t s small none = by_wraps (masks_wrap t s) none
  where
    by_wraps : (b : Bool) → (b ≡ false → s ≡ 0) → (s == 0) || (nat_le s 30 && b) ≡ true
    by_wraps true none = grind (arith, nat_tests)
    by_wraps false none = let zero : s ≡ 0 = none refl in grind (arith, nat_tests)

-- there is none where nothing can be wrapped
pub normal_none : (t : Tables) (s : ℕ) → s ≤ 30 → (masks_wrap t s ≡ false → s ≡ 0) → any_wraps t ≡ false → s ≡ 0
unfolding any_wraps
normal_none t zero small none e = refl
normal_none t (suc s) small none e = by_wraps (masks_wrap t (suc s)) refl
  where
    by_wraps : (b : Bool) → masks_wrap t (suc s) ≡ b → suc s ≡ 0
    by_wraps true w = let wrong : true ≡ false = sym (any_to-true 30 (masks_wrap t) (suc s) w (omega arith) small) ∙ e in cc
    by_wraps false w = none w

-- nothing is written where nothing can be wrapped
pub none_added : (t : Tables) (s : ℕ) (out : List ℕ) → s ≤ 30 → (masks_wrap t s ≡ false → s ≡ 0) → any_wraps t ≡ false → Adds (wrap_name t) s out out
unfolding wrap_name
none_added t s out small none e = ([], sym (append-nil out), by_test (any_wraps t) e)
  where
    by_test : (b : Bool) → b ≡ false → Spells (when b 0 (wrap_line t)) s []
    by_test true f = cc
    by_test false f = (normal_none t s small none e, refl)

-- and elsewhere the line
pub name_added : (t : Tables) (s : ℕ) (old new : List ℕ) → any_wraps t ≡ true → Adds (number_line (codes "wraparound") decimal (may_wrap t)) s old new → Adds (wrap_name t) s old new
unfolding wrap_name
name_added t s old new e h = (h.0, h.1, by_test (any_wraps t) e h.2)
  where
    by_test : (b : Bool) → b ≡ true → Spells (wrap_line t) s h.0 → Spells (when b 0 (wrap_line t)) s h.0
    by_test true f x = x
    by_test false f x = cc

-- every line may hold something
pub canon_sound : (versions : ℕ → Bool) → versions 2 ≡ true → IsSound (canon versions)
unfolding canon
canon_sound versions written =
    sound_then _ _ (sound_number _ version_field versions 2 refl (lit< tt) written) (λ version. sound_then _ _ (sound_number _ decimal _ 0 refl (lit< tt) refl) (λ address.
    sound_then _ _ (sound_bit _ refl) (λ broadcast. sound_after _ _ (cells_sound broadcast) (λ t x h.
    let long : length t.own_transmit ≡ 30 = transmit_long broadcast t x h in
    sound_then _ _ (when_sound _ _ _ (sound_bit _ refl)) (λ accept. sound_then _ _ (when_sound _ _ _ (sound_number _ word _ 0 refl (lit< tt) refl)) (λ vector.
    sound_then _ _ (when_sound _ _ _ (sound_number _ word _ 0 refl (lit< tt) refl)) (λ bit. sound_then _ _ (wrap_sound version t) (λ wrap.
    sound_then _ _ (blocks_sound 1 t.own_transmit (omega arith)) (λ initial. tt)))))))))

-- a value has one text that is written
written_two : (v : Parts) (x : List ℕ) (l : TextLines is_written v x) → l.version ≡ 2
written_two v x l = eqb-true l.version 2 (number_value _ version_field is_written l.version l.head l.head_is)

pub text_one : (v : Parts) (x y : List ℕ) → Text v x → Text v y → x ≡ y
unfolding wrap_lines wrap_name
text_one v x y h k =
    let a : TextLines is_written v x = text_cut is_written v x h in
    let b : TextLines is_written v y = text_cut is_written v y k in
    let first : a.version ≡ 2 = written_two v x a in
    let second : b.version ≡ 2 = written_two v y b in
    let wrap_a : Spells (wrap_lines 2 v.tables) v.wrap a.wrap = subst (λ n. Spells (wrap_lines n v.tables) v.wrap a.wrap) first a.wrap_is in
    let wrap_b : Spells (wrap_lines 2 v.tables) v.wrap b.wrap = subst (λ n. Spells (wrap_lines n v.tables) v.wrap b.wrap) second b.wrap_is in
    a.is
    ∙ ap₂ (λ u w. u ++ w) (number_one _ version_field is_written 2 a.head b.head (subst (λ n. Spells (head_line is_written) n a.head) first a.head_is) (subst (λ n. Spells (head_line is_written) n b.head) second b.head_is))
    (ap₂ (λ u w. u ++ w) (number_one _ decimal (λ n. nat_le n 30) v.address a.address b.address a.address_is b.address_is)
    (ap₂ (λ u w. u ++ w) (bit_one _ v.broadcast a.broadcast b.broadcast a.broadcast_is b.broadcast_is)
    (ap₂ (λ u w. u ++ w) (cells_one v.broadcast v.tables a.cells b.cells a.cells_are b.cells_are)
    (ap₂ (λ u w. u ++ w) (when_one (tables_say v.tables (OwnMode 0)) false accept_line (bit_one _) v.accept a.accept b.accept a.accept_is b.accept_is)
    (ap₂ (λ u w. u ++ w) (when_one (tables_say v.tables (OwnMode 16)) 0 vector_line (number_one _ word (λ _. true)) v.vector a.vector b.vector a.vector_is b.vector_is)
    (ap₂ (λ u w. u ++ w) (when_one (tables_say v.tables (OwnMode 19)) 0 bit_word_line (number_one _ word (λ _. true)) v.bit a.bit b.bit a.bit_is b.bit_is)
    (ap₂ (λ u w. u ++ w) (when_one (any_wraps v.tables) 0 (wrap_line v.tables) (number_one _ decimal (may_wrap v.tables)) v.wrap a.wrap b.wrap wrap_a wrap_b)
    (blocks_one 1 v.tables.own_transmit v.initial a.initial b.initial a.initial_is b.initial_is))))))))
    ∙ sym b.is

-- a text that is written is one that is read
pub text_read : (v : Parts) (x : List ℕ) → Text v x → AnyText v x
text_read v x h =
    let l : TextLines is_written v x = text_cut is_written v x h in
    let two : l.version ≡ 2 = written_two v x l in
    text_spelled is_read v x (record {
      version = l.version;
      head = l.head;
      address = l.address;
      broadcast = l.broadcast;
      cells = l.cells;
      accept = l.accept;
      vector = l.vector;
      bit = l.bit;
      wrap = l.wrap;
      initial = l.initial;
      is = l.is;
      head_is = number_weaker (codes "rt1553") version_field is_written is_read l.version l.head (ap is_read two) l.head_is;
      address_is = l.address_is;
      broadcast_is = l.broadcast_is;
      cells_are = l.cells_are;
      accept_is = l.accept_is;
      vector_is = l.vector_is;
      bit_is = l.bit_is;
      wrap_is = l.wrap_is;
      initial_is = l.initial_is;
    })

-- bytes are the text of one value
pub value_one : (v w : Parts) (bytes : List ℕ) → AnyText v bytes → AnyText w bytes → v ≡ w
value_one v w bytes h k = (one_front (canon is_read) bytes v w bytes bytes [] [] h k (sym (append-nil bytes)) (sym (append-nil bytes))).0

-- no text is a proper prefix of another
pub text_whole : (v w : Parts) (bytes more : List ℕ) → AnyText v bytes → AnyText w (bytes ++ more) → more ≡ []
text_whole v w bytes more h k = (one_front (canon is_read) (bytes ++ more) v w bytes (bytes ++ more) more [] h k refl (sym (append-nil (bytes ++ more)))).1

-- how long a text is
pub text_size : (v : Parts) (x : List ℕ) → AnyText v x → (1520 ≤ length x) × (length x ≤ 7618)
text_size v x h =
    let l : TextLines is_read v x = text_cut is_read v x h in
    let head : HasSize (head_line is_read) 9 9 = size_number (codes "rt1553") version_field is_read 9 refl in
    let address : HasSize address_line 11 11 = size_number (codes "address") decimal _ 11 refl in
    let broadcast : HasSize (bit_line (codes "broadcast")) 12 12 = size_bit (codes "broadcast") 12 refl in
    let tables : HasSize (cells v.broadcast) 1488 2412 = cells_size v.broadcast in
    let accept : HasSize (when (tables_say v.tables (OwnMode 0)) false accept_line) 0 9 = when_size _ _ _ 9 9 (size_bit (codes "accept") 9 refl) in
    let vector : HasSize (when (tables_say v.tables (OwnMode 16)) 0 vector_line) 0 12 = when_size _ _ _ 12 12 (size_number (codes "vector") word _ 12 refl) in
    let bit : HasSize (when (tables_say v.tables (OwnMode 19)) 0 bit_word_line) 0 9 = when_size _ _ _ 9 9 (size_number (codes "bit") word _ 9 refl) in
    let wrap : HasSize (wrap_lines l.version v.tables) 0 14 = wrap_size l.version v.tables in
    let initial : HasSize (blocks 1 v.tables.own_transmit) 0 (171 * length v.tables.own_transmit) = blocks_size 1 v.tables.own_transmit in
    let long : length v.tables.own_transmit ≡ 30 = transmit_long v.broadcast v.tables l.cells l.cells_are in
    let sum : length x ≡ length l.head + (length l.address + (length l.broadcast + (length l.cells + (length l.accept + (length l.vector + (length l.bit + (length l.wrap + length l.initial))))))) =
    ap length l.is ∙ simp length-append in
    let low : 1520 ≤ length x = omega (arith, head.least _ _ l.head_is, address.least _ _ l.address_is, broadcast.least _ _ l.broadcast_is, tables.least _ _ l.cells_are) in
    let high : length x ≤ 7618 =
    omega (
      arith,
      head.most _ _ l.head_is,
      address.most _ _ l.address_is,
      broadcast.most _ _ l.broadcast_is,
      tables.most _ _ l.cells_are,
      accept.most _ _ l.accept_is,
      vector.most _ _ l.vector_is,
      bit.most _ _ l.bit_is,
      wrap.most _ _ l.wrap_is,
      initial.most _ _ l.initial_is,
    ) in
    (low, high)

-- a text is that of a `Normal`
pub text_normal : (v : Parts) (x : List ℕ) → AnyText v x → IsNormal v
text_normal v x h =
    let l : TextLines is_read v x = text_cut is_read v x h in
    let may : may_wrap v.tables v.wrap ≡ true = wrap_may l.version v.tables v.wrap l.wrap l.wrap_is in
    let t = v.tables in
    let cs : CellLines v.broadcast t l.cells = cells_cut v.broadcast t l.cells l.cells_are in
    let transmit : AreSoMany 30 t.own_transmit = masks_are _ 1 30 t.own_transmit cs.transmit cs.transmit_is in
    let receive : AreSoMany 30 t.own_receive = masks_are _ 1 30 t.own_receive cs.receive cs.receive_is in
    let none : AreSoMany 30 (replicate 30 0) = zeros_are in
    let heard : AreSoMany 30 t.broadcast_receive = when_holds (AreSoMany 30) v.broadcast (replicate 30 0) broadcast_masks (masks_are _ 1 30) none t.broadcast_receive cs.heard cs.heard_is in
    let fit : FitBlocks t.own_transmit v.initial = blocks_fit 1 t.own_transmit v.initial l.initial l.initial_is in
    let own : nat_le v.address 30 ≡ true = number_value _ decimal (λ n. nat_le n 30) v.address l.address l.address_is in
    record {
      address = grind (arith, nat_tests, own);
      vector = when_holds (λ n. n < 2 ^ 16) (tables_say t (OwnMode 16)) 0 vector_line (number_fits _ word (λ _. true)) (lit< tt) v.vector l.vector l.vector_is;
      bit = when_holds (λ n. n < 2 ^ 16) (tables_say t (OwnMode 19)) 0 bit_word_line (number_fits _ word (λ _. true)) (lit< tt) v.bit l.bit l.bit_is;
      words = record { thirty = fit.long ∙ transmit.long; blocks = λ s k. (fit.fit s (omega (arith, transmit.long))).is_block };
      own_receive = are_masks t.own_receive receive;
      own_transmit = are_masks t.own_transmit transmit;
      broadcast_receive = are_masks t.broadcast_receive heard;
      own_mode = number_value _ mask is_own_mask t.own_mode cs.own cs.own_is;
      broadcast_mode = when_holds (λ n. is_broadcast_mask n ≡ true) v.broadcast 0 broadcast_codes_line (number_value _ mask is_broadcast_mask) refl t.broadcast_mode cs.all cs.all_is;
      unheard_receive = when_absent v.broadcast (replicate 30 0) broadcast_masks t.broadcast_receive cs.heard cs.heard_is;
      unheard_mode = when_absent v.broadcast 0 broadcast_codes_line t.broadcast_mode cs.all cs.all_is;
      unasked_accept = when_absent (tables_say t (OwnMode 0)) false accept_line v.accept l.accept l.accept_is;
      unasked_vector = when_absent (tables_say t (OwnMode 16)) 0 vector_line v.vector l.vector l.vector_is;
      unasked_bit = when_absent (tables_say t (OwnMode 19)) 0 bit_word_line v.bit l.bit l.bit_is;
      wrap = may_small t v.wrap may;
      unwrapped = may_none t v.wrap may;
      unsent = λ s i k m le. (fit.fit s (omega (arith, transmit.long))).unsent i m le;
    }
  where
    zeros_are : AreSoMany 30 (replicate 30 0)
    zeros_are = record { long = refl; fit = λ i. (let none : get_or (zero_words 30) i 0 ≡ 0 = zero_at 30 i in omega arith) }

-- the same of texts that are written
pub written_value_one : (v w : Parts) (bytes : List ℕ) → Text v bytes → Text w bytes → v ≡ w
written_value_one v w bytes h k = value_one v w bytes (text_read v bytes h) (text_read w bytes k)

pub written_normal : (v : Parts) (x : List ℕ) → Text v x → IsNormal v
written_normal v x h = text_normal v x (text_read v x h)

-- what is read is a `Normal`
pub read_normal : (written : Bool) (p q : Spot) (v : Parts) → read (canon (versions_of written)) p ≡ Ok (v, q) → IsNormal v
read_normal true p q v e = let m : Meets (canon is_written) p.rest v q.rest = read-is (canon is_written) p (v, q) e in written_normal v m.front m.spells
read_normal false p q v e = let m : Meets (canon is_read) p.rest v q.rest = read-is (canon is_read) p (v, q) e in text_normal v m.front m.spells

-- a mask that holds no bit but those of another is no larger
masked : (n most : ℕ) → (bit_and n most == n) ≡ true → n ≤ most
masked n most e = let same : bit_and n most ≡ n = grind (arith, nat_tests) in omega (arith, and_le_r n most)

left_test : (a b : Bool) → (a && b) ≡ true → a ≡ true
left_test true b e = refl
left_test false b e = e

own_fits : (n : ℕ) → is_own_mask n ≡ true → n < 2 ^ 32
own_fits n e = let le : n ≤ OWN_CODES = masked n OWN_CODES (left_test (bit_and n OWN_CODES == n) _ e) in omega arith

broadcast_fits : (n : ℕ) → is_broadcast_mask n ≡ true → n < 2 ^ 32
broadcast_fits n e = let le : n ≤ BROADCAST_CODES = masked n BROADCAST_CODES e in omega arith

so_many : (ms : List ℕ) → AreMasks ms → AreSoMany 30 ms
so_many ms are = record { long = are.thirty; fit = are.fit }

bit_some : (name : List ℕ) (b : Bool) → (x : List ℕ) × Spells (bit_line name) b x
bit_some name b = (_, bit_spelled name b (cond b 1 0) refl)

word_some : (name : List ℕ) (n : ℕ) → n < 2 ^ 16 → (x : List ℕ) × Spells (number_line name word (λ _. true)) n x
word_some name n l = (number_text name word n, number_spelled name word (λ _. true) n l refl)

-- the lines of the cells of a `Normal`
cells_some : (v : Parts) → IsNormal v → (x : List ℕ) × Spells (cells v.broadcast) v.tables x
cells_some v is =
    let t = v.tables in
    let receive = masks_some (codes "own-receive") 1 30 t.own_receive (lit< tt) (so_many t.own_receive is.own_receive) in
    let transmit = masks_some (codes "own-transmit") 1 30 t.own_transmit (lit< tt) (so_many t.own_transmit is.own_transmit) in
    let heard = when_spelled v.broadcast (replicate 30 0) broadcast_masks t.broadcast_receive
    (masks_some (codes "broadcast-receive") 1 30 t.broadcast_receive (lit< tt) (so_many t.broadcast_receive is.broadcast_receive)) is.unheard_receive in
    let own = number_spelled (codes "own-mode") mask is_own_mask t.own_mode (own_fits t.own_mode is.own_mode) is.own_mode in
    let all = when_spelled v.broadcast 0 broadcast_codes_line t.broadcast_mode
    (number_text (codes "broadcast-mode") mask t.broadcast_mode, number_spelled (codes "broadcast-mode") mask is_broadcast_mask t.broadcast_mode (broadcast_fits t.broadcast_mode is.broadcast_mode) is.broadcast_mode)
    is.unheard_mode in
    let lines : CellLines v.broadcast t (receive.0 ++ (transmit.0 ++ (heard.0 ++ (number_text (codes "own-mode") mask t.own_mode ++ all.0)))) = record {
      receive = receive.0;
      transmit = transmit.0;
      heard = heard.0;
      own = number_text (codes "own-mode") mask t.own_mode;
      all = all.0;
      is = refl;
      receive_is = receive.1;
      transmit_is = transmit.1;
      heard_is = heard.1;
      own_is = own;
      all_is = all.1;
    } in
    (_, cells_spelled v.broadcast t _ lines)

fit_blocks : (v : Parts) → IsNormal v → FitBlocks v.tables.own_transmit v.initial
fit_blocks v is = record {
  long = is.words.thirty ∙ sym is.own_transmit.thirty;
  fit = λ s l. (let place : s < 30 = omega (arith, is.own_transmit.thirty) in record { is_block = is.words.blocks s place; unsent = λ i k le. is.unsent s i place k le });
}

wrap_some : (t : Tables) (s : ℕ) → s ≤ 30 → (masks_wrap t s ≡ false → s ≡ 0) → (x : List ℕ) × Spells (wrap_lines 2 t) s x
unfolding wrap_lines wrap_name
wrap_some t s small none =
    when_spelled (any_wraps t) 0 (wrap_line t) s (number_text (codes "wraparound") decimal s, number_spelled (codes "wraparound") decimal (may_wrap t) s (omega arith) (normal_may t s small none)) (normal_none t s small none)

-- every `Normal` has a text
pub normal_text : (v : Parts) → IsNormal v → (x : List ℕ) × Text v x
normal_text v is =
    let own : nat_le v.address 30 ≡ true = grind (arith, nat_tests, is.address) in
    let address = number_spelled (codes "address") decimal (λ n. nat_le n 30) v.address (omega (arith, is.address)) own in
    let broadcast = bit_some (codes "broadcast") v.broadcast in
    let tables = cells_some v is in
    let accept = when_spelled (tables_say v.tables (OwnMode 0)) false accept_line v.accept (bit_some (codes "accept") v.accept) is.unasked_accept in
    let vector = when_spelled (tables_say v.tables (OwnMode 16)) 0 vector_line v.vector (word_some (codes "vector") v.vector is.vector) is.unasked_vector in
    let bit = when_spelled (tables_say v.tables (OwnMode 19)) 0 bit_word_line v.bit (word_some (codes "bit") v.bit is.bit) is.unasked_bit in
    let wrap = wrap_some v.tables v.wrap is.wrap is.unwrapped in
    let initial = blocks_some 1 v.tables.own_transmit v.initial (omega (arith, is.own_transmit.thirty)) (fit_blocks v is) in
    let lines : TextLines is_written v (number_text (codes "rt1553") version_field 2 ++ (number_text (codes "address") decimal v.address ++ (broadcast.0 ++ (tables.0 ++ (accept.0 ++ (vector.0 ++ (bit.0 ++ (wrap.0 ++ initial.0)))))))) = record {
      version = 2;
      head = number_text (codes "rt1553") version_field 2;
      address = number_text (codes "address") decimal v.address;
      broadcast = broadcast.0;
      cells = tables.0;
      accept = accept.0;
      vector = vector.0;
      bit = bit.0;
      wrap = wrap.0;
      initial = initial.0;
      is = refl;
      head_is = number_spelled (codes "rt1553") version_field is_written 2 (lit< tt) refl;
      address_is = address;
      broadcast_is = broadcast.1;
      cells_are = tables.1;
      accept_is = accept.1;
      vector_is = vector.1;
      bit_is = bit.1;
      wrap_is = wrap.1;
      initial_is = initial.1;
    } in
    (_, text_spelled is_written v _ lines)
