-- Laws of the text of a saved state.
use Rattle.std.proofs.Common.{◌≡◌, ℕ, ◌==◌, ◌^◌, ◌<◌, Option, None, List, [], ◌++◌, codes, get_or, replicate, refl, ap, ap₂, sym, ◌∙◌, subst, append-nil, lit<, ◌≤◌, ◌+◌, ◌*◌, length, length-append, arith}
use Rattle.std.proofs.lemmas.Bool.{eqb-true}
use Rattle.terminal_rules.specs.History.{Replying}
use Rattle.bus_legal.specs.Parts.{Parts}
use Rattle.line_format.specs.Format.{Spells, IsSound}
use Rattle.line_format.specs.Shapes.{number_field, words_line}
use Rattle.line_format.proofs.SoundLaws.{sound_then, sound_number, sound_words}
use Rattle.line_format.proofs.Writes.{spells-then, words_fit}
use Rattle.line_format.proofs.AnswerLaws.{one_front}
use Rattle.line_format.proofs.SizeLaws.{HasSize, size_number, size_words}
use Rattle.line_format.proofs.OneText.{parted, number_one, number_value, words_one}
use Rattle.bus_canon.specs.Canon.{is_written, canon}
use Rattle.bus_canon.proofs.BlockLaws.{zero_at}
use Rattle.bus_canon.proofs.CanonLaws.{canon_sound, text_one, text_read, text_size}
use Rattle.rt1553_live.specs.declared.bits.Bits.{Bits}
use Rattle.rt1553_live.specs.declared.message.SavedMessage.{SavedMessage}
use Rattle.rt1553_live.specs.Numbers.{bits_from, bit_numbers, reply_from, reply_numbers, message_from, message_numbers}
use Rattle.rt1553_live.specs.State.{State}
use Rattle.rt1553_live.specs.Text.{coded_line, version_line, bits_line, registers_line, reply_line, message_line, word_number, held_lines, saved, StateText}
use Rattle.rt1553_live.proofs.CodedLaws.{coded_sound, coded_one, coded_are_words}
use Rattle.rt1553_live.proofs.HeldLaws.{held_sound, held_one, held_size}
use Rattle.rt1553_live.proofs.NumberLaws.{bits_back, few_words}

-- the lines of each kind
pub record StateLines (s : State) (bytes : List ℕ) : Type 0 where
  pub version : ℕ
  pub head : List ℕ
  pub bits : List ℕ
  pub registers : List ℕ
  pub reply : List ℕ
  pub message : List ℕ
  pub words : List ℕ
  pub held : List ℕ
  pub text : List ℕ
  pub is : bytes ≡ head ++ (bits ++ (registers ++ (reply ++ (message ++ (words ++ (held ++ text))))))
  pub head_is : Spells version_line version head
  pub bits_are : Spells bits_line s.bits bits
  pub registers_are : Spells registers_line s.registers registers
  pub reply_is : Spells reply_line s.reply reply
  pub message_is : Spells message_line s.message message
  pub words_are : Spells (words_line (codes "words") 1 (word_number s.message)) s.words words
  pub held_are : Spells (held_lines 1 30) s.held held
  pub text_is : Spells (canon is_written) s.parts text

abbrev made : Bits → List ℕ → Option Replying → Option SavedMessage → List ℕ → List (List ℕ) → Parts → State
made bits registers reply message words held parts = record { bits = bits; registers = registers; reply = reply; message = message; words = words; held = held; parts = parts }

pub state_cut : (s : State) (bytes : List ℕ) → StateText s bytes → StateLines s bytes
unfolding saved
state_cut s bytes h =
    let a = parted _ _ s bytes h in
    let b = parted _ _ s a.rest a.spells_rest in
    let c = parted _ _ s b.rest b.spells_rest in
    let d = parted _ _ s c.rest c.spells_rest in
    let e = parted _ _ s d.rest d.spells_rest in
    let f = parted _ _ s e.rest e.spells_rest in
    let g = parted _ _ s f.rest f.spells_rest in
    let i = parted _ _ s g.rest g.spells_rest in
    let (same, none) = i.spells_rest in
    let lines : StateLines (made b.value c.value d.value e.value f.value g.value i.value) bytes = record {
      version = a.value;
      head = a.front;
      bits = b.front;
      registers = c.front;
      reply = d.front;
      message = e.front;
      words = f.front;
      held = g.front;
      text = i.front;
      is =
          a.is ∙ ap (λ x. a.front ++ x) (b.is ∙ ap (λ x. b.front ++ x) (c.is ∙ ap (λ x. c.front ++ x) (d.is ∙ ap (λ x. d.front ++ x)
          (e.is ∙ ap (λ x. e.front ++ x) (f.is ∙ ap (λ x. f.front ++ x) (g.is ∙ ap (λ x. g.front ++ x)
          (i.is ∙ ap (λ x. i.front ++ x) none ∙ append-nil i.front)))))));
      head_is = a.spells_front;
      bits_are = b.spells_front;
      registers_are = c.spells_front;
      reply_is = d.spells_front;
      message_is = e.spells_front;
      words_are = f.spells_front;
      held_are = g.spells_front;
      text_is = i.spells_front;
    } in
    subst (λ t. StateLines t bytes) (sym same) lines

pub state_spelled : (s : State) (bytes : List ℕ) → StateLines s bytes → StateText s bytes
unfolding saved
state_spelled s bytes l =
    subst (λ x. Spells saved s x)
    (sym (l.is ∙ ap (λ x. l.head ++ (l.bits ++ (l.registers ++ (l.reply ++ (l.message ++ (l.words ++ (l.held ++ x))))))) (sym (append-nil l.text))))
    (spells-then _ _ l.version s l.head _ l.head_is
    (spells-then _ _ s.bits s l.bits _ l.bits_are
    (spells-then _ _ s.registers s l.registers _ l.registers_are
    (spells-then _ _ s.reply s l.reply _ l.reply_is
    (spells-then _ _ s.message s l.message _ l.message_is
    (spells-then _ _ s.words s l.words _ l.words_are
    (spells-then _ _ s.held s l.held _ l.held_are
    (spells-then _ _ s.parts s l.text [] l.text_is (refl, refl)))))))))

-- ---- every line may hold something

no_bits : Bits
no_bits = bits_from []

zeros_fit : (count : ℕ) (i : ℕ) → get_or (replicate count 0) i 0 < 2 ^ 16
zeros_fit count i = subst (λ n. n < 2 ^ 16) (sym (zero_at count i)) (lit< tt)

pub saved_sound : IsSound saved
unfolding saved no_bits
saved_sound =
    sound_then _ _ (sound_number _ (number_field 10 1) (λ n. n == 1) 1 refl (lit< tt) refl) (λ version.
    sound_then _ _ (coded_sound (codes "bits") 16 bits_from bit_numbers no_bits refl (words_fit 16 (replicate 16 0) refl (zeros_fit 16)) (bits_back no_bits)) (λ bits.
    sound_then _ _ (sound_words (codes "registers") 1 3 (lit< tt) refl) (λ registers.
    sound_then _ _ (coded_sound (codes "reply") 5 reply_from reply_numbers None refl (words_fit 5 (replicate 5 0) refl (zeros_fit 5)) refl) (λ reply.
    sound_then _ _ (coded_sound (codes "message") 5 message_from message_numbers None refl (words_fit 5 (replicate 5 0) refl (zeros_fit 5)) refl) (λ message.
    sound_then _ _ (sound_words (codes "words") 1 (word_number message) (lit< tt) refl) (λ words.
    sound_then _ _ (held_sound 1 30 (lit< tt)) (λ held.
    sound_then _ _ (canon_sound is_written refl) (λ parts. tt))))))))

-- ---- a state has one text

version_one : (s : State) (x : List ℕ) (l : StateLines s x) → l.version ≡ 1
version_one s x l = eqb-true l.version 1 (number_value _ (number_field 10 1) (λ n. n == 1) l.version l.head l.head_is)

pub state_one : (s : State) (x y : List ℕ) → StateText s x → StateText s y → x ≡ y
state_one s x y h k =
    let a : StateLines s x = state_cut s x h in
    let b : StateLines s y = state_cut s y k in
    a.is
    ∙ ap₂ (λ u w. u ++ w) (number_one _ (number_field 10 1) (λ n. n == 1) 1 a.head b.head (subst (λ n. Spells version_line n a.head) (version_one s x a) a.head_is) (subst (λ n. Spells version_line n b.head) (version_one s y b) b.head_is))
    (ap₂ (λ u w. u ++ w) (coded_one _ 16 bits_from bit_numbers s.bits a.bits b.bits a.bits_are b.bits_are)
    (ap₂ (λ u w. u ++ w) (words_one _ 1 3 s.registers a.registers b.registers a.registers_are b.registers_are)
    (ap₂ (λ u w. u ++ w) (coded_one _ 5 reply_from reply_numbers s.reply a.reply b.reply a.reply_is b.reply_is)
    (ap₂ (λ u w. u ++ w) (coded_one _ 5 message_from message_numbers s.message a.message b.message a.message_is b.message_is)
    (ap₂ (λ u w. u ++ w) (words_one _ 1 (word_number s.message) s.words a.words b.words a.words_are b.words_are)
    (ap₂ (λ u w. u ++ w) (held_one 1 30 s.held a.held b.held a.held_are b.held_are)
    (text_one s.parts a.text b.text a.text_is b.text_is)))))))
    ∙ sym b.is

-- bytes are the text of one state
pub one_state : (s t : State) (bytes : List ℕ) → StateText s bytes → StateText t bytes → s ≡ t
one_state s t bytes h k = (one_front saved bytes s t bytes bytes [] [] h k (sym (append-nil bytes)) (sym (append-nil bytes))).0

-- ---- how long a text is

coded_size : {A : Type 0} (name : List ℕ) (count n : ℕ) (from : List ℕ → A) (numbers : A → List ℕ) (v : A) (x : List ℕ) → n ≡ length name + (5 * count + 4) → Spells (coded_line name count from numbers) v x → length x ≤ n
coded_size name count n from numbers v x e h = let (ws, means, spells) = coded_are_words name count from numbers v x h in (size_words name 1 count n e).most ws x spells

message_few : (m : Option SavedMessage) (x : List ℕ) → Spells message_line m x → word_number m ≤ 32
message_few m x h = let (ws, means, spells) = coded_are_words (codes "message") 5 message_from message_numbers m x h in subst (λ m. word_number m ≤ 32) (sym means) (few_words ws)

pub state_size : (s : State) (x : List ℕ) → StateText s x → length x ≤ 13028
state_size s x h =
    let l : StateLines s x = state_cut s x h in
    let head : HasSize version_line 15 15 = size_number (codes "rt1553-state") (number_field 10 1) _ 15 refl in
    let registers : HasSize registers_line 28 28 = size_words (codes "registers") 1 3 28 refl in
    let words : HasSize (words_line (codes "words") 1 (word_number s.message)) (9 + 5 * word_number s.message) (9 + 5 * word_number s.message) = size_words (codes "words") 1 (word_number s.message) (9 + 5 * word_number s.message) (omega arith) in
    let held : HasSize (held_lines 1 30) 5040 5040 = held_size 1 30 5040 refl in
    let sum : length x ≡ length l.head + (length l.bits + (length l.registers + (length l.reply + (length l.message + (length l.words + (length l.held + length l.text)))))) = ap length l.is ∙ simp length-append in
    omega (
      arith,
      head.most _ _ l.head_is,
      coded_size (codes "bits") 16 88 bits_from bit_numbers s.bits l.bits refl l.bits_are,
      registers.most _ _ l.registers_are,
      coded_size (codes "reply") 5 34 reply_from reply_numbers s.reply l.reply refl l.reply_is,
      coded_size (codes "message") 5 36 message_from message_numbers s.message l.message refl l.message_is,
      message_few s.message l.message l.message_is,
      words.most _ _ l.words_are,
      held.most _ _ l.held_are,
      (text_size s.parts l.text (text_read s.parts l.text l.text_is)).1,
    )
