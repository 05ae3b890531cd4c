-- The lines of the legal cells.
use Rattle.std.proofs.Common.{◌≡◌, ℕ, ◌+◌, ◌≤◌, Bool, List, [], ◌++◌, codes, replicate, length, refl, ap, ap₂, sym, ◌∙◌, subst, append-nil, length-append, arith, lit<}
use Rattle.bus_legal.specs.declared.tables.Tables.{Tables}
use Rattle.bus_legal.specs.Tables.{is_own_mask, is_broadcast_mask}
use Rattle.line_format.specs.Format.{Format, Spells, IsSound}
use Rattle.line_format.specs.Shapes.{mask, number_line}
use Rattle.line_format.proofs.SoundLaws.{sound_then, sound_number}
use Rattle.line_format.proofs.Writes.{spells-then}
use Rattle.line_format.proofs.OneText.{HasOneText, parted, number_one}
use Rattle.line_format.proofs.SizeLaws.{HasSize, size_number}
use Rattle.bus_canon.specs.Canon.{when, masks, cells}
use Rattle.bus_canon.proofs.Several.{when_sound, when_one, when_size}
use Rattle.bus_canon.proofs.MaskLaws.{masks_sound, masks_one, masks_size}

abbrev pub own_codes_line : Format ℕ
own_codes_line = number_line (codes "own-mode") mask is_own_mask

abbrev pub broadcast_codes_line : Format ℕ
broadcast_codes_line = number_line (codes "broadcast-mode") mask is_broadcast_mask

abbrev pub broadcast_masks : Format (List ℕ)
broadcast_masks = masks (codes "broadcast-receive") 1 30

-- the lines of each kind
pub record CellLines (broadcast : Bool) (t : Tables) (bytes : List ℕ) : Type 0 where
  pub receive : List ℕ
  pub transmit : List ℕ
  pub heard : List ℕ
  pub own : List ℕ
  pub all : List ℕ
  pub is : bytes ≡ receive ++ (transmit ++ (heard ++ (own ++ all)))
  pub receive_is : Spells (masks (codes "own-receive") 1 30) t.own_receive receive
  pub transmit_is : Spells (masks (codes "own-transmit") 1 30) t.own_transmit transmit
  pub heard_is : Spells (when broadcast (replicate 30 0) broadcast_masks) t.broadcast_receive heard
  pub own_is : Spells own_codes_line t.own_mode own
  pub all_is : Spells (when broadcast 0 broadcast_codes_line) t.broadcast_mode all

pub cells_cut : (broadcast : Bool) (t : Tables) (bytes : List ℕ) → Spells (cells broadcast) t bytes → CellLines broadcast t bytes
unfolding cells
cells_cut broadcast t bytes h =
    let a = parted _ _ t bytes h in
    let b = parted _ _ t a.rest a.spells_rest in
    let c = parted _ _ t b.rest b.spells_rest in
    let d = parted _ _ t c.rest c.spells_rest in
    let e = parted _ _ t d.rest d.spells_rest in
    let (same, none) = e.spells_rest in
    record {
      receive = a.front;
      transmit = b.front;
      heard = c.front;
      own = d.front;
      all = e.front;
      is = a.is ∙ ap (λ x. a.front ++ x) (b.is ∙ ap (λ x. b.front ++ x) (c.is ∙ ap (λ x. c.front ++ x) (d.is ∙ ap (λ x. d.front ++ x) (e.is ∙ ap (λ x. e.front ++ x) none ∙ append-nil e.front))));
      receive_is = subst (λ m. Spells (masks (codes "own-receive") 1 30) m a.front) (ap (λ (t : Tables). t.own_receive) (sym same)) a.spells_front;
      transmit_is = subst (λ m. Spells (masks (codes "own-transmit") 1 30) m b.front) (ap (λ (t : Tables). t.own_transmit) (sym same)) b.spells_front;
      heard_is = subst (λ m. Spells (when broadcast (replicate 30 0) broadcast_masks) m c.front) (ap (λ (t : Tables). t.broadcast_receive) (sym same)) c.spells_front;
      own_is = subst (λ m. Spells own_codes_line m d.front) (ap (λ (t : Tables). t.own_mode) (sym same)) d.spells_front;
      all_is = subst (λ m. Spells (when broadcast 0 broadcast_codes_line) m e.front) (ap (λ (t : Tables). t.broadcast_mode) (sym same)) e.spells_front;
    }

pub cells_spelled : (broadcast : Bool) (t : Tables) (bytes : List ℕ) → CellLines broadcast t bytes → Spells (cells broadcast) t bytes
unfolding cells
cells_spelled broadcast t bytes l =
    subst (λ x. Spells (cells broadcast) t x) (sym (l.is ∙ ap (λ x. l.receive ++ (l.transmit ++ (l.heard ++ (l.own ++ x)))) (sym (append-nil l.all))))
    (spells-then _ _ t.own_receive t l.receive _ l.receive_is
    (spells-then _ _ t.own_transmit t l.transmit _ l.transmit_is
    (spells-then _ _ t.broadcast_receive t l.heard _ l.heard_is
    (spells-then _ _ t.own_mode t l.own _ l.own_is
    (spells-then _ _ t.broadcast_mode t l.all [] l.all_is (refl, refl))))))

pub cells_sound : (broadcast : Bool) → IsSound (cells broadcast)
unfolding cells
cells_sound broadcast =
    sound_then _ _ (masks_sound _ 1 30 (lit< tt) refl) (λ a. sound_then _ _ (masks_sound _ 1 30 (lit< tt) refl) (λ b.
    sound_then _ _ (when_sound broadcast _ _ (masks_sound _ 1 30 (lit< tt) refl)) (λ c. sound_then _ _ (sound_number _ mask _ 308 refl (lit< tt) refl) (λ d.
    sound_then _ _ (when_sound broadcast _ _ (sound_number _ mask _ 0 refl (lit< tt) refl)) (λ e. tt)))))

pub cells_one : (broadcast : Bool) → HasOneText (cells broadcast)
cells_one broadcast t x y h k =
    let a : CellLines broadcast t x = cells_cut broadcast t x h in
    let b : CellLines broadcast t y = cells_cut broadcast t y k in
    let heard : a.heard ≡ b.heard = when_one broadcast (replicate 30 0) broadcast_masks (masks_one _ 1 30) t.broadcast_receive a.heard b.heard a.heard_is b.heard_is in
    let all : a.all ≡ b.all = when_one broadcast 0 broadcast_codes_line (number_one _ mask is_broadcast_mask) t.broadcast_mode a.all b.all a.all_is b.all_is in
    a.is
    ∙ ap₂ (λ u v. u ++ v) (masks_one _ 1 30 t.own_receive a.receive b.receive a.receive_is b.receive_is)
    (ap₂ (λ u v. u ++ v) (masks_one _ 1 30 t.own_transmit a.transmit b.transmit a.transmit_is b.transmit_is)
    (ap₂ (λ u v. u ++ v) heard
    (ap₂ (λ u v. u ++ v) (number_one _ mask is_own_mask t.own_mode a.own b.own a.own_is b.own_is) all)))
    ∙ sym b.is

pub cells_size : (broadcast : Bool) → HasSize (cells broadcast) 1488 2412
cells_size broadcast = record { least = λ t x h. omega (arith, (sizes t x (cells_cut broadcast t x h)).0); most = λ t x h. omega (arith, (sizes t x (cells_cut broadcast t x h)).1) }
  where
    sizes : (t : Tables) (x : List ℕ) → CellLines broadcast t x → (1488 ≤ length x) × (length x ≤ 2412)
    sizes t x l =
        let receive : HasSize (masks (codes "own-receive") 1 30) 720 720 = masks_size (codes "own-receive") 1 30 24 720 refl refl in
        let transmit : HasSize (masks (codes "own-transmit") 1 30) 750 750 = masks_size (codes "own-transmit") 1 30 25 750 refl refl in
        let heard : HasSize (when broadcast (replicate 30 0) broadcast_masks) 0 900 = when_size broadcast _ _ 900 900 (masks_size (codes "broadcast-receive") 1 30 30 900 refl refl) in
        let own : HasSize own_codes_line 18 18 = size_number (codes "own-mode") mask is_own_mask 18 refl in
        let all : HasSize (when broadcast 0 broadcast_codes_line) 0 24 = when_size broadcast _ _ 24 24 (size_number (codes "broadcast-mode") mask is_broadcast_mask 24 refl) in
        let sum : length x ≡ length l.receive + (length l.transmit + (length l.heard + (length l.own + length l.all))) =
        ap length l.is ∙ simp length-append in
        let low : 1488 ≤ length x = omega (arith, receive.least _ _ l.receive_is, transmit.least _ _ l.transmit_is, own.least _ _ l.own_is) in
        let high : length x ≤ 2412 = omega (arith, receive.most _ _ l.receive_is, transmit.most _ _ l.transmit_is, heard.most _ _ l.heard_is, own.most _ _ l.own_is, all.most _ _ l.all_is) in
        (low, high)
