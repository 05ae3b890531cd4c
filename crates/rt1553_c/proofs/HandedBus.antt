-- What is known where `hand_over_bus` gave a status for what was made.
use Rattle.std.proofs.Common.{◌≡◌, ℕ, zero, suc, [], ◌∷◌, refl, sym, ◌∙◌, subst, Ok, Err}
use Rattle.std.specs.Prelude.{◌≢◌, IfOk, IfErr}
use seplogic.Ra.Ura.{Ura}
use base.Fraction.{full_share}
use base.Logic.{ent, id⊢}
use base.Fml.{Fml, ftrue, fsep, fex}
use types.Logic.{Logic, sem}
use types.Kit.{‵, ◌$◌, ◌∵◌, !, qed, done, move, fjoin, fpack}
use denote.Builtin.{u8}
use denote.Enum.Loose.{loose_lawful}
use denote.Laws.{Lawful}
use denote.Param.Laws.{of_field}
use denote.Param.Shared.{copy_shared}
use denote.RattleType.{RattleType}
use denote.RawPtr.{Ptr, lies_at}
use denote.Steps.{nothing}
use denote.Struct.Field.{u8-field}
use denote.Struct.Laws.{u8-laws, u8-copy}
use Rattle.std.specs.contracts.alloc.Global as heap
use Rattle.std.proofs.alloc.Global.TheLaws as heap_laws
use Rattle.std.specs.contracts.impls.GlobalAllocator.TheImpl.{ghosts}
use Rattle.std.specs.contracts.boxed.Box as box
use Rattle.std.proofs.boxed.Box.TheLaws as box_laws
use Rattle.std.specs.contracts.result.Result as result
use Rattle.std.proofs.result.Result.TheLaws as result_laws
use Rattle.live_bus.specs.declared.front.LiveBus.{LiveBus}
use Rattle.live_bus.specs.contracts.front.LiveBus.{the_row}
use Rattle.live_bus.proofs.front.LiveBus.TheLaws.{the_row_laws}
use Rattle.rt1553_c.specs.Told.{when_done, when_ok}
use Rattle.rt1553_c.specs.declared.TheConstants.{DONE}

-- a bus in its box, or the status for why there is none
abbrev pub Boxed : RattleType
Boxed = box.the_row the_row heap.the_row ghosts

abbrev pub Made : RattleType
Made = result.the_row Boxed u8

pub made_lawful : {M : Type 1} {𝓤 : Ura M} (𝓛 : Logic 𝓤) → Lawful 𝓛 Made
made_lawful = loose_lawful (result.the_type Boxed u8-field.row)
    (result_laws.the_loose Boxed u8-field.row (box_laws.the_row_laws the_row heap.the_row ghosts the_row_laws heap_laws.the_row_laws) (of_field u8-field u8-laws refl (copy_shared u8-field u8-copy))) tt

-- a bus lies there of which P holds
abbrev pub lies : Ptr → (LiveBus → Type 0) → Fml
lies p P = fex LiveBus (λ w. fsep (lies_at the_row full_share p w) (fex (P w) (λ _. ftrue)))

module _ (P : LiveBus → Type 0) (E : Type 0) (Q : ℕ → Type 0) (Same : Type 0) where
  pub on_done : (status : ℕ) (made : Made.Denot) → IfOk made (λ it. P it.value × E) → IfErr made (λ s. (s ≢ DONE) × Q s) → IfErr made (λ s. (status ≡ s) × Same)
      → status ≡ DONE → (w : LiveBus) × (P w × E)
  on_done status (Ok it) ok bad same is = (it.value, ok)
  on_done status (Err s) ok bad same is = absurd (bad.0 (sym same.0 ∙ is))

  pub on_refused : (status : ℕ) (made : Made.Denot) → IfErr made (λ s. (s ≢ DONE) × Q s) → IfOk made (λ _. status ≡ DONE) → IfErr made (λ s. (status ≡ s) × Same)
      → status ≢ DONE → Q status × Same
  on_refused status (Ok it) bad did same n = absurd (n did)
  on_refused status (Err s) bad did same n = (subst Q (sym same.0) bad.1, same.1)

  module _ {M : Type 1} {𝓤 : Ura M} (𝓛 : Logic 𝓤) (p : Ptr) where
    pub lies_when_done : (status : ℕ) (made : Made.Denot) → IfOk made (λ it. P it.value × E) → IfErr made (λ s. (s ≢ DONE) × Q s)
        → IfOk made (λ _. status ≡ DONE) → IfErr made (λ s. (status ≡ s) × Same)
        → ent 𝓤 (sem 𝓛 (when_ok made (λ it. lies_at the_row full_share p it.value))) (sem 𝓛 (when_done status (lies p P)))
    lies_when_done status (Ok it) ok bad did same =
        subst (λ (n : ℕ). ent 𝓤 (sem 𝓛 (lies_at the_row full_share p it.value)) (sem 𝓛 (when_done n (lies p P)))) (sym did)
        (qed 𝓛 (‵ (lies_at the_row full_share p it.value) ∷ []) ∵ nothing ! $ fpack ! (P it.value) (λ _. ftrue) ok.0 $ move ! (1 ∷ 0 ∷ []) $ fjoin ! $
        fpack ! LiveBus (λ w. fsep (lies_at the_row full_share p w) (fex (P w) (λ _. ftrue))) it.value $ done !)
    lies_when_done zero (Err s) ok bad did same = absurd (bad.0 (sym same.0))
    lies_when_done (suc n) (Err s) ok bad did same = id⊢ 𝓤 (sem 𝓛 ftrue)
