-- What is found of one kind, and what is so known of the kinds up to it.
use Rattle.std.proofs.Common.{◌≡◌, ℕ, zero, suc, ◌+◌, ◌<◌, ◌≤◌, ◌⊎◌, inl, inr, sym, subst, arith}
use Rattle.std.proofs.lemmas.Bool.{cases_lt}
use Rattle.bus_word.specs.declared.cell.Cell.TheVariants.{OwnReceive, OwnTransmit, BroadReceive, OwnMode, BroadMode}
use Rattle.bus_legal.specs.Description.{Description}
use Rattle.bus_canon.specs.declared.difference.Difference.{Difference}
use Rattle.bus_canon.specs.declared.difference.Difference.TheVariants.{Address, BroadcastOption, ReceiveCell, TransmitCell, BroadcastReceiveCell, OwnCode, BroadcastCode, Acceptance, VectorWord, BitWord, InitialWord, Wraparound}
use Rattle.bus_canon.specs.Difference.{rank, first_number, second_number, IsLower, AreAlike, IsFirstDifference}
use Rattle.bus_canon.specs.inner.Search.{AlikeBefore}

-- alike in what is of a kind, at the numbers that are meant
abbrev pub AlikeIn : ℕ → Description → Description → (ℕ → ℕ → Type 0) → Type 0
AlikeIn zero P Q meant = Unit {0}
AlikeIn (suc zero) P Q meant = meant 0 0 → P.address ≡ Q.address
AlikeIn (suc (suc zero)) P Q meant = meant 0 0 → P.broadcast ≡ Q.broadcast
AlikeIn (suc (suc (suc zero))) P Q meant = (s n : ℕ) → meant s n → P.legal (OwnReceive s n) ≡ Q.legal (OwnReceive s n)
AlikeIn (suc (suc (suc (suc zero)))) P Q meant = (s n : ℕ) → meant s n → P.legal (OwnTransmit s n) ≡ Q.legal (OwnTransmit s n)
AlikeIn (suc (suc (suc (suc (suc zero))))) P Q meant = (s n : ℕ) → meant s n → P.legal (BroadReceive s n) ≡ Q.legal (BroadReceive s n)
AlikeIn (suc (suc (suc (suc (suc (suc zero)))))) P Q meant = (c : ℕ) → meant c 0 → P.legal (OwnMode c) ≡ Q.legal (OwnMode c)
AlikeIn (suc (suc (suc (suc (suc (suc (suc zero))))))) P Q meant = (c : ℕ) → meant c 0 → P.legal (BroadMode c) ≡ Q.legal (BroadMode c)
AlikeIn (suc (suc (suc (suc (suc (suc (suc (suc zero)))))))) P Q meant = meant 0 0 → P.accept ≡ Q.accept
AlikeIn (suc (suc (suc (suc (suc (suc (suc (suc (suc zero))))))))) P Q meant = meant 0 0 → P.vector ≡ Q.vector
AlikeIn (suc (suc (suc (suc (suc (suc (suc (suc (suc (suc zero)))))))))) P Q meant = meant 0 0 → P.bit ≡ Q.bit
AlikeIn (suc (suc (suc (suc (suc (suc (suc (suc (suc (suc (suc zero))))))))))) P Q meant = (s i : ℕ) → meant s i → P.initial s i ≡ Q.initial s i
AlikeIn (suc (suc (suc (suc (suc (suc (suc (suc (suc (suc (suc (suc n)))))))))))) P Q meant = meant 0 0 → P.wrap ≡ Q.wrap

abbrev pub All : ℕ → ℕ → Type 0
All s n = Unit {0}

-- the numbers that come before those of a difference
abbrev pub Lower : Difference → ℕ → ℕ → Type 0
Lower d s n = IsLower s n (first_number d) (second_number d)

alike_in : (P Q : Description) (meant : ℕ → ℕ → Type 0) (c : Difference) → AlikeIn (rank c) P Q meant → meant (first_number c) (second_number c) → AreAlike P Q c
alike_in P Q meant Address f m = f m
alike_in P Q meant BroadcastOption f m = f m
alike_in P Q meant (ReceiveCell s n) f m = f s n m
alike_in P Q meant (TransmitCell s n) f m = f s n m
alike_in P Q meant (BroadcastReceiveCell s n) f m = f s n m
alike_in P Q meant (OwnCode code) f m = f code m
alike_in P Q meant (BroadcastCode code) f m = f code m
alike_in P Q meant Acceptance f m = f m
alike_in P Q meant VectorWord f m = f m
alike_in P Q meant BitWord f m = f m
alike_in P Q meant (InitialWord s i) f m = f s i m
alike_in P Q meant Wraparound f m = f m

-- alike in one more kind
pub alike_to : (kind next : ℕ) (P Q : Description) → next ≡ kind + 1 → AlikeBefore kind P Q → AlikeIn kind P Q All → AlikeBefore next P Q
alike_to kind next P Q is before f c l = by_kind (cases_lt (rank c) kind)
  where
    by_kind : (rank c < kind) ⊎ (kind ≤ rank c) → AreAlike P Q c
    by_kind (inl lt) = before c lt
    by_kind (inr le) =
        let at : kind ≡ rank c = omega arith in
        alike_in P Q All c (subst (λ k. AlikeIn k P Q All) at f) tt

-- the first difference of a kind, where all of the kinds before it is alike
pub first_of_kind : (P Q : Description) (d : Difference) → AlikeBefore (rank d) P Q → AlikeIn (rank d) P Q (Lower d) → (AreAlike P Q d → ⊥) → IsFirstDifference P Q d
first_of_kind P Q d before lower differ = record { differ = differ; alike = λ c b. by_order c b }
  where
    by_order : (c : Difference) → (rank c < rank d) ⊎ ((rank c ≡ rank d) × Lower d (first_number c) (second_number c)) → AreAlike P Q c
    by_order c (inl lt) = before c lt
    by_order c (inr b) = alike_in P Q (Lower d) c (subst (λ k. AlikeIn k P Q (Lower d)) (sym b.0) lower) b.1
