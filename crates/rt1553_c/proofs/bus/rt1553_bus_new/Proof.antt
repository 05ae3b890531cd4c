-- `rt1553_bus_new` has `made_bus` make a bus, and `hand_over_bus` hand it over.
use Rattle.std.proofs.Common.{◌≡◌, ℕ, [], ◌∷◌, refl, w8}
use Rattle.std.specs.Prelude.{◌≢◌, IfOk, IfErr}
use Rattle.std.proofs.raw_atomic.Walks.{proved, leaves}
use base.Fraction.{full_share}
use base.Logic.{emp, id⊢}
use base.Fml.{ftrue, flft}
use mir.Syntax.{named}
use contract.Monad.{fact, fact_i}
use contract.Running.{tables}
use types.Kit.{‵, raw, ◌⊛◌, some, later, ◌$◌, ◌∵◌, !, qed, by, move, keep, drop, use0, use1, use2, split, join, fsplit, fjoin, pick, await}
use types.Run.{enter, addr, stop, no_more, and_then, returns}
use types.ByLocal.{alloc_all, pass_all, free_all, look_at, get, through, sets, lands_as}
use denote.Exit.{yes}
use denote.Laws.{Is, shows}
use denote.Builtin.{u8}
use denote.Plain.{uint_Lawful}
use denote.RattleType.{RattleType}
use denote.RawPtr.{RawPtr, lies_at}
use denote.Ref.{MutRef, mut_vals, mut_Tells}
use denote.Signature.{plain}
use denote.Steps.{nothing, heard, peeks}
use denote.Triple.Call.{calls_at}
use denote.Triple.Clauses.{Lasts, lasts}
use denote.Triple.Spec.{triple_of}
use denote.Triple.Walked.{Stays, walk_of, stay_dropped, gave_ref, Goes-dropped, Goes-gave_ref}
use denote.Triple.Table.{framed}
use Rattle.std.specs.contracts.alloc.Global as heap
use Rattle.live_bus.specs.LiveBus.{IsEmptyBus}
use Rattle.live_bus.specs.contracts.front.LiveBus.{the_row}
use Rattle.rt1553_live.specs.contracts.fault.PlainFault as fault
use Rattle.rt1553_c.proofs.Handle.{heap_val, heap_Tells}
use Rattle.rt1553_c.proofs.HandedBus.{Made, made_lawful, lies, on_done, on_refused, lies_when_done}
use Rattle.rt1553_c.specs.Told.{IsTold, IsNoMemory, when_done, when_ok}
use Rattle.rt1553_c.specs.declared.TheConstants.{DONE}
use Rattle.rt1553_c.specs.contracts.bus.rt1553_bus_new as f
use Rattle.rt1553_c.proofs.bus.rt1553_bus_new.Statement.{statement}
use Rattle.rt1553_c.proofs.bus.rt1553_bus_new.Code as code
use Rattle.rt1553_c.specs.contracts.bus.made_bus as g
use Rattle.rt1553_c.proofs.bus.made_bus.Met as g_met
use Rattle.rt1553_c.specs.contracts.bus.hand_over_bus as h
use Rattle.rt1553_c.proofs.bus.hand_over_bus.Met as h_met

abbrev stayed : Stays f.ended.signature.params f.ended.kept
stayed = (stay_dropped _ yes, (gave_ref (0 ∷ []) tt (plain (λ _. RawPtr)), (gave_ref (1 ∷ []) tt (plain (λ _. fault.the_row)), tt)))

pub rt1553_bus_new_spec : {M : Type 1} → statement M
rt1553_bus_new_spec 𝓤 𝓛 𝓜 𝓡 wired =
    let c = f.clauses 𝓛 𝓜.mem 𝓡.returns in let W = walk_of 𝓛 f.ended stayed c in let 𝓣 = tables 𝓤 𝓛.H 𝓜 𝓡 𝓡.env in
    let F : RattleType = fault.the_row in
    proved 𝓛 f.ended stayed c 𝓜 𝓡 (
      Goes-dropped 𝓛 2 (plain (λ _. heap.the_row)) yes (λ κs x w. refl),
      (Goes-gave_ref 𝓛 2 0 tt (plain (λ _. RawPtr)), (Goes-gave_ref 𝓛 2 1 tt (plain (λ _. F)), tt)),
    )
    f.Key.name code.function (code.unfolded 𝓤 𝓛.H 𝓜 𝓡 wired)
    (λ κs. ((λ _. heap_val ∷ []), (mut_vals, (mut_vals, tt))))
    (λ κs. (heap_Tells, (mut_Tells (named 0) κs.0 RawPtr, (mut_Tells (named 1) κs.1.0 F, tt)))) (λ κs qs bounds a _ are.
    let to = a.1.0 in let why = a.1.1.0 in
    let y : W.Ghost = ((κs, qs, bounds, a, (heap_val ∷ [], (mut_vals to, (mut_vals why, tt)))), tt) in
    qed 𝓛 (((‵ (flft κs.0 qs.0) ⊛ ‵ (flft κs.1.0 qs.1.0) ⊛ ‵ ftrue)
    ⊛ ‵ (heap.the_row.own_val a.0 (heap_val ∷ []))
    ⊛ ‵ ((MutRef (named 0) κs.0 RawPtr).own_val to (mut_vals to)) ⊛ ‵ ((MutRef (named 1) κs.1.0 F).own_val why (mut_vals why)) ⊛ ‵ ftrue)
    ∷ ‵ ftrue ∷ []) ∵
    split ! $ split ! $ move ! (1 ∷ []) $ split ! $ move ! (3 ∷ []) $ split ! $ move ! (1 ∷ []) $ split ! $ move ! (1 ∷ []) $ split ! $
    keep ! (6 ∷ 4 ∷ 3 ∷ 2 ∷ 0 ∷ []) $
    -- [the two tokens; the handle; `to`; `fault`]
    enter ! _ _ _ _ _ $ alloc_all ! (λ l. pass_all ! refl ((tt, ((tt, tt), tt)), ((tt, tt), ((tt, tt), tt))) $
    sets ! (addr ! (through ! refl (stop !))) refl (tt, tt) $
    let G = triple_of 𝓛 g.signature (g.spec 𝓛 𝓜.mem 𝓡.returns) in
    let z : G.Ghost = (((κs.1.0, tt), (qs.1.0, tt), tt, (a.0, (why, tt)), (heap_val ∷ [], (mut_vals why, tt))), tt) in
    nothing ! $ move ! (5 ∷ 0 ∷ []) $ join ! $ move ! (3 ∷ 0 ∷ []) $ join ! $
    nothing ! $ move ! (3 ∷ 0 ∷ []) $ join ! $ join ! $
    nothing ! $ move ! (1 ∷ 0 ∷ []) $ use2 𝓛 (raw (G.pre z)) (id⊢ 𝓤 _) $
    calls_at ! (framed 𝓤 𝓛.H 𝓜 𝓣) G (g_met.met 𝓤 𝓛 𝓜 𝓡 (code.calls-rt1553_c::bus::made_bus 𝓡.env wired)) z
    (and_then ! (get ! refl) (and_then ! (get ! refl) (no_more !))) (λ u.
    use1 𝓛 (later (some (λ (made : Made.Denot). ((‵ (flft κs.1.0 qs.1.0) ⊛ ‵ ftrue) ⊛ ‵ (Made.own_val made (u ∷ []))) ⊛
    some (λ (ws : Lasts g.ended z.0.0 z.0.3). ‵ (lasts g.ended z.0.0 z.0.3 ws)
    ⊛ raw (fact 𝓤 (IfOk made (λ it. IsEmptyBus it.value × (ws.1.0 ≡ why.now))))
    ⊛ raw (fact 𝓤 (IfErr made (λ status. (status ≢ DONE) × IsTold IsNoMemory ws.1.0 status))))))) (id⊢ 𝓤 _) $
    await ! tt $ pick ! (λ made. split ! $ split ! $ move ! (1 ∷ []) $
    peeks ! Made (Is Made) (shows 𝓛 Made) made (u ∷ []) (λ is. lands_as ! refl refl ((made_lawful 𝓛).typed made (u ∷ []) is).0 $
    -- [what was made; a token; what the call ensures; a token; `to`]
    move ! (2 ∷ []) $ pick ! (λ ws. split ! $ move ! (1 ∷ []) $ split ! $ heard ! _ (λ ok. heard ! _ (λ bad.
    fsplit ! $ drop ! $
    sets ! (addr ! (through ! refl (stop !))) refl (tt, tt) $
    -- [what is said of `fault`; what was made; a token; a token; `to`]
    let H = triple_of 𝓛 h.signature (h.spec 𝓛 𝓜.mem 𝓡.returns) in
    let x : H.Ghost = (((κs.0, tt), (qs.0, tt), tt, (made, (to, tt)), (u ∷ [], (mut_vals to, tt))), tt) in
    nothing ! $ move ! (5 ∷ 0 ∷ []) $ join ! $ move ! (2 ∷ 0 ∷ []) $ join ! $ nothing ! $ move ! (4 ∷ 0 ∷ []) $ join ! $ join ! $
    nothing ! $ move ! (1 ∷ 0 ∷ []) $ use2 𝓛 (raw (H.pre x)) (id⊢ 𝓤 _) $
    calls_at ! (framed 𝓤 𝓛.H 𝓜 𝓣) H (h_met.met 𝓤 𝓛 𝓜 𝓡 (code.calls-rt1553_c::bus::hand_over_bus 𝓡.env wired)) x
    (and_then ! (get ! refl) (and_then ! (get ! refl) (no_more !))) (λ v.
    use1 𝓛 (later (some (λ (status : ℕ). ((‵ (flft κs.0 qs.0) ⊛ ‵ ftrue) ⊛ ‵ (u8.own_val status (v ∷ []))) ⊛
    some (λ (ls : Lasts h.ended x.0.0 x.0.3). ‵ (lasts h.ended x.0.0 x.0.3 ls) ⊛ ‵ (when_ok made (λ it. lies_at the_row full_share ls.1.0 it.value))
    ⊛ raw (fact 𝓤 (IfOk made (λ _. status ≡ DONE))) ⊛ raw (fact 𝓤 (IfErr made (λ s. (status ≡ s) × (ls.1.0 ≡ to.now)))))))) (id⊢ 𝓤 _) $
    await ! tt $ pick ! (λ status. split ! $ split ! $ move ! (1 ∷ []) $
    peeks ! u8 (Is u8) (shows 𝓛 u8) status (v ∷ []) (λ is'. lands_as ! refl refl ((uint_Lawful 𝓛 w8).typed status _ is').0 $
    -- [the status; a token; what the call ensures; what is said of `fault`; a token]
    move ! (2 ∷ []) $ pick ! (λ ls. split ! $ move ! (1 ∷ []) $ split ! $ move ! (1 ∷ []) $ split ! $ heard ! _ (λ did. heard ! _ (λ same.
    let P = IsEmptyBus in let E = ws.1.0 ≡ why.now in let Q = IsTold IsNoMemory ws.1.0 in let Same = ls.1.0 ≡ to.now in
    use1 𝓛 (‵ (when_done status (lies ls.1.0 P))) (lies_when_done P E Q Same 𝓛 ls.1.0 status made ok bad did same) $
    move ! (1 ∷ []) $ fsplit ! $ drop ! $ fsplit ! $ move ! (1 ∷ []) $ drop ! $
    returns ! (look_at ! 0 refl) $ free_all ! refl $
    -- [what is said of `to`; what lies there; the status; a token; what is said of `fault`; a token]
    move ! (0 ∷ 4 ∷ []) $ fjoin ! $ nothing ! $ fjoin ! $
    move ! (3 ∷ []) $ split ! $ move ! (0 ∷ 5 ∷ []) $ join ! $ move ! (1 ∷ []) $ drop ! $
    -- [the two tokens; what is said of the two; what lies there; the status]
    let Done_so : Type 0 = status ≡ DONE → ws.1.0 ≡ why.now in
    let Refused_so : Type 0 = status ≢ DONE → IsTold IsNoMemory ws.1.0 status × (ls.1.0 ≡ to.now) in
    use0 𝓛 (raw (fact 𝓤 Refused_so)) (fact_i 𝓤 Refused_so (emp 𝓤) (on_refused P E Q Same status made bad did same)) $
    use0 𝓛 (raw (fact 𝓤 Done_so)) (fact_i 𝓤 Done_so (emp 𝓤) (λ is_done. (on_done P E Q Same status made ok bad same is_done).1.1)) $ join ! $
    move ! (3 ∷ 0 ∷ []) $ join ! $ move ! (1 ∷ 2 ∷ 3 ∷ 0 ∷ []) $
    by ! (leaves 𝓛 f.ended stayed c y v status (tt, (ls.1.0, (ws.1.0, tt))) (tt, (tt, (tt, tt))))))))))))))))))
