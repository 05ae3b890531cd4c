-- `rt1553_bus_terminal` lends what lies at its pointer to `made_taken`, has it back as it was, and has `hand_over` hand over the terminal.
use Rattle.std.proofs.Common.{◌≡◌, ℕ, [], ◌∷◌, refl, w8, w64}
use Rattle.std.specs.Prelude.{◌≢◌, IfOk, IfErr}
use Rattle.std.proofs.raw_atomic.Walks.{proved, leaves}
use base.Fraction.{full_share}
use base.Logic.{emp, id⊢}
use base.Fml.{ftrue, flft, flent}
use mir.Syntax.{named}
use mir.Val.{vptr, vint}
use prog.Wp.{WpFn}
use contract.Monad.{fact, fact_i}
use contract.Running.{tables}
use types.SemTy.{Body}
use types.Tokens.{lft_new, lft_end}
use types.Kit.{‵, raw, ◌⊛◌, some, later, prop, at_ret, ◌$◌, ◌∵◌, !, qed, by, move, keep, drop, use0, use1, use2, use3, split, join, fsplit, fjoin, pick, await, regoal, rewrite}
use types.Run.{enter, of_opd, addr, stop, no_more, and_then, first, blocks, exec, returns}
use types.ByLocal.{alloc_all, pass_all, free_all, look_at, get, through, sets, sets_last, lands_as, env}
use denote.Exit.{yes}
use denote.Laws.{Is, shows}
use denote.Builtin.{u8, usize}
use denote.Plain.{uint_Lawful, uint_vals, uint_Tells}
use denote.RattleType.{RattleType}
use denote.RawPtr.{Ptr, RawPtr, block_ptr, lies_at, in_a_block, rawptr_vals, rawptr_Tells}
use denote.Memory.{part_at, mem}
use denote.Ref.{MutRef, mut_vals, mut_Tells}
use denote.Lend.{lends_ref, ref_back}
use denote.Signature.{plain}
use denote.Steps.{nothing, heard, peeks}
use denote.Triple.Call.{calls_at}
use denote.Triple.Clauses.{Lasts, lasts}
use denote.Triple.Spec.{triple_of}
use denote.Triple.Walked.{Stays, walk_of, stay_dropped, gave_ref, Goes-dropped, Goes-gave_ref}
use denote.Triple.Table.{framed}
use Rattle.std.specs.contracts.alloc.Global as heap
use Rattle.live_bus.specs.declared.front.LiveBus.{LiveBus}
use Rattle.live_bus.specs.contracts.front.LiveBus.{the_row as the_bus_row}
use Rattle.rt1553_live.specs.contracts.terminal.Live.{the_row}
use Rattle.rt1553_live.specs.contracts.fault.PlainFault as fault
use Rattle.rt1553_c.proofs.Handle.{heap_val, heap_Tells}
use Rattle.rt1553_c.proofs.Handed.{Made, made_lawful, lies, on_done, on_refused, lies_when_done}
use Rattle.rt1553_c.specs.Told.{TakenAtAll, IsNotTaken, when_done, when_ok}
use Rattle.rt1553_c.specs.declared.TheConstants.{DONE}
use Rattle.rt1553_c.specs.contracts.bus.rt1553_bus_terminal as f
use Rattle.rt1553_c.proofs.bus.rt1553_bus_terminal.Statement.{statement}
use Rattle.rt1553_c.proofs.bus.rt1553_bus_terminal.Code as code
use Rattle.rt1553_c.specs.contracts.bus.made_taken as g
use Rattle.rt1553_c.proofs.bus.made_taken.Met as g_met
use Rattle.rt1553_c.specs.contracts.hand_over as h
use Rattle.rt1553_c.proofs.hand_over.Met as h_met

abbrev stayed : Stays f.ended.signature.params f.ended.kept
stayed = (stay_dropped _ yes, (stay_dropped _ yes, (stay_dropped _ yes, (gave_ref (0 ∷ []) tt (plain (λ _. RawPtr)), (gave_ref (1 ∷ []) tt (plain (λ _. fault.the_row)), tt)))))

pub rt1553_bus_terminal_spec : {M : Type 1} → statement M
rt1553_bus_terminal_spec 𝓤 𝓛 𝓜 𝓡 wired =
    let c = f.clauses 𝓛 𝓜.mem 𝓡.returns in let W = walk_of 𝓛 f.ended stayed c in let 𝓣 = tables 𝓤 𝓛.H 𝓜 𝓡 𝓡.env in
    let R : RattleType = the_bus_row in let F : RattleType = fault.the_row in
    proved 𝓛 f.ended stayed c 𝓜 𝓡 (
      Goes-dropped 𝓛 2 (plain (λ _. heap.the_row)) yes (λ κs x w. refl),
      (
        Goes-dropped 𝓛 2 (plain (λ _. RawPtr)) yes (λ κs x w. refl),
        (
          Goes-dropped 𝓛 2 (plain (λ _. usize)) yes (λ κs x w. refl),
          (Goes-gave_ref 𝓛 2 0 tt (plain (λ _. RawPtr)), (Goes-gave_ref 𝓛 2 1 tt (plain (λ _. F)), tt)),
        ),
      ),
    )
    f.Key.name code.function (code.unfolded 𝓤 𝓛.H 𝓜 𝓡 wired)
    (λ κs. ((λ _. heap_val ∷ []), (rawptr_vals, (uint_vals w64, (mut_vals, (mut_vals, tt))))))
    (λ κs. (heap_Tells, (rawptr_Tells, (uint_Tells w64, (mut_Tells (named 0) κs.0 RawPtr, (mut_Tells (named 1) κs.1.0 F, tt)))))) (λ κs qs bounds a x are.
    let n = a.1.1.0 in let to = a.1.1.1.0 in let why = a.1.1.1.1.0 in
    let fits = ((uint_Lawful 𝓛 w64).typed n (vint w64 n ∷ []) are.1.1.0).0 in
    let y : Ptr → W.Ghost = λ p. ((κs, qs, bounds, (a.0, (p, (n, (to, (why, tt))))), (heap_val ∷ [], (rawptr_vals p, (vint w64 n ∷ [], (mut_vals to, (mut_vals why, tt)))))), x) in
    qed 𝓛 (((‵ (flft κs.0 qs.0) ⊛ ‵ (flft κs.1.0 qs.1.0) ⊛ ‵ ftrue)
    ⊛ ‵ (heap.the_row.own_val a.0 (heap_val ∷ [])) ⊛ ‵ (RawPtr.own_val a.1.0 (rawptr_vals a.1.0)) ⊛ ‵ (usize.own_val n (vint w64 n ∷ []))
    ⊛ ‵ ((MutRef (named 0) κs.0 RawPtr).own_val to (mut_vals to)) ⊛ ‵ ((MutRef (named 1) κs.1.0 F).own_val why (mut_vals why)) ⊛ ‵ ftrue)
    ∷ ‵ (lies_at R full_share a.1.0 x) ∷ []) ∵
    split ! $ split ! $ move ! (1 ∷ []) $ split ! $ move ! (3 ∷ []) $ split ! $ move ! (1 ∷ []) $ split ! $ move ! (1 ∷ []) $ split ! $ move ! (1 ∷ []) $ split ! $ move ! (1 ∷ []) $ split ! $
    keep ! (9 ∷ 8 ∷ 6 ∷ 5 ∷ 2 ∷ 0 ∷ 3 ∷ []) $
    -- [the value; the two tokens; the handle; `to`; `fault`; the place]
    in_a_block ! a.1.0 (λ p. lies_at R full_share p x) (id⊢ 𝓤 _) (λ b o e.
    regoal ! (λ p. prop (WpFn 𝓤 𝓛.H 𝓣.C 𝓣.Λ code.function (W.args (y p)) (W.post (y p)))) e refl $
    enter ! _ _ _ _ _ $ alloc_all ! (λ l. pass_all ! refl ((tt, ((tt, tt), tt)), ((tt, tt), (fits, ((tt, tt), ((tt, tt), tt))))) $
    sets ! (of_opd ! (get ! refl)) refl (tt, tt) $ sets ! (of_opd ! (get ! refl)) refl (tt, tt) $
    sets ! (of_opd ! (get ! refl)) refl (tt, ((tt, tt), tt)) $
    first ! $ blocks ! $ sets_last ! (addr ! (through ! refl (stop !))) refl (tt, tt) $
    exec ! 𝓣.C 𝓣.Λ (env code.Mir.locals l) code.Mir.t-5 (at_ret _ (W.post (y (block_ptr b o)))) $
    sets ! (of_opd ! (get ! refl)) refl (tt, tt) $ sets ! (of_opd ! (get ! refl)) refl fits $ sets ! (addr ! (through ! refl (stop !))) refl (tt, tt) $
    lft_new ! tt (λ α. move ! (1 ∷ []) $
    use1 𝓛 (later (some (λ (δ : ℕ). ‵ ((MutRef (named 0) (α ∷ []) R).own_val (record { ref_ptr = (b, o); ghost_name = δ; now = x }) (vptr b o ∷ [])) ⊛ ‵ (flent (α ∷ []) (Body (mem R) b o δ)))))
    (lends_ref 𝓛 R (named 0) (α ∷ []) x b o) $ await ! tt $ pick ! (λ δ. split ! $
    -- [the loan; what the lender keeps; the token of α; the two tokens; the handle; `to`; `fault`; the place]
    let G = triple_of 𝓛 g.signature (g.spec 𝓛 𝓜.mem 𝓡.returns) in
    let z : G.Ghost = (
      (
        (α ∷ [], (κs.1.0, tt)),
        (full_share, (qs.1.0, tt)),
        tt,
        (a.0, (record { ref_ptr = (b, o); ghost_name = δ; now = x }, (n, (why, tt)))),
        (heap_val ∷ [], (vptr b o ∷ [], (vint w64 n ∷ [], (mut_vals why, tt)))),
      ),
      tt,
    ) in
    nothing ! $ move ! (8 ∷ 0 ∷ []) $ join ! $ move ! (8 ∷ 0 ∷ []) $ join ! $ move ! (1 ∷ 0 ∷ []) $ join ! $ move ! (5 ∷ 0 ∷ []) $ join ! $
    nothing ! $ move ! (5 ∷ 0 ∷ []) $ join ! $ move ! (3 ∷ 0 ∷ []) $ join ! $ join ! $
    nothing ! $ move ! (1 ∷ 0 ∷ []) $ use2 𝓛 (raw (G.pre z)) (id⊢ 𝓤 _) $
    calls_at ! (framed 𝓤 𝓛.H 𝓜 𝓣) G (g_met.met 𝓤 𝓛 𝓜 𝓡 (code.calls-rt1553_c::bus::made_taken 𝓡.env wired)) z
    (and_then ! (get ! refl) (and_then ! (get ! refl) (and_then ! (get ! refl) (and_then ! (get ! refl) (no_more !))))) (λ u.
    use1 𝓛 (later (some (λ (made : Made.Denot). ((‵ (flft (α ∷ []) full_share) ⊛ ‵ (flft κs.1.0 qs.1.0) ⊛ ‵ ftrue) ⊛ ‵ (Made.own_val made (u ∷ []))) ⊛
    some (λ (ws : Lasts g.ended z.0.0 z.0.3). ‵ (lasts g.ended z.0.0 z.0.3 ws) ⊛ raw (fact 𝓤 (ws.1.0 ≡ x))
    ⊛ raw (fact 𝓤 (IfOk made (λ it. TakenAtAll x n it.value × (ws.1.1.1.0 ≡ why.now))))
    ⊛ raw (fact 𝓤 (IfErr made (λ status. (status ≢ DONE) × IsNotTaken x n why.now ws.1.1.1.0 status))))))) (id⊢ 𝓤 _) $
    await ! tt $ pick ! (λ made. split ! $ split ! $ split ! $ lft_end ! tt $ move ! (2 ∷ []) $
    -- [what was made; α is over; a token; what the call ensures; what the lender keeps; a token; `to`]
    peeks ! Made (Is Made) (shows 𝓛 Made) made (u ∷ []) (λ is. lands_as ! refl refl ((made_lawful 𝓛).typed made (u ∷ []) is).0 $
    move ! (3 ∷ []) $ pick ! (λ ws. split ! $ move ! (1 ∷ []) $ split ! $ heard ! _ (λ kept. split ! $ heard ! _ (λ ok. heard ! _ (λ bad.
    fsplit ! $ drop ! $ fsplit ! $ move ! (1 ∷ []) $ fsplit ! $ drop ! $ move ! (1 ∷ []) $ fsplit ! $
    -- [the last value; its borrow; what is said of `fault`; what was made; α is over; a token; what the lender keeps; a token; `to`]
    move ! (4 ∷ 6 ∷ 0 ∷ []) $ use3 𝓛 (later (‵ (part_at R full_share ws.1.0 b o))) (ref_back 𝓛 R (α ∷ []) δ ws.1.0 b o) $ await ! tt $
    rewrite ! 0 (λ (w : LiveBus). ‵ (part_at R full_share w b o)) kept refl $ move ! (1 ∷ []) $ drop ! $
    sets ! (addr ! (through ! refl (stop !))) refl (tt, tt) $
    -- [the value; what is said of `fault`; what was made; a token; a token; `to`]
    let H = triple_of 𝓛 h.signature (h.spec 𝓛 𝓜.mem 𝓡.returns) in
    let k : H.Ghost = (((κs.0, tt), (qs.0, tt), tt, (made, (to, tt)), (u ∷ [], (mut_vals to, tt))), tt) in
    nothing ! $ move ! (6 ∷ 0 ∷ []) $ join ! $ move ! (3 ∷ 0 ∷ []) $ join ! $ nothing ! $ move ! (5 ∷ 0 ∷ []) $ join ! $ join ! $
    nothing ! $ move ! (1 ∷ 0 ∷ []) $ use2 𝓛 (raw (H.pre k)) (id⊢ 𝓤 _) $
    calls_at ! (framed 𝓤 𝓛.H 𝓜 𝓣) H (h_met.met 𝓤 𝓛 𝓜 𝓡 (code.calls-rt1553_c::hand_over 𝓡.env wired)) k
    (and_then ! (get ! refl) (and_then ! (get ! refl) (no_more !))) (λ v.
    use1 𝓛 (later (some (λ (status : ℕ). ((‵ (flft κs.0 qs.0) ⊛ ‵ ftrue) ⊛ ‵ (u8.own_val status (v ∷ []))) ⊛
    some (λ (ls : Lasts h.ended k.0.0 k.0.3). ‵ (lasts h.ended k.0.0 k.0.3 ls) ⊛ ‵ (when_ok made (λ it. lies_at the_row full_share ls.1.0 it.value))
    ⊛ raw (fact 𝓤 (IfOk made (λ _. status ≡ DONE))) ⊛ raw (fact 𝓤 (IfErr made (λ s. (status ≡ s) × (ls.1.0 ≡ to.now)))))))) (id⊢ 𝓤 _) $
    await ! tt $ pick ! (λ status. split ! $ split ! $ move ! (1 ∷ []) $
    peeks ! u8 (Is u8) (shows 𝓛 u8) status (v ∷ []) (λ is'. lands_as ! refl refl ((uint_Lawful 𝓛 w8).typed status _ is').0 $
    -- [the status; a token; what the call ensures; the value; what is said of `fault`; a token]
    move ! (2 ∷ []) $ pick ! (λ ls. split ! $ move ! (1 ∷ []) $ split ! $ move ! (1 ∷ []) $ split ! $ heard ! _ (λ did. heard ! _ (λ same.
    let P = TakenAtAll x n in let E = ws.1.1.1.0 ≡ why.now in let Q = IsNotTaken x n why.now ws.1.1.1.0 in let Same = ls.1.0 ≡ to.now in
    use1 𝓛 (‵ (when_done status (lies ls.1.0 P))) (lies_when_done P E Q Same 𝓛 ls.1.0 status made ok bad did same) $
    move ! (1 ∷ []) $ fsplit ! $ drop ! $ fsplit ! $ move ! (1 ∷ []) $ drop ! $
    returns ! (look_at ! 0 refl) $ free_all ! refl $
    -- [what is said of `to`; what lies there; the status; a token; the value; what is said of `fault`; a token]
    move ! (0 ∷ 5 ∷ []) $ fjoin ! $ nothing ! $ fjoin ! $ nothing ! $ fjoin ! $ nothing ! $ fjoin ! $
    move ! (3 ∷ []) $ split ! $ move ! (0 ∷ 6 ∷ []) $ join ! $ move ! (1 ∷ []) $ drop ! $
    -- [the two tokens; what is said of the two; what lies there; the status; the value]
    let Done_so : Type 0 = status ≡ DONE → ws.1.1.1.0 ≡ why.now in
    let Refused_so : Type 0 = status ≢ DONE → IsNotTaken x n why.now ws.1.1.1.0 status × (ls.1.0 ≡ to.now) in
    use0 𝓛 (raw (fact 𝓤 Refused_so)) (fact_i 𝓤 Refused_so (emp 𝓤) (on_refused P E Q Same status made bad did same)) $
    use0 𝓛 (raw (fact 𝓤 Done_so)) (fact_i 𝓤 Done_so (emp 𝓤) (λ is_done. (on_done P E Q Same status made ok bad same is_done).1.1)) $ join ! $
    move ! (3 ∷ 0 ∷ []) $ join ! $ move ! (4 ∷ 0 ∷ []) $ join ! $ move ! (1 ∷ 2 ∷ 3 ∷ 0 ∷ []) $
    by ! (leaves 𝓛 f.ended stayed c (y (block_ptr b o)) v status (tt, (tt, (tt, (ls.1.0, (ws.1.1.1.0, tt))))) (tt, (tt, (tt, (tt, (tt, tt))))))))))))))))))))))))
