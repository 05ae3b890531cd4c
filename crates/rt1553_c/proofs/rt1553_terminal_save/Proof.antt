-- `rt1553_terminal_save` lends what lies at its pointer to `put_state`, and has it back as it was.
use Rattle.std.proofs.Common.{◌≡◌, ℕ, [], ◌∷◌, refl, w8}
use Rattle.std.specs.Prelude.{◌≢◌, ◌<◌, ◌^◌, length, take}
use Rattle.std.proofs.raw_atomic.Walks.{proved, leaves}
use base.Fraction.{full_share}
use base.Logic.{id⊢}
use base.Fml.{ftrue, flft, flent}
use mir.Syntax.{named}
use mir.Val.{vptr}
use prog.Wp.{WpFn}
use contract.Monad.{fact}
use contract.Running.{tables}
use types.SemTy.{Body}
use types.Tokens.{lft_new, lft_end}
use types.Kit.{‵, raw, ◌⊛◌, some, later, prop, at_ret, ◌$◌, ◌∵◌, !, qed, by, move, keep, drop, use1, use2, use3, split, join, fsplit, fjoin, feq_l, pick, await, regoal, rewrite}
use types.Part.{whole, sub, agg}
use types.Run.{enter, of_opd, addr, stop, fld, hop, from, no_more, and_then, first, blocks, exec, returns}
use types.ByLocal.{alloc_all, pass_all, free_all, look_at, look_in_at, get, get_in, through, sets, sets_last, lands_as, env}
use denote.Exit.{yes}
use denote.Laws.{Is, shows}
use denote.Builtin.{u8, usize}
use denote.Plain.{uint_Lawful}
use denote.RattleType.{RattleType}
use denote.RawPtr.{Ptr, RawPtr, block_ptr, lies_at, in_a_block, rawptr_vals, rawptr_Tells}
use denote.Memory.{part_at, mem}
use denote.Ref.{MutRef, mut_vals, mut_Tells}
use denote.Slice.{MutSlice, mut_slice_vals, mut_slice_Tells}
use denote.Lend.{lends_ref, ref_back}
use denote.Signature.{plain}
use denote.Steps.{nothing, heard, peeks}
use denote.Triple.Call.{calls_at}
use denote.Triple.Clauses.{Lasts, lasts}
use denote.Triple.Spec.{triple_of}
use denote.Triple.Walked.{Stays, walk_of, stay_dropped, gave_ref, gave_slice, Goes-dropped, Goes-gave_ref, Goes-gave_slice}
use denote.Triple.Table.{framed}
use Rattle.std.specs.contracts.alloc.Global as heap
use Rattle.rt1553_live.specs.State.{state_of}
use Rattle.rt1553_live.specs.Text.{StateText}
use Rattle.rt1553_live.specs.declared.terminal.Live.{Live}
use Rattle.rt1553_live.specs.contracts.terminal.Live.{the_row}
use Rattle.rt1553_live.specs.contracts.fault.PlainFault as fault
use Rattle.rt1553_c.proofs.Handle.{heap_val, heap_Tells}
use Rattle.rt1553_c.specs.Told.{IsTold, IsNoMemory, IsLongState}
use Rattle.rt1553_c.specs.declared.TheConstants.{DONE, NO_ROOM}
use Rattle.rt1553_c.specs.contracts.rt1553_terminal_save as f
use Rattle.rt1553_c.proofs.rt1553_terminal_save.Statement.{statement}
use Rattle.rt1553_c.proofs.rt1553_terminal_save.Code as code
use Rattle.rt1553_c.specs.contracts.put_state as g
use Rattle.rt1553_c.proofs.put_state.Met.{met}

abbrev stayed : Stays f.ended.signature.params f.ended.kept
stayed = (stay_dropped _ yes, (stay_dropped _ yes, (gave_slice (0 ∷ []) tt (plain (λ _. u8)), (gave_ref (1 ∷ []) tt (plain (λ _. usize)), (gave_ref (2 ∷ []) tt (plain (λ _. fault.the_row)), tt)))))

pub rt1553_terminal_save_spec : {M : Type 1} → statement M
rt1553_terminal_save_spec 𝓤 𝓛 𝓜 𝓡 wired =
    let c = f.clauses 𝓛 𝓜.mem 𝓡.returns in let W = walk_of 𝓛 f.ended stayed c in let 𝓣 = tables 𝓤 𝓛.H 𝓜 𝓡 𝓡.env in
    let R : RattleType = the_row in let F : RattleType = fault.the_row in
    proved 𝓛 f.ended stayed c 𝓜 𝓡 (
      Goes-dropped 𝓛 3 (plain (λ _. heap.the_row)) yes (λ κs x w. refl),
      (
        Goes-dropped 𝓛 3 (plain (λ _. RawPtr)) yes (λ κs x w. refl),
        (Goes-gave_slice 𝓛 3 0 tt (plain (λ _. u8)), (Goes-gave_ref 𝓛 3 1 tt (plain (λ _. usize)), (Goes-gave_ref 𝓛 3 2 tt (plain (λ _. F)), tt))),
      ),
    )
    f.Key.name code.function (code.unfolded 𝓤 𝓛.H 𝓜 𝓡 wired)
    (λ κs. ((λ _. heap_val ∷ []), (rawptr_vals, (mut_slice_vals, (mut_vals, (mut_vals, tt))))))
    (λ κs. (heap_Tells, (rawptr_Tells, (mut_slice_Tells (named 0) κs.0 u8, (mut_Tells (named 1) κs.1.0 usize, (mut_Tells (named 2) κs.1.1.0 F, tt)))))) (λ κs qs bounds a x are.
    let to = a.1.1.0 in let filled = a.1.1.1.0 in let why = a.1.1.1.1.0 in
    let count : length to.now < 2 ^ 64 = are.1.1.0.0.1.0 in
    let y : Ptr → W.Ghost = λ p. ((κs, qs, bounds, (a.0, (p, (to, (filled, (why, tt))))), (heap_val ∷ [], (rawptr_vals p, (mut_slice_vals to, (mut_vals filled, (mut_vals why, tt)))))), x) in
    qed 𝓛 (((‵ (flft κs.0 qs.0) ⊛ ‵ (flft κs.1.0 qs.1.0) ⊛ ‵ (flft κs.1.1.0 qs.1.1.0) ⊛ ‵ ftrue)
    ⊛ ‵ (heap.the_row.own_val a.0 (heap_val ∷ [])) ⊛ ‵ (RawPtr.own_val a.1.0 (rawptr_vals a.1.0))
    ⊛ ‵ ((MutSlice (named 0) κs.0 u8).own_val to (mut_slice_vals to)) ⊛ ‵ ((MutRef (named 1) κs.1.0 usize).own_val filled (mut_vals filled))
    ⊛ ‵ ((MutRef (named 2) κs.1.1.0 F).own_val why (mut_vals why)) ⊛ ‵ ftrue)
    ∷ ‵ (lies_at R full_share a.1.0 x) ∷ []) ∵
    split ! $ split ! $ move ! (1 ∷ []) $ split ! $ move ! (1 ∷ []) $ split ! $ move ! (4 ∷ []) $
    split ! $ move ! (1 ∷ []) $ split ! $ move ! (1 ∷ []) $ split ! $ move ! (1 ∷ []) $ split ! $ move ! (1 ∷ []) $ split ! $
    -- [`fault`; nothing; `filled`; `to`; the pointer; the handle; the third token; nothing; the second token; the first token; the value]
    keep ! (10 ∷ 9 ∷ 8 ∷ 6 ∷ 5 ∷ 3 ∷ 2 ∷ 0 ∷ []) $
    -- [the value; the three tokens; the handle; `to`; `filled`; `fault`]
    in_a_block ! a.1.0 (λ p. lies_at R full_share p x) (id⊢ 𝓤 _) (λ b o e.
    regoal ! (λ p. prop (WpFn 𝓤 𝓛.H 𝓣.C 𝓣.Λ code.function (W.args (y p)) (W.post (y p)))) e refl $
    enter ! _ _ _ _ _ $ alloc_all ! (λ l. pass_all ! refl ((tt, ((tt, tt), tt)), ((tt, tt), ((tt, (tt, (record { fits = count }, tt))), ((tt, tt), ((tt, tt), tt))))) $
    sets ! (of_opd ! (get ! refl)) refl (tt, tt) $ sets ! (of_opd ! (get ! refl)) refl (tt, tt) $
    sets ! (of_opd ! (get ! refl)) refl (tt, ((tt, tt), tt)) $
    first ! $ blocks ! $ sets_last ! (addr ! (through ! refl (stop !))) refl (tt, tt) $
    exec ! 𝓣.C 𝓣.Λ (env code.Mir.locals l) code.Mir.t-5 (at_ret _ (W.post (y (block_ptr b o)))) $
    sets ! (of_opd ! (get ! refl)) refl (tt, tt) $
    sets ! (addr ! (from ! (fld ! refl (hop ! (look_in_at ! 3 (sub ! 0 refl (whole !))) (stop !))))) refl (tt, tt) $
    sets ! (agg ! (and_then ! (get ! refl) (and_then ! (get_in ! (fld ! refl (stop !)) (sub ! 1 refl (whole !))) (no_more !)))) refl (tt, (tt, (record { fits = count }, tt))) $
    sets ! (addr ! (through ! refl (stop !))) refl (tt, tt) $ sets ! (addr ! (through ! refl (stop !))) refl (tt, tt) $
    lft_new ! tt (λ α. move ! (1 ∷ []) $
    use1 𝓛 (later (some (λ (δ : ℕ). ‵ ((MutRef (named 0) (α ∷ []) R).own_val (record { ref_ptr = (b, o); ghost_name = δ; now = x }) (vptr b o ∷ [])) ⊛ ‵ (flent (α ∷ []) (Body (mem R) b o δ)))))
    (lends_ref 𝓛 R (named 0) (α ∷ []) x b o) $ await ! tt $ pick ! (λ δ. split ! $
    -- [the loan; what the lender keeps; the token of α; the three tokens; the handle; `to`; `filled`; `fault`]
    let G = triple_of 𝓛 g.signature (g.spec 𝓛 𝓜.mem 𝓡.returns) in
    let z : G.Ghost = (
      (
        (α ∷ [], (κs.0, (κs.1.0, (κs.1.1.0, tt)))),
        (full_share, (qs.0, (qs.1.0, (qs.1.1.0, tt)))),
        tt,
        (a.0, (record { ref_ptr = (b, o); ghost_name = δ; now = x }, (to, (filled, (why, tt))))),
        (heap_val ∷ [], (vptr b o ∷ [], (mut_slice_vals to, (mut_vals filled, (mut_vals why, tt))))),
      ),
      tt,
    ) in
    nothing ! $ move ! (10 ∷ 0 ∷ []) $ join ! $ move ! (9 ∷ 0 ∷ []) $ join ! $ move ! (8 ∷ 0 ∷ []) $ join ! $ move ! (1 ∷ 0 ∷ []) $ join ! $ move ! (6 ∷ 0 ∷ []) $ join ! $
    nothing ! $ move ! (6 ∷ 0 ∷ []) $ join ! $ move ! (5 ∷ 0 ∷ []) $ join ! $ move ! (4 ∷ 0 ∷ []) $ join ! $ move ! (3 ∷ 0 ∷ []) $ join ! $ join ! $
    nothing ! $ move ! (1 ∷ 0 ∷ []) $ use2 𝓛 (raw (G.pre z)) (id⊢ 𝓤 _) $
    calls_at ! (framed 𝓤 𝓛.H 𝓜 𝓣) G (met 𝓤 𝓛 𝓜 𝓡 (code.calls-rt1553_c::put_state 𝓡.env wired)) z
    (and_then ! (get ! refl) (and_then ! (get ! refl) (and_then ! (get ! refl) (and_then ! (get ! refl) (and_then ! (get ! refl) (no_more !)))))) (λ v.
    use1 𝓛 (later (some (λ (r : ℕ). ((‵ (flft (α ∷ []) full_share) ⊛ ‵ (flft κs.0 qs.0) ⊛ ‵ (flft κs.1.0 qs.1.0) ⊛ ‵ (flft κs.1.1.0 qs.1.1.0) ⊛ ‵ ftrue) ⊛ ‵ (u8.own_val r (v ∷ []))) ⊛
    some (λ (ws : Lasts g.ended z.0.0 z.0.3). ‵ (lasts g.ended z.0.0 z.0.3 ws) ⊛ raw (fact 𝓤 (ws.1.0 ≡ x))
    ⊛ raw (fact 𝓤 (r ≡ DONE → StateText (state_of x.terminal) (take ws.1.1.1.0 ws.1.1.0) × (ws.1.1.1.1.0 ≡ why.now)))
    ⊛ raw (fact 𝓤 (r ≡ NO_ROOM → IsLongState (state_of x.terminal) ws.1.1.1.0 (length to.now) × (ws.1.1.0 ≡ to.now) × (ws.1.1.1.1.0 ≡ why.now)))
    ⊛ raw (fact 𝓤 (r ≡ NO_ROOM → length to.now < 13028))
    ⊛ raw (fact 𝓤 (r ≢ DONE → r ≢ NO_ROOM → IsTold IsNoMemory ws.1.1.1.1.0 r × (ws.1.1.0 ≡ to.now) × (ws.1.1.1.0 ≡ 0))))))) (id⊢ 𝓤 _) $
    await ! tt $ pick ! (λ r. split ! $ split ! $ split ! $ lft_end ! tt $ move ! (2 ∷ []) $
    -- [the result; α is over; the three tokens; what the call ensures; what the lender keeps]
    peeks ! u8 (Is u8) (shows 𝓛 u8) r (v ∷ []) (λ is. lands_as ! refl refl ((uint_Lawful 𝓛 w8).typed r _ is).0 $
    move ! (3 ∷ []) $ pick ! (λ ws. split ! $ move ! (1 ∷ []) $ split ! $ heard ! _ (λ same. move ! (1 ∷ []) $
    fsplit ! $ drop ! $ fsplit ! $ fsplit ! $
    -- [the last value; its borrow; what is said of the other three; the other facts; the result; α is over; the three tokens; what the lender keeps]
    move ! (5 ∷ 7 ∷ 0 ∷ []) $ use3 𝓛 (later (‵ (part_at R full_share ws.1.0 b o))) (ref_back 𝓛 R (α ∷ []) δ ws.1.0 b o) $ await ! tt $
    rewrite ! 0 (λ (w : Live). ‵ (part_at R full_share w b o)) same refl $
    returns ! (look_at ! 0 refl) $ free_all ! refl $ keep ! (2 ∷ 5 ∷ 4 ∷ 0 ∷ 3 ∷ []) $
    -- [what is said of the three; the three tokens; the result; the value; the facts]
    fsplit ! $ fsplit ! $ fsplit ! $ move ! (1 ∷ []) $ feq_l ! (λ long. fjoin ! $ fjoin ! $
    nothing ! $ fjoin ! $ nothing ! $ fjoin ! $ move ! (3 ∷ 4 ∷ []) $ join ! $ move ! (2 ∷ 1 ∷ 3 ∷ 0 ∷ []) $
    by ! (leaves 𝓛 f.ended stayed c (y (block_ptr b o)) v r (tt, (tt, (ws.1.1.0, (ws.1.1.1.0, (ws.1.1.1.1.0, tt))))) (tt, (tt, (long, (tt, (tt, tt)))))))))))))))))
