-- `put_bus` gives up its box, stores its address, and ensures what lies there.
use Rattle.std.proofs.Common.{List, [], ◌∷◌, refl, sym, ap, subst}
use mathlib.Core.List.{◌++◌}
use Rattle.std.proofs.raw_atomic.Walks.{proved_at, leaves}
use base.Fraction.{full_share, left, right}
use base.Logic.{SProp, ent, emp, id⊢}
use base.Fml.{ftrue, flft}
use mir.Raw.{raw as bare}
use mir.Syntax.{Dict, named, impl, tcons, tnil, dnil}
use mir.Val.{Val, vptr, vunit}
use prog.Wp.{WpFn}
use contract.BorrowLft.{◌⊑◌, ⊑_static}
use contract.Monad.{fact, fact_i}
use contract.Running.{tables}
use types.Kit.{‵, raw, ◌⊛◌, some, later, prop, Sq, ◌$◌, ◌∵◌, !, qed, by, move, keep, drop, use0, use1, use2, split, join, fsplit, fsplit3, fjoin, feq_i, feq_l, pick, await, suffices, rewrite}
use types.Run.{enter, of_opd, unit_lit, store, stop, no_more, and_then, assigns, returns}
use types.ByLocal.{alloc_all, pass_all, free_all, look_at, get, through, sets, lands_as}
use denote.Exit.{yes, no, rest}
use denote.RattleType.{RattleType}
use denote.RawPtr.{Ptr, RawPtr, ptr_val, rawptr_Lawful}
use denote.Memory.{lone, cell_at}
use denote.Param.{layout, arg}
use denote.Param.Laws.{Laws, arg_laws}
use denote.Param.NoDrop as no_drop
use denote.Param.Steps.{one_value}
use denote.Ref.{MutRef}
use denote.Signature.{plain}
use denote.Steps.{nothing, only, opens, closes}
use denote.Triple.Call.{calls_at}
use denote.Triple.Clauses.{Lasts, lasts}
use denote.Triple.Spec.{triple_of}
use denote.Triple.Walked.{Stays, walk_of, stay_dropped, stay_ref, Goes-ref}
use denote.Triple.Table.{framed}
use Rattle.std.proofs.alloc.Calls.{Goes-blank}
use Rattle.std.specs.Box.Ownership.{box_owns}
use Rattle.std.specs.contracts.alloc.Global as heap
use Rattle.std.proofs.alloc.Global.TheLaws as heap_laws
use Rattle.std.specs.contracts.impls.GlobalAllocator.TheImpl.{ghosts, dict}
use Rattle.std.proofs.impls.GlobalAllocator.TheImpl.Met as heap_met
use Rattle.std.proofs.boxed.Box.TheLaws as box_laws
use Rattle.std.specs.contracts.boxed.Box.into_raw as g
use Rattle.std.proofs.boxed.Box.into_raw.Met.{met}
use Rattle.live_bus.specs.contracts.front.LiveBus.{the_row}
use Rattle.live_bus.proofs.front.LiveBus.TheLaws.{the_row_laws}
use Rattle.rt1553_c.proofs.HandedBus.{Boxed as B}
use Rattle.rt1553_c.proofs.Destruct++none.drop.Code as forgotten
use Rattle.rt1553_c.specs.contracts.bus.put_bus as f
use Rattle.rt1553_c.proofs.bus.put_bus.Statement.{statement}
use Rattle.rt1553_c.proofs.bus.put_bus.Code as code

-- the bus and the handle, as the call passes them
abbrev X : RattleType
X = arg (bare (layout the_row)) no the_row

abbrev Z : RattleType
Z = arg (bare (layout heap.the_row)) no heap.the_row

X_laws : Laws X
X_laws = arg_laws (bare (layout the_row)) no the_row the_row_laws refl

Z_laws : Laws Z
Z_laws = arg_laws (bare (layout heap.the_row)) no heap.the_row heap_laws.the_row_laws refl

-- both are forgotten, never dropped
abbrev none : RattleType → Dict
none R = impl ("rt1553_c::Destruct++none::drop" ∷ []) (tcons (layout R) tnil) dnil

abbrev stayed : Stays f.ended.signature.params f.ended.kept
stayed = (stay_dropped (plain (λ _. B)) yes, (stay_ref (0 ∷ []) tt (plain (λ _. RawPtr)), tt))

pub put_bus_spec : {M : Type 1} → statement M
unfolding forgotten.code
put_bus_spec {M} 𝓤 𝓛 𝓜 𝓡 wired =
    let c = f.clauses 𝓛 𝓜.mem 𝓡.returns in let W = walk_of 𝓛 f.ended stayed c in let 𝓣 = tables 𝓤 𝓛.H 𝓜 𝓡 𝓡.env in
    let R : RattleType = the_row in
    proved_at 𝓛 f.ended stayed c 𝓜 𝓡 (Goes-blank 𝓛 1 (plain (λ _. B)) yes (λ κs x w. tt), (Goes-ref 𝓛 1 0 tt (plain (λ _. RawPtr)), tt))
    f.Key.name code.function (code.unfolded 𝓤 𝓛.H 𝓜 𝓡 wired) (λ z are.
    let κ = z.0.0.0 in let q = z.0.1.0 in let live = z.0.3.0 in let to = z.0.3.1.0 in let b = to.ref_ptr.0 in let o = to.ref_ptr.1 in let us = z.0.4.1.0 in
    let Post : Val → SProp 𝓤 = W.post z in let Run : List Val → SProp 𝓤 = λ ws. WpFn 𝓤 𝓛.H 𝓣.C 𝓣.Λ code.function ws Post in
    qed 𝓛 (((‵ (flft κ q) ⊛ ‵ ftrue) ⊛ ‵ (B.own_val live z.0.4.0) ⊛ ‵ ((MutRef (named 0) κ RawPtr).own_val to us) ⊛ ‵ ftrue) ∷ ‵ ftrue ∷ []) ∵
    split ! $ split ! $ move ! (2 ∷ []) $ split ! $ move ! (1 ∷ []) $ split ! $ keep ! (2 ∷ 0 ∷ 3 ∷ []) $
    -- [the box; `to`; the token]
    one_value (lone B.mir) (λ ws. Sq 𝓛 (‵ (B.own_val live ws) ∷ ‵ ((MutRef (named 0) κ RawPtr).own_val to us) ∷ ‵ (flft κ q) ∷ []) (prop (Run (ws ++ (us ++ [])))))
    z.0.4.0 (((box_laws.the_field_loose R heap.the_row ghosts the_row_laws heap_laws.the_row_laws).lawful 𝓛).typed live z.0.4.0 are.0) (λ v good.
    suffices ! (Run (v ∷ vptr b o ∷ [])) (subst (λ (ws : List Val). ent 𝓤 (Run (v ∷ vptr b o ∷ [])) (Run ws)) (sym (λ i. v ∷ (are.1.0.0 i ++ []))) (id⊢ 𝓤 (Run (v ∷ vptr b o ∷ [])))) $
    enter ! _ _ _ _ _ $ alloc_all ! (λ l. pass_all ! refl (good, ((tt, tt), tt)) $
    sets ! (of_opd ! (get ! refl)) refl good $
    move ! (2 ∷ []) $ use1 𝓛 (‵ (flft κ (left q)) ⊛ ‵ (flft κ (right q))) (𝓛.lfts.lft_split κ q) $ split ! $
    -- [the token's two halves; the box; `to`]
    let G = triple_of 𝓛 (g.signature X Z ghosts dict (none Z) (none X)) (g.spec X Z ghosts dict (none Z) (none X) 𝓛 𝓜.mem 𝓡.returns) in
    let En = g.ended X Z ghosts dict (none Z) (none X) in
    let y : G.Ghost = (((κ, (κ, tt)), (left q, (right q, tt)), tt, (live, tt), (v ∷ [], tt)), tt) in
    nothing ! $ move ! (3 ∷ 0 ∷ []) $ join ! $ nothing ! $ move ! (3 ∷ 0 ∷ []) $ join ! $ move ! (2 ∷ 0 ∷ []) $ join ! $ join ! $
    nothing ! $ use0 𝓛 (raw (fact 𝓤 (κ ⊑ Z.lives))) (fact_i 𝓤 (κ ⊑ Z.lives) (emp 𝓤) (⊑_static κ)) $ join ! $
    use0 𝓛 (raw (fact 𝓤 (κ ⊑ X.lives))) (fact_i 𝓤 (κ ⊑ X.lives) (emp 𝓤) (⊑_static κ)) $ join ! $
    move ! (1 ∷ 0 ∷ []) $ use2 𝓛 (raw (G.pre y)) (id⊢ 𝓤 _) $
    calls_at ! (framed 𝓤 𝓛.H 𝓜 𝓣) G (
    met 𝓤 𝓛 𝓜 𝓡 (code.calls-std_alloc::boxed::Box::into_raw 𝓡.env wired) X Z X_laws Z_laws ghosts dict (none Z) (none X)
    (
    heap_met.passed 𝓡.env (code.calls-std_heap::GlobalAllocator::allocate 𝓡.env wired) (code.calls-std_heap::GlobalAllocator::deallocate 𝓡.env wired)
    (code.calls-std_heap::GlobalAllocator::grow 𝓡.env wired) (code.calls-std_heap::GlobalAllocator::shrink 𝓡.env wired) M 𝓤 𝓛 𝓜 𝓡
    )
    (no_drop.glues "rt1553_c::Destruct++none::drop" 𝓡.env (code.calls-rt1553_c::Destruct++none::drop 𝓡.env wired) Z Z_laws M 𝓤 𝓛 𝓜 𝓡)
    (no_drop.glues "rt1553_c::Destruct++none::drop" 𝓡.env (code.calls-rt1553_c::Destruct++none::drop 𝓡.env wired) X X_laws M 𝓤 𝓛 𝓜 𝓡)
    ) y (and_then ! (get ! refl) (no_more !)) (λ u.
    use1 𝓛 (later (some (λ (r : Ptr). ((‵ (flft κ (left q)) ⊛ ‵ (flft κ (right q)) ⊛ ‵ ftrue) ⊛ ‵ (RawPtr.own_val r (u ∷ []))) ⊛
    some (λ (ws : Lasts En y.0.0 y.0.3). ‵ (lasts En y.0.0 y.0.3 ws) ⊛ ‵ (box_owns (ghosts.dealloc_token live.alloc) R r live.value))))) (id⊢ 𝓤 _) $
    await ! tt $ pick ! (λ r. split ! $ split ! $ move ! (1 ∷ []) $ feq_l ! (λ e. let typed = ((rawptr_Lawful 𝓛).typed r _ refl).0 in
    lands_as ! (ap only e) refl typed $
    split ! $ move ! (1 ∷ []) $ split ! $ move ! (2 ∷ 0 ∷ []) $ use2 𝓛 (‵ (flft κ q)) (𝓛.lfts.lft_join κ q) $
    -- [the token; nothing; what the call ensures; `to`]
    move ! (2 ∷ []) $ pick ! (λ ws. split ! $ drop ! $ fsplit ! $ move ! (1 ∷ []) $ drop ! $ move ! (2 ∷ []) $ drop ! $
    -- [what lies there; the token; `to`]
    sets ! (of_opd ! (get ! refl)) refl typed $
    move ! (2 ∷ []) $ fsplit3 ! $ move ! (1 ∷ 2 ∷ 4 ∷ []) $ opens ! tt RawPtr b o (λ ws'. move ! (1 ∷ []) $ feq_l ! (λ e'.
    rewrite ! 0 (λ (ws : List Val). ‵ (cell_at full_share RawPtr.mir ws b o)) e' refl $
    assigns ! (of_opd ! (get ! refl)) (through ! refl (stop !)) (store ! 0 refl typed) $
    sets ! (of_opd ! (unit_lit !)) refl (tt, tt) $
    feq_i ! (List Val) (ptr_val r ∷ []) (ptr_val r ∷ []) refl $ move ! (1 ∷ 0 ∷ []) $ closes ! tt RawPtr r (ptr_val r ∷ []) b o $
    -- [two parts of `to`; the token; `to`'s first part; what lies there]
    returns ! (look_at ! 0 refl) $ free_all ! refl $
    fjoin ! $ move ! (2 ∷ 0 ∷ []) $ fjoin ! $ nothing ! $ move ! (1 ∷ 0 ∷ []) $ fjoin ! $ nothing ! $ fjoin ! $
    nothing ! $ move ! (2 ∷ 0 ∷ []) $ join ! $ feq_i ! (List Val) (vunit ∷ []) (vunit ∷ []) refl $ move ! (1 ∷ 2 ∷ 0 ∷ []) $
    by ! (leaves 𝓛 f.ended stayed c z vunit tt (rest (B.exit yes) live, (r, tt)) (tt, (tt, tt))))))))))))
