-- `hand_over_bus` has `put_bus` hand over the bus that was made, or gives the status.
use Rattle.std.proofs.Common.{◌≡◌, ℕ, List, [], ◌∷◌, refl, sym, ap, subst, lit<, w8, ◌<◌, ◌^◌, Ok, Err, MutBor}
use mathlib.Core.List.{◌++◌}
use Rattle.std.proofs.raw_atomic.Walks.{proved_at, leaves}
use seplogic.Ra.Ura.{Ura}
use lib.Dec.{T}
use base.Fraction.{full_share}
use base.Logic.{SProp, emp, id⊢}
use base.Fml.{Lft, Share, ftrue, flft, fres}
use mir.Syntax.{named}
use mir.Val.{Val, vptr, vint, vcons, vnil, of_list, has_ty, WT}
use prog.Model.{Model}
use prog.Wired.{Wired}
use prog.Wp.{Env, Wp, WpFn, after_seq, at_return}
use contract.Monad.{fact, fact_i}
use contract.Running.{Running, MachineTables, tables}
use types.Logic.{Logic}
use types.Kit.{‵, raw, ◌⊛◌, some, later, prop, any_q, at_ret, Sq, Post, ◌$◌, ◌∵◌, !, qed, by, move, keep, drop, use0, use1, use2, split, join, fsplit, fsplit3, fjoin, fpick, feq_l, flt_l, pick, await}
use types.Match.{live, vrt, in_variant}
use types.Part.{whole}
use types.Run.{enter, of_opd, lit, addr, stop, fld, no_more, and_then, first, switches_on, exec, returns}
use types.ByLocal.{alloc_all, pass_all, free_all, look_at, get, get_in, get_tag, through, sets, sets_last, lands_as, env}
use denote.Exit.{yes, rest, Last, left}
use denote.Laws.{Is, Typed, shows}
use denote.Builtin.{u8, unit}
use denote.Param.Mute.{blank}
use denote.Param.Steps.{one_value}
use denote.Plain.{uint_Makes}
use denote.RawPtr.{Ptr, RawPtr, lies_at}
use denote.Memory.{lone}
use denote.Ref.{MutRef}
use denote.Signature.{plain}
use denote.Steps.{nothing, only, owned, peeks}
use denote.Triple.Call.{calls_at}
use denote.Triple.Clauses.{Clauses, Lasts, lasts}
use denote.Triple.Spec.{triple_of}
use denote.Triple.Walked.{Stays, walk_of, stay_dropped, gave_ref, Goes-gave_ref}
use denote.Triple.Table.{framed}
use Rattle.std.proofs.alloc.Calls.{Goes-blank}
use Rattle.std.proofs.VecSteps.Shapes.{arm_body}
use Rattle.std.specs.contracts.alloc.Global as heap
use Rattle.std.proofs.alloc.Global.TheLaws as heap_laws
use Rattle.std.specs.contracts.impls.GlobalAllocator.TheImpl.{ghosts}
use Rattle.std.proofs.boxed.Box.TheLaws as box_laws
use Rattle.live_bus.specs.contracts.front.LiveBus.{the_row}
use Rattle.live_bus.proofs.front.LiveBus.TheLaws.{the_row_laws}
use Rattle.rt1553_c.proofs.HandedBus.{Boxed as B, Made, made_lawful}
use Rattle.rt1553_c.specs.declared.TheConstants.{DONE}
use Rattle.rt1553_c.specs.contracts.bus.hand_over_bus as f
use Rattle.rt1553_c.proofs.bus.hand_over_bus.Statement.{statement}
use Rattle.rt1553_c.proofs.bus.hand_over_bus.Code as code
use Rattle.rt1553_c.specs.contracts.bus.put_bus as g
use Rattle.rt1553_c.proofs.bus.put_bus.Met.{met}

abbrev stayed : Stays f.ended.signature.params f.ended.kept
stayed = (stay_dropped (plain (λ _. Made)) yes, (gave_ref (0 ∷ []) tt (plain (λ _. RawPtr)), tt))

silent : (made : Made.Denot) (w : Last (Made.exit yes) made) → T (blank (left (Made.exit yes) made w))
silent (Ok it) w = tt
silent (Err status) w = tt

module _ {M : Type 1} (𝓤 : Ura M) (𝓛 : Logic 𝓤) (𝓜 : Model 𝓤 𝓛.H) (𝓡 : Running 𝓤 𝓛.H 𝓜) (wired : Wired 𝓡.env code.code)
    (κ : Lft) (q : Share) (to : MutBor Ptr) where
  abbrev 𝓣 : MachineTables 𝓤 𝓛.H 𝓜
  𝓣 = tables 𝓤 𝓛.H 𝓜 𝓡 𝓡.env

  abbrev c : Clauses 𝓤 f.ended
  c = f.clauses 𝓛 𝓜.mem 𝓡.returns

  abbrev b : ℕ
  b = to.ref_ptr.0

  abbrev o : ℕ
  o = to.ref_ptr.1

  abbrev y : Made.Denot → List Val → List Val → (walk_of 𝓛 f.ended stayed c).Ghost
  y made us vs = (((κ, tt), (q, tt), tt, (made, (to, tt)), (us, (vs, tt))), tt)

  abbrev Ends : Made.Denot → List Val → List Val → Val → SProp 𝓤
  Ends made us vs = (walk_of 𝓛 f.ended stayed c).post (y made us vs)

  abbrev Goes : Made.Denot → List Val → List Val → Type 1
  Goes made us vs = Sq 𝓛 (‵ (Made.own_val made us) ∷ ‵ ((MutRef (named 0) κ RawPtr).own_val to vs) ∷ ‵ (flft κ q) ∷ [])
      (prop (WpFn 𝓤 𝓛.H 𝓣.C 𝓣.Λ code.function (us ++ (vs ++ [])) (Ends made us vs)))

  ok_walk : (it : B.Denot) (v : Val) → T (has_ty (lone B.mir) v) × WT v → T (has_ty (lone Made.mir) (live 0 (vcons v vnil))) × WT (live 0 (vcons v vnil))
      → Sq 𝓛 (‵ (B.own_val it (v ∷ [])) ∷ ‵ ((MutRef (named 0) κ RawPtr).own_val to (vptr b o ∷ [])) ∷ ‵ (flft κ q) ∷ [])
      (prop (WpFn 𝓤 𝓛.H 𝓣.C 𝓣.Λ code.function (live 0 (vcons v vnil) ∷ vptr b o ∷ []) (Ends (Ok it) (live 0 (vcons v vnil) ∷ []) (vptr b o ∷ []))))
  ok_walk it v good typed =
      let Kf : Val → SProp 𝓤 = Ends (Ok it) (live 0 (vcons v vnil) ∷ []) (vptr b o ∷ []) in
      enter ! _ _ _ _ _ $ alloc_all ! (λ l. pass_all ! refl (typed, ((tt, tt), tt)) $
      let En : Env 𝓤 𝓛.H = env code.Mir.locals l in
      let Then : Post 𝓤 𝓛.H = any_q (after_seq 𝓤 𝓛.H (Wp 𝓤 𝓛.H 𝓣.C 𝓣.Λ En code.Mir.t-2 (at_return 𝓤 𝓛.H En Kf)) (at_return 𝓤 𝓛.H En Kf)) in
      first ! $ switches_on ! (get_tag ! (vrt ! refl (fld ! refl (stop !))) (whole !)) $ exec ! 𝓣.C 𝓣.Λ En (arm_body 0 code.Mir.s-1) Then $
      sets ! (of_opd ! (get_in ! (vrt ! refl (fld ! refl (stop !))) (in_variant ! 0 0 refl refl (whole !)))) refl good $
      sets ! (of_opd ! (get ! refl)) refl good $
      sets ! (addr ! (through ! refl (stop !))) refl (tt, tt) $
      let G = triple_of 𝓛 g.signature (g.spec 𝓛 𝓜.mem 𝓡.returns) in
      let z : G.Ghost = (((κ, tt), (q, tt), tt, (it, (to, tt)), (v ∷ [], (vptr b o ∷ [], tt))), tt) in
      nothing ! $ move ! (2 ∷ 0 ∷ []) $ join ! $ move ! (1 ∷ 0 ∷ []) $ join ! $ nothing ! $ move ! (2 ∷ 0 ∷ []) $ join ! $ join ! $
      nothing ! $ move ! (1 ∷ 0 ∷ []) $ use2 𝓛 (raw (G.pre z)) (id⊢ 𝓤 _) $
      calls_at ! (framed 𝓤 𝓛.H 𝓜 𝓣) G (met 𝓤 𝓛 𝓜 𝓡 (code.calls-rt1553_c::bus::put_bus 𝓡.env wired)) z
      (and_then ! (get ! refl) (and_then ! (get ! refl) (no_more !))) (λ u.
      use1 𝓛 (later (some (λ (r : Unit {0}). ((‵ (flft κ q) ⊛ ‵ ftrue) ⊛ ‵ (unit.own_val r (u ∷ []))) ⊛
      some (λ (ws : Lasts g.ended z.0.0 z.0.3). ‵ (lasts g.ended z.0.0 z.0.3 ws) ⊛ ‵ (lies_at the_row full_share ws.1.0 it.value))))) (id⊢ 𝓤 _) $
      await ! tt $ pick ! (λ r. split ! $ split ! $ move ! (1 ∷ []) $ feq_l ! (λ is_unit. lands_as ! (ap only is_unit) refl (tt, tt) $
      -- [the token; what the call ensures]
      move ! (1 ∷ []) $ pick ! (λ ws. split ! $ fsplit ! $ drop ! $
      sets_last ! (of_opd ! (lit ! tt)) refl (tt, record { fits = lit< tt }) $
      exec ! 𝓣.C 𝓣.Λ En code.Mir.t-2 (at_ret En Kf) $
      sets ! (of_opd ! (get ! refl)) refl (tt, record { fits = lit< tt }) $
      returns ! (look_at ! 0 refl) $ free_all ! refl $
      -- [what is said of `to`; what lies there; the token]
      nothing ! $ fjoin ! $ owned ! u8 _ (uint_Makes 𝓛 w8) 0 _ (refl, lit< tt) $
      use0 𝓛 (raw (fact 𝓤 (Unit {0}))) (fact_i 𝓤 (Unit {0}) (emp 𝓤) tt) $ use0 𝓛 (raw (fact 𝓤 (0 ≡ DONE))) (fact_i 𝓤 (0 ≡ DONE) (emp 𝓤) refl) $ join ! $
      move ! (3 ∷ 0 ∷ []) $ join ! $ move ! (3 ∷ 2 ∷ 1 ∷ 0 ∷ []) $
      by ! (leaves 𝓛 f.ended stayed c (y (Ok it) (live 0 (vcons v vnil) ∷ []) (vptr b o ∷ [])) (vint w8 0) 0 (rest (Made.exit yes) (Ok it), (ws.1.0, tt)) (tt, (tt, tt))))))))

  err_walk : (status : ℕ) → status < 2 ^ 8 → T (has_ty (lone Made.mir) (live 1 (vcons (vint w8 status) vnil))) × WT (live 1 (vcons (vint w8 status) vnil))
      → Sq 𝓛 (‵ ((MutRef (named 0) κ RawPtr).own_val to (vptr b o ∷ [])) ∷ ‵ (flft κ q) ∷ [])
      (prop (WpFn 𝓤 𝓛.H 𝓣.C 𝓣.Λ code.function (live 1 (vcons (vint w8 status) vnil) ∷ vptr b o ∷ []) (Ends (Err status) (live 1 (vcons (vint w8 status) vnil) ∷ []) (vptr b o ∷ []))))
  err_walk status small typed =
      let us : List Val = live 1 (vcons (vint w8 status) vnil) ∷ [] in let Kf : Val → SProp 𝓤 = Ends (Err status) us (vptr b o ∷ []) in
      enter ! _ _ _ _ _ $ alloc_all ! (λ l. pass_all ! refl (typed, ((tt, tt), tt)) $
      let En : Env 𝓤 𝓛.H = env code.Mir.locals l in
      let Then : Post 𝓤 𝓛.H = any_q (after_seq 𝓤 𝓛.H (Wp 𝓤 𝓛.H 𝓣.C 𝓣.Λ En code.Mir.t-2 (at_return 𝓤 𝓛.H En Kf)) (at_return 𝓤 𝓛.H En Kf)) in
      first ! $ switches_on ! (get_tag ! (vrt ! refl (fld ! refl (stop !))) (whole !)) $ exec ! 𝓣.C 𝓣.Λ En (arm_body 1 code.Mir.s-1) Then $
      sets ! (of_opd ! (get_in ! (vrt ! refl (fld ! refl (stop !))) (in_variant ! 1 0 refl refl (whole !)))) refl (tt, record { fits = small }) $
      sets_last ! (of_opd ! (get ! refl)) refl (tt, record { fits = small }) $
      exec ! 𝓣.C 𝓣.Λ En code.Mir.t-2 (at_ret En Kf) $
      sets ! (of_opd ! (get ! refl)) refl (tt, record { fits = small }) $
      returns ! (look_at ! 0 refl) $ free_all ! refl $
      -- [`to`; the token]
      fsplit3 ! $ drop ! $ use1 𝓛 (‵ (fres to.ghost_name (RawPtr.coded.code to.now))) (𝓛.names.obs-res to.ghost_name (RawPtr.coded.code to.now)) $ fjoin ! $
      nothing ! $ move ! (1 ∷ 0 ∷ []) $ fjoin ! $ nothing ! $ fjoin ! $ nothing ! $ move ! (2 ∷ 0 ∷ []) $ join ! $
      owned ! u8 _ (uint_Makes 𝓛 w8) status _ (refl, small) $
      use0 𝓛 (raw (fact 𝓤 ((status ≡ status) × (to.now ≡ to.now)))) (fact_i 𝓤 ((status ≡ status) × (to.now ≡ to.now)) (emp 𝓤) (refl, refl)) $
      use0 𝓛 (raw (fact 𝓤 (Unit {0}))) (fact_i 𝓤 (Unit {0}) (emp 𝓤) tt) $ join ! $ nothing ! $ join ! $ move ! (2 ∷ 3 ∷ 1 ∷ 0 ∷ []) $
      by ! (leaves 𝓛 f.ended stayed c (y (Err status) us (vptr b o ∷ [])) (vint w8 status) status (rest (Made.exit yes) (Err status), (to.now, tt)) (tt, (tt, tt))))

  -- what was made is taken apart
  apart : (made : Made.Denot) (us : List Val) → Typed Made.mir us → Goes made us (vptr b o ∷ [])
  apart (Ok it) us ts =
      fpick ! (λ ws. fsplit ! $ feq_l ! (λ e. fpick ! (λ vss. fsplit ! $ feq_l ! (λ e'. fsplit ! $ keep ! (0 ∷ 2 ∷ 3 ∷ []) $ peeks ! B (Is B) (shows 𝓛 B) it vss.0 (λ is.
      subst (λ (ns : List Val). Typed Made.mir ns → Sq 𝓛 (‵ (B.own_val it vss.0) ∷ ‵ ((MutRef (named 0) κ RawPtr).own_val to (vptr b o ∷ [])) ∷ ‵ (flft κ q) ∷ []) (prop (WpFn 𝓤 𝓛.H 𝓣.C 𝓣.Λ code.function (ns ++ (vptr b o ∷ [])) (Ends (Ok it) ns (vptr b o ∷ []))))) (sym e)
      (subst (λ (ns : List Val). Typed Made.mir (live 0 (of_list ns) ∷ []) → Sq 𝓛 (‵ (B.own_val it vss.0) ∷ ‵ ((MutRef (named 0) κ RawPtr).own_val to (vptr b o ∷ [])) ∷ ‵ (flft κ q) ∷ []) (prop (WpFn 𝓤 𝓛.H 𝓣.C 𝓣.Λ code.function (live 0 (of_list ns) ∷ vptr b o ∷ []) (Ends (Ok it) (live 0 (of_list ns) ∷ []) (vptr b o ∷ []))))) (sym e')
      (one_value (lone B.mir) (λ ns. Typed Made.mir (live 0 (of_list (ns ++ [])) ∷ []) → Sq 𝓛 (‵ (B.own_val it ns) ∷ ‵ ((MutRef (named 0) κ RawPtr).own_val to (vptr b o ∷ [])) ∷ ‵ (flft κ q) ∷ []) (prop (WpFn 𝓤 𝓛.H 𝓣.C 𝓣.Λ code.function (live 0 (of_list (ns ++ [])) ∷ vptr b o ∷ []) (Ends (Ok it) (live 0 (of_list (ns ++ [])) ∷ []) (vptr b o ∷ [])))))
      vss.0 (((box_laws.the_field_loose the_row heap.the_row ghosts the_row_laws heap_laws.the_row_laws).lawful 𝓛).typed it vss.0 is)
      (λ v good typed. ok_walk it v good typed.0))) ts)))))
  apart (Err status) us ts =
      fpick ! (λ ws. fsplit ! $ feq_l ! (λ e. fpick ! (λ vss. fsplit ! $ feq_l ! (λ e'. fsplit ! $ move ! (1 ∷ []) $ drop ! $ fsplit ! $ feq_l ! (λ e''. flt_l ! (λ small.
      subst (λ (ns : List Val). Typed Made.mir ns → Sq 𝓛 (‵ ((MutRef (named 0) κ RawPtr).own_val to (vptr b o ∷ [])) ∷ ‵ (flft κ q) ∷ []) (prop (WpFn 𝓤 𝓛.H 𝓣.C 𝓣.Λ code.function (ns ++ (vptr b o ∷ [])) (Ends (Err status) ns (vptr b o ∷ []))))) (sym e)
      (subst (λ (ns : List Val). Typed Made.mir (live 1 (of_list ns) ∷ []) → Sq 𝓛 (‵ ((MutRef (named 0) κ RawPtr).own_val to (vptr b o ∷ [])) ∷ ‵ (flft κ q) ∷ []) (prop (WpFn 𝓤 𝓛.H 𝓣.C 𝓣.Λ code.function (live 1 (of_list ns) ∷ vptr b o ∷ []) (Ends (Err status) (live 1 (of_list ns) ∷ []) (vptr b o ∷ []))))) (sym e')
      (subst (λ (ns : List Val). Typed Made.mir (live 1 (of_list (ns ++ [])) ∷ []) → Sq 𝓛 (‵ ((MutRef (named 0) κ RawPtr).own_val to (vptr b o ∷ [])) ∷ ‵ (flft κ q) ∷ []) (prop (WpFn 𝓤 𝓛.H 𝓣.C 𝓣.Λ code.function (live 1 (of_list (ns ++ [])) ∷ vptr b o ∷ []) (Ends (Err status) (live 1 (of_list (ns ++ [])) ∷ []) (vptr b o ∷ []))))) (sym e'')
      (λ typed. err_walk status small typed.0))) ts))))))

pub hand_over_bus_spec : {M : Type 1} → statement M
hand_over_bus_spec 𝓤 𝓛 𝓜 𝓡 wired =
    let c = f.clauses 𝓛 𝓜.mem 𝓡.returns in
    proved_at 𝓛 f.ended stayed c 𝓜 𝓡 (Goes-blank 𝓛 1 (plain (λ _. Made)) yes (λ κs x w. silent x w), (Goes-gave_ref 𝓛 1 0 tt (plain (λ _. RawPtr)), tt))
    f.Key.name code.function (code.unfolded 𝓤 𝓛.H 𝓜 𝓡 wired) (λ z are.
    let κ = z.0.0.0 in let q = z.0.1.0 in let made = z.0.3.0 in let to = z.0.3.1.0 in
    qed 𝓛 (((‵ (flft κ q) ⊛ ‵ ftrue) ⊛ ‵ (Made.own_val made z.0.4.0) ⊛ ‵ ((MutRef (named 0) κ RawPtr).own_val to z.0.4.1.0) ⊛ ‵ ftrue) ∷ ‵ ftrue ∷ []) ∵
    split ! $ split ! $ move ! (2 ∷ []) $ split ! $ move ! (1 ∷ []) $ split ! $ keep ! (2 ∷ 0 ∷ 3 ∷ []) $
    subst (λ (vs : List Val). Goes 𝓤 𝓛 𝓜 𝓡 wired κ q to made z.0.4.0 vs) (sym are.1.0.0)
    (apart 𝓤 𝓛 𝓜 𝓡 wired κ q to made z.0.4.0
    ((made_lawful 𝓛).typed made z.0.4.0 are.0)))
