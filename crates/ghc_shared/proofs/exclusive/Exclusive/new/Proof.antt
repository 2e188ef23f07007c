-- The value goes into the struct.
use mathlib.Core.Path.{◌≡◌, refl, sym, subst}
use mathlib.Core.List.{List, [], ◌∷◌, ◌++◌}
use seplogic.Ra.Ura.{Ura}
use mir.Syntax.{Fn, a_type, tcons, tnil}
use mir.Val.{Val, vstruct, vcons, vnil, of_list}
use mir.MapTy.{inst_fn}
use base.Logic.{SProp, ent, emp}
use base.Fml.{ftrue, fsep, feq}
use prog.Memory.{Memory}
use prog.Routine.{Routine}
use prog.Wp.{Calls, Loops, WpFn}
use types.Logic.{Logic}
use contract.Monad.{Fun, fact, fact_i}
use contract.Running.{tables}
use types.Kit.{‵, raw, ◌⊛◌, ◌$◌, ◌∵◌, !, qed, by, move, keep, split, fjoin, fpack, feq_i, use0}
use types.Run.{of_opd, returns, enter, and_then, no_more}
use types.ByLocal.{alloc_all, pass_all, free_all, look_at, get, sets}
use types.Part.{agg}
use denote.Exit.{no}
use denote.RattleType.{RattleType, Valss, owns}
use denote.Laws.{Lawful, Is}
use denote.Signature.{plain}
use denote.Steps.{nothing}
use denote.Param.{layout, layouts, param}
use denote.Param.Laws.{param_laws}
use denote.Triple.Clauses.{Clauses}
use denote.Triple.Entry.{alive}
use denote.Triple.Walked.{Stays, stay_dropped, walk_of, Goes-dropped}
use lib.Dec.{T}
use mir.Syntax.{Ty, Sym, ty_struct}
use mir.Val.{has_ty, WT}
use denote.Struct.Struct.{as_fields}
use denote.Laws.{Typed}
use Rattle.ghc_shared.proofs.Words.{proved_at, leaves, Inside, ended, clauses, name as #self}
use Rattle.ghc_shared.specs.contracts.exclusive.Exclusive as outer
use Rattle.ghc_shared.specs.contracts.exclusive.Exclusive.TheInside as inside
use Rattle.ghc_shared.proofs.exclusive.Exclusive.new.Statement.{statement}
use Rattle.ghc_shared.proofs.exclusive.Exclusive.new.Code as code

abbrev Good : Ty → Val → Type 0
Good τ v = T (has_ty τ v) × WT v

one : (τ : Ty) (vs : List Val) → Typed (τ ∷ []) vs → (v : Val) × (vs ≡ v ∷ []) × Good τ v
one τ [] t = absurd t
one τ (v ∷ []) t = (v, refl, t.0)
one τ (v ∷ w ∷ vs) t = absurd t.1

abbrev round : Val → Val
round v = vstruct (vcons v vnil)

Good-round : (ν : Sym) (τ : Ty) (v : Val) → Good τ v → Good (ty_struct ν (tcons τ tnil)) (round v)
Good-round ν τ v g = as_fields (τ ∷ []) (v ∷ []) (g, tt)

module _ (T : RattleType) where
  abbrev function : Fn
  function = inst_fn (layouts (a_type ∷ []) (T, tt)) code.function

  abbrev stayed : Stays (ended T).signature.params (ended T).kept
  stayed = (stay_dropped (plain (λ _. param 0 T)) no, tt)

module _ (T : RattleType) {M : Type 1} {𝓤 : Ura M} (𝓛 : Logic 𝓤) (L : Lawful 𝓛 (param 0 T)) (mem : Memory → SProp 𝓤) (run : Routine → Fun 𝓤) where
  open 𝓛 use {H}

  abbrev held : Clauses 𝓤 (ended T)
  held = clauses T 𝓛 mem run

  module _ (C : Calls 𝓤 H) (Λ : Loops 𝓤 H) (z : (walk_of 𝓛 (ended T) (stayed T) held).Ghost) where
    abbrev At : List Val → (walk_of 𝓛 (ended T) (stayed T) held).Ghost
    At us = ((z.0.0, z.0.1, z.0.2, z.0.3, (us, tt)), z.1)

    abbrev Post : List Val → Val → SProp 𝓤
    Post us = (walk_of 𝓛 (ended T) (stayed T) held).post (At us)

    abbrev Goes : List Val → Type 1
    Goes us = ent 𝓤 ((walk_of 𝓛 (ended T) (stayed T) held).pre (At us)) (WpFn 𝓤 H C Λ (function T) (us ++ []) (Post us))

    walks : (v : Val) → Good (layout T) v → Goes (v ∷ [])
    walks v g =
        let Y : RattleType = param 0 T in let x : Y.Denot = z.0.3.0 in let u : Val = round v in let F : RattleType = inside.the_row Y in let d : Inside Y.Denot = record { inner = x } in
        qed 𝓛 ((raw (alive 𝓛 (ended T).signature z.0.0 z.0.1) ⊛ ‵ (owns (Y ∷ []) z.0.3 (v ∷ [], tt))) ∷ raw ((held z.0.0 z.0.3).requires z.1) ∷ []) ∵
        split ! $ keep ! (1 ∷ 0 ∷ []) $
        feq_i ! (List Val) (u ∷ []) (u ∷ []) refl $ fjoin ! $
        fpack ! (Valss (Y ∷ [])) (λ vss. fsep (feq (List Val) (u ∷ []) (vstruct (of_list (vss.0 ++ [])) ∷ [])) (owns (Y ∷ []) (x, tt) vss)) (v ∷ [], tt) $
        nothing ! $ move ! (1 ∷ 0 ∷ []) $ fjoin ! $
        nothing ! $ move ! (1 ∷ 0 ∷ []) $ fjoin ! $
        fpack ! ((a : Inside Y.Denot) × ((outer.the_view Y a ≡ x) × outer.the_invariant Y a)) (λ h. fsep (F.own_val h.0 (u ∷ [])) ftrue) (d, (refl, tt)) $
        enter ! C Λ (function T) (v ∷ []) _ $ alloc_all ! (λ l. pass_all ! refl (g, tt) $
        sets ! (of_opd ! (get ! refl)) refl g $ sets ! (agg ! (and_then ! (get ! refl) (no_more !))) refl (Good-round [] (layout T) v g) $
        use0 𝓛 (raw (fact 𝓤 (x ≡ x))) (fact_i 𝓤 (x ≡ x) (emp 𝓤) refl) $ nothing ! $ nothing ! $ fjoin ! $
        returns ! (look_at ! 0 refl) $ free_all ! refl $ keep ! (3 ∷ 0 ∷ 2 ∷ 1 ∷ []) $ by ! (leaves 𝓛 (ended T) (stayed T) held (At (v ∷ [])) u x (tt, tt) (tt, tt)))

    pub entry : (us : List Val) → Is (param 0 T) z.0.3.0 us → Goes us
    entry us is = let got = one (layout T) us (L.typed z.0.3.0 us is) in subst Goes (sym got.1) (walks got.0 got.2)

pub new_spec : {M : Type 1} → statement M
new_spec 𝓤 𝓛 𝓜 𝓡 wired T laws =
    let 𝓣 = tables 𝓤 𝓛.H 𝓜 𝓡 𝓡.env in
    proved_at 𝓛 (ended T) (stayed T) (clauses T 𝓛 𝓜.mem 𝓡.returns) 𝓜 𝓡 (Goes-dropped 𝓛 1 (plain (λ _. param 0 T)) no (λ κs x f. refl), tt)
    (#self (layouts (a_type ∷ []) (T, tt))) (function T) (code.unfolded 𝓤 𝓛.H 𝓜 𝓡 wired (T, tt))
    (λ z are. entry T 𝓛 ((param_laws 0 T laws).lawful 𝓛) 𝓜.mem 𝓡.returns 𝓣.C 𝓣.Λ z z.0.4.0 are.0)
