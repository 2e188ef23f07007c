use mir.Syntax.{Sym}
use denote.Exit.{no}
use denote.RattleType.{RattleType}
use denote.Ref.{NamedLft, ShrRef}
use denote.Param.{param}
use denote.Struct.Field.{row_field}
use denote.Struct.Tuple.{TupleAt, type_at}
use denote.Param.Send.{IsSend, IsSync, sendable, arg_send, param_send, shr_send, shr_sync}
use denote.Param.SendFields.{as_row_send, as_row_sync, declared_send, declared_sync}
use Rattle.ghc_pool.proofs.Words.{◌≡◌, ◌<◌, ◌+◌, ◌∙◌, ℕ, suc, List, [], ◌∷◌, length, sym, ap, subst, arith, crosses, shared_core_sync, core_pass_send, Item, Known, AreAll}
use Rattle.std.specs.Prelude.{IfSome, insert, remove, slice_index_or}
use Rattle.std.proofs.Crossing.{sync as heap_sync}
use Rattle.std.proofs.sync.atomic.AtomicU64.TheSendSync as word
use Rattle.ghc_pool.specs.contracts.tests.undoing.Undoing as undoing
use Rattle.ghc_pool.proofs.tests.undoing.undo_named.Goals as goal

undoing_sync : (a : NamedLft) (R : RattleType) → IsSync R → IsSync (undoing.the_row a R)
undoing_sync a R y = declared_sync (undoing.the_type a R) (as_row_sync (row_field (ShrRef a.mir a.lft R)) (shr_sync a.mir a.lft R y), (word.the_sync, (word.the_sync, (word.the_sync, tt))))

-- what a closure captures, four values, may go to another thread where each of them may
four_send : (ν : Sym) (A B C D : RattleType) → IsSend A → IsSend B → IsSend C → IsSend D → IsSend (TupleAt ν (A ∷ B ∷ C ∷ D ∷ []))
four_send ν A B C D a b c d = declared_send (type_at ν (A ∷ B ∷ C ∷ D ∷ [])) (as_row_send (row_field A) a, (as_row_send (row_field B) b, (as_row_send (row_field C) c, (as_row_send (row_field D) d, tt))))

pub join-other-requires-send-F : goal.join-other-requires-send-F
join-other-requires-send-F g c κs within =
    param_send 1 _ (arg_send _ no _ (four_send _ _ _ _ _ (shr_send _ _ _ (undoing_sync _ (param 1 g.row.R) c.type_bounds.sync-R)) (shr_send _ _ _ heap_sync) (shr_send _ _ _ (shared_core_sync (param 0 g.row.N) g.N.Naming g.N.Ledger)) (core_pass_send (param 0 g.row.N) g.N.Naming g.N.Ledger)))

pub join-other-requires-send-A : goal.join-other-requires-send-A
join-other-requires-send-A g c κs within = search (crosses, sendable, core_pass_send) depth 60 fits 20000

-- the first pass leaves, and comes back in front
first_back : (n : ℕ) (old left nows back : List (Known Item)) (other other' : Known Item) → 0 < length old → AreAll n 0 old → other ≡ slice_index_or old 0 other → left ≡ remove old 0
    → other'.number ≡ other.number → (AreAll n 1 left → AreAll n 1 nows) → back ≡ insert nows 0 other' → AreAll n 0 back
first_back n [] left nows back other other' low all first rest number after is = absurd (omega (arith, low))
first_back n (p ∷ ps) left nows back other other' low all first rest number after is =
    subst (AreAll n 0) (sym is) (number ∙ ap (λ (q : Known Item). q.number) first ∙ all.0, after (subst (AreAll n 1) (sym rest) all.1))

pub close-core-requires-clause-all : goal.close-core-requires-clause-all
close-core-requires-clause-all g c =
    let was = c.remove-other.ensures in
    let after : AreAll g.N.Naming.passes 1 c.remove-other.new.self.items → AreAll g.N.Naming.passes 1 c.in_ok-passes.passes.items = λ all. subst (λ o. IfSome o (λ r. AreAll g.N.Naming.passes 1 r.0.items)) c.in_ok-passes.ensures.ok_part (c.join-other.ensures.second g.N.Naming.passes 1 all) in
    first_back g.N.Naming.passes c.in-Ok.passes.items c.remove-other.new.self.items c.in_ok-passes.passes.items c.insert.new.self.items c.remove-other.result c.join-other.result.0 (omega arith) c.in-Ok.ensures.all was.value was.items c.join-other.ensures.first after c.in-Ok-insert.ensures.items
