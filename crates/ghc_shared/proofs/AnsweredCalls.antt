-- What a pass learns of its call, by the words of the core.
use Rattle.ghc_shared.proofs.Words.{◌≡◌, ◌+◌, ◌++◌, ℕ, suc, List, [], ◌∷◌, length, map, refl, sym, ap, ◌∙◌, subst, arith, Bool, true, false, MatchBool, Entry, Item, entered, World, LegalIsReachable, LeavesIsOne, reply_of, Leaves, Begins, entry_count, Receipt, IsAccepted, IsTold, IsAnswered, Reply, Call, Known, IsAcceptedCall, IsRefusedCall, IsDecided, hands_of, event_of, receipt_behind, receipt_of, IsToldAnyway, IsAnswerTo, IsToldOnFront}
use mathlib.Core.List.{IsPrefix}
use Rattle.ghc_core.specs.World.{Proposal}
use Rattle.ghc_shared.specs.declared.calls.Call.TheVariants.{Submit, SubmitProposed}
use Rattle.ghc_shared.specs.declared.receipt.Receipt as given

-- the entries of a history are all its items but the opening
pub entries_counted : (es : List Entry) → entry_count (map entered es) ≡ length es
entries_counted [] = refl
entries_counted (e ∷ es) = omega (arith, entries_counted es)

pub entries_length : (es : List Entry) → length (map entered es) ≡ length es
entries_length [] = refl
entries_length (e ∷ es) = ap suc (entries_length es)

counted : LegalIsReachable → (items : List Item) (w : World) → Leaves items w → entry_count items + 1 ≡ length items
counted law items w legal =
    let is = (law items w legal).0 in
    omega (arith, ap entry_count is, ap (λ (l : List Item). length l) is, entries_counted w.journal, entries_length w.journal)

begins : (old new : List Item) → IsPrefix old new → Begins old new
begins old new p = (p.0, sym p.1)

-- the receipt at the place among the entries
abbrev at_place : ℕ → Reply → Receipt
at_place n reply = record { place = n; reply = reply_of reply }

module _ (law : LegalIsReachable) (call : Call) (before : List Item) (receipt : given.Receipt Reply) (old new : Known Item) where
  same_receipt : (w : World) → Leaves before w → receipt.place ≡ length before → receipt_behind before receipt.reply ≡ receipt_of receipt
  same_receipt w legal place = ap (λ (n : ℕ). at_place n receipt.reply) (omega (arith, place, counted law before w legal))

  -- what a pass learns of its call
  pub answered : IsDecided IsAnswerTo before call receipt old new → IsAnswered (Unit {0}) old.front new.front (hands_of call) (event_of call) (receipt_of receipt)
  answered decided = told receipt.accepted decided.decided
    where
      known : Begins old.front before
      known = begins old.front before decided.seen

      told : (b : Bool) → MatchBool b (IsAcceptedCall IsAnswerTo before call receipt.reply receipt.place old new) (IsRefusedCall IsAnswerTo before call receipt.reply old new)
          → IsAnswered (Unit {0}) old.front new.front (hands_of call) (event_of call) (receipt_of receipt)
      told true d =
          let is = d.answer in
          IsAnswered.accepted before is.0 (subst (λ (r : Receipt). IsAccepted before (hands_of call) (event_of call) r is.0) (same_receipt is.2.before is.2.legal decided.place) is.2) known
          (d.front ∙ ap (λ (i : Item). before ++ i ∷ []) is.1)
      told false d =
          let is = d.answer.told in
          subst (λ (l : List Item). IsAnswered (Unit {0}) old.front l (hands_of call) (event_of call) (receipt_of receipt)) (sym d.front)
          (IsAnswered.told (subst (λ (r : Receipt). IsTold (Unit {0}) before (hands_of call) (event_of call) r) (same_receipt is.before is.legal decided.place) is) known)

-- a call that was not accepted gets the refusal that F1 cannot hide, if it has one
pub told_anyway : LeavesIsOne → (call : Call) (before : List Item) (receipt : given.Receipt Reply) (old new : Known Item) → IsDecided IsAnswerTo before call receipt old new → IsToldOnFront new.front call receipt
told_anyway one call before receipt old new decided w off leaves =
    let d : IsRefusedCall IsAnswerTo before call receipt.reply old new = rw off at decided.decided in
    let same : d.answer.told.before ≡ w = one before d.answer.told.before w d.answer.told.legal (subst (λ (l : List Item). Leaves l w) d.front leaves) in
    subst (λ (u : World). IsToldAnyway u call receipt.reply) same d.answer.anyway

-- a submit of what was proposed is decided as each submit is
pub as_submitted : (before : List Item) (p : Proposal) (receipt : given.Receipt Reply) (old new : Known Item) → IsDecided IsAnswerTo before (SubmitProposed p) receipt old new → IsDecided IsAnswerTo before (Submit p) receipt old new
as_submitted before p receipt old new d = record { seen = d.seen; place = d.place; decided = told receipt.accepted d.decided }
  where
    told : (b : Bool) → MatchBool b (IsAcceptedCall IsAnswerTo before (SubmitProposed p) receipt.reply receipt.place old new) (IsRefusedCall IsAnswerTo before (SubmitProposed p) receipt.reply old new)
        → MatchBool b (IsAcceptedCall IsAnswerTo before (Submit p) receipt.reply receipt.place old new) (IsRefusedCall IsAnswerTo before (Submit p) receipt.reply old new)
    told true a = record { item = a.item; front = a.front; answer = a.answer; places = a.places }
    told false a = record { front = a.front; answer = record { told = a.answer.told; anyway = a.answer.anyway }; places = a.places }
