-- Just what tells of a change adds an entry, and then no memory was refused.
use Rattle.ghc_core.proofs.Words.{◌≡◌, true, false, [], ◌∷◌, ◌++◌, refl, sym, ap, ◌∙◌, subst, MatchBool, Entry, Change, Comes as comes, Hands, World, Event, Reply, told_of, Says, Answers, makes, says, tells_change, AnswersAddWhatTheyTell}
use Rattle.ghc_core.proofs.Moving.{change_enters}

-- the reply to a change tells of one
told_changes : (change : Change) → tells_change (told_of change) ≡ true
told_changes (comes from r) = refl
told_changes change = refl

-- what is said of no change tells of none
pub said_changes_nothing : {w : World} {hands left : Hands} {e : Event} {reply : Reply} → Says w hands e reply left → tells_change reply ≡ false
said_changes_nothing (Says.holds p is) = refl
said_changes_nothing (Says.tells status) = refl

pub answers_add : AnswersAddWhatTheyTell
answers_add w v hands left e reply (makes {change = change} has asks can changes told) =
    let g = change_enters w v change can changes in (
      g.opening,
      subst (λ b. MatchBool b ((entry : Entry) × Answers ⊥ w hands e reply v left × (v.journal ≡ w.journal ++ entry ∷ [])) (v.journal ≡ w.journal))
          (sym (ap tells_change told ∙ told_changes change)) (g.entry, makes has asks can changes told, g.journal),
    )
answers_add w v hands left e reply (says has said) = (
  refl,
  subst (λ b. MatchBool b ((entry : Entry) × Answers ⊥ w hands e reply w left × (w.journal ≡ w.journal ++ entry ∷ [])) (w.journal ≡ w.journal)) (sym (said_changes_nothing said)) refl,
)
answers_add w v hands left e reply a = (refl, refl)
