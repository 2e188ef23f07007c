-- Hands of a world that is played, and what playing does to its journal.
use Rattle.std.specs.Prelude.{◌≡◌, ◌⊎◌, ℕ, List, [], ◌∷◌, ◌++◌, refl, Bool, true, false, MatchBool}
use Rattle.std.specs.Coded.{Coded, code_by, coded×, coded_ℕ}
use Rattle.std.specs.Ordering.{nat_cmp}
use Rattle.std.specs.FinMap as finite
use Rattle.ghc_term.specs.declared.fault.Fault.{Fault}
use Rattle.ghc_fire.specs.inner.ActCode.{proposal_code}
use Rattle.ghc_records.specs.Journal.{Entry}
use Rattle.ghc_core.specs.World.{Proposal, Hands, World}
use Rattle.ghc_core.specs.Events.{Event, Reply, held, stepped, noted, undone, arranged, refused}
use Rattle.ghc_core.specs.Answers.{Answers, AnswersEach}
use Rattle.ghc_core.specs.Legal.{IsReachable}

-- as many hands, which hold this
abbrev pub hands_with : ℕ → finite.FinMap nat_cmp Proposal → Hands
hands_with count proposals = record { count = count; held = proposals }

-- as many hands, which hold nothing
abbrev pub empty_hands : ℕ → Hands
empty_hands count = hands_with count finite.empty

-- two sets of hands with one code are one
abbrev pub hands_code : Coded Hands
hands_code = code_by (ℕ × finite.FinMap nat_cmp Proposal) (coded× coded_ℕ (finite.code coded_ℕ proposal_code)) (λ h. (h.count, h.held)) (λ p. record { count = p.0; held = p.1 }) (λ _. refl)

-- A goal can fail for this: no clause matches it, its two sides clash or would make a cycle, or its expression has no value.
abbrev pub IsCauseOfFailure : Fault → Type 0
IsCauseOfFailure f = (f ≡ Fault.NoMatch) ⊎ ((f ≡ Fault.Clash) ⊎ ((f ≡ Fault.Cycle) ⊎ (f ≡ Fault.Arithmetic)))

-- The journal is as it was, or has one entry more, at its end.
abbrev pub AddsOneAtMost : World → World → Type 0
AddsOneAtMost w v = (v.journal ≡ w.journal) ⊎ ((entry : Entry) × (v.journal ≡ w.journal ++ entry ∷ []))

-- The reply is a refusal.
abbrev pub IsRefusal : Reply → Type 0
IsRefusal reply = (f : Fault) × (reply ≡ refused f)

-- Events are answered one after another, whether or not memory was refused in one of them.
abbrev pub ArePlayed : World → Hands → List Event → List Reply → World → Hands → Type 0
ArePlayed = AnswersEach (λ _. Unit {0})

-- A world and hands that are left by events are reachable, where those before were.
abbrev pub PlayStaysReachable : Type 0
PlayStaysReachable =
    (w v : World) (hands left : Hands) (es : List Event) (replies : List Reply) → IsReachable w hands → ArePlayed w hands es replies v left → IsReachable v left

-- The reply tells of a change.
abbrev pub tells_change : Reply → Bool
tells_change (held h) = false
tells_change (stepped n) = true
tells_change (noted g s) = false
tells_change (undone ns) = true
tells_change arranged = true
tells_change (refused f) = false

-- Where the reply tells of a change, memory was not refused, and the journal has one entry more; else the journal is as it was. The opening stays.
abbrev pub AddsWhatItTells : World → Hands → Event → Reply → World → Hands → Type 0
AddsWhatItTells w hands e reply v left =
    (v.opening ≡ w.opening) × MatchBool (tells_change reply) ((entry : Entry) × Answers ⊥ w hands e reply v left × (v.journal ≡ w.journal ++ entry ∷ [])) (v.journal ≡ w.journal)

-- An event adds an entry to the journal exactly where its reply tells of a change.
abbrev pub AnswersAddWhatTheyTell : Type 0
AnswersAddWhatTheyTell = (w v : World) (hands left : Hands) (e : Event) (reply : Reply) → Answers (Unit {0}) w hands e reply v left → AddsWhatItTells w hands e reply v left
