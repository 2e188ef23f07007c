-- Events that are played one after another.
use Rattle.ghc_core.proofs.Words.{◌≡◌, ◌+◌, ℕ, List, [], ◌∷◌, ◌++◌, map, take, slice_get, refl, sym, ap, ◌∙◌, subst, subst₂, Some, map-append, at_split, value_at, HasStepEffect, Change, Hands, World, CanChange, Command, Event, command, Reply, Asks, to_give, to_ask, by_command, Answers, makes, says, IsProper, IsReachable, by_event, Core, Stays, Meets, MeetsEach, ArePlayed, PlayStaysReachable, event_of, reply_of}
use Rattle.ghc_core.specs.declared.world.World.{World as Played}
use Rattle.ghc_core.specs.declared.event.Event as met
use Rattle.ghc_core.specs.declared.reply.Reply as given
use Rattle.ghc_core.proofs.Replying.{Unknown}

-- a proposal, and a note, leave the world as it was
pub left_so : {w : World} {hands left : Hands} {e : Event} {reply : Reply} (v : World) → Answers Unknown w hands e reply w left → v ≡ w → Answers Unknown w hands e reply v left
left_so {w} {hands} {left} {e} {reply} v a same = subst (λ u. Answers Unknown w hands e reply u left) (sym same) a

-- a command that asks for a change that can be made is proper: what is given to a stream is closed
asked_proper : (w : World) {c : Command} {change : Change} → Asks c change → CanChange w change → IsProper (command c)
asked_proper w (to_give {r = r} o) can = (subst₂ (λ c a. HasStepEffect w.opening.program c a r.number (value_at w.state.store) r.effect) o.3 o.4 can.1.1).1
asked_proper w (to_ask of) can = of.0
asked_proper w asks can = tt

-- what an event leaves is reachable
answered_reachable : (w v : World) (hands left : Hands) (e : Event) (reply : Reply) → IsReachable w hands → Answers Unknown w hands e reply v left → IsReachable v left
answered_reachable w v hands left (command c) reply r (makes has (by_command asks) can changes told) = by_event (command c) reply r (asked_proper w asks can) (makes has (by_command asks) can changes told)
answered_reachable w v hands left (command c) reply r (says has said) = elim said [ ]
answered_reachable w v hands left (command c) reply r a = r
answered_reachable w v hands left e reply r a = by_event e reply r tt a

-- what events leave is reachable
pub play_reachable : PlayStaysReachable
play_reachable w v hands left [] [] r (same, kept) = subst₂ IsReachable (sym same) (sym kept) r
play_reachable w v hands left (e ∷ es) (s ∷ rs) r (u, next, a, rest) = play_reachable u v next left es rs (answered_reachable w u hands next e s r a) rest
play_reachable w v hands left es rs r a = absurd a

-- a core that is as it was
pub core_stays : (old new : Core) → new ≡ old → Stays old new
core_stays old new same = record { world = ap (λ (c : Core). c.world) same; notes = ap (λ (c : Core). c.notes) same; untried = ap (λ (c : Core). c.untried) same }

-- events that are met are answered
pub met_played : (old new : Played) (es : List Event) (rs : List Reply) → MeetsEach old es rs new → ArePlayed old.core.world old.hands es rs new.core.world new.hands
met_played old new [] [] same = (ap (λ (p : Played). p.core.world) same, ap (λ (p : Played). p.hands) same)
met_played old new (e ∷ es) (r ∷ rs) (mid, met, rest) = (mid.core.world, mid.hands, met.answer, met_played mid new es rs rest)
met_played old new es rs met = absurd met

-- one more event, at the end
met_more : (old mid new : Played) (es : List Event) (rs : List Reply) (e : Event) (r : Reply) → MeetsEach old es rs mid → Meets mid e r new → MeetsEach old (es ++ e ∷ []) (rs ++ r ∷ []) new
met_more old mid new [] [] e r same met = (new, subst (λ p. Meets p e r new) same met, refl)
met_more old mid new (f ∷ es) (s ∷ rs) e r (first, one, rest) met = (first, one, met_more first mid new es rs e r rest met)
met_more old mid new es rs e r none met = absurd none

-- the same, of what the code has
pub met_next : (old mid new : Played) (events : List met.Event) (i : ℕ) (event : met.Event) (replies after : List given.Reply) (reply : given.Reply)
    → slice_get events i ≡ Some event → after ≡ replies ++ reply ∷ [] → MeetsEach old (map event_of (take i events)) (map reply_of replies) mid
    → Meets mid (event_of event) (reply_of reply) new → MeetsEach old (map event_of (take (i + 1) events)) (map reply_of after) new
met_next old mid new events i event replies after reply at more before meets =
    subst₂ (λ es rs. MeetsEach old es rs new)
    (sym (ap (map event_of) (at_split events i event at).2 ∙ map-append event_of (take i events) (event ∷ [])))
    (sym (ap (map reply_of) more ∙ map-append reply_of replies (reply ∷ [])))
    (met_more old mid new (map event_of (take i events)) (map reply_of replies) (event_of event) (reply_of reply) before meets)
