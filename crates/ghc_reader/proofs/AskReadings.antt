-- What is asked for is read as the goals of a query are, and then tested for operators inside one another.
use Rattle.ghc_reader.proofs.Words.{◌≡◌, ◌⊎◌, inl, inr, ℕ, ◌<◌, ◌≤◌, true, List, Some, None, refl, arith, nat_tests, Limit, Goal, largest, levels_of_goal, first_exceeded, of_query, of_ask, asked, an_ask, IsRead, IsRefusal}
use Rattle.ghc_term.specs.declared.fault.Fault.{Fault}
use Rattle.ghc_term.specs.declared.fault.Fault.TheVariants as fault
use Rattle.ghc_term.specs.declared.limit.Limit.TheVariants as limit
use Rattle.ghc_reader.specs.Tests.{Kind, IsDerived, by_tokens, by_syntax, by_place, by_limit}

-- with the limits of a query
abbrev pub a_question : Kind
a_question = asked true of_query

-- ---- limits

exceeded_still : (gs : List Goal) (which : Limit) → first_exceeded (of_query gs) ≡ Some which → first_exceeded (of_ask gs) ≡ Some which
exceeded_still gs which e = grind (arith, nat_tests)

within_both : (gs : List Goal) → first_exceeded (of_query gs) ≡ None → largest levels_of_goal gs ≤ 1000 → first_exceeded (of_ask gs) ≡ None
within_both gs within few = grind (arith, nat_tests)

too_many : (gs : List Goal) → first_exceeded (of_query gs) ≡ None → 1000 < largest levels_of_goal gs → first_exceeded (of_ask gs) ≡ Some limit.Depth
too_many gs within many = grind (arith, nat_tests)

pub within_query : (gs : List Goal) → first_exceeded (of_ask gs) ≡ None → first_exceeded (of_query gs) ≡ None
within_query gs within = grind (arith, nat_tests)

-- ---- readings

module _ (text : List ℕ) where
  ask_refused : (f : Fault) → IsRefusal a_question text f → IsRefusal an_ask text f
  ask_refused f (by_tokens r) = by_tokens r
  ask_refused f (by_syntax r) = by_syntax (record { tokens = r.tokens; places = r.places; scanned = r.scanned; front = r.front; stuck = r.stuck; refused = r.refused })
  ask_refused f (by_place r) = by_place (record {
    tokens = r.tokens;
    places = r.places;
    seen = r.seen;
    derived = record { scanned = r.derived.scanned; derivation = r.derived.derivation; spelled = r.derived.spelled; sees = r.derived.sees };
    left = r.left;
    misplaced = r.misplaced;
    refused = r.refused;
  })
  ask_refused f (by_limit r) = by_limit (record {
    tokens = r.tokens;
    places = r.places;
    seen = r.seen;
    derived = record { scanned = r.derived.scanned; derivation = r.derived.derivation; spelled = r.derived.spelled; sees = r.derived.sees };
    placed = r.placed;
    which = r.which;
    exceeded = exceeded_still r.seen r.which r.exceeded;
    refused = r.refused;
  })

  pub ask_refusals : (f : Fault) → (f ≡ fault.Memory) ⊎ IsRefusal a_question text f → (f ≡ fault.Memory) ⊎ IsRefusal an_ask text f
  ask_refusals f (inl memory) = inl memory
  ask_refusals f (inr refused) = inr (ask_refused f refused)

  module _ (seen : List Goal) (read : IsRead a_question text seen) where
    derived : IsDerived an_ask text read.tokens read.places seen
    derived = record { scanned = read.derived.scanned; derivation = read.derived.derivation; spelled = read.derived.spelled; sees = read.derived.sees }

    pub ask_read : largest levels_of_goal seen ≤ 1000 → IsRead an_ask text seen
    ask_read few = record { tokens = read.tokens; places = read.places; derived = derived; placed = read.placed; within = within_both seen read.within few }

    pub ask_too_deep : 1000 < largest levels_of_goal seen → IsRefusal an_ask text (fault.Limit limit.Depth)
    ask_too_deep many = by_limit (record {
      tokens = read.tokens;
      places = read.places;
      seen = seen;
      derived = derived;
      placed = read.placed;
      which = limit.Depth;
      exceeded = too_many seen read.within many;
      refused = refl;
    })
