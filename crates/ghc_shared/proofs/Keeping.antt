-- What the keeper and a pass know once the keeper has caught up for the pass.
use Rattle.ghc_shared.proofs.Words.{◌≡◌, ℕ, ◌+◌, ◌≤◌, List, [], ◌∷◌, ◌++◌, length, drop, Bool, true, false, refl, sym, ap, ◌∙◌, subst, append-nil, arith, length-append, length-drop, Option, Me, Knowledge, items_of, extended, AllBy, ArePlacesBy, keeper, front, MatchBool, AddsOneIf, IsPass, IsKeeper, Known, AddsIfAccepted, IsAcceptedCall, IsRefusedCall, IsDecided}
use mathlib.Core.List.{IsPrefix}
use Rattle.ghc_shared.specs.declared.receipt.Receipt.{Receipt}
use Rattle.ghc_shared.proofs.Moves.{prefix_more}
use Rattle.ghc_shared.proofs.Extended.{items_append, length-items_of, prefix_items, extended_more, extended_same, drop_more, places_snoc, by_append, places_prefix}

-- a call adds one item, if it is accepted
pub adds_one : {E A R : Type 0} (answers : List E → A → R → Option E → Type 0) (accepted : Bool) (old new : List E) (ask : A) (reply : R) → AddsIfAccepted answers accepted old new ask reply → AddsOneIf accepted old new
adds_one answers true old new ask reply h = (h.0, h.1)
adds_one answers false old new ask reply h = h.0

-- the history goes on
pub grown : {E : Type 0} (accepted : Bool) (old new : List E) → AddsOneIf accepted old new → (more : List E) × (new ≡ old ++ more)
grown true old new h = (h.0 ∷ [], h.1)
grown false old new h = ([], h ∙ sym (append-nil old))

-- the keeper knows the items that it has seen
pub knows_seen : {S E : Type 0} {base passes : ℕ} {history : List E} {me : Me S (Knowledge E)} {total : ℕ} → IsKeeper base passes history me total → IsKeeper base passes (items_of me.0.seen) me total
knows_seen is = record { seated = is.seated; same = refl; made_by = is.made_by; counted = is.counted }

-- what a call did, and what the pass has seen and kept of it
module _ {E A R : Type 0} (answers : List E → A → R → Option E → Type 0) (before after : List E) (ask : A) (receipt : Receipt R) (old new : Known E) where
  decides : (accepted : Bool) → AddsIfAccepted answers accepted before after ask receipt.reply → new.front ≡ after → MatchBool accepted (new.places ≡ old.places ++ receipt.place ∷ []) (new.places ≡ old.places)
      → MatchBool accepted (IsAcceptedCall answers before ask receipt.reply receipt.place old new) (IsRefusedCall answers before ask receipt.reply old new)
  decides true adds front places = record { item = adds.0; front = front ∙ adds.1; answer = adds.2; places = places }
  decides false adds front places = record { front = front ∙ adds.0; answer = adds.1; places = places }

  pub decided : IsPrefix old.front before → receipt.place ≡ length before → AddsIfAccepted answers receipt.accepted before after ask receipt.reply → new.front ≡ after
      → MatchBool receipt.accepted (new.places ≡ old.places ++ receipt.place ∷ []) (new.places ≡ old.places) → IsDecided answers before ask receipt old new
  decided seen place adds front places = record { seen = seen; place = place; decided = decides receipt.accepted adds front places }

-- The keeper knows this history, with so many counted; the pass has such places and such a share, its front is the history, and begins with what it had seen.
pub record IsCaughtUp {S E : Type 0} (base passes : ℕ) (legal : List E → Type 0) (number : ℕ) (history : List E) (places : List ℕ) (me told kept : Me S (Knowledge E)) (parts amount total : ℕ) : Type 0 where
  pub keeper : IsKeeper base passes history kept total
  pub pass : IsPass base passes legal number places told parts amount
  pub begins : IsPrefix (items_of me.0.seen) (items_of told.0.seen)
  pub front : items_of told.0.seen ≡ history

-- what the pass had seen begins the history
pub had_seen : {S E : Type 0} {base passes : ℕ} {history : List E} {total : ℕ} {claim kept : Me S (Knowledge E)} (me : Me S (Knowledge E)) → IsKeeper base passes history kept total
    → claim ≡ (front me.0.seen, []) → IsPrefix claim.0.seen kept.0.seen → IsPrefix (items_of me.0.seen) history
had_seen {S = S} {E = E} {kept = kept} me had claim_is begun =
    subst (λ (l : List E). IsPrefix (items_of me.0.seen) l) had.same (prefix_items me.0.seen kept.0.seen (subst (λ (m : Me S (Knowledge E)). IsPrefix m.0.seen kept.0.seen) claim_is begun))

module _ {S E : Type 0} {base passes : ℕ} {legal : List E → Type 0} {number : ℕ} {places : List ℕ} {me : Me S (Knowledge E)} {parts amount : ℕ} where
  -- the pass with a front of its own, which begins with what it had seen
  pass_sees : (log : List (ℕ × E)) (told : Me S (Knowledge E)) → IsPass base passes legal number places me parts amount → IsPrefix me.0.seen log → legal (items_of log) → told ≡ (front log, [])
      → IsPass base passes legal number places told parts amount
  pass_sees log told h p lawful is = subst (λ (m : Me S (Knowledge E)). IsPass base passes legal number places m parts amount) (sym is) record {
    seated = refl;
    lawful = lawful;
    opened = subst (λ (l : List (ℕ × E)). base ≤ length l) p.1 (omega (arith, h.opened, length-append me.0.seen p.0));
    rising = places_prefix number base me.0.seen log places h.opened p h.rising;
    numbered = h.numbered;
    one_part = h.one_part;
    counted = h.counted;
  }

  -- the pass that made the last item of its front
  pass_makes : (log : List (ℕ × E)) (item : E) (place : ℕ) (told : Me S (Knowledge E)) → IsPass base passes legal number places me parts amount → IsPrefix me.0.seen log → place ≡ length log
      → legal (items_of (log ++ (number, item) ∷ [])) → told ≡ (front (log ++ (number, item) ∷ []), [])
      → IsPass base passes legal number (places ++ place ∷ []) told parts (amount + 1)
  pass_makes log item place told h p place_is lawful is = subst (λ (m : Me S (Knowledge E)). IsPass base passes legal number (places ++ place ∷ []) m parts (amount + 1)) (sym is) record {
    seated = refl;
    lawful = lawful;
    opened = omega (arith, longer, length-append log ((number, item) ∷ []));
    rising = subst (λ l. ArePlacesBy number base l (places ++ place ∷ [])) (sym (drop_more base log ((number, item) ∷ []) longer))
        (places_snoc number base place (drop base log) item places (omega (arith, place_is, longer, length-drop base log)) (places_prefix number base me.0.seen log places h.opened p h.rising));
    numbered = h.numbered;
    one_part = h.one_part;
    counted = omega (arith, h.counted, length-append places (place ∷ []));
  }
    where
      longer : base ≤ length log
      longer = subst (λ (l : List (ℕ × E)). base ≤ length l) p.1 (omega (arith, h.opened, length-append me.0.seen p.0))

  module _ {history history' : List E} {claim told kept kept' : Me S (Knowledge E)} {total : ℕ} where
    -- the history has nothing more
    pub sees : IsPass base passes legal number places me parts amount → IsKeeper base passes history kept total
        → claim ≡ (front me.0.seen, []) → IsPrefix claim.0.seen kept.0.seen
        → kept' ≡ (keeper (extended kept.0.seen number history'), []) → told ≡ (front (extended kept.0.seen number history'), [])
        → legal history' → history' ≡ history
        → IsCaughtUp base passes legal number history' places me told kept' parts amount total
    sees pass had claim_is begun kept_is told_is lawful same = record {
      keeper = subst (λ (j : List E). IsKeeper base passes j kept' total) (sym same) (subst (λ (m : Me S (Knowledge E)). IsKeeper base passes history m total) (sym unmoved) had);
      pass = pass_sees log told pass begins (subst legal (same ∙ sym had.same) lawful) told_now;
      begins = subst (λ (l : List (ℕ × E)). IsPrefix (items_of me.0.seen) (items_of l)) (sym seen_is) (prefix_items me.0.seen log begins);
      front = ap (λ (l : List (ℕ × E)). items_of l) seen_is ∙ had.same ∙ sym same;
    }
      where
        log : List (ℕ × E)
        log = kept.0.seen

        longer : extended log number history' ≡ log
        longer = ap (λ (j : List E). extended log number j) same ∙ extended_same log number history had.same

        unmoved : kept' ≡ kept
        unmoved = kept_is ∙ ap (λ (l : List (ℕ × E)). (keeper l, [])) longer ∙ sym had.seated

        told_now : told ≡ (front log, [])
        told_now = told_is ∙ ap (λ (l : List (ℕ × E)). (front l, [])) longer

        seen_is : told.0.seen ≡ log
        seen_is = ap (λ (m : Me S (Knowledge E)). m.0.seen) told_now

        begins : IsPrefix me.0.seen log
        begins = subst (λ (m : Me S (Knowledge E)). IsPrefix m.0.seen log) claim_is begun

    -- the history has one item more, which the pass made
    pub makes : (item : E) (place : ℕ) → IsPass base passes legal number places me parts amount → IsKeeper base passes history kept total
        → claim ≡ (front me.0.seen, []) → IsPrefix claim.0.seen kept.0.seen
        → kept' ≡ (keeper (extended kept.0.seen number history'), []) → told ≡ (front (extended kept.0.seen number history'), [])
        → legal history' → place ≡ length history → history' ≡ history ++ item ∷ []
        → IsCaughtUp base passes legal number history' (places ++ place ∷ []) me told kept' parts (amount + 1) (total + 1)
    makes item place pass had claim_is begun kept_is told_is lawful place_is grew = record {
      keeper = subst (λ (m : Me S (Knowledge E)). IsKeeper base passes history' m (total + 1)) (sym kept_now) record {
        seated = refl;
        same = items_are;
        made_by = subst (AllBy passes) (sym (drop_more base log ((number, item) ∷ []) (omega (arith, had.counted)))) (by_append passes (drop base log) ((number, item) ∷ []) had.made_by (pass.numbered, tt));
        counted = omega (arith, had.counted, length-append log ((number, item) ∷ []));
      };
      pass = pass_makes log item place told pass begins (place_is ∙ ap (λ (l : List E). length l) (sym had.same) ∙ length-items_of log) (subst legal (sym items_are) lawful) told_now;
      begins = subst (λ (l : List (ℕ × E)). IsPrefix (items_of me.0.seen) (items_of l)) (sym seen_is) (prefix_items me.0.seen longer (prefix_more me.0.seen log ((number, item) ∷ []) begins));
      front = ap (λ (l : List (ℕ × E)). items_of l) seen_is ∙ items_are;
    }
      where
        log : List (ℕ × E)
        log = kept.0.seen

        longer : List (ℕ × E)
        longer = log ++ (number, item) ∷ []

        log_is : extended log number history' ≡ longer
        log_is = ap (λ (j : List E). extended log number j) grew ∙ extended_more log number history (item ∷ []) had.same

        kept_now : kept' ≡ (keeper longer, [])
        kept_now = kept_is ∙ ap (λ (l : List (ℕ × E)). (keeper l, [])) log_is

        told_now : told ≡ (front longer, [])
        told_now = told_is ∙ ap (λ (l : List (ℕ × E)). (front l, [])) log_is

        seen_is : told.0.seen ≡ longer
        seen_is = ap (λ (m : Me S (Knowledge E)). m.0.seen) told_now

        items_are : items_of longer ≡ history'
        items_are = items_append log ((number, item) ∷ []) ∙ ap (λ (l : List E). l ++ item ∷ []) had.same ∙ sym grew

        begins : IsPrefix me.0.seen log
        begins = subst (λ (m : Me S (Knowledge E)). IsPrefix m.0.seen log) claim_is begun
