-- Each step of the table keeps its rule.
use Rattle.ghc_shared.proofs.Words.{◌≡◌, ◌≢◌, ℕ, zero, suc, ◌==◌, List, [], ◌∷◌, ◌++◌, length, map, drop, set, true, false, true≢false, refl, sym, ap, ◌∙◌, subst, ⊎_elim, append_assoc, append-nil, slice_index, Snapshot, Me, step, keeps, Allows, Splits, Joins, opening, at_set, at_snoc, set_again, exchanged, Knowledge, extended, keeper, front, beside, Fits, IsOneLog, CatchesUp}
use mathlib.Core.Option.{some, some-ne-none, some-injective}
use mathlib.Core.List.{IsPrefix}
use prog.Atomic.{either}
use lib.ListN.{get_elem?}

off : false ≡ true → ⊥
off e = true≢false (sym e)

module _ {E : Type 0} where
  pub nothing_first : (log : List (ℕ × E)) → IsPrefix [] log
  nothing_first log = (log, refl)

  pub itself_first : (log : List (ℕ × E)) → IsPrefix log log
  itself_first log = ([], append-nil log)

  pub prefix_more : (seen log more : List (ℕ × E)) → IsPrefix seen log → IsPrefix seen (log ++ more)
  prefix_more seen log more p = (p.0 ++ more, sym (append_assoc seen p.0 more) ∙ ap (λ l. l ++ more) p.1)

  fits_set : (seat : ℕ) (log now : List (ℕ × E)) (views : List (Knowledge E)) (by : ℕ) (w : Knowledge E) → ((j : ℕ) (u : Knowledge E) → j ≢ by → get_elem? views j ≡ some u → Fits seat now j u) → Fits seat now by w
      → (j : ℕ) (u : Knowledge E) → get_elem? (set views by w) j ≡ some u → Fits seat now j u
  fits_set seat log now views by w others mine j u e =
      ⊎_elim
      (λ (x : (j ≡ by) × (w ≡ u)). subst (λ (y : ℕ × Knowledge E). Fits seat now y.0 y.1) (λ i. (sym x.0 i, x.1 i)) mine)
      (λ (x : (j ≢ by) × (get_elem? views j ≡ some u)). others j u x.0 x.1)
      (at_set views by j w u e)

  pub begins : (S : Type 0) (log : List (ℕ × E)) → IsOneLog {S = S} (opening (length log ∷ []) [] (keeper log))
  begins S log = (0, log, refl, one)
    where
      one : (by : ℕ) (v : Knowledge E) → get_elem? (keeper log ∷ []) by ≡ some v → Fits 0 log by v
      one zero v e = subst (Fits 0 log 0) (some-injective _ _ e) ((λ _. (refl, refl)), itself_first log, nothing_first log)
      one (suc by) v e = absurd (some-ne-none v (sym e))

  pub begins_at : (S : Type 0) (log : List (ℕ × E)) (n : ℕ) → length log ≡ n → IsOneLog {S = S} (opening (n ∷ []) [] (keeper log))
  begins_at S log n is = subst (λ k. IsOneLog {S = S} (opening (k ∷ []) [] (keeper log))) is (begins S log)

  -- a copy of what was seen
  pub copies : {S : Type 0} (id : ℕ) (v : Knowledge E) → Splits {S = S} IsOneLog id v v (front v.seen)
  copies id v s h at =
      let mine = h.3 id v at in (
        h.0,
        h.1,
        h.2,
        λ j u e. ⊎_elim
            (λ was. h.3 j u (subst (λ l. get_elem? l j ≡ some u) (set_again s.views id v at) was))
            (λ (same : front v.seen ≡ u). subst (Fits h.0 h.1 j) same ((λ k. absurd (off k)), mine.1, nothing_first h.1))
            (at_snoc (set s.views id v) (front v.seen) u j e),
      )

  -- a front goes beside what was seen
  pub compares : {S : Type 0} (id : ℕ) (v : Knowledge E) (other : ℕ) (w : Knowledge E) → Joins {S = S} IsOneLog id v other w (beside v w) (front [])
  compares id v other w s h at apart there =
      let mine = h.3 id v at in
      let theirs = ⊎_elim (λ (t : (other ≡ id) × (beside v w ≡ w)). absurd (apart t.0)) (λ (t : (other ≢ id) × (get_elem? s.views other ≡ some w)). h.3 other w t.1) (at_set s.views id other (beside v w) w there) in
      (h.0, h.1, h.2, fits_set h.0 h.1 h.1 (set s.views id (beside v w)) other (front []) (λ j u _ e. fits_set h.0 h.1 h.1 s.views id (beside v w) (λ i y _ e'. h.3 i y e') (mine.0, mine.1, theirs.1) j u e) ((λ k. absurd (off k)), nothing_first h.1, nothing_first h.1))

  module _ {C : Type 0} (history : C → List E) where
    -- the keeper catches up with the value
    pub catches : (slots id : ℕ) (v : Knowledge E) (note : ℕ × Snapshot C) (old new : ℕ) → v.keeps ≡ true → old ≡ length v.seen → new ≡ length (extended v.seen note.0 (history note.1.value))
        → Allows IsOneLog slots id (v, []) 0 (λ n. either (n == old) new n) (λ r. CatchesUp history (step slots 0 old new (some note)) (v, []) r)
    catches slots id v note old new keeps_all old_is new_is s h homes at fits =
        let mine = h.3 id v at in
        let known = mine.0 keeps_all in
        let log = h.1 in
        let more = extended v.seen note.0 (history note.1.value) in
        let tail : List (ℕ × E) = map (λ e. (note.0, e)) (drop (length v.seen) (history note.1.value)) in
        let longer : log ++ tail ≡ more = ap (λ l. l ++ tail) (sym known.1) in
        let P : List ℕ → Type 0 = λ ws. set ws 0 (either (slice_index ws 0 == old) new (slice_index ws 0)) ≡ length more ∷ [] in
        let same : length log ≡ old = ap (λ (l : List (ℕ × E)). length l) (sym known.1) ∙ sym old_is in
        let words : P s.words = subst P (sym h.2) (ap (λ (n : ℕ). n ∷ []) (exchanged (length log) old new (λ k. k ≡ length more) (λ _. new_is) (λ ne. absurd (ne same)))) in (
          keeper more,
          keeps,
          tt,
          (
            h.0,
            more,
            words,
            fits_set h.0 log more s.views id (keeper more)
                (λ j u e ne. let theirs = h.3 j u ne in ((λ k. absurd (e ((theirs.0 k).0 ∙ sym known.0))), subst (IsPrefix u.seen) longer (prefix_more u.seen log tail theirs.1), subst (IsPrefix u.compared) longer (prefix_more u.compared log tail theirs.2)))
                ((λ _. (known.0, refl)), itself_first more, nothing_first more),
          ),
          (subst (IsPrefix v.compared) (sym known.1) mine.2, refl),
        )

    pub catches_as : (slots id : ℕ) (me : Me (ℕ × Snapshot C) (Knowledge E)) (v : Knowledge E) (note : ℕ × Snapshot C) (old new : ℕ) → me ≡ (v, []) → v.keeps ≡ true → old ≡ length v.seen → new ≡ length (extended v.seen note.0 (history note.1.value))
        → Allows IsOneLog slots id me 0 (λ n. either (n == old) new n) (λ r. CatchesUp history (step slots 0 old new (some note)) me r)
    catches_as slots id me v note old new is keeps_all old_is new_is =
        subst (λ (m : Me (ℕ × Snapshot C) (Knowledge E)). Allows IsOneLog slots id m 0 (λ n. either (n == old) new n) (λ r. CatchesUp history (step slots 0 old new (some note)) m r)) (sym is) (catches slots id v note old new keeps_all old_is new_is)
