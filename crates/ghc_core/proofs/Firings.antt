-- How many firings are counted where entries are carried out.
use Rattle.ghc_core.proofs.Words.{◌≡◌, ℕ, zero, suc, ◌+◌, ◌<◌, ◌≤◌, List, [], ◌∷◌, ◌++◌, map, length, take, get_or, refl, sym, ap, ◌∙◌, arith, map-append, Meter, fired, entry_limit, Entry, said_by, WrittenEntry, after_firings, firings_of_entry, firings_of_entries, take_more}

-- firings, and then others
firings_in_turn : (n k : ℕ) (m : Meter) → after_firings (n + k) m ≡ after_firings k (after_firings n m)
firings_in_turn zero k m = ap (λ p. after_firings p m) (let same : 0 + k ≡ k = omega arith in same)
firings_in_turn (suc n) k m = ap (λ p. after_firings p m) (let same : suc n + k ≡ suc (n + k) = omega arith in same) ∙ firings_in_turn n k (fired m)

-- those of an entry more
firings_pushed : (es : List Entry) (e : Entry) → firings_of_entries (es ++ e ∷ []) ≡ firings_of_entries es + firings_of_entry e
firings_pushed [] e = omega arith
firings_pushed (x ∷ es) e = omega (arith, firings_pushed es e)

-- An entry more is carried out.
pub one_more_counted : (entries : List WrittenEntry) (i : ℕ) (e : WrittenEntry) → i < length entries → e ≡ get_or entries i e → (old now new : Meter)
    → now ≡ after_firings (firings_of_entries (map said_by (take i entries))) old → new ≡ after_firings (firings_of_entry (said_by e)) now
    → new ≡ after_firings (firings_of_entries (map said_by (take (i + 1) entries))) old
one_more_counted entries i e less is old now new done one =
    let more : take (i + 1) entries ≡ take i entries ++ e ∷ [] = take_more entries i e less ∙ ap (λ x. take i entries ++ x ∷ []) (sym is) in
    simp (more, map-append, firings_pushed, firings_in_turn) (rw done at one)

few_of_entry : (e : Entry) → firings_of_entry e ≤ 1
few_of_entry e = grind arith

-- An entry counts one firing at most.
few_firings : (es : List Entry) → firings_of_entries es ≤ length es
few_firings [] = omega arith
few_firings (e ∷ es) = omega (arith, few_of_entry e, few_firings es)

-- The counts stay far below the greatest.
firings_added : (n : ℕ) (m : Meter) → m.firings + n ≤ 5000000000 → ((after_firings n m).firings ≡ m.firings + n) × ((after_firings n m).tries ≡ m.tries)
firings_added zero m few = (let same : m.firings ≡ m.firings + 0 = omega arith in same, refl)
firings_added (suc n) m few =
    let one : (fired m).firings ≡ m.firings + 1 = omega (arith, few) in
    grind (arith, one, firings_added n (fired m) (omega (arith, few, one)))

-- What a core has counted on which an opening of so many steps was loaded, and then entries were carried out.
pub resumed_count : (steps : ℕ) (es : List Entry) (old new : Meter) → old.firings ≡ steps → old.tries ≡ 0 → new ≡ after_firings (firings_of_entries es) old → steps ≤ 1000000 → length es ≤ entry_limit
    → (new.firings ≡ steps + firings_of_entries es) × (new.tries ≡ 0)
resumed_count steps es old new is none count few most =
    let less = few_firings es in
    let told = firings_added (firings_of_entries es) old (omega (arith, is, few, most, less)) in
    (ap (λ m. m.firings) count ∙ told.0 ∙ ap (λ k. k + firings_of_entries es) is, ap (λ m. m.tries) count ∙ told.1 ∙ none)
