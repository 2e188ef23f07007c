-- What the replies say that look at the record from a step on, at all causes and at what clauses say.
use Rattle.ghc_console.proofs.CitedWords.{◌≡◌, ◌≢◌, ◌≤◌, ◌<◌, ◌+◌, ◌∙◌, ℕ, List, [], ◌∷◌, ◌++◌, inl, inr, refl, sym, ap, subst, arith, append_assoc, append-nil, codes, length, drop, take, drop_of_length-le, take-append-drop, slice_get, Option, Some, None, get_or, get_or_from_slice_get, slice_get_within, Goal, GoalName, VarName, Tree, Program, Record, SlotList, held_in, rank, rank_zero, rank_stands, rank_next, rank_gap, rank_end, World, lined, record_lines, text_lines}
use Rattle.std.specs.List.{AllZip, concat}
use Rattle.std.specs.Option.{IsSome}
use Rattle.std.specs.FinMap as finite
use Rattle.std.proofs.lemmas.List.{take_all, take_more}
use Rattle.std.proofs.lemmas.List.Folds.{concat-append}
use Rattle.ghc_flat.specs.Clause.{Clause}
use Rattle.ghc_match.specs.Match.{Refuses}
use Rattle.ghc_match.specs.declared.refusal.RefusalPlace.{RefusalPlace}
use Rattle.ghc_match.specs.inner.Refusing.{TellsRefusal}
use Rattle.ghc_fire.specs.Goals.{Goals}
use Rattle.ghc_records.specs.inner.Slots.{HasNumberIn}
use Rattle.ghc_console.specs.TextLines.{text_or_none}
use Rattle.ghc_console.specs.Looks.{RepliesToClauses, RepliesToSince, TellsCausesAt, TellsCausesOf, TellsClause, TellsClausesFor, tells_since}
use Rattle.ghc_console.proofs.RecordLines.{drop_at}

-- The text is the record from the place of a step on.
pub since_told : (w : World) (n : ℕ) (ss : SlotList) (first last : ℕ) (text : List ℕ) → w.kept ≡ held_in ss → HasNumberIn ss first n → length ss ≤ last
    → text ++ record_lines (drop (rank ss last) (held_in ss)) ≡ record_lines (drop (rank ss first) (held_in ss)) → RepliesToSince w n text
since_told w n ss first last text is found end told =
    let held = held_in ss in
    let i = rank ss first in
    let here : drop i held ≡ found.0 ∷ drop (i + 1) held = drop_at held i found.0 (rank_stands ss first found.0 found.1) in
    let behind = rank_end ss last end in
    let none : record_lines (drop (rank ss last) held) ≡ [] = ap record_lines (drop_of_length-le held {i = rank ss last} (omega (arith, behind))) in
    let whole : text ≡ record_lines (found.0 ∷ drop (i + 1) held) = sym (append-nil text) ∙ ap (λ l. text ++ l) (sym none) ∙ told ∙ ap record_lines here in
    let parts : w.kept ≡ take i held ++ found.0 ∷ drop (i + 1) held = is ∙ sym (take-append-drop i held) ∙ ap (λ l. take i held ++ l) here in
    subst (RepliesToSince w n) (sym whole) (tells_since (take i held) found.0 (drop (i + 1) held) parts found.2)

-- One more text, and one more element of two lists.
pub lines_joined : (ts us : List (List ℕ)) → text_lines (ts ++ us) ≡ text_lines ts ++ text_lines us
lines_joined [] us = refl
lines_joined (t ∷ ts) us =
    let more : t ++ (codes "\n" ++ text_lines (ts ++ us)) ≡ t ++ (codes "\n" ++ (text_lines ts ++ text_lines us)) = ap (λ l. t ++ (codes "\n" ++ l)) (lines_joined ts us) in
    more ∙ sym (append_assoc t (codes "\n" ++ text_lines ts) (text_lines us))

one_more : {A B : Type 0} (R : A → B → Type 0) (xs : List A) (ys : List B) (x : A) (y : B) → AllZip R xs ys → R x y → AllZip R (xs ++ x ∷ []) (ys ++ y ∷ [])
one_more R [] [] x y a r = (r, tt)
one_more R [] (v ∷ ys) x y a r = absurd a
one_more R (u ∷ xs) [] x y a r = absurd a
one_more R (u ∷ xs) (v ∷ ys) x y a r = (a.0, one_more R xs ys x y a.1 r)

-- The text tells the causes of the steps in front of a place.
abbrev pub TellsCausesUpTo : List Record → SlotList → ℕ → List ℕ → Type 0
TellsCausesUpTo kept ss place text = (told : List (List ℕ)) × AllZip (TellsCausesOf kept) (take (rank ss place) (held_in ss)) told × (text ≡ concat told)

pub no_causes : (kept : List Record) (ss : SlotList) (text : List ℕ) → text ≡ [] → TellsCausesUpTo kept ss 0 text
no_causes kept ss text none = ([], subst (λ k. AllZip (TellsCausesOf kept) (take k (held_in ss)) []) (sym (rank_zero ss)) tt, none)

-- One place more.
taken_at : (rs : List Record) (i : ℕ) (r : Record) → slice_get rs i ≡ Some r → take (i + 1) rs ≡ take i rs ++ r ∷ []
taken_at rs i r e = take_more rs i r (slice_get_within rs i r e) ∙ ap (λ k. take i rs ++ k ∷ []) (get_or_from_slice_get rs i r r e)

pub causes_on : (kept : List Record) (ss : SlotList) (place : ℕ) (before after : List ℕ) → TellsCausesAt kept ss place before after → TellsCausesUpTo kept ss place before → TellsCausesUpTo kept ss (place + 1) after
causes_on kept ss place before after (inl (r, text, stands, causes, added)) (told, of_each, is) =
    let held = held_in ss in
    let i = rank ss place in
    let next : take (rank ss (place + 1)) held ≡ take i held ++ r ∷ [] = ap (λ k. take k held) (rank_next ss place r stands) ∙ taken_at held i r (rank_stands ss place r stands) in
    let all = told ++ text ∷ [] in
    let joined : concat all ≡ concat told ++ text = concat-append told (text ∷ []) ∙ ap (λ l. concat told ++ l) (append-nil text) in
    (all, subst (λ rs. AllZip (TellsCausesOf kept) rs all) (sym next) (one_more (TellsCausesOf kept) (take i held) told r text of_each causes), added ∙ ap (λ l. l ++ text) is ∙ sym joined)
causes_on kept ss place before after (inr (gap, same)) (told, of_each, is) =
    (told, subst (λ k. AllZip (TellsCausesOf kept) (take k (held_in ss)) told) (sym (rank_gap ss place gap)) of_each, same ∙ is)

-- After the last place, the text tells those of all.
pub all_causes : (kept : List Record) (ss : SlotList) (place : ℕ) (text : List ℕ) → kept ≡ held_in ss → length ss ≤ place → TellsCausesUpTo kept ss place text
    → (told : List (List ℕ)) × AllZip (TellsCausesOf kept) kept told × (text ≡ concat told)
all_causes kept ss place text is end (told, of_each, text_is) =
    let held = held_in ss in
    let behind = rank_end ss place end in
    let whole : take (rank ss place) held ≡ kept = take_all (rank ss place) held (omega (arith, behind)) ∙ sym is in
    (told, subst (λ rs. AllZip (TellsCausesOf kept) rs told) whole of_each, text_is)

-- The text stays, or `none` comes in its place.
pub told_or_none : (text after : List ℕ) → (text ≡ [] → after ≡ lined (codes "none")) → (text ≢ [] → after ≡ text) → after ≡ text_or_none text
told_or_none [] after none some = none refl
told_or_none (b ∷ bs) after none some = some (λ e. cc)

-- A clause that refuses does so at a place that was found.
pub place_there : (c : Clause) (ts : List Tree) (S : VarName → Option Tree) (found : Option RefusalPlace) → TellsRefusal c ts S found → Refuses c ts S → IsSome found
place_there c ts S None told refuses = absurd (told refuses)
place_there c ts S (Some place) told refuses = refl

-- The text tells what the clauses of the first of these numbers say.
module _ (lines : List ℕ) (P : Program) (ts : List Tree) (S : VarName → Option Tree) where
  abbrev pub TellsFirst : List ℕ → ℕ → List ℕ → Type 0
  TellsFirst ks i text = (told : List (List ℕ)) × AllZip (TellsClause lines P ts S) (take i ks) told × (text ≡ text_lines told)

  pub one_clause_told : (ks : List ℕ) (i : ℕ) (before after line : List ℕ) → i < length ks → TellsFirst ks i before → TellsClause lines P ts S (get_or ks i 0) line → after ≡ before ++ (line ++ codes "\n") → TellsFirst ks (i + 1) after
  one_clause_told ks i before after line within (told, of_each, is) says added =
      let all = told ++ line ∷ [] in
      let text : after ≡ text_lines all = added ∙ ap (λ l. l ++ (line ++ codes "\n")) is ∙ sym (lines_joined told (line ∷ [])) in
      (all, subst (λ js. AllZip (TellsClause lines P ts S) js all) (sym (take_more ks i 0 within)) (one_more (TellsClause lines P ts S) (take i ks) told (get_or ks i 0) line of_each says), text)

-- The text of the goal that is found is the reply.
pub clauses_told : (lines : List ℕ) (w : World) (g : GoalName) (goals : Goals) (found : Option Goal) (text : List ℕ) → goals ≡ w.state.goals → found ≡ finite.get goals g → TellsClausesFor lines w found text → RepliesToClauses lines w g text
clauses_told lines w g goals found text same there told = subst (λ o. TellsClausesFor lines w o text) (there ∙ ap (λ gs. finite.get gs g) same) told
