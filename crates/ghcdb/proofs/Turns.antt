-- A world's journal begins with its opening, whose steps are numbered. The entries after it follow each other up to the next number.
use Rattle.ghcdb.proofs.CitedWords.{◌≡◌, ◌<◌, ◌≤◌, List, [], ◌∷◌, ◌++◌, length, map, drop, sym, ap, ◌∙◌, subst, append-nil, arith, In, Opening, World, Opens, from_opening}
use Rattle.std.proofs.Common.{append_assoc}
use Rattle.std.proofs.Math.Seq.{drop-append_seam}
use Rattle.std.proofs.lemmas.List.{length-map}
use Rattle.ghc_records.specs.Chronicle.{AreBelow, AreInTurn, IsInTurn, next_after, next_behind}
use Rattle.ghc_records.specs.ChronicleText.{IsNext}
use Rattle.ghc_records.specs.Journal.{Step, Entry, took, step_of, opening_journal}
use Rattle.ghc_records.specs.Numbers.{kept_limit}
use Rattle.ghc_records.specs.Orders.{AreDistinct}
use Rattle.ghc_records.proofs.TurnLemmas.{next_more, turn_more}
use Rattle.ghc_core.specs.declared.changes.Change.{Change}
use Rattle.ghc_core.specs.declared.changes.Change.TheVariants.{Comes as comes, Goes as goes, Reorders as reorders}
use Rattle.ghc_core.specs.declared.changes.Coming.{Coming}
use Rattle.ghc_core.specs.declared.changes.Going.{Going}
use Rattle.ghc_core.specs.Change.{CanChange, Changes}
use Rattle.ghc_core.specs.Reached.{Reaches, by_change}
use Rattle.ghc_core.proofs.Loading.{step_numbers}
use Rattle.ghc_core.proofs.Moving.{opening_stays}
use Rattle.ghc_core.proofs.Resuming.{entered_by, enters_own}
use Rattle.ghc_core.proofs.SavedSteps.{step_back}

-- what a change enters follows, and leads to the next number
follows : (w v : World) (change : Change) → CanChange w change → Changes w change v → IsInTurn w.next (entered_by change) × (next_after w.next (entered_by change) ≡ v.next)
follows w v (comes Coming.Next r) can e = ((can.0, can.2.0), sym (ap (λ (u : World). u.next) e))
follows w v (comes Coming.Shelved r) can e = (tt, sym (ap (λ (u : World). u.next) e))
follows w v (goes Going.Alone gone) can c = (tt, sym (ap (λ (u : World). u.next) c.2.2))
follows w v (goes Going.Together gone) can c = (tt, sym (ap (λ (u : World). u.next) c.2.2))
follows w v (reorders a) can e = (tt, sym (ap (λ (u : World). u.next) e))

-- the entries of a journal after its opening
pub record Turns (w : World) : Type 0 where
  pub entries : List Entry
  pub journal : w.journal ≡ opening_journal w.opening ++ entries
  pub in_turn : AreInTurn w.opening.next entries
  pub next : next_behind w.opening.next entries ≡ w.next

one_turn : (w v : World) (change : Change) → CanChange w change → Changes w change v → Turns w → Turns v
one_turn w v change can changes t =
    let e = entered_by change in
    let es = t.entries in
    let f = follows w v change can changes in
    let same : v.opening ≡ w.opening = opening_stays w v change can changes in
    record {
      entries = es ++ e ∷ [];
      journal = enters_own w v change can changes ∙ ap (λ (l : List Entry). l ++ e ∷ []) t.journal ∙ append_assoc (opening_journal w.opening) es (e ∷ [])
          ∙ ap (λ (o : Opening). opening_journal o ++ (es ++ e ∷ [])) (sym same);
      in_turn = subst (λ (o : Opening). AreInTurn o.next (es ++ e ∷ [])) (sym same) (turn_more w.opening.next es e t.in_turn (subst (λ n. IsInTurn n e) (sym t.next) f.0));
      next = ap (λ (o : Opening). next_behind o.next (es ++ e ∷ [])) same ∙ next_more w.opening.next es e ∙ ap (λ n. next_after n e) t.next ∙ f.1;
    }

pub turns : {w : World} → Reaches w → Turns w
turns (from_opening {o = o} {w = w} sound opens) = record {
  entries = [];
  journal = opens.journal ∙ ap (λ (p : Opening). opening_journal p) (sym opens.opening) ∙ sym (append-nil (opening_journal w.opening));
  in_turn = tt;
  next = ap (λ (p : Opening). p.next) opens.opening ∙ sym opens.next;
}
turns (by_change {w = w} {v = v} change r can changes) = one_turn w v change can changes (turns r)

-- they are what follows as many entries as the opening has steps
pub behind_opening : (w : World) (t : Turns w) → drop (length w.opening.steps) w.journal ≡ t.entries
behind_opening w t =
    ap (λ (l : List Entry). drop (length w.opening.steps) l) t.journal
    ∙ ap (λ n. drop n (opening_journal w.opening ++ t.entries)) (sym (length-map w.opening.steps took)) ∙ drop-append_seam (opening_journal w.opening) t.entries

-- ---- the opening

-- what holds of the opening of each world
pub record IsNumbered (o : Opening) : Type 0 where
  pub few : length o.steps ≤ kept_limit
  pub below : AreBelow o.next o.steps
  pub first : IsNext o.next

opened : (o : Opening) (w : World) → Opens o w → IsNumbered o
opened o w opens = record {
  few = omega (arith, opens.few, length-map w.kept step_of, ap length opens.steps);
  below = (
    subst (λ (ss : List Step). AreDistinct (map (λ (s : Step). s.number) ss)) opens.steps (subst AreDistinct (step_numbers w.kept) opens.state.0.1),
    λ s i. let q = step_back w.kept s (subst (In s) (sym opens.steps) i) in subst (λ (z : Step). z.number < o.next) q.2 (opens.below q.0 q.1),
  );
  first = opens.numbered;
}

pub numbered : {w : World} → Reaches w → IsNumbered w.opening
numbered (from_opening {o = o} {w = w} sound opens) = subst IsNumbered (sym opens.opening) (opened o w opens)
numbered (by_change {w = w} {v = v} change r can changes) = subst IsNumbered (sym (opening_stays w v change can changes)) (numbered r)
