-- What `whynot` tells is put together: who holds what is asked about, who lost it, and whether it may be bound.
use Rattle.ghc_trace.proofs.Words.{◌≡◌, ◌≢◌, ◌⊎◌, ◌↔◌, Bool, true, false, ℕ, List, [], ◌∷◌, ◌++◌, length, refl, sym, ap, ◌∙◌, subst, inl, inr, append_assoc, append-nil, Option, Some, None, IsTrue, GoalName, Goal, VarName, Variables, Tree, In, in_left, in_last, in_more, has_member, is_member, not_both, insert_key, value_at, Status, ready, streaming, is_stream, HasStatus, is_failed, is_ready, is_stream_goal, is_waiting, StandsAs, IsHookedOn, Note, NotesByGoal, World, IsSettled, IsStuck, Stands, status_once, name_cmp, IsAcyclic, waiting, failed}
use Rattle.std.specs.FinMap as finite
use Rattle.std.specs.FinSet as set
use Rattle.std.specs.List.Sorted.{IsStrictlySortedBy}
use Rattle.ghc_term.proofs.Names.{name_antisymmetric}
use Rattle.ghc_term.specs.Sets.{IsSetOf}
use Rattle.ghc_trace.specs.declared.holding.Holder.{Holder}
use Rattle.ghc_trace.specs.Explaining.{AreHolderLines}
use Rattle.ghc_trace.specs.Holding.{AreHoldersAmong, IsReaching, IsUnboundIn}
use Rattle.ghc_trace.specs.WhyNot.{AreAskedAbout, AreLostLines, IsAskedAbout, MayBeBound, MayGoOn, TellsVerdict, TellsWhyNot, asked_first, asks_nothing, awaited_there, may_be_bound, stays_unbound, tells_why_not}
use Rattle.ghc_trace.specs.inner.WhyNotCode.{AreByName, verdict_line}
use Rattle.ghc_trace.proofs.AskedAbout.{hooked_free}
use Rattle.ghc_trace.proofs.Held.{in_put}
use Rattle.ghc_trace.proofs.HeldFor.{awaited, noted}
use Rattle.ghc_trace.proofs.Telling.{none_untried, note_stands, settled_in}

-- names in order
pub put_by_name : (ks xs : List VarName) (y : VarName) → ((p : VarName) → In p ks ↔ In p xs) → (p : VarName) → In p (insert_key name_cmp ks y) ↔ In p (xs ++ y ∷ [])
put_by_name ks xs y are p =
    let put = in_put name_cmp name_antisymmetric ks y p in (
      λ i. elim (put.0 i) [ inl j ↦ in_left xs (y ∷ []) p ((are p).0 j) | inr e ↦ subst (λ z. In z (xs ++ y ∷ [])) (sym e) (in_last xs y) ],
      λ i. put.1 (elim (in_more xs y p i) [ inl j ↦ inl ((are p).1 j) | inr e ↦ inr e ]),
    )

pub named_all : (ks xs : List VarName) (s : Variables) → set.from_list xs ≡ s → ((p : VarName) → In p ks ↔ In p xs) → IsStrictlySortedBy name_cmp ks → AreByName s ks
named_all ks xs s all are sorted = (sorted, λ y. (λ i. has_member s xs all y ((are y).0 i), λ c. (are y).1 (is_member s xs all y c)))

module _ (w : World) where
  -- what is asked about depends only on what is asked about first
  pub asked_as : (F G : VarName → Type 0) → ((y : VarName) → F y → G y) → {y : VarName} → IsAskedAbout w F y → IsAskedAbout w G y
  asked_as F G into (asked_first {y = y} f) = asked_first (into y f)
  asked_as F G into (awaited_there {y = y} {z = z} g a r h) = awaited_there g (asked_as F G into a) r h

  verdict_as : (F G : VarName → Type 0) → ((y : VarName) → F y ↔ G y) → (line : List ℕ) → TellsVerdict w F line → TellsVerdict w G line
  verdict_as F G same line (may_be_bound m) = may_be_bound (m.0, asked_as F G (λ y. (same y).0) m.1, m.2, m.3)
  verdict_as F G same line (stays_unbound n) = stays_unbound (λ m. n (m.0, asked_as G F (λ y. (same y).1) m.1, m.2, m.3))

  pub told_as : (F G : VarName → Type 0) → ((y : VarName) → F y ↔ G y) → {text : List ℕ} → TellsWhyNot w F text → TellsWhyNot w G text
  told_as F G same (asks_nothing n) = asks_nothing (λ y g. n y ((same y).1 g))
  told_as F G same (tells_why_not x asked ys hs held lost line f is among lines named losses v) =
      tells_why_not x asked ys hs held lost line ((same x).0 f)
      (λ y. (λ i. asked_as F G (λ z. (same z).0) ((is y).0 i), λ a. (is y).1 (asked_as G F (λ z. (same z).1) a))) among lines
      (named.0, λ y. (λ i. asked_as F G (λ z. (same z).0) ((named.1 y).0 i), λ a. (named.1 y).1 (asked_as G F (λ z. (same z).1) a))) losses (verdict_as F G same line v)

  -- whether a holder may go on is the verdict
  module _ (First : VarName → Type 0) (asked : Variables) (hs : List Holder) (is : IsSetOf asked (IsAskedAbout w First)) (among : AreHoldersAmong w.state asked hs) where
    pub told_verdict : (going : Bool) → IsTrue going ↔ ((h : Holder) × In h hs × MayGoOn w h.goal) → TellsVerdict w First (verdict_line going)
    told_verdict true one = may_be_bound (let h = one.0 refl in let q = (among.1 h.0).0 h.1 in (h.0, (is h.0.variable).0 q.0, q.1, h.2))
    told_verdict false one = stays_unbound (λ m. let clash : false ≡ true = one.1 (m.0, (among.1 m.0).1 ((is m.0.variable).1 m.1, m.2), m.3) in cc)

    pub holders_there : (h : Holder) → In h hs → finite.get w.state.goals h.goal ≢ None
    holders_there h i none = let q = (among.1 h).0 i in let clash : Some q.1.0 ≡ None = sym q.1.1 ∙ none in cc

  -- the whole
  pub all_told : (first asked : Variables) (members : List VarName) (hs : List Holder) (ys : List VarName) (held lost : List ℕ) (going : Bool) → set.from_list members ≡ first → members ≢ []
      → IsSetOf asked (IsAskedAbout w (λ y. IsTrue (set.contains first y))) → AreHoldersAmong w.state asked hs → AreHolderLines w hs held → AreByName asked ys → AreLostLines w ys lost
      → IsTrue going ↔ ((h : Holder) × In h hs × MayGoOn w h.goal) → TellsWhyNot w (λ y. IsTrue (set.contains first y)) (held ++ (lost ++ verdict_line going))
  all_told first asked [] hs ys held lost going all some is among lines named losses one = absurd (some refl)
  all_told first asked (x ∷ xs) hs ys held lost going all some is among lines named losses one =
      tells_why_not x asked ys hs held lost (verdict_line going) (has_member first (x ∷ xs) all x (inl refl)) is among lines
      (named.0, λ y. (λ i. (is y).0 ((named.1 y).0 i), λ a. (named.1 y).1 ((is y).1 a))) losses (told_verdict (λ y. IsTrue (set.contains first y)) asked hs is among going one)

  pub none_told : (first : Variables) (members : List VarName) → set.from_list members ≡ first → members ≡ [] → TellsWhyNot w (λ y. IsTrue (set.contains first y)) []
  none_told first members all empty = asks_nothing (λ y i. subst (In y) empty (is_member first members all y i))

-- a goal that is there may go on just where its note says that it is ready, or it has none
module _ (w : World) (notes : NotesByGoal) (settled : IsSettled w notes) (g : GoalName) where
  pub goes_noted : (note : Note) → finite.get notes g ≡ Some note → note.status ≡ ready → MayGoOn w g
  goes_noted note is rests = inl (subst (StandsAs w.opening.program w.state.goals w.state.store g) rests (note_stands w.opening.program w.state.goals w.state.store notes (settled_in settled) g note is))

  -- a goal of the status of streams is one
  flowing : {b : Goal} {s : Status} → HasStatus w.opening.program (value_at w.state.store) b s → s ≡ streaming → is_stream b ≡ true
  flowing (is_ready act e a) is = let clash : ready ≡ streaming = is in absurd (cc)
  flowing (is_waiting {xs = xs} a m) is = let clash : waiting xs ≡ streaming = is in absurd (cc)
  flowing (is_failed {f = f} n a o) is = let clash : failed f ≡ streaming = is in absurd (cc)
  flowing (is_stream_goal e) is = e

  -- one status
  one_status : (s t : Status) → Stands w g s → Stands w g t → s ≡ t
  one_status s t p q =
      let one : Some p.0 ≡ Some q.0 = sym p.1 ∙ q.1 in
      let same : p.0 ≡ q.0 = cc in
      status_once w.opening.program (value_at w.state.store) q.0 s t (settled_in settled).acyclic (subst (λ (b : Goal). HasStatus w.opening.program (value_at w.state.store) b s) same p.2) q.2

  pub rests_noted : (note : Note) → finite.get notes g ≡ Some note → note.status ≢ ready → ¬ MayGoOn w g
  rests_noted note is rests may =
      let stands = note_stands w.opening.program w.state.goals w.state.store notes (settled_in settled) g note is in
      let n = settled.exact.noted g note is in
      elim may [
        | inl r ↦ rests (one_status note.status ready stands r)
        | inr s ↦
            let one : Some s.0 ≡ Some n.0 = sym s.1 ∙ n.1 in
            let same : s.0 ≡ n.0 = cc in
            let clash : true ≡ false = sym (flowing s.2 refl) ∙ ap is_stream same ∙ n.2 in
            absurd (cc)
      ]

  pub goes_by_note : (note : Note) → finite.get notes g ≡ Some note → (b : Bool) → IsTrue b ↔ (note.status ≡ ready) → IsTrue b ↔ MayGoOn w g
  goes_by_note note is true both = (λ _. goes_noted note is (both.0 refl), λ _. refl)
  goes_by_note note is false both = (λ h. let clash : false ≡ true = h in absurd (cc), λ m. absurd (rests_noted note is (λ e. let clash : false ≡ true = both.1 e in cc) m))

  unnoted_flows : (b : Goal) → finite.get w.state.goals g ≡ Some b → finite.get notes g ≡ None → (t : Bool) → is_stream b ≡ t → MayGoOn w g
  unnoted_flows b e none true s = inr (b, e, is_stream_goal s)
  unnoted_flows b e none false s = absurd (none_untried settled.exact g (b, e, s, none))

  unnoted_by : (o : Option Goal) → finite.get w.state.goals g ≡ o → finite.get notes g ≡ None → o ≢ None → MayGoOn w g
  unnoted_by None e none is = absurd (is refl)
  unnoted_by (Some b) e none is = unnoted_flows b e none (is_stream b) refl

  pub goes_unnoted : finite.get notes g ≡ None → finite.get w.state.goals g ≢ None → MayGoOn w g
  goes_unnoted none is = unnoted_by (finite.get w.state.goals g) refl none is

  -- what the goal waits for
  pub waits_first : (note : Note) (xs : Variables) → finite.get notes g ≡ Some note → note.status ≡ waiting xs → (y : VarName) → IsTrue (set.contains xs y) ↔ IsHookedOn w.opening.program w.state.goals w.state.store y g
  waits_first note xs is waits y = let both = awaited w notes settled g note xs is waits y in (both.1, both.0)

  pub waits_free : (note : Note) (xs : Variables) → finite.get notes g ≡ Some note → note.status ≡ waiting xs → (y : VarName) → IsTrue (set.contains xs y) → value_at w.state.store y ≡ None
  waits_free note xs is waits y i = hooked_free w y g ((waits_first note xs is waits y).0 i)

  abbrev WaitsFor : VarName → Type 0
  WaitsFor y = IsHookedOn w.opening.program w.state.goals w.state.store y g

  pub nothing_unnoted : finite.get notes g ≡ None → TellsWhyNot w WaitsFor []
  nothing_unnoted none = asks_nothing (λ y h. let n = noted w notes settled g y h in let clash : Some n.0 ≡ None = sym n.2 ∙ none in cc)

  pub nothing_noted : (note : Note) → finite.get notes g ≡ Some note → ((xs : Variables) → note.status ≢ waiting xs) → TellsWhyNot w WaitsFor []
  nothing_noted note is rests = asks_nothing (λ y h.
      let n = noted w notes settled g y h in
      let one : Some n.0 ≡ Some note = sym n.2 ∙ is in
      let same : n.0 ≡ note = cc in
      rests n.1 (subst (λ (z : Note). z.status ≡ waiting n.1) same n.3))

-- what is written one after another
pub three : (o a b c : List ℕ) → ((o ++ a) ++ b) ++ c ≡ o ++ (a ++ (b ++ c))
three o a b c = append_assoc (o ++ a) b c ∙ append_assoc o a (b ++ c)
