-- What a worker goes through in its turns.
use Rattle.ghc_pool.proofs.Words.{◌≡◌, ◌≤◌, ◌+◌, ◌<◌, ◌++◌, ℕ, zero, suc, length, set, List, [], ◌∷◌, refl, sym, ap, ◌∙◌, subst, arith, GoalName, RoundStop, Bool, Taken, Job, most_permits, work_of, submits, weigh, DidNothing, HasRoomToAnswer, Keeps, KeepsRoom, IsWell, IsAble, Works, HasGone}
use lib.ListN.{get_or}
use Rattle.std.specs.Prelude.{Result, IfSome}
use Rattle.ghc_term.specs.declared.fault.Fault.{Fault}
use Rattle.ghc_core.specs.World.{Proposal}
use Rattle.ghc_core.specs.Excerpt as core
use Rattle.ghc_pool.specs.declared.rounds.hand.Apart.{Apart}
use Rattle.ghc_pool.specs.declared.rounds.hand.Apart.TheVariants.{Excerpt, Attempt}
use Rattle.ghc_pool.specs.declared.rounds.hand.InHand.{InHand}
use Rattle.ghc_pool.specs.inner.Turns.{AreApart, CanDecide, IsApart, attempted, names_in}
use Rattle.ghc_pool.proofs.Stealing.{keeps_after, prefix_same}
use Rattle.ghc_pool.proofs.Wells.{room_same, room_after, well_same}

module _ {P L : Type 0} (fed : List Taken → Type 0) (asks : List Taken → RoundStop → Type 0) (tells : P → List Taken → P → Type 0) where
  pub gone_nowhere : (j : Job P L) → Works fed asks j → HasGone fed asks tells [] [] j j
  gone_nowhere j works = record {
    keeps = record { able = works.0; balance = λ h. refl; own = refl; parts = refl; others = refl; begins = prefix_same j.worker.offered.items };
    room = λ but room. room;
    works = works;
    told = λ start told. told;
  }

  pub gone_on : (a b c : List GoalName) (i j k : Job P L) → HasGone fed asks tells a b i j → HasGone fed asks tells b c j k → HasGone fed asks tells a c i k
  gone_on a b c i j k p q = record {
    keeps = keeps_after a b c _ _ _ p.keeps q.keeps;
    room = room_after i.worker j.worker k.worker p.room q.room;
    works = q.works;
    told = λ start told. q.told start (p.told start told);
  }

  -- permits were given
  pub permitted : (j k : Job P L) → Works fed asks j → k.worker ≡ j.worker → k.share.parts ≡ 1 → k.share.amount + j.spare ≡ j.share.amount + k.spare → k.spare ≤ most_permits
      → ((start : P) → tells start j.worker.taken.items j.pass → tells start k.worker.taken.items k.pass) → HasGone fed asks tells [] [] j k
  permitted j k works same part given few told = record {
    keeps = subst (λ w. Keeps [] [] j.worker w) (sym same) (gone_nowhere j works).keeps;
    room = subst (λ w. KeepsRoom j.worker w) (sym same) (λ but room. room);
    works = (
      subst IsAble (sym same) works.0,
      subst (λ w. IsWell fed asks (work_of w)) (sym same) works.1,
      record { part = part; counted = omega (arith, given, works.2.counted, ap (λ w. submits w.taken.items) same); few = few },
    );
    told = told;
  }

  -- it looked for a name
  pub looked : (xs : List GoalName) (j k : Job P L) → Works fed asks j → Keeps [] xs j.worker k.worker → DidNothing j.worker k.worker → k.share ≡ j.share → k.spare ≡ j.spare → k.pass ≡ j.pass → HasGone fed asks tells [] xs j k
  looked xs j k works keeps same share spare pass = record {
    keeps = keeps;
    room = room_same j.worker k.worker same;
    works = (
      keeps.able,
      well_same fed asks j.worker k.worker same works.1,
      record { part = ap (λ s. s.parts) share ∙ works.2.part; counted = omega (arith, ap (λ s. s.amount) share, spare, works.2.counted, ap (λ l. submits l) same.taken); few = omega (arith, spare, works.2.few) },
    );
    told = λ start told. subst (λ p. tells start k.worker.taken.items p) (sym pass) (subst (λ l. tells start l j.pass) (sym same.taken) told);
  }

  -- it decided a name
  pub decided : (g : GoalName) (j k : Job P L) → Works fed asks j → Keeps (g ∷ []) [] j.worker k.worker → KeepsRoom j.worker k.worker → IsWell fed asks (work_of k.worker) → k.share ≡ j.share → k.spare ≤ j.spare
      → k.spare + submits k.worker.taken.items ≡ j.spare + submits j.worker.taken.items → ((start : P) → tells start j.worker.taken.items j.pass → tells start k.worker.taken.items k.pass) → HasGone fed asks tells (g ∷ []) [] j k
  decided g j k works keeps room well share fewer spent told = record {
    keeps = keeps;
    room = room;
    works = (keeps.able, well, record { part = ap (λ s. s.parts) share ∙ works.2.part; counted = omega (arith, ap (λ s. s.amount) share, spent, works.2.counted); few = omega (arith, fewer, works.2.few) });
    told = told;
  }

  -- other names are in hand as well
  pub gone_with : (a b c d : List GoalName) (j k : Job P L) → ((h : GoalName → ℕ) → weigh h a + weigh h d ≡ weigh h b + weigh h c) → HasGone fed asks tells a b j k → HasGone fed asks tells c d j k
  gone_with a b c d j k same went = record {
    keeps = record { able = went.keeps.able; balance = λ h. omega (arith, went.keeps.balance h, same h); own = went.keeps.own; parts = went.keeps.parts; others = went.keeps.others; begins = went.keeps.begins };
    room = went.room;
    works = went.works;
    told = went.told;
  }

  -- permits were given after what went before
  pub given : (a b : List GoalName) (i j k : Job P L) → HasGone fed asks tells a b i j → k.worker ≡ j.worker → k.pass ≡ j.pass → k.share.parts ≡ 1 → k.share.amount + j.spare ≡ j.share.amount + k.spare → (j.spare ≤ most_permits → k.spare ≤ most_permits)
      → HasGone fed asks tells a b i k
  given a b i j k was worker pass part more few =
      let told : (start : P) → tells start j.worker.taken.items j.pass → tells start k.worker.taken.items k.pass = λ start told. subst (λ p. tells start k.worker.taken.items p) (sym pass) (subst (λ w. tells start w.taken.items j.pass) (sym worker) told) in
      gone_on a b b i j k was (gone_with [] [] b b j k (λ h. omega arith) (permitted j k was.works worker part more (few was.works.2.few) told))

  -- it looked for a name after what went before
  pub found : (a b c xs : List GoalName) (i j k : Job P L) → ((h : GoalName → ℕ) → weigh h c ≡ weigh h b + weigh h xs) → HasGone fed asks tells a b i j → Keeps [] xs j.worker k.worker → DidNothing j.worker k.worker → k.share ≡ j.share → k.spare ≡ j.spare → k.pass ≡ j.pass
      → HasGone fed asks tells a c i k
  found a b c xs i j k same was keeps nothing share spare pass = gone_on a b c i j k was (gone_with [] xs b c j k (λ h. omega (arith, same h)) (looked xs j k was.works keeps nothing share spare pass))

pub names_at : (xs : List InHand) (i : ℕ) (d x : InHand) → x.name ≡ (get_or xs i d).name → names_in (set xs i x) ≡ names_in xs
names_at [] i d x same = refl
names_at (y ∷ xs) zero d x same = ap (λ g. g ∷ names_in xs) same
names_at (y ∷ xs) (suc i) d x same = ap (λ gs. y.name ∷ gs) (names_at xs i d x same)

module _ (excerpts : GoalName → core.Excerpt → Type 0) (attempts : GoalName → Result Proposal Fault → Type 0) where
  pub apart_at : (xs : List InHand) (i : ℕ) (d : InHand) → i < length xs → AreApart excerpts attempts xs → IsApart excerpts attempts (get_or xs i d).name (get_or xs i d).apart
  apart_at [] i d low all = absurd (omega (arith, low))
  apart_at (x ∷ xs) zero d low all = all.0
  apart_at (x ∷ xs) (suc i) d low all = apart_at xs i d (omega (arith, low)) all.1

  pub apart_set : (xs : List InHand) (i : ℕ) (x : InHand) → AreApart excerpts attempts xs → IsApart excerpts attempts x.name x.apart → AreApart excerpts attempts (set xs i x)
  apart_set [] i x all is = tt
  apart_set (y ∷ xs) zero x all is = (is, all.1)
  apart_set (y ∷ xs) (suc i) x all is = (all.0, apart_set xs i x all.1 is)

  pub apart_added : (xs : List InHand) (x : InHand) → AreApart excerpts attempts xs → IsApart excerpts attempts x.name x.apart → AreApart excerpts attempts (xs ++ x ∷ [])
  apart_added [] x all is = (is, tt)
  apart_added (y ∷ xs) x all is = (all.0, apart_added xs x all.1 is)

  pub last_in : (xs : List InHand) (x : InHand) → AreApart excerpts attempts (xs ++ x ∷ []) → AreApart excerpts attempts xs × IsApart excerpts attempts x.name x.apart
  last_in [] x all = (tt, all.0)
  last_in (y ∷ xs) x all = let rest = last_in xs x all.1 in ((all.0, rest.0), rest.1)

  -- what of a name was made apart is an attempt at it, if it was made
  pub is_attempted : (g : GoalName) (a : Apart) → IsApart excerpts attempts g a → IfSome (attempted a) (attempts g)
  is_attempted g (Excerpt e) is = tt
  is_attempted g (Attempt a) is = is

pub names_added : (xs : List InHand) (x : InHand) → names_in (xs ++ x ∷ []) ≡ names_in xs ++ x.name ∷ []
names_added [] x = refl
names_added (y ∷ xs) x = ap (λ gs. y.name ∷ gs) (names_added xs x)

pub length_of_names : (xs : List InHand) → length (names_in xs) ≡ length xs
length_of_names [] = refl
length_of_names (x ∷ xs) = ap suc (length_of_names xs)
