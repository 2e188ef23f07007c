-- What is known of workers and their jobs at the start and after the threads.
use Rattle.ghc_pool.proofs.Words.{◌≡◌, ◌⊎◌, ℕ, zero, suc, ◌+◌, ◌<◌, ◌++◌, List, [], ◌∷◌, Some, None, inl, inr, length, set, drop, take, refl, sym, ap, ◌∙◌, subst, arith, Global, RowsId, worker_deque, worker_flavor, worker_view, GoalName, RoundStop, Worker, Job, Taken, IsReason, weigh, AreVictims, deques, stolen, work_of, works, names, submits, over, total_work, put_of, got_of, stolen_of, in_of, out_of, offered_in, taken_in, left_in, IsRoomier, Keeps, KeepsRoom, IsOfferedOrStopped, IsWell, AreWell, own_deques, all_victims, AreReady, HaveParts, HaveGivenBack, AreTold, FirstBegins, IsStarting, AreStarting, AreNew, IsCounted, AreCounted, Works, HasWorked, IsJob, AreJobs, workers_in, passes_in}
use lib.ListN.{get_or}
use Rattle.ghc_pool.proofs.Stealing.{prefix_after}
use Rattle.ghc_pool.proofs.Wells.{some_none}

-- more room
pub starting_roomier : (k : ℕ) (ds : List (RowsId × Global)) (w v : Worker) → IsStarting k ds w → IsRoomier w v → IsStarting k ds v
starting_roomier k ds w v is r =
    let owner = ap worker_view r.owner in
    record {
      able = record {
        fifo = ap (λ o. worker_flavor o) r.owner ∙ is.able.fifo;
        some_part = omega (arith, is.able.some_part, ap (λ u. u.parts) owner);
        others = subst (λ l. AreVictims l.items) (sym r.victims) is.able.others;
        offers = omega (arith, is.able.offers, ap (λ u. length u.put) owner, ap (λ l. length l) r.offered, w.offered.ok.0, v.offered.ok.0);
      };
      balanced = λ h.
          omega (arith, is.balanced h, ap (λ l. weigh h l) r.offered, ap (λ u. weigh h u.got) owner, ap (λ u. weigh h u.put) owner, ap (λ l. stolen h l.items) r.victims, ap (λ l. weigh h (names l.items)) r.taken, ap (λ l. weigh h l) r.left);
      room = omega (arith, is.room, ap (λ u. length u.put) owner, ap (λ l. length l) r.left, w.left.ok.0, v.left.ok.0, r.more);
      parts = ap (λ u. u.parts) owner ∙ is.parts;
      others = ap (λ l. deques l.items) r.victims ∙ is.others;
      taken = ap (λ l. l.items) r.taken ∙ is.taken;
      stop = stopped is.stop;
    }
  where
    stopped : ((w.stop ≡ None) × (w.left.items ≡ [])) ⊎ (w.stop ≡ Some RoundStop.Memory) → ((v.stop ≡ None) × (v.left.items ≡ [])) ⊎ (v.stop ≡ Some RoundStop.Memory)
    stopped (inl a) = inl (r.stop ∙ a.0, r.left ∙ a.1)
    stopped (inr a) = inr (r.stop ∙ a)

-- names were offered
pub starting_offered : (k : ℕ) (ds : List (RowsId × Global)) (w v : Worker) → IsStarting k ds w → Keeps [] [] w v → KeepsRoom w v → v.taken ≡ w.taken → IsOfferedOrStopped w v → IsStarting k ds v
starting_offered k ds w v is keeps room taken stop = record {
  able = keeps.able;
  balanced = λ h. omega (arith, is.balanced h, keeps.balance h);
  room = room 0 is.room;
  parts = keeps.parts ∙ is.parts;
  others = keeps.others ∙ is.others;
  taken = ap (λ l. l.items) taken ∙ is.taken;
  stop = stopped is.stop stop;
}
  where
    stopped : ((w.stop ≡ None) × (w.left.items ≡ [])) ⊎ (w.stop ≡ Some RoundStop.Memory) → IsOfferedOrStopped w v → ((v.stop ≡ None) × (v.left.items ≡ [])) ⊎ (v.stop ≡ Some RoundStop.Memory)
    stopped (inl a) (inl b) = inl (b.1 ∙ a.0, b.0 ∙ a.1)
    stopped (inr a) (inl b) = inr (b.1 ∙ a)
    stopped a (inr b) = inr b

new_starting : (k : ℕ) (ds : List (RowsId × Global)) (ws : List Worker) → AreNew k ds ws → AreStarting k ds ws
new_starting k ds [] h = tt
new_starting k ds (w ∷ ws) h = (h.0, new_starting k ds ws h.2)

pub new_first : (k : ℕ) (ds : List (RowsId × Global)) (ws : List Worker) (d : Worker) → 0 < length ws → AreNew k ds ws → IsStarting k ds (get_or ws 0 d) × ((get_or ws 0 d).offered.items ≡ [])
new_first k ds [] d low h = absurd (omega (arith, low))
new_first k ds (w ∷ ws) d low h = (h.0, h.1)

pub starting_first : (k : ℕ) (ws : List Worker) (d w : Worker) → 0 < length ws → AreNew k (own_deques ws) ws → IsStarting k (own_deques ws) w → worker_deque w.owner ≡ worker_deque (get_or ws 0 d).owner → AreStarting k (own_deques (set ws 0 w)) (set ws 0 w)
starting_first k [] d w low h is own = absurd (omega (arith, low))
starting_first k (v ∷ ws) d w low h is own =
    let same : own_deques (v ∷ ws) ≡ own_deques (w ∷ ws) = ap (λ e. e ∷ own_deques ws) (sym own) in subst (λ ds. AreStarting k ds (w ∷ ws)) same (is, new_starting k (own_deques (v ∷ ws)) ws h.2)

pub first_starting : (k : ℕ) (ds : List (RowsId × Global)) (ws : List Worker) (d : Worker) → 0 < length ws → AreStarting k ds ws → IsStarting k ds (get_or ws 0 d) × AreStarting k ds (drop 1 ws)
first_starting k ds [] d low h = absurd (omega (arith, low))
first_starting k ds (w ∷ ws) d low h = (h.0, h.1)

pub first_rest : {A : Type 0} (xs : List A) (d : A) → 0 < length xs → xs ≡ get_or xs 0 d ∷ drop 1 xs
first_rest [] d low = absurd (omega (arith, low))
first_rest (x ∷ xs) d low = refl

module _ {P L : Type 0} where
  pub workers_more : (js : List (Job P L)) (j : Job P L) (more : List Worker) → workers_in (js ++ j ∷ []) ++ more ≡ workers_in js ++ j.worker ∷ more
  workers_more [] j more = refl
  workers_more (i ∷ js) j more = ap (λ l. i.worker ∷ l) (workers_more js j more)

  pub first_counted : (js : List (Job P L)) (d : Job P L) → 0 < length js → AreCounted js → IsCounted (get_or js 0 d) × AreCounted (drop 1 js) × (workers_in js ≡ (get_or js 0 d).worker ∷ workers_in (drop 1 js)) × (passes_in js ≡ (get_or js 0 d).pass ∷ passes_in (drop 1 js))
  first_counted [] d low h = absurd (omega (arith, low))
  first_counted (j ∷ js) d low h = (h.0, h.1, refl, refl)

  module _ (fed : List Taken → Type 0) (asks : List Taken → RoundStop → Type 0) (tells : P → List Taken → P → Type 0) where
    pub new_job : (k : ℕ) (ds : List (RowsId × Global)) (j : Job P L) → IsStarting k ds j.worker → fed [] → tells j.pass [] j.pass → j.share.parts ≡ 1 → j.share.amount ≡ 0 → j.spare ≡ 0 → IsJob fed asks tells k ds j.pass j
    new_job k ds j is unfed told part none spare = record {
      works = (is.able, well is.stop, record { part = part; counted = omega (arith, none, spare, ap (λ l. submits l) is.taken); few = omega (arith, spare) });
      balanced = is.balanced;
      room = is.room;
      parts = is.parts;
      others = is.others;
      told = subst (λ l. tells j.pass l j.pass) (sym is.taken) told;
    }
      where
        well : ((j.worker.stop ≡ None) × (j.worker.left.items ≡ [])) ⊎ (j.worker.stop ≡ Some RoundStop.Memory) → IsWell fed asks (work_of j.worker)
        well (inl a) = record { reason = subst (λ s. IsReason fed asks s j.worker.taken.items) (sym a.0) (subst fed (sym is.taken) unfed); left = λ _. a.1 }
        well (inr a) = record { reason = subst (λ s. IsReason fed asks s j.worker.taken.items) (sym a) tt; left = λ e. absurd (some_none RoundStop.Memory (sym a ∙ e)) }

    pub jobs_more : (k : ℕ) (ds : List (RowsId × Global)) (ss : List P) (js : List (Job P L)) (s : P) (j : Job P L) → AreJobs fed asks tells k ds ss js → IsJob fed asks tells k ds s j → AreJobs fed asks tells k ds (ss ++ s ∷ []) (js ++ j ∷ [])
    jobs_more k ds [] [] s j all is = (is, tt)
    jobs_more k ds [] (i ∷ js) s j all is = absurd all
    jobs_more k ds (r ∷ ss) [] s j all is = absurd all
    jobs_more k ds (r ∷ ss) (i ∷ js) s j all is = (all.0, jobs_more k ds ss js s j all.1 is)

    pub job_works : (k : ℕ) (ds : List (RowsId × Global)) (ss : List P) (js : List (Job P L)) (i : ℕ) (d : Job P L) → i < length js → AreJobs fed asks tells k ds ss js → Works fed asks (get_or js i d)
    job_works k ds [] [] i d low all = absurd (omega (arith, low))
    job_works k ds [] (j ∷ js) i d low all = absurd all
    job_works k ds (s ∷ ss) [] i d low all = absurd all
    job_works k ds (s ∷ ss) (j ∷ js) zero d low all = all.0.works
    job_works k ds (s ∷ ss) (j ∷ js) (suc i) d low all = job_works k ds ss js i d (omega (arith, low)) all.1

    pub have_worked : (k : ℕ) (ds : List (RowsId × Global)) (ss : List P) (js ls : List (Job P L)) → length ls ≡ length js → AreJobs fed asks tells k ds ss js
        → ((i : ℕ) (d : Job P L) → i < length js → HasWorked fed asks tells (get_or js i d) (get_or ls i d)) → AreJobs fed asks tells k ds ss ls × (own_deques (workers_in ls) ≡ own_deques (workers_in js)) × ((ns : List GoalName) → FirstBegins ns (works (workers_in js)) → FirstBegins ns (works (workers_in ls)))
    have_worked k ds [] [] [] len all each = (tt, refl, (λ ns begins. begins))
    have_worked k ds [] [] (l ∷ ls) len all each = absurd (omega (arith, len))
    have_worked k ds [] (j ∷ js) ls len all each = absurd all
    have_worked k ds (s ∷ ss) [] ls len all each = absurd all
    have_worked k ds (s ∷ ss) (j ∷ js) [] len all each = absurd (omega (arith, len))
    have_worked k ds (s ∷ ss) (j ∷ js) (l ∷ ls) len all each =
        let one = each 0 l (omega arith) in
        let rest = have_worked k ds ss js ls (omega (arith, len)) all.1 (λ i d low. each (suc i) d (omega (arith, low))) in (
          (
            record {
              works = one.works;
              balanced = λ h. omega (arith, all.0.balanced h, one.keeps.balance h);
              room = one.room 0 all.0.room;
              parts = one.keeps.parts ∙ all.0.parts;
              others = one.keeps.others ∙ all.0.others;
              told = one.told s all.0.told;
            },
            rest.0,
          ),
          (λ i. one.keeps.own i ∷ rest.1 i),
          (λ ns begins. prefix_after ns j.worker.offered.items l.worker.offered.items begins one.keeps.begins),
        )

    pub jobs_counted : (k : ℕ) (ds : List (RowsId × Global)) (ss : List P) (js : List (Job P L)) → AreJobs fed asks tells k ds ss js → AreCounted js
    jobs_counted k ds [] [] all = tt
    jobs_counted k ds [] (j ∷ js) all = absurd all
    jobs_counted k ds (s ∷ ss) [] all = absurd all
    jobs_counted k ds (s ∷ ss) (j ∷ js) all = (all.0.works.2, jobs_counted k ds ss js all.1)

    pub jobs_told : (k : ℕ) (ds : List (RowsId × Global)) (ss : List P) (js : List (Job P L)) → AreJobs fed asks tells k ds ss js → AreTold tells ss (works (workers_in js)) (passes_in js)
    jobs_told k ds [] [] all = tt
    jobs_told k ds [] (j ∷ js) all = absurd all
    jobs_told k ds (s ∷ ss) [] all = absurd all
    jobs_told k ds (s ∷ ss) (j ∷ js) all = (all.0.told, jobs_told k ds ss js all.1)

    pub jobs_well : (k : ℕ) (ds : List (RowsId × Global)) (ss : List P) (js : List (Job P L)) → AreJobs fed asks tells k ds ss js → AreWell fed asks (works (workers_in js))
    jobs_well k ds [] [] all = tt
    jobs_well k ds [] (j ∷ js) all = absurd all
    jobs_well k ds (s ∷ ss) [] all = absurd all
    jobs_well k ds (s ∷ ss) (j ∷ js) all = (all.0.works.1, jobs_well k ds ss js all.1)

    pub jobs_ready : (k : ℕ) (ds : List (RowsId × Global)) (ss : List P) (js : List (Job P L)) → AreJobs fed asks tells k ds ss js
        → AreReady (workers_in js) × HaveParts k (workers_in js) × HaveGivenBack 0 ds (all_victims (workers_in js)) × ((h : GoalName → ℕ) → over (in_of h) (workers_in js) ≡ over (out_of h) (workers_in js))
    jobs_ready k ds [] [] all = (tt, tt, tt, (λ h. refl))
    jobs_ready k ds [] (j ∷ js) all = absurd all
    jobs_ready k ds (s ∷ ss) [] all = absurd all
    jobs_ready k ds (s ∷ ss) (j ∷ js) all =
        let rest = jobs_ready k ds ss js all.1 in
        let one = all.0 in (
          (record { fifo = one.works.0.fifo; some_part = one.works.0.some_part; offers = one.works.0.offers; room = one.room }, rest.0),
          (one.parts, rest.1),
          (one.works.0.others, one.others, rest.2),
          (λ h. omega (arith, one.balanced h, rest.3 h)),
        )

pub works_take : (ws : List Worker) (i : ℕ) (d : Worker) → i < length ws → works (take (suc i) ws) ≡ works (take i ws) ++ work_of (get_or ws i d) ∷ []
works_take [] i d low = absurd (omega (arith, low))
works_take (w ∷ ws) zero d low = refl
works_take (w ∷ ws) (suc i) d low = ap (λ ks. work_of w ∷ ks) (works_take ws i d (omega (arith, low)))

pub well_at : (fed : List Taken → Type 0) (asks : List Taken → RoundStop → Type 0) (ws : List Worker) (i : ℕ) (d : Worker) → i < length ws → AreWell fed asks (works ws) → IsWell fed asks (work_of (get_or ws i d))
well_at fed asks [] i d low all = absurd (omega (arith, low))
well_at fed asks (w ∷ ws) zero d low all = all.0
well_at fed asks (w ∷ ws) (suc i) d low all = well_at fed asks ws i d (omega (arith, low)) all.1

pub over_in : (h : GoalName → ℕ) (ws : List Worker) → over (in_of h) ws ≡ total_work (offered_in h) (works ws) + (over (got_of h) ws + over (stolen_of h) ws)
over_in h [] = refl
over_in h (w ∷ ws) = omega (arith, over_in h ws)

pub over_out : (h : GoalName → ℕ) (ws : List Worker) → over (out_of h) ws ≡ over (put_of h) ws + (total_work (taken_in h) (works ws) + total_work (left_in h) (works ws))
over_out h [] = refl
over_out h (w ∷ ws) = omega (arith, over_out h ws)

pub set_again : (ws : List Worker) (v w : Worker) → set (set ws 0 v) 0 w ≡ set ws 0 w
set_again [] v w = refl
set_again (u ∷ ws) v w = refl

pub at_first : (ws : List Worker) (v d : Worker) → 0 < length ws → get_or (set ws 0 v) 0 d ≡ v
at_first [] v d low = absurd (omega (arith, low))
at_first (u ∷ ws) v d low = refl

pub put_between : {A : Type 0} (xs : List A) (x : A) (ys : List A) → (xs ++ x ∷ []) ++ ys ≡ xs ++ x ∷ ys
put_between [] x ys = refl
put_between (z ∷ xs) x ys = ap (λ l. z ∷ l) (put_between xs x ys)

pub over_last : (f : Worker → ℕ) (ws : List Worker) (w : Worker) → over f (ws ++ w ∷ []) ≡ over f ws + f w
over_last f [] w = omega arith
over_last f (v ∷ ws) w = omega (arith, over_last f ws w)

pub length-workers_in : {P L : Type 0} (js : List (Job P L)) → length (workers_in js) ≡ length js
length-workers_in [] = refl
length-workers_in (j ∷ js) = ap suc (length-workers_in js)

pub length-passes_in : {P L : Type 0} (js : List (Job P L)) → length (passes_in js) ≡ length js
length-passes_in [] = refl
length-passes_in (j ∷ js) = ap suc (length-passes_in js)
