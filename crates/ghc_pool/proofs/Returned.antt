-- What is known of workers when passes come back.
use Rattle.ghc_pool.proofs.Words.{◌≡◌, ℕ, zero, suc, ◌+◌, ◌<◌, ◌++◌, List, [], ◌∷◌, length, set, refl, sym, ap, ◌∙◌, subst, arith, append-nil, vec_capacity, vec_len, Vec, Global, RowsId, worker_deque, worker_view, stealer_deque, view, GoalName, Hand, Victim, Worker, weigh, Work, work_of, works, over, stolen_of, deques, IsVictim, AreVictims, stolen, IsAbsorbed, own_deques, all_victims, IsReady, AreReady, HaveParts, HavePartsFrom, HaveGivenBack, AreReleased}
use Rattle.ghc_pool.proofs.Openings.{length-deques}
use lib.ListN.{get_or}

pub over_set : (f : Worker → ℕ) (ws : List Worker) (i : ℕ) (d w : Worker) (a b : ℕ) → i < length ws → f w + a ≡ f (get_or ws i d) + b → over f (set ws i w) + a ≡ over f ws + b
over_set f [] i d w a b low e = absurd (omega (arith, low))
over_set f (x ∷ ws) zero d w a b low e = omega (arith, e)
over_set f (x ∷ ws) (suc i) d w a b low e = omega (arith, over_set f ws i d w a b (omega (arith, low)) e)

pub over_kept : (f : Worker → ℕ) (ws : List Worker) (i : ℕ) (d w : Worker) → i < length ws → f w ≡ f (get_or ws i d) → over f (set ws i w) ≡ over f ws
over_kept f ws i d w low e = let s = over_set f ws i d w 0 0 low (omega (arith, e)) in omega (arith, s)

pub ready_at : (ws : List Worker) (i : ℕ) (d : Worker) → i < length ws → AreReady ws → IsReady (get_or ws i d)
ready_at [] i d low all = absurd (omega (arith, low))
ready_at (w ∷ ws) zero d low all = all.0
ready_at (w ∷ ws) (suc i) d low all = ready_at ws i d (omega (arith, low)) all.1

pub ready_set : (ws : List Worker) (i : ℕ) (w : Worker) → AreReady ws → IsReady w → AreReady (set ws i w)
ready_set [] i w all is = tt
ready_set (v ∷ ws) zero w all is = (is, all.1)
ready_set (v ∷ ws) (suc i) w all is = (all.0, ready_set ws i w all.1 is)

pub own_set : (ws : List Worker) (i : ℕ) (d w : Worker) → i < length ws → worker_deque w.owner ≡ worker_deque (get_or ws i d).owner → own_deques (set ws i w) ≡ own_deques ws
own_set [] i d w low e = refl
own_set (v ∷ ws) zero d w low e = ap (λ x. x ∷ own_deques ws) e
own_set (v ∷ ws) (suc i) d w low e = ap (λ xs. worker_deque v.owner ∷ xs) (own_set ws i d w (omega (arith, low)) e)

pub victims_kept : (ws : List Worker) (i : ℕ) (d w : Worker) → i < length ws → w.victims ≡ (get_or ws i d).victims → all_victims (set ws i w) ≡ all_victims ws
victims_kept [] i d w low e = refl
victims_kept (v ∷ ws) zero d w low e = ap (λ x. x ∷ all_victims ws) e
victims_kept (v ∷ ws) (suc i) d w low e = ap (λ xs. v.victims ∷ xs) (victims_kept ws i d w (omega (arith, low)) e)

pub length-set-workers : (ws : List Worker) (i : ℕ) (w : Worker) → length (set ws i w) ≡ length ws
length-set-workers [] i w = refl
length-set-workers (v ∷ ws) zero w = refl
length-set-workers (v ∷ ws) (suc i) w = ap suc (length-set-workers ws i w)

-- the pass of the worker at the place j came back
pub parts_set : (ws : List Worker) (j k : ℕ) (d w : Worker) → j < length ws → (worker_view w.owner).parts ≡ (worker_view (get_or ws j d).owner).parts + 1 → HavePartsFrom (suc j) k ws → HavePartsFrom j k (set ws j w)
parts_set [] j k d w low e h = tt
parts_set (v ∷ ws) zero k d w low e h = (omega (arith, e, h.0), up ws h.1)
  where
    up : (us : List Worker) → HavePartsFrom 0 k us → HaveParts (suc k) us
    up [] g = tt
    up (u ∷ us) g = g
parts_set (v ∷ ws) (suc j) k d w low e h = (h.0, parts_set ws j k d w (omega (arith, low)) e h.1)

pub parts_all : (ws : List Worker) (k : ℕ) → HaveParts k ws → HavePartsFrom (length ws) k ws
parts_all [] k h = tt
parts_all (w ∷ ws) k h = (h.0, parts_all ws k h.1)

pub parts_end : (ws : List Worker) (k : ℕ) → HavePartsFrom 0 k ws → HaveParts (suc k) ws
parts_end [] k h = tt
parts_end (w ∷ ws) k h = h

abbrev first_or : RowsId × Global → List (RowsId × Global) → RowsId × Global
first_or z [] = z
first_or z (x ∷ xs) = x

abbrev behind : List (RowsId × Global) → List (RowsId × Global)
behind [] = []
behind (x ∷ xs) = xs

-- the deque at the place
pub deque_at : (ws : List Worker) (j : ℕ) (d : Worker) (ds more : List (RowsId × Global)) (e : RowsId × Global) → length ds ≡ j → own_deques ws ≡ ds ++ e ∷ more → (j < length ws) × (worker_deque (get_or ws j d).owner ≡ e)
deque_at [] j d [] more e len is = absurd (cc)
deque_at [] j d (x ∷ ds) more e len is = absurd (cc)
deque_at (w ∷ ws) zero d [] more e len is = (omega arith, ap (first_or e) is)
deque_at (w ∷ ws) zero d (x ∷ ds) more e len is = absurd (omega (arith, len))
deque_at (w ∷ ws) (suc j) d [] more e len is = absurd (omega (arith, len))
deque_at (w ∷ ws) (suc j) d (x ∷ ds) more e len is = let r = deque_at ws j d ds more e (omega (arith, len)) (ap behind is) in (omega (arith, r.0), r.1)

deques-append : (vs : List Victim) (v : Victim) (more : List (RowsId × Global)) → deques (vs ++ v ∷ []) ++ more ≡ deques vs ++ stealer_deque v.thief ∷ more
deques-append [] v more = refl
deques-append (u ∷ vs) v more = ap (λ l. stealer_deque u.thief ∷ l) (deques-append vs v more)

victims_cut : (vs : List Victim) (v : Victim) → AreVictims (vs ++ v ∷ []) → AreVictims vs × IsVictim v
victims_cut [] v h = (tt, h.0)
victims_cut (u ∷ vs) v h = let r = victims_cut vs v h.1 in ((h.0, r.0), r.1)

pub stolen-append : (h : GoalName → ℕ) (vs : List Victim) (v : Victim) → stolen h (vs ++ v ∷ []) ≡ stolen h vs + weigh h (view v.pass).got
stolen-append h [] v = omega arith
stolen-append h (u ∷ vs) v = omega (arith, stolen-append h vs v)

-- the last victim's deque is that of the worker at its place
pub last_of : (ws : List Worker) (victims rest : List Victim) (v : Victim) (j : ℕ) (d : Worker) (more : List (RowsId × Global)) → victims ≡ rest ++ v ∷ [] → j ≡ length rest → AreVictims victims → own_deques ws ≡ deques victims ++ more
    → AreVictims rest × IsVictim v × (j < length ws) × (worker_deque (get_or ws j d).owner ≡ stealer_deque v.thief) × (own_deques ws ≡ deques rest ++ stealer_deque v.thief ∷ more)
last_of ws victims rest v j d more is place all own =
    let cut = victims_cut rest v (subst AreVictims is all) in
    let own' = own ∙ ap (λ l. deques l ++ more) is ∙ deques-append rest v more in
    let r = deque_at ws j d (deques rest) more (stealer_deque v.thief) (length-deques rest ∙ sym place) own' in
    (cut.0, cut.1, r.0, r.1, own')

pub ready_absorbed : (old w : Worker) (pass : Hand) → IsReady old → IsAbsorbed old pass w → pass.put ≡ [] → IsReady w
ready_absorbed old w pass is a none =
    let put : length (worker_view w.owner).put ≡ length (worker_view old.owner).put = ap (λ v. length v.put) a.known ∙ ap (λ l. length ((worker_view old.owner).put ++ l)) none ∙ ap (λ l. length l) (append-nil (worker_view old.owner).put) in
    record {
      fifo = a.flavor ∙ is.fifo;
      some_part = omega (arith, is.some_part, ap (λ v. v.parts) a.known);
      offers = omega (arith, is.offers, put, ap (λ (k : Work). vec_len k.offered) a.rest.1);
      room = omega (arith, is.room, put, ap (λ (k : Work). vec_len k.left) a.rest.1, ap (λ (k : Work). vec_capacity k.left) a.rest.1);
    }

-- as many workers as deques
pub same_length : (vs : List Victim) (ws : List Worker) → deques vs ≡ own_deques ws → length ws ≡ length vs
same_length vs ws e = sym (length-own ws) ∙ ap (λ l. length l) (sym e) ∙ length-deques vs
  where
    length-own : (us : List Worker) → length (own_deques us) ≡ length us
    length-own [] = refl
    length-own (u ∷ us) = ap suc (length-own us)

length-cut : (ds more : List (RowsId × Global)) (e : RowsId × Global) → length ds < length (ds ++ e ∷ more)
length-cut [] more e = omega arith
length-cut (x ∷ ds) more e = omega (arith, length-cut ds more e)

pub last_at : (ws : List Worker) (victims rest : List Victim) (v : Victim) (j : ℕ) (more : List (RowsId × Global)) → victims ≡ rest ++ v ∷ [] → j ≡ length rest → own_deques ws ≡ deques victims ++ more → j < length ws
last_at ws victims rest v j more is place own =
    let own' = own ∙ ap (λ l. deques l ++ more) is ∙ deques-append rest v more in
    let low = length-cut (deques rest) more (stealer_deque v.thief) in
    omega (arith, low, place, length-deques rest, ap (λ l. length l) own', length-own ws)
  where
    length-own : (us : List Worker) → length (own_deques us) ≡ length us
    length-own [] = refl
    length-own (u ∷ us) = ap suc (length-own us)

pub given_at : (ws : List Worker) (j : ℕ) (d : Worker) (ds : List (RowsId × Global)) → j < length ws → HaveGivenBack j ds (all_victims ws) → AreVictims (get_or ws j d).victims.items × (deques (get_or ws j d).victims.items ≡ ds)
given_at [] j d ds low h = absurd (omega (arith, low))
given_at (w ∷ ws) zero d ds low h = (h.0, h.1)
given_at (w ∷ ws) (suc j) d ds low h = given_at ws j d ds (omega (arith, low)) h.1

pub given_set : (ws : List Worker) (j : ℕ) (w : Worker) (ds : List (RowsId × Global)) → w.victims.items ≡ [] → HaveGivenBack j ds (all_victims ws) → HaveGivenBack (suc j) ds (all_victims (set ws j w))
given_set [] j w ds none h = tt
given_set (v ∷ ws) zero w ds none h = (none, h.2)
given_set (v ∷ ws) (suc j) w ds none h = (h.0, given_set ws j w ds none h.1)

-- what was stolen by all, as far as it is not back
abbrev pub all_stolen : (GoalName → ℕ) → List (Vec Victim) → ℕ
all_stolen h [] = 0
all_stolen h (v ∷ vs) = stolen h v.items + all_stolen h vs

pub stolen_all : (h : GoalName → ℕ) (ws : List Worker) → over (stolen_of h) ws ≡ all_stolen h (all_victims ws)
stolen_all h [] = refl
stolen_all h (w ∷ ws) = omega (arith, stolen_all h ws)

pub none_stolen : (h : GoalName → ℕ) (ds : List (RowsId × Global)) (ws : List Worker) → HaveGivenBack (length ws) ds (all_victims ws) → over (stolen_of h) ws ≡ 0
none_stolen h ds [] g = refl
none_stolen h ds (w ∷ ws) g = omega (arith, ap (λ l. stolen h l) g.0, none_stolen h ds ws g.1)

pub parts_kept : (ws : List Worker) (k i : ℕ) (d w : Worker) → i < length ws → (worker_view w.owner).parts ≡ (worker_view (get_or ws i d).owner).parts → HaveParts k ws → HaveParts k (set ws i w)
parts_kept [] k i d w low e h = tt
parts_kept (v ∷ ws) k zero d w low e h = (e ∙ h.0, h.1)
parts_kept (v ∷ ws) k (suc i) d w low e h = (h.0, parts_kept ws k i d w (omega (arith, low)) e h.1)

pub parts_plus : (ws : List Worker) (a b : ℕ) → a ≡ b → HaveParts a ws → HaveParts b ws
parts_plus ws a b e h = subst (λ n. HaveParts n ws) e h

length-own : (us : List Worker) → length (own_deques us) ≡ length us
length-own [] = refl
length-own (u ∷ us) = ap suc (length-own us)

-- as many workers as there were
pub same_count : (old new : List Worker) → own_deques new ≡ own_deques old → length new ≡ length old
same_count old new e = sym (length-own new) ∙ ap (λ l. length l) e ∙ length-own old

-- what workers with one deque know of it
pub same_view : (u v : Worker) → u.owner ≡ v.owner → worker_view u.owner ≡ worker_view v.owner
same_view u v e = λ i. worker_view (e i)

pub works_set : (ws : List Worker) (i : ℕ) (d w : Worker) → i < length ws → work_of w ≡ work_of (get_or ws i d) → works (set ws i w) ≡ works ws
works_set [] i d w low e = refl
works_set (v ∷ ws) zero d w low e = ap (λ k. k ∷ works ws) e
works_set (v ∷ ws) (suc i) d w low e = ap (λ ks. work_of v ∷ ks) (works_set ws i d w (omega (arith, low)) e)

pub released : (ds : List (RowsId × Global)) (ws : List Worker) → HaveGivenBack (length ws) ds (all_victims ws) → AreReleased ws
released ds [] g = tt
released ds (w ∷ ws) g = (g.0, released ds ws g.1)
