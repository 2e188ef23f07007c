-- What is known of workers while the deques are drained.
use Rattle.ghc_pool.proofs.Words.{◌≡◌, ℕ, zero, suc, ◌+◌, ◌<◌, List, [], ◌∷◌, length, set, refl, sym, ap, ◌∙◌, subst, arith, worker_view, GoalName, Victim, Worker, Taken, all_parts, weigh, Work, work_of, works, AreVictims, deques, stolen, over, total_work, put_of, stolen_of, in_of, out_of, offered_in, taken_in, left_in, submits_of, submits_by, Keeps, AreReady, HaveParts, AreReleased, IsPending, ArePending, IsDrained, AreDrained, AreDrainedTo, AreTold, FirstBegins}
use mathlib.Core.List.{IsPrefix}
use lib.ListN.{get_or}
use Rattle.ghc_pool.proofs.Stealing.{prefix_after}

pub drained_from : (ws : List Worker) → ArePending ws → AreDrainedTo 0 ws
drained_from [] all = tt
drained_from (w ∷ ws) all = (all.0, drained_from ws all.1)

pub drained_at : (ws : List Worker) (i : ℕ) (d : Worker) → i < length ws → AreDrainedTo i ws → IsPending (get_or ws i d)
drained_at [] i d low all = absurd (omega (arith, low))
drained_at (w ∷ ws) zero d low all = all.0
drained_at (w ∷ ws) (suc i) d low all = drained_at ws i d (omega (arith, low)) all.1

pub drained_set : (ws : List Worker) (i : ℕ) (w : Worker) → AreDrainedTo i ws → IsDrained w → AreDrainedTo (suc i) (set ws i w)
drained_set [] i w all is = tt
drained_set (v ∷ ws) zero w all is = (is, all.1)
drained_set (v ∷ ws) (suc i) w all is = (all.0, drained_set ws i w all.1 is)

pub drained_end : (ws : List Worker) → AreDrainedTo (length ws) ws → AreDrained ws
drained_end [] all = tt
drained_end (w ∷ ws) all = (all.0, drained_end ws all.1)

none_left : (vs : List Victim) → deques vs ≡ [] → vs ≡ []
none_left [] e = refl
none_left (v ∷ vs) e = absurd (cc)

pub is_drained : (v w : Worker) → IsPending v → Keeps [] [] v w → ((h : GoalName → ℕ) → weigh h (worker_view w.owner).put ≡ weigh h (worker_view w.owner).got) → IsDrained w
is_drained v w was keeps empty = record { all_got = empty; released = none_left w.victims.items (keeps.others ∙ ap (λ l. deques l) was.released) }

pub works_at : (ws : List Worker) (i : ℕ) (d : Worker) → i < length ws → get_or (works ws) i (work_of d) ≡ work_of (get_or ws i d)
works_at [] i d low = absurd (omega (arith, low))
works_at (w ∷ ws) zero d low = refl
works_at (w ∷ ws) (suc i) d low = works_at ws i d (omega (arith, low))

pub works_with : (ws : List Worker) (i : ℕ) (w : Worker) → works (set ws i w) ≡ set (works ws) i (work_of w)
works_with [] i w = refl
works_with (v ∷ ws) zero w = refl
works_with (v ∷ ws) (suc i) w = ap (λ ks. work_of v ∷ ks) (works_with ws i w)

pub length-works : (ws : List Worker) → length (works ws) ≡ length ws
length-works [] = refl
length-works (w ∷ ws) = ap suc (length-works ws)

pub told_set : {P : Type 0} (tells : P → List Taken → P → Type 0) (starts : List P) (ks : List Work) (ps : List P) (i : ℕ) (d l : Work) (e p : P) → i < length ks → AreTold tells starts ks ps
    → ((start : P) → tells start (get_or ks i d).taken.items (get_or ps i e) → tells start l.taken.items p) → AreTold tells starts (set ks i l) (set ps i p)
told_set tells [] [] [] i d l e p low told more = absurd (omega (arith, low))
told_set tells [] [] (q ∷ ps) i d l e p low told more = absurd told
told_set tells [] (k ∷ ks) ps i d l e p low told more = absurd told
told_set tells (s ∷ ss) [] ps i d l e p low told more = absurd told
told_set tells (s ∷ ss) (k ∷ ks) [] i d l e p low told more = absurd told
told_set tells (s ∷ ss) (k ∷ ks) (q ∷ ps) zero d l e p low told more = (more s told.0, told.1)
told_set tells (s ∷ ss) (k ∷ ks) (q ∷ ps) (suc i) d l e p low told more = (told.0, told_set tells ss ks ps i d l e p (omega (arith, low)) told.1 more)

pub begins_set : (names : List GoalName) (ks : List Work) (i : ℕ) (d l : Work) → i < length ks → IsPrefix (get_or ks i d).offered.items l.offered.items → FirstBegins names ks → FirstBegins names (set ks i l)
begins_set names [] i d l low more begins = absurd (omega (arith, low))
begins_set names (k ∷ ks) zero d l low more begins = prefix_after _ _ _ begins more
begins_set names (k ∷ ks) (suc i) d l low more begins = begins

-- how what is in the hands of all changes by one worker's keeping its balance
pub balance_set : (h : GoalName → ℕ) (ws : List Worker) (i : ℕ) (d w : Worker) → i < length ws → in_of h w + out_of h (get_or ws i d) ≡ in_of h (get_or ws i d) + out_of h w
    → over (in_of h) (set ws i w) + over (out_of h) ws ≡ over (in_of h) ws + over (out_of h) (set ws i w)
balance_set h [] i d w low e = absurd (omega (arith, low))
balance_set h (v ∷ ws) zero d w low e = omega (arith, e)
balance_set h (v ∷ ws) (suc i) d w low e = omega (arith, balance_set h ws i d w (omega (arith, low)) e)

pub pending_all : (ws : List Worker) → AreReady ws → AreReleased ws → HaveParts all_parts ws → ArePending ws
pending_all [] ready released parts = tt
pending_all (w ∷ ws) ready released parts = (
  record {
    able = record { fifo = ready.0.fifo; some_part = ready.0.some_part; others = subst AreVictims (sym released.0) tt; offers = ready.0.offers };
    all_back = parts.0;
    room = omega (arith, ready.0.room);
    released = released.0;
  },
  pending_all ws ready.1 released.1 parts.1,
)

pub over_works : (h : GoalName → ℕ) (ws : List Worker) → AreDrained ws → over (in_of h) ws ≡ over (out_of h) ws → total_work (offered_in h) (works ws) ≡ total_work (taken_in h) (works ws) + total_work (left_in h) (works ws)
over_works h ws all e = omega (arith, e, ins ws all, outs ws all)
  where
    ins : (us : List Worker) → AreDrained us → over (in_of h) us ≡ total_work (offered_in h) (works us) + over (put_of h) us
    ins [] a = refl
    ins (u ∷ us) a = omega (arith, ins us a.1, a.0.all_got h, ap (λ l. stolen h l) a.0.released)

    outs : (us : List Worker) → AreDrained us → over (out_of h) us ≡ over (put_of h) us + (total_work (taken_in h) (works us) + total_work (left_in h) (works us))
    outs [] a = refl
    outs (u ∷ us) a = omega (arith, outs us a.1)

pub none_stolen_of : (h : GoalName → ℕ) (ws : List Worker) → AreReleased ws → over (stolen_of h) ws ≡ 0
none_stolen_of h [] all = refl
none_stolen_of h (w ∷ ws) all = omega (arith, ap (λ l. stolen h l) all.0, none_stolen_of h ws all.1)

pub over_submits : (ws : List Worker) → over submits_of ws ≡ total_work submits_by (works ws)
over_submits [] = refl
over_submits (w ∷ ws) = ap (λ n. submits_of w + n) (over_submits ws)
