-- Rows bound every pattern and are reached by one.
--
-- A pattern with at most w faults on the first p + 1 turns has some f of them on the last of these, and at most w − f before: the row takes the greatest
-- end over all f. An end that is over stays over, so a pattern whose work has halted adds nothing to a later row.
--
-- In order: one job's step; the row of a walk; no pattern ends later (J1); some pattern ends then (J2). Assumes nothing.
use Prim.Native.Nat.{ℕ, zero, suc, ◌+◌, ◌-◌, ◌*◌, ◌≤◌, ◌<◌, zero-le, max}
use native.Mathlib.Nat.{add-zero, add-suc, suc-mul, sub-zero, suc-sub-suc, add-sub_of_le, lt_irrefl}
use native.Mathlib.Omega.{arith}
use mathlib.Core.Path.{◌≡◌, refl, sym, ap, ◌∙◌, subst}
use mathlib.Core.Bool.{Bool, true, false, cond, ◌&&◌, true≢false}
use mathlib.Core.List.{List}
use lib.ListN.{length, get_or}
use lib.Dec.{leb, ltb, eqb}
use borrow.Author.Tests.{ltb-true, ltb-false, lt-ltb, le-ltb, leb-true, leb-false, le-leb, lt-leb, eqb-true, eq-eqb, ne_eqb}
use Rattle.jobs.specs.Below.{total, least}
use Rattle.jobs.specs.Arrays.{Holds, Fit, values}
use Rattle.jobs.proofs.Below.{by_cases, and_left, and_right, below_suc, total_more, total-le, total_zero, total-add, least-le, least_is, least_holds, before_least, least-cases, least_none}
use Rattle.jobs.proofs.Arrays.{holds_same}
use Rattle.frame.proofs.Queue.{ends, halts}
use Rattle.latest.proofs.Steps.{again, enters, spread, turned, picks, picked}
use Rattle.latest.proofs.Walk.{Walk, entered, row, stops, stop, faults_at, unwind, best}

-- ---- one job's step

again-grows : (v x : ℕ) → x ≤ again v x
again-grows v zero = omega arith
again-grows v (suc x) = omega arith

pub again-adds : (v x : ℕ) → 0 < x → again v x ≡ x + v
again-adds v zero l = absurd (omega arith)
again-adds v (suc x) l = refl

again-over : (v x : ℕ) → 0 < again v x → 0 < x
again-over v zero l = l
again-over v (suc x) l = omega arith

one_less : (u : ℕ) → u ≡ suc u - 1
one_less u = omega arith

pub enters-over : (past : Bool) (r c e : ℕ) → past ≡ true → e ≤ r → enters past r c e ≡ 0
enters-over past r c e t l = rw (t, le-leb e r l)

pub enters_past : (past : Bool) (r c e : ℕ) → past ≡ true → r < e → enters past r c e ≡ e + c
enters_past past r c e t l = rw (t, lt-leb e r l)

pub enters_before : (past : Bool) (r c e : ℕ) → past ≡ false → enters past r c e ≡ max e r + c
enters_before past r c e t = rw t

module _ (v : ℕ) (first : ℕ → ℕ) where
  spread-first : (w : ℕ) → first w ≤ spread v first w
  unfolding spread
  spread-first zero = omega arith
  spread-first (suc w) = omega arith

  pub spread_none : first 0 ≡ spread v first 0
  unfolding spread
  spread_none = refl

  -- the cell at w from the one before it
  pub spread_at : (w : ℕ) → 0 < w → spread v first w ≡ max (first w) (again v (spread v first (w - 1)))
  unfolding spread
  spread_at zero l = absurd (omega arith)
  spread_at (suc w) l = ap (λ u. max (first (suc w)) (again v (spread v first u))) (one_less w)

  -- one fault more on the cell before is within the cell at w
  pub spread-again : (w : ℕ) {limit : ℕ} → 0 < w → spread v first w < limit → again v (spread v first (w - 1)) < limit
  spread-again w l h = omega (arith, spread_at w l)

  spread-grows : (w : ℕ) → spread v first w ≤ spread v first (suc w)
  unfolding spread
  spread-grows w = omega (arith, again-grows v (spread v first w))

  -- f more faults on this job cost f recoveries
  spread_reaches : (w f : ℕ) → 0 < first w → first w + f * v ≤ spread v first (w + f)
  unfolding spread
  spread_reaches w zero l = rw (add-zero w) (omega (arith, spread-first w))
  spread_reaches w (suc f) l =
      let ih = spread_reaches w f l in
      rw (add-suc w f) (omega (arith, suc-mul f v, again-adds v (spread v first (w + f)) (omega arith)))

  pub picks_first : (cells : List ℕ) → length cells ≡ 9 → get_or cells 0 0 ≡ 0 → Holds 9 cells 1 (picks v first)
  unfolding picks
  picks_first cells l z = record { long = l; each = λ w k. below_suc k (λ i. absurd (omega arith)) (λ i. rw i z) }

  pub picks_at : (w : ℕ) → 0 < w → picks v first w ≡ cond (leb (again v (spread v first (w - 1))) (first w)) 0 (suc (picks v first (w - 1)))
  unfolding picks
  picks_at zero l = absurd (omega arith)
  picks_at (suc w) l = ap (λ u. cond (leb (again v (spread v first u)) (first (suc w))) 0 (suc (picks v first u))) (one_less w)

  pub picks_within : (w : ℕ) → picks v first w ≤ w
  unfolding picks
  picks_within zero = omega arith
  picks_within (suc w) =
      by_cases (leb (again v (spread v first w)) (first (suc w)))
      (λ e. rw e (omega arith))
      (λ e. rw e (omega (arith, picks_within w)))

  pub picks_small : (w : ℕ) → w < 9 → picks v first w < 255
  picks_small w l = omega (arith, picks_within w)

  -- an entry comes from one with as many fewer faults as this job has
  spread-picks : (w : ℕ) → spread v first w ≡ first (w - picks v first w) + picks v first w * v
  unfolding spread picks
  spread-picks zero = omega arith
  spread-picks (suc w) =
      by_cases (leb (again v (spread v first w)) (first (suc w)))
      (λ e. rw (e, sub-zero (suc w)) (omega (arith, leb-true (again v (spread v first w)) (first (suc w)) e)))
      (λ e.
      let more : first (suc w) < again v (spread v first w) = leb-false _ _ e in
      rw (e, suc-sub-suc w (picks v first w))
      (omega (
        arith,
        again-adds v (spread v first w) (again-over v (spread v first w) (omega arith)),
        spread-picks w,
        suc-mul (picks v first w) v,
      )))

  -- and is over where that one is
  picks_live : (w : ℕ) → 0 < spread v first w → 0 < first (w - picks v first w)
  unfolding spread picks
  picks_live zero l = l
  picks_live (suc w) l =
      by_cases (leb (again v (spread v first w)) (first (suc w)))
      (λ e. rw (e, sub-zero (suc w)) (omega (arith, leb-true (again v (spread v first w)) (first (suc w)) e)))
      (λ e.
      let more : first (suc w) < again v (spread v first w) = leb-false _ _ e in
      rw (e, suc-sub-suc w (picks v first w)) (picks_live w (again-over v (spread v first w) (omega arith))))

pub spread_same : (v : ℕ) (f g : ℕ → ℕ) (w : ℕ) → ((u : ℕ) → u ≤ w → f u ≡ g u) → spread v f w ≡ spread v g w
unfolding spread
spread_same v f g zero h = h 0 zero-le
spread_same v f g (suc w) h =
    ap (λ x. max x (again v (spread v f w))) (h (suc w) (omega arith))
    ∙ ap (λ x. max (g (suc w)) (again v x)) (spread_same v f g w (λ u l. h u (omega arith)))

pub picks_same : (v : ℕ) (f g : ℕ → ℕ) (w : ℕ) → ((u : ℕ) → u ≤ w → f u ≡ g u) → picks v f w ≡ picks v g w
unfolding picks
picks_same v f g zero h = refl
picks_same v f g (suc w) h =
    rw (
      h (suc w) (omega arith),
      spread_same v f g w (λ u l. h u (omega arith)),
      picks_same v f g w (λ u l. h u (omega arith)),
    )

-- each fault costs at most m
pub spread_bound : (v : ℕ) (first : ℕ → ℕ) (b m : ℕ) → ((u : ℕ) → first u ≤ b + u * m) → v ≤ m → (w : ℕ) → spread v first w ≤ b + w * m
unfolding spread
spread_bound v first b m h l zero = h 0
spread_bound v first b m h l (suc w) =
    omega (arith, h (suc w), suc-mul w m, spread_bound v first b m h l w, again_most v (spread v first w))
  where
    again_most : (v x : ℕ) → again v x ≤ x + v
    again_most v zero = zero-le
    again_most v (suc x) = omega arith

-- ---- one turn, as the code makes it from cells

module _ (past : Bool) (r c v : ℕ) (before : List ℕ) where
  abbrev first : ℕ → ℕ
  first u = enters past r c (values before u)

  pub turn_fits_first : Fit (turned past r c v (values before)) → Fit first
  turn_fits_first f = record { fits = λ w l. omega (arith, spread-first v first w, f.fits w l) }

  same_spread : (entry : List ℕ) → Holds 9 entry 9 first → (w : ℕ) → w < 9 → spread v (values entry) w ≡ spread v first w
  same_spread entry h w l = spread_same v (values entry) first w (λ u m. h.each u (omega arith))

  pub turn_fits : (entry : List ℕ) → Holds 9 entry 9 first → Fit (turned past r c v (values before)) → Fit (spread v (values entry))
  turn_fits entry h f = record { fits = λ w l. rw (same_spread entry h w l) (f.fits w l) }

  pub turn-made : (entry next : List ℕ) → Holds 9 entry 9 first → Holds 9 next 9 (spread v (values entry)) → Holds 9 next 9 (turned past r c v (values before))
  turn-made entry next h e = holds_same 9 next 9 (spread v (values entry)) (spread v first) e (same_spread entry h)

  pub turn-picked : (entry of : List ℕ) → Holds 9 entry 9 first → Holds 9 of 9 (picks v (values entry)) → Holds 9 of 9 (picked past r c v (values before))
  turn-picked entry of h e =
      holds_same 9 of 9 (picks v (values entry)) (picks v first) e (λ w l. picks_same v (values entry) first w (λ u m. h.each u (omega arith)))

-- ---- the row of a walk

module _ (walk : Walk) where
  row_off : (p : ℕ) → walk.on p ≡ false → (w : ℕ) → row walk (suc p) w ≡ row walk p w
  unfolding row
  row_off p o w = rw o

  row_on : (p : ℕ) → walk.on p ≡ true → (w : ℕ) → row walk (suc p) w ≡ spread (walk.recovery p) (entered walk p (row walk p)) w
  unfolding row
  row_on p o w = rw o

  -- more faults end no earlier
  row-grows : (p w : ℕ) → row walk p w ≤ row walk p (suc w)
  unfolding row
  row-grows zero w = omega arith
  row-grows (suc p) w =
      by_cases (walk.on p)
      (λ o. rw o (spread-grows (walk.recovery p) (entered walk p (row walk p)) w))
      (λ o. rw o (row-grows p w))

  row_rises : (p w d : ℕ) → row walk p w ≤ row walk p (w + d)
  row_rises p w zero = rw (add-zero w) (omega arith)
  row_rises p w (suc d) = rw (add-suc w d) (omega (arith, row_rises p w d, row-grows p (w + d)))

  row_up : (p w k : ℕ) → w ≤ k → row walk p w ≤ row walk p k
  row_up p w k l = rw (sym (add-sub_of_le l)) (row_rises p w (k - w))

  -- ---- until the walk stops

  module _ (k n : ℕ) where
    -- until the walk stops, its latest end grows
    grows_on : (p : ℕ) → p < stop walk k n → row walk p k ≤ row walk (suc p) k
    unfolding stop stops
    grows_on p l =
        by_cases (walk.on p)
        (λ o. rw (row_on p o k) (omega (arith, spread-first (walk.recovery p) (entered walk p (row walk p)) k, enter o)))
        (λ o. omega (arith, row_off p o k))
      where
        live : walk.on p ≡ true → ltb walk.own p ≡ true → walk.ready p < row walk p k
        live o e =
            by_cases (leb (row walk p k) (walk.ready p))
            (λ s. absurd (true≢false (sym (rw (e, o, s)) ∙ before_least n (stops walk k) p l)))
            (λ s. leb-false _ _ s)

        enter : walk.on p ≡ true → row walk p k ≤ entered walk p (row walk p) k
        enter o =
            by_cases (ltb walk.own p)
            (λ e. rw (e, lt-leb (row walk p k) (walk.ready p) (live o e)) (omega arith))
            (λ e. rw e (omega arith))

    grows_to : (p d : ℕ) → p + d ≤ stop walk k n → row walk p k ≤ row walk (p + d) k
    grows_to p zero l = rw (add-zero p) (omega arith)
    grows_to p (suc d) l = rw (add-suc p d) (omega (arith, grows_to p d (omega arith), grows_on (p + d) (omega arith)))

    module _ (on-own : walk.on walk.own ≡ true) (own_below : walk.own < n) (runs_own : 0 < walk.run walk.own) where
      own_before_stop : walk.own < stop walk k n
      unfolding stop stops
      own_before_stop =
          let at = least n (stops walk k) in
          least-cases n (stops walk k)
          (λ l h. ltb-true _ _ (and_left (ltb walk.own at) (walk.on at) (and_left (ltb walk.own at && walk.on at) _ h)))
          (λ e. omega arith)

      own_live : 0 < row walk (suc walk.own) k
      own_live =
          rw (row_on walk.own on-own k)
          (omega (arith, spread-first (walk.recovery walk.own) (entered walk walk.own (row walk walk.own)) k, enter))
        where
          enter : 0 < entered walk walk.own (row walk walk.own) k
          enter = rw (le-ltb walk.own walk.own (omega arith)) (omega arith)

      -- where the walk stops its latest end is not over
      stop_live : 0 < row walk (stop walk k n) k
      stop_live =
          let l = own_before_stop in
          let g : row walk (suc walk.own) k ≤ row walk (stop walk k n) k =
          rw (sym (add-sub_of_le l)) (grows_to (suc walk.own) (stop walk k n - suc walk.own) (omega arith)) in
          omega (arith, own_live)

  -- ---- the queue of a walk under a pattern

  -- what the job at a turn brings with its faults, and when the first p are served
  abbrev pub brought : (ℕ → ℕ) → ℕ → ℕ
  brought faults p = walk.run p + faults p * walk.recovery p

  abbrev pub ends_with : (ℕ → ℕ) → ℕ → ℕ
  ends_with faults = ends walk.ready (brought faults) walk.on

  abbrev pub halts_with : (ℕ → ℕ) → ℕ → Bool
  halts_with faults = halts walk.ready (brought faults) walk.on walk.own

  ends_on : (faults : ℕ → ℕ) (p : ℕ) → walk.on p ≡ true → ends_with faults (suc p) ≡ max (ends_with faults p) (walk.ready p) + brought faults p
  unfolding ends
  ends_on faults p o = rw o

  ends_off : (faults : ℕ → ℕ) (p : ℕ) → walk.on p ≡ false → ends_with faults (suc p) ≡ ends_with faults p
  unfolding ends
  ends_off faults p o = rw o

  -- ---- no pattern ends later

  module _ (k n : ℕ) (faults : ℕ → ℕ) (few : total n faults ≤ k) (runs : (p : ℕ) → p < n → walk.on p ≡ true → 0 < walk.run p) where
    abbrev end : ℕ → ℕ
    end = ends_with faults

    abbrev halting : ℕ → Bool
    halting = halts_with faults

    -- one turn more: what bounds the end before bounds it after, with the job's faults added
    step_bounds : (p w : ℕ) → p < n → walk.on p ≡ true → (walk.own < p → walk.ready p < end p) → end p ≤ row walk p w → end (suc p) ≤ row walk (suc p) (w + faults p)
    step_bounds p w l o goes b =
        rw (row_on p o (w + faults p)) (omega (arith, ends_on faults p o, enter, reach))
      where
        enter : max (end p) (walk.ready p) + walk.run p ≤ entered walk p (row walk p) w
        enter =
            by_cases (ltb walk.own p)
            (λ e.
            let g = goes (ltb-true _ _ e) in
            rw (e, lt-leb (row walk p w) (walk.ready p) (omega arith)) (omega arith))
            (λ e. rw e (omega arith))

        reach : entered walk p (row walk p) w + faults p * walk.recovery p ≤ spread (walk.recovery p) (entered walk p (row walk p)) (w + faults p)
        reach = spread_reaches (walk.recovery p) (entered walk p (row walk p)) w (faults p) (omega (arith, enter, runs p l o))

    not-halting : (p : ℕ) → p < least n halting → walk.on p ≡ true → walk.own < p → walk.ready p < end p
    unfolding halts
    not-halting p l o past =
        by_cases (leb (end p) (walk.ready p))
        (λ e. absurd (true≢false (sym (rw (lt-ltb walk.own p past, o, e)) ∙ before_least n halting p l)))
        (λ e. leb-false _ _ e)

    ends_bounded : (p : ℕ) → p ≤ least n halting → end p ≤ row walk p (total p faults)
    unfolding total ends
    ends_bounded zero l = zero-le
    ends_bounded (suc p) l =
        let ih = ends_bounded p (omega arith) in
        let below : p < n = omega (arith, least-le n halting) in
        by_cases (walk.on p)
        (λ o. step_bounds p (total p faults) below o (not-halting p l o) ih)
        (λ o.
        omega (
          arith,
          ends_off faults p o,
          row_off p o (total p faults + faults p),
          row_rises p (total p faults) (faults p),
        ))

    faults_few : (p : ℕ) → p ≤ n → total p faults ≤ k
    faults_few p l = omega (arith, total_more faults p n l)

    ends_within : (p : ℕ) → p ≤ least n halting → end p ≤ row walk p k
    ends_within p l =
        let f = faults_few p (omega (arith, least-le n halting)) in
        omega (arith, ends_bounded p l, row_up p (total p faults) k f)

    -- the pattern's queue halts where the walk stops, if not before
    stopped_halts : (p : ℕ) → stops walk k p ≡ true → p ≤ least n halting → halting p ≡ true
    unfolding stops halts
    stopped_halts p s l =
        let both = and_left (ltb walk.own p && walk.on p) _ s in
        rw (
          and_left (ltb walk.own p) _ both,
          and_right (ltb walk.own p) _ both,
          le-leb (end p) (walk.ready p) (omega (arith, ends_within p l, leb-true (row walk p k) (walk.ready p) (and_right (ltb walk.own p && walk.on p) _ s))),
        )

    halts_by_stop : least n halting ≤ stop walk k n
    unfolding stop
    halts_by_stop =
        by_cases (ltb (least n (stops walk k)) (least n halting))
        (λ e.
        let l = ltb-true (least n (stops walk k)) (least n halting) e in
        let s = least_holds n (stops walk k) (omega (arith, least-le n halting)) in
        absurd (true≢false (sym (stopped_halts (least n (stops walk k)) s (omega arith)) ∙ before_least n halting (least n (stops walk k)) l)))
        (λ e. ltb-false _ _ e)

    -- J1: under no pattern of at most k faults the queue runs empty later than where the walk ends.
    pub walk_bounds : end (least n halting) ≤ row walk (stop walk k n) k
    walk_bounds =
        let h = halts_by_stop in
        let g : row walk (least n halting) k ≤ row walk (stop walk k n) k = rw (sym (add-sub_of_le h)) (grows_to k n (least n halting) (stop walk k n - least n halting) (omega arith)) in
        omega (arith, ends_within (least n halting) (omega arith))

  -- ---- some pattern ends then

  pub ends_same : (f g : ℕ → ℕ) (p : ℕ) → ((q : ℕ) → q < p → f q ≡ g q) → ends_with f p ≡ ends_with g p
  unfolding ends
  ends_same f g zero h = refl
  ends_same f g (suc p) h =
      let ih = ends_same f g p (λ q l. h q (omega arith)) in
      by_cases (walk.on p)
      (λ o. rw o (omega (arith, ap (λ x. x * walk.recovery p) (h p (omega arith)))))
      (λ o. rw o ih)

  unwind_now : (p w : ℕ) → unwind walk (suc p) w p ≡ faults_at walk p w
  unfolding unwind
  unwind_now p w = rw (eq-eqb p p refl)

  unwind_before : (p w q : ℕ) → q < p → unwind walk (suc p) w q ≡ unwind walk p (w - faults_at walk p w) q
  unfolding unwind
  unwind_before p w q l = rw (ne_eqb q p (λ e. omega arith))

  -- an entry comes from the one before it with the job's faults taken off, and is over where that one is
  row_from : (p w : ℕ) → walk.on p ≡ true → row walk (suc p) w ≡ entered walk p (row walk p) (w - faults_at walk p w) + faults_at walk p w * walk.recovery p
  unfolding faults_at
  row_from p w o = rw (row_on p o w, o) (spread-picks (walk.recovery p) (entered walk p (row walk p)) w)

  row_live : (p w : ℕ) → walk.on p ≡ true → 0 < row walk (suc p) w → 0 < entered walk p (row walk p) (w - faults_at walk p w)
  unfolding faults_at
  row_live p w o l = rw o (picks_live (walk.recovery p) (entered walk p (row walk p)) w (omega (arith, row_on p o w)))

  -- past the judged job, an entry that is not over comes from one that the job comes before
  row_past : (p w : ℕ) → walk.on p ≡ true → walk.own < p → 0 < row walk (suc p) w
      → (walk.ready p < row walk p (w - faults_at walk p w)) × (entered walk p (row walk p) (w - faults_at walk p w) ≡ row walk p (w - faults_at walk p w) + walk.run p)
  row_past p w o past live =
      let e = row walk p (w - faults_at walk p w) in
      let l = rw (lt-ltb walk.own p past) at (row_live p w o live) in
      by_cases (leb e (walk.ready p))
      (λ t. absurd (lt_irrefl 0 (rw t at l)))
      (λ t. (leb-false _ _ t, rw (lt-ltb walk.own p past, t)))

  faults_off : (p w : ℕ) → walk.on p ≡ false → faults_at walk p w ≡ 0
  unfolding faults_at
  faults_off p w o = rw o

  pub faults_within : (p w : ℕ) → faults_at walk p w ≤ w
  unfolding faults_at
  faults_within p w =
      by_cases (walk.on p)
      (λ o. rw o (picks_within (walk.recovery p) (entered walk p (row walk p)) w))
      (λ o. rw o zero-le)

  -- an unwound pattern's ends are the row's entry, and past the judged job every job comes before them
  record Unwound (p w : ℕ) : Type 0 where
    reaches : ends_with (unwind walk p w) p ≡ row walk p w
    comes : (q : ℕ) → q < p → walk.own < q → walk.on q ≡ true → walk.ready q < ends_with (unwind walk p w) q

  -- one turn more
  module _ (p w : ℕ) (ih : Unwound p (w - faults_at walk p w)) where
    abbrev f : ℕ
    f = faults_at walk p w

    same_before : (q : ℕ) → q ≤ p → ends_with (unwind walk (suc p) w) q ≡ ends_with (unwind walk p (w - f)) q
    same_before q l = ends_same (unwind walk (suc p) w) (unwind walk p (w - f)) q (λ i m. unwind_before p w i (omega arith))

    comes_more : (walk.own < p → walk.on p ≡ true → walk.ready p < row walk p (w - f))
        → (q : ℕ) → q < suc p → walk.own < q → walk.on q ≡ true → walk.ready q < ends_with (unwind walk (suc p) w) q
    comes_more h q l past o =
        below_suc l
        (λ m. omega (arith, same_before q (omega arith), ih.comes q m past o))
        (λ e. subst (λ (i : ℕ). walk.ready i < ends_with (unwind walk (suc p) w) i) (sym e) (omega (arith, same_before p (omega arith), ih.reaches, h (subst (λ (i : ℕ). walk.own < i) e past) (subst (λ (i : ℕ). walk.on i ≡ true) e o))))

    unwound_on : walk.on p ≡ true → (walk.own < suc p → 0 < row walk (suc p) w) → Unwound (suc p) w
    unwound_on o live =
        record {
          reaches = total-end ∙ sym (row_from p w o);
          comes = comes_more (λ past _. (row_past p w o past (live (omega arith))).0);
        }
      where
        enter : max (row walk p (w - f)) (walk.ready p) + walk.run p ≡ entered walk p (row walk p) (w - f)
        enter =
            by_cases (ltb walk.own p)
            (λ e. let g = row_past p w o (ltb-true _ _ e) (live (omega (arith, ltb-true walk.own p e))) in omega (arith, g.0, g.1))
            (λ e. rw e)

        total-end : ends_with (unwind walk (suc p) w) (suc p) ≡ entered walk p (row walk p) (w - f) + f * walk.recovery p
        total-end =
            omega (
              arith,
              ends_on (unwind walk (suc p) w) p o,
              same_before p (omega arith),
              ih.reaches,
              enter,
              ap (λ x. x * walk.recovery p) (unwind_now p w),
            )

    unwound_off : walk.on p ≡ false → Unwound (suc p) w
    unwound_off o =
        record {
          reaches =
              ends_off (unwind walk (suc p) w) p o
              ∙ same_before p (omega arith)
              ∙ ih.reaches
              ∙ ap (row walk p) (omega (arith, faults_off p w o))
              ∙ sym (row_off p o w);
          comes = comes_more (λ past i. absurd (true≢false (sym i ∙ o)));
        }

  unwound : (p w : ℕ) → (walk.own < p → 0 < row walk p w) → Unwound p w
  unfolding ends row
  unwound zero w live = record { reaches = refl; comes = λ q l. absurd (omega arith) }
  unwound (suc p) w live =
      by_cases (walk.on p)
      (λ o.
      let ih = unwound p (w - faults_at walk p w) (λ past. omega (arith, (row_past p w o past (live (omega arith))).0)) in
      unwound_on p w ih o live)
      (λ o.
      let ih =
      unwound p (w - faults_at walk p w)
      (λ past. omega (arith, live (omega arith), row_off p o w, ap (row walk p) (sub_none w (faults_off p w o)))) in
      unwound_off p w ih o)
    where
      sub_none : (a : ℕ) {b : ℕ} → b ≡ 0 → a - b ≡ a
      sub_none a e = omega arith

  -- the counts at all turns sum to at most w
  one_part : (n p f : ℕ) → total n (λ q. cond (eqb q p) f 0) ≤ f
  unfolding total
  one_part zero p f = zero-le
  one_part (suc n) p f =
      by_cases (eqb n p)
      (λ e. rw e (omega (arith, total_zero n (λ q. cond (eqb q p) f 0) (λ q l. rw (ne_eqb q p (λ i. omega (arith, eqb-true n p e)))))))
      (λ e. rw e (omega (arith, one_part n p f)))

  unwind_few : (n p w : ℕ) → total n (unwind walk p w) ≤ w
  unfolding unwind
  unwind_few n zero w = omega (arith, total_zero n (λ q. 0) (λ q l. refl))
  unwind_few n (suc p) w =
      let f = faults_at walk p w in
      let rest = unwind walk p (w - f) in
      omega (
        arith,
        total-le n (λ q. cond (eqb q p) f (rest q)) (λ q. cond (eqb q p) f 0 + rest q) (λ q l. by_cases (eqb q p) (λ e. rw e (omega arith)) (λ e. rw e (omega arith))),
        total-add n (λ q. cond (eqb q p) f 0) rest,
        one_part n p f,
        unwind_few n p (w - f),
        faults_within p w,
      )

  pub best_few : (k n : ℕ) → total n (best walk k n) ≤ k
  best_few k n = unwind_few n (stop walk k n) k

  module _ (k n : ℕ) (on-own : walk.on walk.own ≡ true) (own_below : walk.own < n) (runs_own : 0 < walk.run walk.own) where
    best-unwound : Unwound (stop walk k n) k
    best-unwound = unwound (stop walk k n) k (λ _. stop_live k n on-own own_below runs_own)

    not_yet : (q : ℕ) → q < stop walk k n → halts_with (best walk k n) q ≡ false
    unfolding halts
    not_yet q l =
        by_cases (ltb walk.own q)
        (λ past.
        by_cases (walk.on q)
        (λ o. rw (past, o, lt-leb (ends_with (best walk k n) q) (walk.ready q) (best-unwound.comes q l (ltb-true _ _ past) o)))
        (λ o. rw (past, o)))
        (λ past. rw past)

    there : stops walk k (stop walk k n) ≡ true → halts_with (best walk k n) (stop walk k n) ≡ true
    unfolding stops halts
    there h =
        let at = stop walk k n in
        let both = and_left (ltb walk.own at && walk.on at) _ h in
        let over : row walk at k ≤ walk.ready at = leb-true _ _ (and_right (ltb walk.own at && walk.on at) _ h) in
        rw (
          and_left (ltb walk.own at) _ both,
          and_right (ltb walk.own at) _ both,
          le-leb (ends_with (best walk k n) at) (walk.ready at) (omega (arith, best-unwound.reaches)),
        )

    halts_there : least n (halts_with (best walk k n)) ≡ stop walk k n
    unfolding stop
    halts_there =
        least-cases n (stops walk k)
        (λ l h. least_is n (halts_with (best walk k n)) (stop walk k n) l (there h) not_yet)
        (λ e. least_none n (halts_with (best walk k n)) (λ q l. not_yet q (omega arith)) ∙ sym e)

    -- J2: under the pattern that the walk hands out the queue runs empty where the walk ends.
    pub walk_reached : ends_with (best walk k n) (least n (halts_with (best walk k n))) ≡ row walk (stop walk k n) k
    walk_reached = ap (ends_with (best walk k n)) halts_there ∙ best-unwound.reaches
