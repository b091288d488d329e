-- The walk over a good table's jobs by turn, as the code does it: what its arrays and its row of nine cells hold, that the cells fit, and
-- that the last of them is the latest finish. Assumes nothing.
use Prim.Native.Nat.{ℕ, zero, suc, ◌+◌, ◌-◌, ◌*◌, ◌≤◌, ◌<◌, zero-le}
use native.Mathlib.Numerals.{add-one}
use native.Mathlib.Omega.{arith}
use mathlib.Core.Path.{◌≡◌, refl, sym, ap, ◌∙◌, subst}
use mathlib.Core.Bool.{true, false, not, cond, ◌&&◌}
use mathlib.Core.List.{List}
use lib.ListN.{length, get_or, set, take, replicate, length-set, length-append, length-take, length-replicate, get_or-replicate}
use Rattle.std.specs.Prelude.{Option, position}
use Rattle.std.specs.Option.{unwrap_or}
use Rattle.std.specs.List.{position_or_len}
use Rattle.std.proofs.lemmas.List.{get_or-take}
use Rattle.std.proofs.lemmas.List.Sums.{position_or_len_is}
use Rattle.jobs.specs.Below.{listed}
use lib.Seq.{get_or-set_same, get_or-set_other}
use lib.Dec.{leb, ltb, eqb}
use borrow.Author.Tests.{ne_eqb, eq-eqb, ltb-true, ltb-false, lt-ltb, le-ltb, le-leb, lt-leb, eqb-true, eqb-false}
use borrow.Author.Count.{below_none, below_more}
use Rattle.jobs.specs.Table.{jobs, ready, run, recovery}
use Rattle.jobs.specs.Urgency.{urgent, job_at}
use Rattle.jobs.specs.Orders.{the_job, the_rank, held, filled, by_urgency, by_ready}
use Rattle.jobs.specs.Refusals.{fine, first, table_refusals}
use Rattle.jobs.specs.Arrays.{Holds, Fit, values}
use Rattle.jobs.specs.declared.Job.{Job}
use Rattle.jobs.specs.declared.Rank.{Rank}
use Rattle.jobs.specs.declared.Ranking.{Ranking}
use Rattle.jobs.specs.declared.Arrivals.{Arrivals}
use Rattle.jobs.proofs.Below.{length-listed, by_cases, below_suc, least_is, least_none}
use Rattle.jobs.proofs.Urgency.{urgency_order}
use Rattle.jobs.proofs.Orders.{held_at_most, position_below, position_rises, job-by_ready, rank_of-job}
use Rattle.jobs.proofs.Refusals.{Good, good}
use Rattle.jobs.proofs.Arrays.{holds_same, holds_zeros}
use Rattle.frame.specs.Latest.{latest}
use Rattle.frame.proofs.Work.{arrival, arrivals, turn as turn_number}
use Rattle.frame.proofs.Finish.{at_least}
use Rattle.latest.proofs.Steps.{enters, turned, picks, picked}
use Rattle.latest.proofs.Walk.{job_at_turn, Walk, entered, row, stops, stop, faults_at, walk_of}
use Rattle.latest.proofs.Rows.{spread_same, spread_bound, picks_same}
use Rattle.latest.proofs.Latest.{latest_walks}
use Rattle.judge.specs.Turns.{rank_of, row_of, Rows, ByTurn, on_turn, Next, SkipsFrom, Skips}
use Rattle.judge.specs.declared.turns.Turn.{Turn}

-- ---- the orders that are handed over

pub turn-job : (table : List ℕ) (order : Arrivals) (n q : ℕ) → order ≡ by_ready table → n ≡ jobs table → n ≤ 64 → q < n
    → (get_or order.job q (the_job 0)).0 ≡ job_at_turn table q
turn-job table order n q e f l m =
    ap (λ (o : Arrivals). (get_or o.job q (the_job 0)).0) e ∙ ap (λ (j : Job). j.0) (job-by_ready table (omega arith) q (the_job 0) (omega arith))

pub turn_below : (table : List ℕ) (order : Arrivals) (n q : ℕ) → order ≡ by_ready table → n ≡ jobs table → n ≤ 64 → q < n
    → (get_or order.job q (the_job 0)).0 < n
turn_below table order n q e f l m = omega (arith, turn-job table order n q e f l m, (arrivals table).at_below q (omega arith))

filled_long : {A : Type 0} (sort : ℕ → A) (n : ℕ) (g : ℕ → ℕ) → n ≤ 64 → length (filled sort n g) ≡ 64
unfolding filled
filled_long sort n g l =
    length-append (listed n (λ i. sort (g i))) (replicate (64 - n) (sort 0))
    ∙ omega (arith, length-listed n (λ i. sort (g i)), length-replicate (64 - n) (sort 0))

order_long : (table : List ℕ) → length (by_ready table).job ≡ 64
unfolding by_ready
order_long table = filled_long the_job (held table) (job_at_turn table) (held_at_most (jobs table))

pub ranks_long : (table : List ℕ) → length (by_urgency table).job ≡ 64
unfolding by_urgency
ranks_long table = filled_long the_job (held table) (job_at (urgent table) (jobs table)) (held_at_most (jobs table))

-- the turn of a job is the first at which the job is found
pub found_turn : (table : List ℕ) (order : Arrivals) (n job : ℕ) → order ≡ by_ready table → n ≡ jobs table → n ≤ 64 → job < jobs table
    → (found : Option ℕ) → found ≡ position (λ (other : Job). eqb other.0 job) (take n order.job) → job_at_turn table (unwrap_or found 0) ≡ job
found_turn table order n job e f l m found s =
    rw (s, at, lt-ltb q (length (take n order.job)) inside) ((arrivals table).at_number job m)
  where
    q : ℕ
    q = turn_number table job

    below : q < n
    below = omega (arith, (arrivals table).number_below job m)

    inside : q < length (take n order.job)
    inside = omega (arith, length-take n order.job, below, ap (λ (o : Arrivals). length o.job) e, order_long table)

    entry : (p : ℕ) → p < n → (get_or (take n order.job) p (the_job 0)).0 ≡ job_at_turn table p
    entry p i = ap (λ (j : Job). j.0) (get_or-take n order.job p (the_job 0) i) ∙ turn-job table order n p e f l i

    before : (p : ℕ) → p < q → eqb (get_or (take n order.job) p (the_job 0)).0 job ≡ false
    before p i = ne_eqb (get_or (take n order.job) p (the_job 0)).0 job (λ r. omega (arith, sym ((arrivals table).number_at p (omega (arith, below))) ∙ ap (turn_number table) (sym (entry p (omega (arith, below))) ∙ r)))

    at : position_or_len (λ (other : Job). eqb other.0 job) (take n order.job) ≡ q
    at =
        position_or_len_is (λ (other : Job). eqb other.0 job) (take n order.job) q (the_job 0) (omega (arith, inside)) before
        (λ i. eq-eqb _ _ (entry q below ∙ (arrivals table).at_number job m))

pub job_rank : (table : List ℕ) (ranking : Ranking) (n job : ℕ) → ranking ≡ by_urgency table → n ≡ jobs table → n ≤ 64 → job < n
    → (get_or ranking.rank job (the_rank 0)).0 ≡ rank_of table job
job_rank table ranking n job e f l m =
    ap (λ (o : Ranking). (get_or o.rank job (the_rank 0)).0) e ∙ ap (λ (r : Rank). r.0) (rank_of-job table (omega arith) job (the_rank 0) (omega arith))

pub job_rank_below : (table : List ℕ) (ranking : Ranking) (n job : ℕ) → ranking ≡ by_urgency table → n ≡ jobs table → n ≤ 64 → job < n
    → (get_or ranking.rank job (the_rank 0)).0 < n
job_rank_below table ranking n job e f l m =
    omega (arith, job_rank table ranking n job e f l m, position_below (urgent table) (urgency_order table) (jobs table) job (omega arith))

-- the row of the job at a turn, by the orders that are handed over
pub row_is : (table : List ℕ) (order : Arrivals) (ranking : Ranking) (n q : ℕ) → order ≡ by_ready table → ranking ≡ by_urgency table → n ≡ jobs table → n ≤ 64 → q < n
    → let job = (get_or order.job q (the_job 0)).0 in row_of table job (get_or ranking.rank job (the_rank 0)).0 ≡ row_of table (job_at_turn table q) (rank_of table (job_at_turn table q))
row_is table order ranking n q e d f l m =
    let job = (get_or order.job q (the_job 0)).0 in
    ap (row_of table job) (job_rank table ranking n job d f l (turn_below table order n q e f l m))
    ∙ ap (λ j. row_of table j (rank_of table j)) (turn-job table order n q e f l m)

-- ---- ranks tell urgency

rank_tells : (table : List ℕ) (i j : ℕ) → i < jobs table → j < jobs table → leb (rank_of table i) (rank_of table j) ≡ not (urgent table j i)
rank_tells table i j l m =
    by_cases (urgent table j i)
    (λ u. rw u (lt-leb (rank_of table i) (rank_of table j) (position_rises (urgent table) (urgency_order table) (jobs table) j i m u)))
    (λ u.
    rw u
    (le-leb (rank_of table i) (rank_of table j)
    (by_cases (eqb i j)
    (λ e. omega (arith, ap (rank_of table) (eqb-true i j e)))
    (λ e.
    omega (
      arith,
      position_rises (urgent table) (urgency_order table) (jobs table) i j l
          ((urgency_order table).total j i (λ q. eqb-false i j e (sym q)) u),
    )))))

-- ---- the row fits

module _ (table : List ℕ) (g : Good table) (job : ℕ) where
  abbrev walk : Walk
  walk = walk_of table job

  enter_bound : (p u b : ℕ) → p < jobs table → 1000000 ≤ b → row walk p u ≤ b → entered walk p (row walk p) u ≤ b + 100000
  enter_bound p u b l m h =
      let below = (arrivals table).at_below p l in
      let r = g.ready_at_most (arrival table p) below in
      let c = g.run_at_most (arrival table p) below in
      by_cases (ltb walk.own p)
      (λ e.
      by_cases (leb (row walk p u) (ready table (arrival table p)))
      (λ d. rw (e, d) zero-le)
      (λ d. rw (e, d) (omega arith)))
      (λ e. rw e (omega arith))

  row_bound : (p w : ℕ) → p ≤ jobs table → row walk p w ≤ 1000000 + p * 100000 + w * 100000
  unfolding row
  row_bound zero w l = zero-le
  row_bound (suc p) w l =
      by_cases (walk.on p)
      (λ o.
      rw o
      (omega (
        arith,
        spread_bound (recovery table (arrival table p)) (entered walk p (row walk p)) (1000000 + p * 100000 + 100000) 100000
            (λ u. omega (arith, enter_bound p u (1000000 + p * 100000 + u * 100000) l (omega arith) (row_bound p u (omega arith))))
            (g.recovery_at_most (arrival table p) ((arrivals table).at_below p l))
            w,
      )))
      (λ o. rw o (omega (arith, row_bound p w (omega arith))))

-- ---- the rows by turn

pub rows_more : (table : List ℕ) (q : ℕ) (rows : List Turn) (x : Turn) → q < 64 → x ≡ row_of table (job_at_turn table q) (rank_of table (job_at_turn table q)) → Rows table q rows
    → Rows table (q + 1) (set rows q x)
rows_more table q rows x m e h =
    record {
      long = length-set rows q x ∙ h.long;
      each =
          λ p d i.
          below_suc (rw add-one at i)
          (λ j. get_or-set_other rows q p x d (λ r. omega arith) ∙ h.each p d j)
          (λ j. ap (λ r. get_or (set rows q x) r d) j ∙ get_or-set_same rows q x d (omega (arith, h.long)) ∙ e ∙ ap (λ r. row_of table (job_at_turn table r) (rank_of table (job_at_turn table r))) (sym j));
    }

-- whether the job at a turn is at least as urgent, by its row
pub on_here : {table : List ℕ} {n : ℕ} {rows : List Turn} → Rows table n rows → (q mine : ℕ) (d : Turn) → q < n → leb (get_or rows q d).rank mine ≡ on_turn table mine q
on_here r q mine d l = ap (λ (x : Turn). leb x.rank mine) (r.each q d l)

-- the recovery of the job at a turn, by its row
pub recovery_at_lem : {table : List ℕ} {n : ℕ} {rows : List Turn} → Rows table n rows → (q : ℕ) (d : Turn) → q < n → (get_or rows q d).recovery ≡ recovery table (job_at_turn table q)
recovery_at_lem r q d l = ap (λ (x : Turn). x.recovery) (r.each q d l)

-- ---- the next turn that is walked

module _ (table : List ℕ) (n mine : ℕ) where
  next_here : (q : ℕ) → q < n → on_turn table mine q ≡ true → Next table n mine q q
  next_here q l e = record { from = omega arith; up_to = omega arith; found = λ m. e; skipped = λ p h m. absurd (omega arith) }

  next_later : (q to : ℕ) → on_turn table mine q ≡ false → Next table n mine (q + 1) to → Next table n mine q to
  next_later q to e h =
      record {
        from = omega (arith, h.from);
        up_to = h.up_to;
        found = h.found;
        skipped = λ p l m. by_cases (eqb p q) (λ s. rw (eqb-true p q s) e) (λ s. h.skipped p (omega (arith, eqb-false p q s)) m);
      }

  pub skips_none : (next : List ℕ) → length next ≡ 65 → values next n ≡ n → SkipsFrom table n mine n next
  skips_none next long e =
      record {
        long = long;
        each =
            λ p l m.
            let same : p ≡ n = omega arith in
            rw (same, e)
            (record { from = omega arith; up_to = omega arith; found = λ r. absurd (omega arith); skipped = λ r h i. absurd (omega arith) });
      }

  pub skips_more : (q x : ℕ) (next : List ℕ) → n ≤ 64 → 0 < q → q ≤ n → SkipsFrom table n mine q next
      → x ≡ cond (on_turn table mine (q - 1)) (q - 1) (values next q) → SkipsFrom table n mine (q - 1) (set next (q - 1) x)
  skips_more q x next few pos l h e =
      record {
        long = length-set next (q - 1) x ∙ h.long;
        each =
            λ p i m.
            by_cases (eqb p (q - 1))
            (λ s.
            let one : q - 1 + 1 ≡ q = omega arith in
            rw (eqb-true p (q - 1) s, get_or-set_same next (q - 1) x 0 (omega (arith, h.long)), e)
            (by_cases (on_turn table mine (q - 1))
            (λ o. rw o (next_here (q - 1) (omega arith) o))
            (λ o. rw o (next_later (q - 1) (values next q) o (rw one (h.each q (omega arith) l))))))
            (λ s.
            rw (get_or-set_other next (q - 1) p x 0 (eqb-false p (q - 1) s))
            (h.each p (omega (arith, eqb-false p (q - 1) s)) m));
      }

-- ---- a walk under way

-- Before turn q, which is walked, nothing stopped the walk, and the nine cells hold its row.
pub record Walked (table : List ℕ) (n k own q : ℕ) (cells : List ℕ) : Type 0 where
  pub up_to : q ≤ n
  pub here : q < n → (walk_of table (job_at_turn table own)).on q ≡ true
  pub holds : Holds 9 cells 9 (row (walk_of table (job_at_turn table own)) q)
  pub unstopped : (p : ℕ) → p < q → stops (walk_of table (job_at_turn table own)) k p ≡ false

-- The faults on the jobs before turn q are noted; nothing is noted from there on.
pub record Noted (table : List ℕ) (own q : ℕ) (picks : List (List ℕ)) : Type 0 where
  pub long : length picks ≡ 64
  pub each : (p : ℕ) (d : List ℕ) → p < q → Holds 9 (get_or picks p d) 9 (faults_at (walk_of table (job_at_turn table own)) p)
  pub rest : (p : ℕ) (d : List ℕ) → q ≤ p → p < 64 → Holds 9 (get_or picks p d) 9 (λ w. 0)

-- A walk of the job at turn `own` for k faults over a table's rows.
pub record Walks (table : List ℕ) (n k own : ℕ) (rows : List Turn) : Type 0 where
  pub good : first (table_refusals table) ≡ fine
  pub all : n ≡ jobs table
  pub few : n ≤ 64
  pub rows_of : Rows table n rows
  pub few_faults : k ≤ 8
  pub own_below : own < n

module _ (walk : Walk) where
  -- jobs that are left out leave the row, stop nothing and have no faults
  row_skips : (w d q to : ℕ) → to ≡ d + q → ((p : ℕ) → q ≤ p → p < to → walk.on p ≡ false) → row walk to w ≡ row walk q w
  unfolding row
  row_skips w zero q to e h = let same : to ≡ q = omega arith in rw same
  row_skips w (suc d) q to e h =
      let more : to ≡ suc (d + q) = omega arith in
      rw (more, h (d + q) (omega arith) (omega arith)) (row_skips w d q (d + q) refl (λ p l m. h p l (omega arith)))

  stops_off : (k p : ℕ) → walk.on p ≡ false → stops walk k p ≡ false
  unfolding stops
  stops_off k p o = rw o (by_cases (ltb walk.own p) (λ e. rw e) (λ e. rw e))

  faults_off : (p : ℕ) → walk.on p ≡ false → (w : ℕ) → w < 9 → 0 ≡ faults_at walk p w
  unfolding faults_at
  faults_off p o w l = rw o

pub walks : {table value : List ℕ} {n k own : ℕ} {order : Arrivals} {by_rank : List Job} {rows : List Turn} → ByTurn table n order by_rank rows → table ≡ value → k ≤ 8 → own < jobs value
    → Walks table n k own rows
walks {n = n} {own = own} b e few l =
    record {
      good = b.good;
      all = b.all;
      few = b.few;
      rows_of = b.rows_of;
      few_faults = few;
      own_below = rw (← e, ← b.all) at l;
    }

module _ {table : List ℕ} {n k own : ℕ} {rows : List Turn} (a : Walks table n k own rows) where
  g : Good table
  g = good table a.good

  -- the judged job and its walk
  abbrev pub judged : ℕ
  judged = job_at_turn table own

  abbrev pub W : Walk
  W = walk_of table judged

  abbrev pub mine : ℕ
  mine = rank_of table judged

  is_job : judged < jobs table
  is_job = (arrivals table).at_below own (omega (arith, a.all, a.own_below))

  own_is : W.own ≡ own
  own_is = (arrivals table).number_at own (omega (arith, a.all, a.own_below))

  on_is : (q : ℕ) → q < n → on_turn table mine q ≡ W.on q
  unfolding at_least
  on_is q m = rank_tells table (job_at_turn table q) judged ((arrivals table).at_below q (omega (arith, a.all))) is_job

  -- what is skipped is left out of the walk
  skipped_is : (q to : ℕ) → Next table n mine q to → (p : ℕ) → q ≤ p → p < to → W.on p ≡ false
  skipped_is q to h p i m = sym (on_is p (omega (arith, h.up_to))) ∙ h.skipped p i m

  walked_to : (q to : ℕ) (cells : List ℕ) → Next table n mine q to → Holds 9 cells 9 (row W q) → ((p : ℕ) → p < q → stops W k p ≡ false) → Walked table n k own to cells
  walked_to q to cells h e s =
      record {
        up_to = h.up_to;
        here = λ m. sym (on_is to m) ∙ h.found m;
        holds =
            holds_same 9 cells 9 (row W q) (row W to) e
            (λ w i. sym (row_skips W w (to - q) q to (omega (arith, h.from)) (skipped_is q to h)));
        unstopped =
            λ p m.
            by_cases (ltb p q)
            (λ i. s p (ltb-true p q i))
            (λ i. stops_off W k p (skipped_is q to h p (ltb-false p q i) m));
      }

  noted_to : (q to : ℕ) (picks : List (List ℕ)) → Next table n mine q to → Noted table own q picks → Noted table own to picks
  noted_to q to picks h o =
      record {
        long = o.long;
        each =
            λ p d m.
            by_cases (ltb p q)
            (λ i. o.each p d (ltb-true p q i))
            (λ i.
            holds_same 9 (get_or picks p d) 9 (λ w. 0) (faults_at W p) (o.rest p d (ltb-false p q i) (omega (arith, h.up_to, a.few)))
            (faults_off W p (skipped_is q to h p (ltb-false p q i) m)));
        rest = λ p d i m. o.rest p d (omega (arith, h.from)) m;
      }

  -- the row of the judged job
  pub rank_is : (d : Turn) → (get_or rows own d).rank ≡ mine
  rank_is d = ap (λ (x : Turn). x.rank) (a.rows_of.each own d a.own_below)

  next_at : (d : Turn) {next : List ℕ} → Skips table (get_or rows own d).rank next → (q : ℕ) → q ≤ n → Next table n mine q (values next q)
  next_at d {next = next} s q i =
      let to = s.each q zero-le (omega (arith, a.all)) in
      subst (λ x. Next table n x q (values next q)) (rank_is d) (subst (λ x. Next table x (get_or rows own d).rank q (values next q)) (sym a.all) to)

  -- what the code's array of next turns says
  pub next_is : {value : List ℕ} (d : Turn) {next : List ℕ} → table ≡ value → Skips value (get_or rows own d).rank next → (q : ℕ) {to : ℕ} → q ≤ n → to ≡ values next q
      → Next table n mine q to
  next_is d {next = next} e s q i f = rw f (next_at d (subst (λ (v : List ℕ). Skips v (get_or rows own d).rank next) (sym e) s) q i)

  -- what the code does at turn q
  module _ (q : ℕ) (m : q < n) (cells : List ℕ) (h : Walked table n k own q cells) (d : Turn) where
    abbrev turn : Turn
    turn = get_or rows q d

    turn_is : turn ≡ row_of table (job_at_turn table q) (rank_of table (job_at_turn table q))
    turn_is = a.rows_of.each q d m

    turn-ready : turn.ready ≡ ready table (job_at_turn table q)
    turn-ready = ap (λ (x : Turn). x.ready) turn_is

    turn-run : turn.run ≡ run table (job_at_turn table q)
    turn-run = ap (λ (x : Turn). x.run) turn_is

    turn-recovery : turn.recovery ≡ recovery table (job_at_turn table q)
    turn-recovery = ap (λ (x : Turn). x.recovery) turn_is

    past_is : ltb own q ≡ ltb W.own q
    past_is = ap (λ x. ltb x q) (sym own_is)

    pub stops_is : (ltb own q && leb (values cells k) turn.ready) ≡ stops W k q
    unfolding stops
    stops_is =
        rw (h.here m, h.holds.each k (omega (arith, a.few_faults)), turn-ready, past_is)
        (by_cases (ltb W.own q) (λ e. rw e) (λ e. rw e))

    pub stops_past : own < q → values cells k ≤ turn.ready → stops W k q ≡ true
    stops_past p l = sym stops_is ∙ rw (lt-ltb own q p, le-leb (values cells k) turn.ready l) refl

    pub goes_on_past : turn.ready < values cells k → stops W k q ≡ false
    goes_on_past l = sym stops_is ∙ rw (lt-leb (values cells k) turn.ready l) (by_cases (ltb own q) (λ e. rw e refl) (λ e. rw e refl))

    pub goes_on_before : q ≤ own → stops W k q ≡ false
    goes_on_before l = sym stops_is ∙ rw (le-ltb own q l) refl

    -- the row that the code makes
    abbrev pub made : ℕ → ℕ
    made = turned (ltb own q) turn.ready turn.run turn.recovery (values cells)

    enters_is : (w : ℕ) → w < 9 → enters (ltb own q) turn.ready turn.run (values cells w) ≡ entered W q (row W q) w
    enters_is w i = rw (past_is, turn-ready, turn-run, h.holds.each w i)

    made_is : (w : ℕ) → w < 9 → made w ≡ row W (suc q) w
    unfolding row
    made_is w i = rw (h.here m, turn-recovery) (spread_same (W.recovery q) _ _ w (λ u j. enters_is u (omega arith)))

    noted_is : (w : ℕ) → w < 9 → picked (ltb own q) turn.ready turn.run turn.recovery (values cells) w ≡ faults_at W q w
    unfolding faults_at
    noted_is w i = rw (h.here m, turn-recovery) (picks_same (W.recovery q) _ _ w (λ u j. enters_is u (omega arith)))

    pub made_fits : Fit made
    made_fits =
        record {
          fits = λ w i. rw (made_is w i) (omega (arith, row_bound table g judged (suc q) w (omega (arith, a.all)), a.all, g.few_jobs));
        }

    pub walked_more : (to : ℕ) (next : List ℕ) → Next table n mine (q + 1) to → stops W k q ≡ false → Holds 9 next 9 made → Walked table n k own to next
    walked_more to next f s d =
        walked_to (q + 1) to next f (rw (add-one q) (holds_same 9 next 9 made (row W (suc q)) d made_is)) (below_more _ _ h.unstopped s)

    pub stops_here : stops W k q ≡ true → q ≡ stop W k (jobs table)
    unfolding stop
    stops_here s = sym (least_is (jobs table) (stops W k) q (omega (arith, a.all)) s h.unstopped)

    -- where the walk stops, the last cell in use is the latest finish
    pub walked_stops : stops W k q ≡ true → values cells k ≡ latest table k judged
    walked_stops s =
        h.holds.each k (omega (arith, a.few_faults)) ∙ ap (λ p. row W p k) (stops_here s) ∙ sym (latest_walks table k judged g is_job)

    -- the faults that the code notes
    pub noted_more : (to : ℕ) (picks : List (List ℕ)) (next : List ℕ) → Next table n mine (q + 1) to → Noted table own q picks
        → Holds 9 next 9 (picked (ltb own q) turn.ready turn.run turn.recovery (values cells))
        → Noted table own to (set picks q next)
    noted_more to picks next f o d' =
        noted_to (q + 1) to (set picks q next) f
        (record {
          long = length-set picks q next ∙ o.long;
          each =
              λ p e i.
              below_suc (rw add-one at i)
              (λ j. subst (λ (x : List ℕ). Holds 9 x 9 (faults_at W p)) (sym (get_or-set_other picks q p next e (λ r. omega arith))) (o.each p e j))
              (λ j.
              subst (λ (r : ℕ). Holds 9 (get_or (set picks q next) r e) 9 (faults_at W r)) (sym j)
              (subst (λ (x : List ℕ). Holds 9 x 9 (faults_at W q)) (sym (get_or-set_same picks q next e (omega (arith, o.long, a.few))))
              (holds_same 9 next 9 _ (faults_at W q) d' noted_is)));
          rest =
              λ p e i j.
              subst (λ (x : List ℕ). Holds 9 x 9 (λ w. 0)) (sym (get_or-set_other picks q p next e (λ r. omega arith))) (o.rest p e (omega arith) j);
        })

  pub walked_none : (to : ℕ) (cells : List ℕ) → Next table n mine 0 to → Holds 9 cells 9 (λ w. 0) → Walked table n k own to cells
  unfolding row
  walked_none to cells f e = walked_to 0 to cells f e (below_none _)

  pub noted_none : (to : ℕ) → Next table n mine 0 to → Noted table own to (replicate 64 (replicate 9 0))
  noted_none to f =
      let none : List ℕ = replicate 9 0 in
      noted_to 0 to (replicate 64 none) f
      (record {
        long = length-replicate 64 none;
        each = λ p d i. absurd (omega arith);
        rest = λ p d i j. subst (λ (x : List ℕ). Holds 9 x 9 (λ w. 0)) (sym (get_or-replicate 64 p none d j)) (holds_zeros 9);
      })

  pub stops_nowhere : (q : ℕ) (cells : List ℕ) → Walked table n k own q cells → n ≤ q → q ≡ stop W k (jobs table)
  unfolding stop
  stops_nowhere q cells h e =
      let end : q ≡ jobs table = omega (arith, h.up_to, a.all) in
      end ∙ sym (least_none (jobs table) (stops W k) (λ p m. h.unstopped p (omega arith)))

  pub walked_done : (q : ℕ) (cells : List ℕ) → Walked table n k own q cells → n ≤ q → values cells k ≡ latest table k judged
  walked_done q cells h e =
      h.holds.each k (omega (arith, a.few_faults)) ∙ ap (λ p. row W p k) (stops_nowhere q cells h e) ∙ sym (latest_walks table k judged g is_job)
