-- The verdict: sound exactly when every job meets its deadline at its latest finish, and on a miss the named job is the most urgent that
-- does not. Assumes nothing.
use Prim.Native.Nat.{ℕ, ◌≤◌, ◌<◌}
use native.Mathlib.Omega.{arith}
use mathlib.Core.Path.{◌≡◌, sym, ap, ◌∙◌}
use mathlib.Core.Bool.{Bool, true, false, true≢false}
use mathlib.Core.List.{List}
use lib.Dec.{ltb}
use borrow.Author.Tests.{ltb-false, lt-ltb, le-ltb}
use Rattle.jobs.specs.Below.{some, least}
use Rattle.jobs.specs.Table.{jobs, deadline}
use Rattle.jobs.specs.declared.Job.{Job}
use Rattle.jobs.proofs.Below.{by_cases, some_at, none_at, least_is, least_none}
use Rattle.frame.specs.Schedule.{foremost}
use Rattle.frame.specs.Latest.{latest, margin, negative, named, verdict}
use Rattle.frame.specs.declared.Verdict.TheVariants.{Sound, Miss}
use Rattle.frame.proofs.Foremost.{Foremost, foremost_is, is_foremost, foremost_exists, foremost_one}

module _ (table : List ℕ) (k : ℕ) where
  -- whether a job misses its deadline at its latest finish
  abbrev pub misses : ℕ → Bool
  misses job = negative (margin table k job)

  -- A margin is negative exactly when the latest finish is after the deadline.
  pub misses_is : (job : ℕ) → misses job ≡ ltb (deadline table job) (latest table k job)
  unfolding margin negative
  misses_is job = by_cases (ltb (deadline table job) (latest table k job)) (λ e. rw e) (λ e. rw e)

  -- ---- what the verdict comes to

  none_sound : ((job : ℕ) → job < jobs table → misses job ≡ false) → verdict table k ≡ Sound
  unfolding verdict named
  none_sound h = rw (le-ltb (least (jobs table) (foremost table misses)) (jobs table) (omega (arith, least_none (jobs table) (foremost table misses) none)))
    where
      none : (job : ℕ) → job < jobs table → foremost table misses job ≡ false
      none job l =
          by_cases (foremost table misses job)
          (λ e. absurd (true≢false (sym (foremost_is table misses job e).has ∙ h job l)))
          (λ e. e)

  -- The most urgent job that misses is named.
  pub foremost-named : (job : ℕ) → Foremost table misses job → verdict table k ≡ Miss (record { 0 = job }) (latest table k job)
  unfolding verdict named
  foremost-named job f =
      let this = is_foremost table misses job f in
      let found =
      least_is (jobs table) (foremost table misses) job f.is_job this
      (λ i l.
      by_cases (foremost table misses i)
      (λ e. absurd (foremost_one table misses i job e this (λ q. omega arith)))
      (λ e. e)) in
      rw (found, lt-ltb job (jobs table) f.is_job)

  misses-named : (job : ℕ) → job < jobs table → misses job ≡ true → (i : ℕ) × Foremost table misses i
  misses-named job l e =
      let f = foremost_exists table misses (some_at (jobs table) misses job l e) in
      (f.0, foremost_is table misses f.0 f.1)

  -- ---- sound

  -- The verdict is sound exactly when no latest finish is after its deadline.
  pub sound_meets : verdict table k ≡ Sound → (job : ℕ) → job < jobs table → latest table k job ≤ deadline table job
  sound_meets e job l =
      by_cases (misses job)
      (λ m.
      let f = misses-named job l m in
      let miss = foremost-named f.0 f.1 in
      let never : ◌≡◌ {A = ℕ} 0 1 = cc in
      absurd (omega arith))
      (λ m. ltb-false _ _ (sym (misses_is job) ∙ m))

  pub meets_sound : ((job : ℕ) → job < jobs table → latest table k job ≤ deadline table job) → verdict table k ≡ Sound
  meets_sound h = none_sound (λ job l. misses_is job ∙ le-ltb _ _ (h job l))

  -- ---- miss

  -- On a miss the named job is the most urgent with a negative margin, and the finish beside it is its latest.
  pub record Names (job : ℕ) (time : ℕ) : Type 0 where
    pub most : Foremost table misses job
    pub time_is : time ≡ latest table k job

  pub miss_names : (job : ℕ) (time : ℕ) → verdict table k ≡ Miss (record { 0 = job }) time → Names job time
  miss_names job time e =
      by_cases (some (jobs table) misses)
      (λ s.
      let f = foremost_exists table misses s in
      let most = foremost_is table misses f.0 f.1 in
      let same = sym e ∙ foremost-named f.0 most in
      let named : ◌≡◌ {A = Job} (record { 0 = job }) (record { 0 = f.0 }) = cc in
      let job_is : job ≡ f.0 = ap (λ (j : Job). j.0) named in
      let time-was : time ≡ latest table k f.0 = cc in
      record { most = rw job_is most; time_is = rw job_is time-was })
      (λ s.
      let sound = none_sound (none_at (jobs table) misses s) in
      let never : ◌≡◌ {A = ℕ} 0 1 = cc in
      absurd (omega arith))
