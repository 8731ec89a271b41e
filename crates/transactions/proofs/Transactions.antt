-- The laws of the latest transaction: the row that is chosen is one of the log's, and its age is the smallest. Assumes nothing.
use Rattle.std.specs.Prelude.{Option, Some, None}
use mathlib.Core.Path.{◌≡◌, refl}
use mathlib.Core.Bool.{Bool, true, false, ◌&&◌, cond}
use mathlib.Core.List.{List}
use Prim.Native.Nat.{ℕ, zero, suc, ◌+◌, ◌≤◌, ◌<◌}
use native.Mathlib.Nat.{le_step, not-suc-le-zero}
use native.Mathlib.Numerals.{add-one}
use native.Mathlib.Omega.{arith}
use borrow.Author.Count.{below_more}
use borrow.Author.Tests.{leb-true, leb-false}
use lib.Dec.{leb}
use Rattle.transactions.specs.Latest.{Best, row_names, row_age, considered, latest_row, first_best, ChosenAt, Smallest}
use Rattle.tags.specs.declared.format.Format.{Format}

module _ (f : Format) (log : List ℕ) (a time : ℕ) where
  pub latest_none : (b : Best) → latest_row f log a time b 0 ≡ b
  unfolding latest_row
  latest_none b = refl

  pub latest_more : (b : Best) (k : ℕ) → latest_row f log a time b (k + 1) ≡ considered f log a time k (latest_row f log a time b k)
  unfolding latest_row
  latest_more b k = rw add-one

  -- a row that is chosen is one of those considered
  pub row_below : (stamp n k : ℕ) → (latest_row f log a time (first_best stamp time) n).row ≡ Some k → k < n
  unfolding latest_row considered
  row_below stamp zero k e = absurd (let z : ◌≡◌ {A = ℕ} 0 1 = cc in omega arith)
  row_below stamp (suc n) k e =
      go (row_names f log a n && leb (row_age f log time n) (latest_row f log a time (first_best stamp time) n).age) e (row_below stamp n k)
    where
      go : (t : Bool) → (cond t (record { row = Some n; age = row_age f log time n }) (latest_row f log a time (first_best stamp time) n)).row ≡ Some k
          → ((latest_row f log a time (first_best stamp time) n).row ≡ Some k → k < n) → k < suc n
      go true q ih = let z : n ≡ k = cc in omega arith
      go false q ih = le_step (ih q)

  -- ---- the age of what is latest is the smallest

  -- no row yet: it is the record
  smallest_none : (stamp : ℕ) → Smallest f log a time stamp 0 (first_best stamp time)
  smallest_none stamp = record {
    record_older = omega arith;
    rows_older = λ j l e. absurd (not-suc-le-zero l);
    chosen = (refl, λ j l e. absurd (not-suc-le-zero l));
  }

  -- a row that names the record and is not older takes the place
  smallest_taken : (stamp n : ℕ) (b : Best) → Smallest f log a time stamp n b → row_names f log a n ≡ true → row_age f log time n ≤ b.age
      → Smallest f log a time stamp (suc n) (record { row = Some n; age = row_age f log time n })
  smallest_taken stamp n b s e l = record {
    record_older = let h = s.record_older in omega arith;
    rows_older = λ j k. below_more (λ i. row_names f log a i ≡ true → row_age f log time n ≤ row_age f log time i) n
        (λ i m q. let h = s.rows_older i m q in omega arith) (λ q. omega arith) j (omega arith);
    chosen = (omega arith, e, refl, λ j k m q. absurd (omega arith));
  }

  -- what was latest stays where the row names another record, or is older
  smallest_kept : (stamp n : ℕ) (b : Best) → Smallest f log a time stamp n b → (row_names f log a n ≡ true → b.age < row_age f log time n)
      → Smallest f log a time stamp (suc n) b
  smallest_kept stamp n b s older = record {
    record_older = s.record_older;
    rows_older = λ j k. below_more (λ i. row_names f log a i ≡ true → b.age ≤ row_age f log time i) n
        s.rows_older (λ q. let h = older q in omega arith) j (omega arith);
    chosen = stays b.row s.chosen;
  }
    where
      stays : (p : Option ℕ) → ChosenAt f log a time stamp n p b.age → ChosenAt f log a time stamp (suc n) p b.age
      stays (Some m) c = (
        le_step c.0,
        c.1,
        c.2,
        λ j k l. below_more (λ i. m < i → row_names f log a i ≡ true → b.age < row_age f log time i) n (λ i g h. c.3 i h g) (λ h. older) j (omega arith) k,
      )
      stays None c = (c.0, λ j l. below_more (λ i. row_names f log a i ≡ true → b.age < row_age f log time i) n c.1 older j (omega arith))

  pub latest_smallest : (stamp n : ℕ) → Smallest f log a time stamp n (latest_row f log a time (first_best stamp time) n)
  unfolding latest_row considered
  latest_smallest stamp zero = smallest_none stamp
  latest_smallest stamp (suc n) =
      let b = latest_row f log a time (first_best stamp time) n in
      go b (row_names f log a n) (leb (row_age f log time n) b.age) refl refl (latest_smallest stamp n)
    where
      go : (b : Best) (t u : Bool) → row_names f log a n ≡ t → leb (row_age f log time n) b.age ≡ u → Smallest f log a time stamp n b
          → Smallest f log a time stamp (suc n) (cond (t && u) (record { row = Some n; age = row_age f log time n }) b)
      go b true true e q s = smallest_taken stamp n b s e (leb-true (row_age f log time n) b.age q)
      go b true false e q s = smallest_kept stamp n b s (λ g. leb-false (row_age f log time n) b.age q)
      go b false u e q s = smallest_kept stamp n b s (λ g. absurd (let z : ◌≡◌ {A = ℕ} 0 1 = cc in omega arith))
