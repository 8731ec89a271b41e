-- The laws of sums. Assumes nothing.
use Rattle.std.proofs.Common.{◌≡◌, ℕ, zero, suc, ◌+◌, ◌<◌, ◌≢◌, sym, refl, ap, add-zero, add-suc, arith}
use native.Mathlib.Decide.{ℕ_discrete}
use Rattle.words.specs.Sum.{total}

pub total-zero : (f : ℕ → ℕ) → total f 0 ≡ 0
unfolding total
total-zero f = refl

pub total-suc : (f : ℕ → ℕ) (n : ℕ) → total f (suc n) ≡ total f n + f n
unfolding total
total-suc f n = refl

-- two sums one after the other
pub total_add : (f : ℕ → ℕ) (m n : ℕ) → total f (m + n) ≡ total f m + total (λ i. f (m + i)) n
unfolding total
total_add f m zero = rw (add-zero m) (sym (add-zero (total f m)))
total_add f m (suc n) = rw (add-suc m n) (omega (arith, total_add f m n))

-- of zeros
pub total-none : (n : ℕ) → total (λ i. 0) n ≡ 0
unfolding total
total-none zero = refl
total-none (suc n) = omega (arith, total-none n)

pub total-same : (f g : ℕ → ℕ) (n : ℕ) → ((i : ℕ) → i < n → f i ≡ g i) → total f n ≡ total g n
unfolding total
total-same f g zero h = refl
total-same f g (suc n) h = omega (arith, h n (omega arith), total-same f g n (λ i l. h i (omega arith)))

-- one summand is changed
pub total_change : (f g : ℕ → ℕ) (n j : ℕ) → j < n → ((i : ℕ) → i < n → i ≢ j → f i ≡ g i) → total f n + g j ≡ total g n + f j
unfolding total
total_change f g zero j l h = absurd (omega arith)
total_change f g (suc n) j l h = go (ℕ_discrete j n) (total_change f g n j)
  where
    go : Dec (j ≡ n) → (j < n → ((i : ℕ) → i < n → i ≢ j → f i ≡ g i) → total f n + g j ≡ total g n + f j)
        → total f n + f n + g j ≡ total g n + g n + f j
    go (yes e) ih =
        let s : total f n ≡ total g n = total-same f g n (λ i k. h i (omega arith) (λ q. omega arith)) in
        omega (arith, ap f e, ap g e)
    go (no ne) ih =
        let a : total f n + g j ≡ total g n + f j = ih (omega arith) (λ i k q. h i (omega arith) q) in
        let b : f n ≡ g n = h n (omega arith) (λ q. ne (sym q)) in
        omega arith
