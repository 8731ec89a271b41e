-- The laws of the report's text: of pieces one after the other, of decimals, of the lines, and of all or nothing. Assumes nothing.
use Rattle.std.specs.Prelude.{Option, Some, None}
use mathlib.Core.Path.{◌≡◌, refl, sym, ap, subst, ◌∙◌}
use mathlib.Core.List.{List, [], ◌∷◌, ◌++◌, append_assoc}
use Prim.Native.String.{String}
use Prim.Native.Nat.{ℕ, zero, suc, ◌+◌, ◌-◌, ◌*◌, ◌/◌, ◌%◌, ◌^◌, ◌≤◌, ◌<◌}
use native.Mathlib.Nat.{not-suc-le-zero, add-zero, zero-add, pow-suc, one-le-pow}
use native.Mathlib.Omega.{arith}
use borrow.Author.Tests.{lt-ltb, le-ltb, le-leb, lt-leb, leb-true}
use lib.ListN.{length, length-append}
use Rattle.io.specs.Digits.{hex_digit_ascii, last_digits, IsDigitCount}
use Rattle.words.proofs.Parts.{sets-next, flat_nil, flat-suc}
use Rattle.words.proofs.Sums.{total-zero, total-suc}
use Rattle.tags.specs.Ending.{ending_value}
use Rattle.tags.specs.Verdict.{verdict_number, is_fault}
use Rattle.tags.specs.declared.ending.Ending.{Ending}
use Rattle.tags.specs.declared.ending.Ending.TheVariants.{End, Broken, Again}
use Rattle.tags.specs.declared.verdict.Verdict.{Verdict}
use Rattle.tags.specs.declared.verdict.Verdict.TheVariants.{Free, Whole, Allocated, Cached, NotOneRecord, BadTag, FreedTwice, OffChain, OnChain}
use Rattle.tags.specs.declared.verdict.Verdict.TheVariants.{BadFill, BadRedzone, BadSizeCode, Overrun, BadHeader}
use Rattle.tags.proofs.Verdicts.{code_fault}
use Rattle.lines.specs.Text.{ascii, decimal_with, decimal_of, field_of, header_of, has_offset, fault_line_of, line_of, lines_of, chain_line_of}
use Rattle.lines.specs.Text.{fault_of, faults_in, faults_of, text_of, Wrote, writing, most_buffers, line_most, chain_most, faults_most, longest}
use Rattle.lines.specs.Writer.{Put}
use Rattle.lines.specs.declared.text.Writer.{Writer}
use Rattle.tags.specs.Filling.{Filling, filling}
use Rattle.words.proofs.Tests.{by_test}
use lib.Dec.{leb, ltb, eqb, lit≤}

-- ---- pieces

-- one piece, and then another
pub then : {l m o a b : List ℕ} {at p q : ℕ} → Wrote l at a m p → Wrote m p b o q → Wrote l at (a ++ b) o q
then {l} {m} {o} {a} {b} {at} {p} {q} v w = record {
  long = w.long ∙ v.long;
  filled = λ h. sets-next l a b at (length a) p (v.filled (omega (arith, w.ends))) refl (sym v.ends) (w.filled (omega (arith, v.long)));
  ends = let h = length-append a b in let e = v.ends in let f = w.ends in omega arith;
}

-- one piece, and then two that were put as one
pub then_both : {l m o : List ℕ} {at p q : ℕ} (a b c : List ℕ) → Wrote l at a m p → Wrote m p (b ++ c) o q → Wrote l at (a ++ b ++ c) o q
then_both {l} {m} {o} {at} {p} {q} a b c v w = subst (λ (x : List ℕ). Wrote l at x o q) (sym (append_assoc a b c)) (then v w)

pub wrote_none : (l : List ℕ) (at : ℕ) → Wrote l at [] l at
wrote_none l at = record { long = refl; filled = λ h. refl; ends = sym (add-zero at) }

-- ---- decimals

digit : (d : ℕ) → d < 10 → hex_digit_ascii d ≡ 48 + d
digit d h = simp (lt-ltb d 10 h)

-- the fewest digits that hold a number are its decimal
pub decimal_is : (fuel n r : ℕ) → n < fuel → IsDigitCount 10 1 n r → decimal_with fuel n ≡ last_digits 10 r n
unfolding decimal_with
decimal_is zero n r l f = absurd (not-suc-le-zero l)
decimal_is (suc fuel) n zero l f = absurd (not-suc-le-zero f.0)
decimal_is (suc fuel) n (suc zero) l f =
    let h : n < 10 = f.1 in
    let e : n % 10 ≡ n = omega arith in
    simp (lt-ltb n 10 h) (ap (λ (d : ℕ). d ∷ []) (ap (λ (d : ℕ). 48 + d) (sym e) ∙ sym (digit (n % 10) (omega arith))))
decimal_is (suc fuel) n (suc (suc k)) l f =
    let one : 1 ≤ 10 ^ k = one-le-pow k 10 (omega arith) in
    let p : 10 ^ suc k ≡ 10 ^ k * 10 = pow-suc 10 k in
    let q : 10 ^ suc (suc k) ≡ 10 ^ suc k * 10 = pow-suc 10 (suc k) in
    let up : n < 10 ^ suc (suc k) = f.1 in
    let s : suc (suc k) - 1 ≡ suc k = omega arith in
    let low : 10 ^ suc k ≤ n = subst (λ (j : ℕ). 10 ^ j ≤ n) s (f.2 (omega arith)) in
    let t : suc k - 1 ≡ k = omega arith in
    simp (le-ltb n 10 (omega arith))
    (ap (λ (x : List ℕ). x ++ ((48 + n % 10) ∷ [])) (decimal_is fuel (n / 10) (suc k) (omega arith)
    (omega arith, omega arith, λ _. subst (λ (j : ℕ). 10 ^ j ≤ n / 10) (sym t) (omega arith)))
    ∙ ap (λ (d : ℕ). last_digits 10 (suc k) (n / 10) ++ (d ∷ [])) (sym (digit (n % 10) (omega arith))))

-- a number below 10 ^ k has at most k digits, and one at the least
pub decimal_short : (fuel n k : ℕ) → n < 10 ^ suc k → length (decimal_with fuel n) ≤ suc k
unfolding decimal_with
decimal_short zero n k h = omega arith
decimal_short (suc fuel) n zero h = let l : n < 10 = h in rw (lt-ltb n 10 l) (omega arith)
decimal_short (suc fuel) n (suc k) h =
    let p : 10 ^ suc (suc k) ≡ 10 ^ suc k * 10 = pow-suc 10 (suc k) in
    by_test (λ (x : List ℕ). length x ≤ suc (suc k)) (ltb n 10)
    (λ _. omega arith)
    (λ _. omega (arith, decimal_short fuel (n / 10) k (omega arith), length-append (decimal_with fuel (n / 10)) ((48 + n % 10) ∷ [])))

-- ---- how long a line can be

record AtMost (k : ℕ) (x : List ℕ) : Type 0 where
  most : length x ≤ k

-- two pieces are as long as both
both : {x y : List ℕ} {m n : ℕ} → AtMost m x → AtMost n y → AtMost (m + n) (x ++ y)
both {x} {y} h k = record { most = omega (arith, length-append x y, h.most, k.most) }

at_most : (x : List ℕ) (k : ℕ) → length x ≤ k → AtMost k x
at_most x k h = record { most = h }

word : (s : String) → AtMost (length (ascii s)) (ascii s)
word s = record { most = omega arith }

-- a number below 10 ^ k, and a text behind it
field : (n k : ℕ) (s : String) → n < 10 ^ suc k → AtMost (suc k + length (ascii s)) (field_of n s)
field n k s h = both (at_most (decimal_of n) (suc k) (decimal_short (suc n) n k h)) (word s)

fault_line_short : (i number value : ℕ) → i < most_buffers → number < 100 → value < 2 ^ 32 → length (fault_line_of i number value) ≤ 26
unfolding fault_line_of
fault_line_short i number value h k v =
    let a = field i 4 " fault " (omega arith) in
    by_test (λ (x : List ℕ). length x ≤ 26) (has_offset number)
    (λ _. (both (both a (field number 1 " " (omega arith))) (field value 9 "\n" (omega arith))).most)
    (λ _. omega (arith, (both a (field number 1 "\n" (omega arith))).most))

pub line_short : (i number value : ℕ) → i < most_buffers → number < 100 → value < 2 ^ 32 → length (line_of i number value) ≤ line_most
unfolding line_of
line_short i number value h k v =
    by_test None (eqb number 0) (λ _. omega (arith, (field i 4 " free\n" (omega arith)).most))
    (λ _. by_test None (eqb number 1) (λ _. omega (arith, (field i 4 " whole\n" (omega arith)).most))
    (λ _. by_test None (eqb number 2)
    (λ _. (both (field i 4 " allocated " (omega arith)) (field value 9 "\n" (omega arith))).most)
    (λ _. by_test None (eqb number 3) (λ _. omega (arith, (field i 4 " cached\n" (omega arith)).most))
    (λ _. omega (arith, fault_line_short i number value h k v)))))
  where
    None : List ℕ → Type 0
    None x = length x ≤ line_most

pub chain_line_short : (met : ℕ) (e : Ending) → met ≤ most_buffers → ending_value e < most_buffers → length (chain_line_of met e) ≤ chain_most
unfolding chain_line_of
chain_line_short met End h k = omega (arith, (both (word "chain ") (field met 5 " end\n" (omega arith))).most)
chain_line_short met Broken h k = omega (arith, (both (word "chain ") (field met 5 " broken\n" (omega arith))).most)
chain_line_short met (Again r) h k =
    (both (both (word "chain ") (field met 5 " again " (omega arith))) (field r 4 "\n" (omega arith))).most

pub faults_short : (count : ℕ) → count ≤ most_buffers → length (faults_of count) ≤ faults_most
faults_short count h = (both (word "faults ") (field count 5 "\n" (omega arith))).most

-- every verdict has two digits at the most
pub verdict_small : (v : Verdict) → verdict_number v < 100
verdict_small Free = lit≤ tt
verdict_small Whole = lit≤ tt
verdict_small (Allocated s) = lit≤ tt
verdict_small Cached = lit≤ tt
verdict_small NotOneRecord = lit≤ tt
verdict_small BadTag = lit≤ tt
verdict_small FreedTwice = lit≤ tt
verdict_small OffChain = lit≤ tt
verdict_small OnChain = lit≤ tt
verdict_small (BadFill o) = lit≤ tt
verdict_small (BadRedzone o) = lit≤ tt
verdict_small (BadSizeCode how) = (code_fault how).1
verdict_small (Overrun o) = lit≤ tt
verdict_small BadHeader = lit≤ tt

-- ---- the whole text

module _ (number value : ℕ → ℕ) where
  -- the pieces, where all n lines are put and their faults counted
  pub text_is : (i n faults met : ℕ) (ending : Ending) → i ≡ n → faults ≡ faults_in number i
      → header_of ++ lines_of number value i ++ chain_line_of met ending ++ faults_of faults ≡ text_of number value n met ending
  unfolding text_of
  text_is i n faults met ending e q = rw (q, e)

  -- no buffer has two faults
  pub faults_few : (n : ℕ) → faults_in number n ≤ n
  faults_few zero = rw (total-zero (λ (i : ℕ). fault_of (number i))) (omega arith)
  faults_few (suc n) =
      let one : fault_of (number n) ≤ 1 = by_test (λ (x : ℕ). x ≤ 1) (is_fault (number n)) (λ _. omega arith) (λ _. omega arith) in
      rw (total-suc (λ (i : ℕ). fault_of (number i)) n) (omega (arith, faults_few n))

  lines_short : (n : ℕ) → n ≤ most_buffers → ((i : ℕ) → i < n → (number i < 100) × (value i < 2 ^ 32)) → length (lines_of number value n) ≤ n * line_most
  lines_short zero h k = rw (flat_nil (λ (i : ℕ). line_of i (number i) (value i))) (omega arith)
  lines_short (suc n) h k =
      let line = line_short n (number n) (value n) (omega arith) (k n (omega arith)).0 (k n (omega arith)).1 in
      let rest = lines_short n (omega arith) (λ i l. k i (omega arith)) in
      rw (flat-suc (λ (i : ℕ). line_of i (number i) (value i)) n)
      (omega (arith, length-append (lines_of number value n) (line_of n (number n) (value n)), rest, line))

  -- the longest text of n buffers
  pub text_short : (n met : ℕ) (e : Ending) → n ≤ most_buffers → ((i : ℕ) → i < n → (number i < 100) × (value i < 2 ^ 32))
      → met ≤ most_buffers → ending_value e < most_buffers → length (text_of number value n met e) ≤ longest n
  unfolding text_of
  text_short n met e h k m l =
      (both
      (both (both (word "heap report 1\n") (at_most (lines_of number value n) (n * line_most) (lines_short n h k)))
      (at_most (chain_line_of met e) chain_most (chain_line_short met e m l)))
      (at_most (faults_of (faults_in number n)) faults_most (faults_short (faults_in number n) (omega (arith, faults_few n))))
      ).most

-- ---- all or nothing

-- an empty output stays empty
nothing_put : (m t o : List ℕ) (p : ℕ) → Wrote [] 0 t m p → m ++ o ≡ o
nothing_put [] t o p w = refl
nothing_put (x ∷ m) t o p w = let z : suc (length m) ≡ 0 = w.long in absurd (omega arith)

-- where there is room for all of a text, it is written
pub room_for_all : (t o x : List ℕ) (r : ℕ) → length t ≤ length o → Wrote o 0 t x r → filling (Some r) x ≡ writing t o
room_for_all t o x r l v = simp (le-leb (length t) (length o) l) (rw (v.ends ∙ zero-add (length t), v.filled (omega (arith, v.ends))))

-- the two ends of a text, of which the first run only counted
module _ (t o m : List ℕ) (need : ℕ) (w : Wrote [] 0 t m need) where
  pub too_short : length (m ++ o) < need → filling None (m ++ o) ≡ writing t o
  too_short h =
      let k = nothing_put m t o need w in
      let l : length o < length t = omega (arith, ap length k, w.ends) in
      simp (lt-leb (length t) (length o) l) (ap (filling None) k)

  pub long_enough : need ≤ length (m ++ o) → {x : List ℕ} {r : ℕ} → Wrote (m ++ o) 0 t x r → filling (Some r) x ≡ writing t o
  long_enough h {x} {r} v =
      let k = nothing_put m t o need w in
      room_for_all t o x r (omega (arith, ap length k, w.ends)) (subst (λ (y : List ℕ). Wrote y 0 t x r) k v)

-- a text that was written fits the output, and its length is told
pub written_known : (t o : List ℕ) (s : Option ℕ) (x : List ℕ) (k : ℕ) → filling s x ≡ writing t o → s ≡ Some k → (k ≡ length t) × (k ≤ length o)
written_known t o s x k e f =
    by_test (λ (y : Filling (Option ℕ) ℕ). filling s x ≡ y → (k ≡ length t) × (k ≤ length o)) (leb (length t) (length o))
    (λ q g. let h = ap (λ (y : Filling (Option ℕ) ℕ). y.answer) g in let z : length t ≡ k = cc in (sym z, subst (λ (n : ℕ). n ≤ length o) z (leb-true _ _ q)))
    (λ q g. let h = ap (λ (y : Filling (Option ℕ) ℕ). y.answer) g in absurd (let z : ◌≡◌ {A = ℕ} 0 1 = cc in omega arith))
    e

pub written_fits : (t o : List ℕ) (s : Option ℕ) (x : List ℕ) (k : ℕ) → filling s x ≡ writing t o → s ≡ Some k → k ≤ length o
written_fits t o s x k e f = (written_known t o s x k e f).1

-- ---- by a writer

pub put_none : (w : Writer) → Put w w []
put_none w = record { wrote = wrote_none w.output.now w.at; same = refl }

-- one piece, and then another
pub put_then : {a b c : Writer} {x y : List ℕ} → Put a b x → Put b c y → Put a c (x ++ y)
put_then p q = record { wrote = then p.wrote q.wrote; same = q.same ∙ p.same }

-- one piece, and then two that were put as one
pub put_both : {a b c : Writer} (x y z : List ℕ) → Put a b x → Put b c (y ++ z) → Put a c (x ++ y ++ z)
put_both x y z p q = record { wrote = then_both x y z p.wrote q.wrote; same = q.same ∙ p.same }
