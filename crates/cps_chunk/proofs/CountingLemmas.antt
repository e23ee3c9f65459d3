-- Steps and comparisons of several calls, one after another.
use Rattle.std.proofs.Common.{arith, ◌≡◌, ◌+◌, ◌≤◌, ℕ, ap, subst, ◌∙◌}
use Rattle.std.specs.Prelude.{Result, Ok, Err, OnOk}
use Rattle.std.specs.Result.{IsErr}
use Rattle.cps_state.specs.Work.{Counts, counted_on}
use Rattle.cps_edit.specs.Compares.{ComparesUpTo, Steps}

on-err : {T E : Type 0} (P : Type 0) (result : Result T E) → IsErr result → OnOk result P
on-err P (Ok x) failed = cc
on-err P (Err e) failed = tt

on-more : {T E : Type 0} (result : Result T E) (v w u a b : ℕ) → v ≡ counted_on u a → OnOk result (w ≡ counted_on v b) → OnOk result (w ≡ counted_on u (a + b))
on-more (Ok x) v w u a b first second = omega arith
on-more (Err e) v w u a b first second = tt

most-more : (u v w a b : ℕ) → v ≡ counted_on u a → w ≤ counted_on v b → w ≤ counted_on u (a + b)
most-more u v w a b first second = omega arith

least-more : (u v w : ℕ) → u ≤ v → v ≤ w → u ≤ w
least-more u v w p q = omega arith

most-wider : (u w a b : ℕ) → w ≤ counted_on u a → a ≤ b → w ≤ counted_on u b
most-wider u w a b p q = omega arith

-- a call that ended well, and then another
pub steps-then : {T U E F : Type 0} (x : T) (result : Result U F) (u v w : Counts) (a b : ℕ) → Steps {T = T} {E = E} (Ok x) u v a 0 → Steps result v w b 0 → Steps result u w (a + b) 0
steps-then x result u v w a b first second = record {
  ones = on-more result v.ones w.ones u.ones a b first.ones second.ones;
  twos = on-more result v.twos w.twos u.twos 0 0 first.twos second.twos;
  ones_least = least-more u.ones v.ones w.ones first.ones_least second.ones_least;
  twos_least = least-more u.twos v.twos w.twos first.twos_least second.twos_least;
  ones_most = most-more u.ones v.ones w.ones a b first.ones second.ones_most;
  twos_most = most-more u.twos v.twos w.twos 0 0 first.twos second.twos_most;
}

-- a call that ended with an error, in one that then does
pub steps-stop : {T U E F : Type 0} (result : Result T E) (end : Result U F) (u v : Counts) (a b : ℕ) → IsErr end → a ≤ b → Steps result u v a 0 → Steps end u v b 0
steps-stop result end u v a b failed le steps = record {
  ones = on-err (v.ones ≡ counted_on u.ones b) end failed;
  twos = on-err (v.twos ≡ counted_on u.twos 0) end failed;
  ones_least = steps.ones_least;
  twos_least = steps.twos_least;
  ones_most = most-wider u.ones v.ones a b steps.ones_most le;
  twos_most = steps.twos_most;
}

-- the same result in other words
pub steps-as : {T U E F : Type 0} (x : T) (y : U) (u v : Counts) (a b : ℕ) → a ≡ b → Steps {T = T} {E = E} (Ok x) u v a 0 → Steps {T = U} {E = F} (Ok y) u v b 0
steps-as x y u v a b is steps = record {
  ones = steps.ones ∙ ap (counted_on u.ones) is;
  twos = steps.twos;
  ones_least = steps.ones_least;
  twos_least = steps.twos_least;
  ones_most = subst (λ (n : ℕ). v.ones ≤ counted_on u.ones n) is steps.ones_most;
  twos_most = steps.twos_most;
}

-- no step was made
pub steps-none : {U F : Type 0} (end : Result U F) (u : Counts) (b : ℕ) → IsErr end → Steps end u u b 0
steps-none end u b failed = record {
  ones = on-err (u.ones ≡ counted_on u.ones b) end failed;
  twos = on-err (u.twos ≡ counted_on u.twos 0) end failed;
  ones_least = omega arith;
  twos_least = omega arith;
  ones_most = omega arith;
  twos_most = omega arith;
}

-- ---- comparisons

pub looks-then : (u v w : Counts) (a b : ℕ) → ComparesUpTo u v a → ComparesUpTo v w b → ComparesUpTo u w (a + b)
looks-then u v w a b first second = record { least = least-more u.looked v.looked w.looked first.least second.least; most = both u.looked v.looked w.looked first.most second.most }
  where
    both : (x y z : ℕ) → y ≤ counted_on x a → z ≤ counted_on y b → z ≤ counted_on x (a + b)
    both x y z p q = omega arith

pub looks-wider : (u v : Counts) (a b : ℕ) → a ≤ b → ComparesUpTo u v a → ComparesUpTo u v b
looks-wider u v a b le looks = record { least = looks.least; most = most-wider u.looked v.looked a b looks.most le }

-- ---- in a loop

-- one step more where it ends well, and as many at most where it doesn't
pub counted-next : (u v w a b all : ℕ) → v ≡ counted_on u a → w ≡ counted_on v b → all ≡ a + b → w ≡ counted_on u all
counted-next u v w a b all p q r = omega arith

pub counted-most : (u v w a b all : ℕ) → v ≡ counted_on u a → w ≤ counted_on v b → a + b ≤ all → w ≤ counted_on u all
counted-most u v w a b all p q r = omega arith

-- one comparison more
pub looked-next : (u v w a all : ℕ) → v ≤ counted_on u a → w ≡ counted_on v 1 → all ≡ a + 1 → w ≤ counted_on u all
looked-next u v w a all p q r = omega arith

-- a call that makes no step
pub steps-zero : {T E : Type 0} (result : Result T E) (u : Counts) (a : ℕ) → a ≡ 0 → Steps result u u a 0
steps-zero result u a none = record {
  ones = on-any result u.ones a none;
  twos = on-any result u.twos 0 (omega arith);
  ones_least = omega arith;
  twos_least = omega arith;
  ones_most = omega (arith, none);
  twos_most = omega arith;
}
  where
    on-any : {T E : Type 0} (r : Result T E) (n b : ℕ) → b ≡ 0 → OnOk r (n ≡ counted_on n b)
    on-any (Ok x) n b zero = omega arith
    on-any (Err e) n b zero = tt

pub on-map : {T E : Type 0} {P Q : Type 0} (result : Result T E) → (P → Q) → OnOk result P → OnOk result Q
on-map (Ok x) f p = f p
on-map (Err e) f p = tt

-- some comparisons more
pub looked-more : (u v w a b all : ℕ) → v ≤ counted_on u a → w ≤ counted_on v b → a + b ≤ all → w ≤ counted_on u all
looked-more u v w a b all p q r = omega arith
