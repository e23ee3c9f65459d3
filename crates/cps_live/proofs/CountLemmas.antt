-- Steps and comparisons, part by part.
use Rattle.std.proofs.Common.{arith, ◌≡◌, ℕ, ◌+◌, ◌≤◌, Result, Ok, Err}
use Rattle.cps_state.specs.Work.{Counts, counted_on}
use Rattle.cps_edit.specs.Compares.{ComparesUpTo, Steps}

-- none
pub steps-none : {T E : Type 0} (v : T) (old : Counts) (all : ℕ) → all ≡ 0 → Steps {T = T} {E = E} (Ok v) old old 0 all
steps-none v old all none = record {
  ones = omega arith;
  twos = omega (arith, none);
  ones_least = omega arith;
  twos_least = omega arith;
  ones_most = omega arith;
  twos_most = omega arith;
}

-- two calls
pub steps-join : {T E S F : Type 0} (v : T) (result : Result S F) (old mid new : Counts) (n m all : ℕ) → all ≡ n + m → Steps {T = T} {E = E} (Ok v) old mid 0 n → Steps result mid new 0 m
    → Steps result old new 0 all
steps-join v (Ok w) old mid new n m all whole one two = record {
  ones = omega (arith, one.ones, two.ones);
  twos = omega (arith, whole, one.twos, two.twos);
  ones_least = omega (arith, one.ones_least, two.ones_least);
  twos_least = omega (arith, one.twos_least, two.twos_least);
  ones_most = omega (arith, one.ones_most, two.ones_most);
  twos_most = omega (arith, whole, one.twos_most, two.twos_most);
}
steps-join v (Err e) old mid new n m all whole one two = record {
  ones = tt;
  twos = tt;
  ones_least = omega (arith, one.ones_least, two.ones_least);
  twos_least = omega (arith, one.twos_least, two.twos_least);
  ones_most = omega (arith, one.ones_most, two.ones_most);
  twos_most = omega (arith, whole, one.twos_most, two.twos_most);
}

-- no more of pass two than these, and none of pass one
pub record StepsUpTo (old new : Counts) (all : ℕ) : Type 0 where
  pub ones_least : old.ones ≤ new.ones
  pub twos_least : old.twos ≤ new.twos
  pub ones_most : new.ones ≤ counted_on old.ones 0
  pub twos_most : new.twos ≤ counted_on old.twos all

pub steps-fail : {T E : Type 0} {result : Result T E} (old new : Counts) (n all : ℕ) → n ≤ all → Steps result old new 0 n → StepsUpTo old new all
steps-fail old new n all le steps =
    record { ones_least = steps.ones_least; twos_least = steps.twos_least; ones_most = steps.ones_most; twos_most = omega (arith, le, steps.twos_most) }

pub looks-join : (old mid new : Counts) (n m all : ℕ) → n + m ≤ all → ComparesUpTo old mid n → ComparesUpTo mid new m → ComparesUpTo old new all
looks-join old mid new n m all whole one two = record {
  least = omega (arith, one.least, two.least);
  most = omega (arith, whole, one.most, two.most);
}

pub looks-wider : (old new : Counts) (n all : ℕ) → n ≤ all → ComparesUpTo old new n → ComparesUpTo old new all
looks-wider old new n all le one = record { least = one.least; most = omega (arith, le, one.most) }

-- ---- in a loop: so many are left of all, and at most so many comparisons of all

pub record StillCounts (old now : Counts) (left all looks_left looks : ℕ) : Type 0 where
  pub ones : now.ones ≡ old.ones
  pub twos : counted_on now.twos left ≡ counted_on old.twos all
  pub twos_least : old.twos ≤ now.twos
  pub looked_least : old.looked ≤ now.looked
  pub looked_most : counted_on now.looked looks_left ≤ counted_on old.looked looks

module _ (old now next : Counts) (left here rest all looks_left looks_here looks_rest looks : ℕ) (steps_whole : left ≡ here + rest) (looks_whole : looks_left ≡ looks_here + looks_rest)
    (counts : StillCounts old now left all looks_left looks) (looked : ComparesUpTo now next looks_here) where
  pub counts-next : {T E : Type 0} (v : T) → Steps {T = T} {E = E} (Ok v) now next 0 here → StillCounts old next rest all looks_rest looks
  counts-next v steps = record {
    ones = omega (arith, counts.ones, steps.ones);
    twos = omega (arith, steps_whole, counts.twos, steps.twos);
    twos_least = omega (arith, counts.twos_least, steps.twos_least);
    looked_least = omega (arith, counts.looked_least, looked.least);
    looked_most = omega (arith, looks_whole, counts.looked_most, looked.most);
  }

  pub counts-fail : {T E : Type 0} {result : Result T E} → Steps result now next 0 here → StepsUpTo old next all
  counts-fail steps = record {
    ones_least = omega (arith, counts.ones, steps.ones_least);
    twos_least = omega (arith, counts.twos_least, steps.twos_least);
    ones_most = omega (arith, counts.ones, steps.ones_most);
    twos_most = omega (arith, steps_whole, counts.twos, steps.twos_most);
  }

  pub looks-next : ComparesUpTo old next looks
  looks-next = record { least = omega (arith, counts.looked_least, looked.least); most = omega (arith, looks_whole, counts.looked_most, looked.most) }
