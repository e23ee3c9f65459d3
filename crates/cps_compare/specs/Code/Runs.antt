-- For the walk over words that are compared, not part of what a reader believes: runs of them.
use Rattle.std.specs.Prelude.{◌≡◌, ℕ, Bool, not, List, map}
use Rattle.std.specs.List.{AllByRecursion}
use Rattle.cps_compare.specs.declared.compared_word.ComparedWord.{ComparedWord}
use Rattle.cps_compare.specs.Findings.{Findings}

-- a word that doesn't differ ends a run
abbrev pub ends_run : ComparedWord → Bool
ends_run word = not word.differs

abbrev pub addresses_in : List ComparedWord → List ℕ
addresses_in words = map (λ (word : ComparedWord). word.address) words

-- the words at these addresses, and whether they differ
pub record AreCompared (found : Findings) (among : List ℕ) (words : List ComparedWord) : Type 0 where
  pub addresses : addresses_in words ≡ among
  pub differ : AllByRecursion (λ (word : ComparedWord). word.differs ≡ found.differs word.address) words
