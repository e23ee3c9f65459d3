-- For the walk over addresses, not part of what a reader believes: what is counted.
use Rattle.std.specs.Prelude.{◌≡◌, ◌≤◌, ℕ, ◌*◌, ◌^◌, Bool, nat_lt, List, filter}
use Rattle.std.specs.List.{find, sum_by}
use Rattle.cps_compare.specs.declared.survey.Tally.{Tally}
use Rattle.cps_compare.specs.declared.survey.Tallies.{Tallies}
use Rattle.cps_compare.specs.declared.survey.WordCounts.{WordCounts}
use Rattle.cps_compare.specs.declared.compared_word.ComparedWord.{ComparedWord}
use Rattle.cps_compare.specs.declared.survey.Survey.{Survey}
use Rattle.cps_compare.specs.Code.Runs.{AreCompared}
use Rattle.cps_compare.specs.Findings.{Findings}
use Rattle.cps_compare.specs.Summary.{one_if}

-- so many there are at these addresses, and the first there
pub record IsTally (counts : ℕ → ℕ) (among : List ℕ) (tally : Tally) : Type 0 where
  pub count : tally.count ≡ sum_by counts among
  pub first : tally.first ≡ find (λ address. nat_lt 0 (counts address)) among

-- what is counted of the word at an address
pub record AreCounts (found : Findings) (address : ℕ) (counts : WordCounts) : Type 0 where
  pub known : counts.known ≡ found.known address
  pub given : counts.is_given ≡ found.is_given address
  pub unknown : counts.unknown ≡ found.unknown address
  pub denied : counts.denied ≡ found.denied address
  pub absent : counts.is_absent ≡ found.is_absent address
  pub in_part : counts.is_in_part ≡ found.is_in_part address
  pub compared : counts.is_compared ≡ found.is_compared address
  pub differs : counts.differs ≡ found.differs address

abbrev pub tested : (ℕ → Bool) → ℕ → ℕ
tested test address = one_if (test address)

-- and of the words at these addresses
pub record AreTallies (found : Findings) (among : List ℕ) (tallies : Tallies) : Type 0 where
  pub known : IsTally found.known among tallies.known
  pub given : IsTally (tested found.is_given) among tallies.given
  pub unknown : IsTally found.unknown among tallies.unknown
  pub denied : IsTally found.denied among tallies.denied
  pub absent : IsTally (tested found.is_absent) among tallies.absent
  pub in_part : IsTally (tested found.is_in_part) among tallies.in_part
  pub compared : IsTally (tested found.is_compared) among tallies.compared
  pub differing : IsTally (tested found.differs) among tallies.differing

-- of so many addresses each has at most 2 ^ 32 digits of a kind
pub record AreFew (tallies : Tallies) (among : ℕ) : Type 0 where
  pub known : tallies.known.count ≤ 2 ^ 32 * among
  pub given : tallies.given.count ≤ among
  pub unknown : tallies.unknown.count ≤ 2 ^ 32 * among
  pub denied : tallies.denied.count ≤ 2 ^ 32 * among
  pub absent : tallies.absent.count ≤ among
  pub in_part : tallies.in_part.count ≤ among
  pub compared : tallies.compared.count ≤ among
  pub differing : tallies.differing.count ≤ among

-- the words at these addresses are counted, and those that are compared are listed
pub record ListsAndCounts (found : Findings) (among : List ℕ) (words : List ComparedWord) (tallies : Tallies) : Type 0 where
  pub listed : AreCompared found (filter found.is_compared among) words
  pub counted : AreTallies found among tallies

abbrev pub IsSurvey : Findings → List ℕ → Survey → Type 0
IsSurvey found among survey = ListsAndCounts found among survey.words.items survey.tallies
