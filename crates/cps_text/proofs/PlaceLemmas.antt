-- The place of a first character, where there is none.
use Rattle.std.proofs.Common.{◌≡◌, ℕ, ◌≤◌, Bool, true, false, cond, not, ltb, List, length, Option, None, Some, refl, arith}
use Rattle.std.specs.List.{position, position_or_len}
use Rattle.std.proofs.lemmas.Bool.Decides.{nat_tests}
use Rattle.std.proofs.lemmas.List.Sums.{prefix_len-le-length}

same_end : (test : Bool) (at len : ℕ) → at ≤ len → ltb at len ≡ test → None ≡ cond {A = Option ℕ} test (Some at) None → len ≡ at
same_end true at len within is none = cc
same_end false at len within is none = grind (arith, nat_tests)

none_of : (at len : ℕ) → at ≤ len → None ≡ cond (ltb at len) (Some at) None → len ≡ at
none_of at len within none = same_end (ltb at len) at len within refl none

pub position_or_len-none : (p : ℕ → Bool) (text : List ℕ) → None ≡ position p text → length text ≡ position_or_len p text
position_or_len-none p text none = none_of (position_or_len p text) (length text) (prefix_len-le-length (λ x. not (p x)) text) none
