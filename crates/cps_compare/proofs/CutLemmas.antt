-- A list cut where a test first passes.
use Rattle.std.proofs.Common.{◌≡◌, ℕ, suc, ◌+◌, ◌<◌, ◌≤◌, Bool, true, false, cond, not, ltb, List, [], ◌∷◌, length, take, drop, Option, None, Some, refl, sym, ap, ◌∙◌, arith}
use Rattle.std.specs.List.{position, position_or_len, slice_split, onto_first}
use Rattle.std.proofs.lemmas.Option.{cond_some}
use Rattle.std.proofs.lemmas.Bool.Decides.{nat_tests}
use Rattle.std.proofs.lemmas.List.Splits.{slice_split_first}
use Rattle.std.proofs.lemmas.List.Sums.{prefix_len-le-length}

same_end : (test : Bool) (at len : ℕ) → at ≤ len → ltb at len ≡ test → None ≡ cond {A = Option ℕ} test (Some at) None → len ≡ at
same_end true at len within is none = cc
same_end false at len within is none = grind (arith, nat_tests)

none_of : (at len : ℕ) → at ≤ len → None ≡ cond (ltb at len) (Some at) None → len ≡ at
none_of at len within none = same_end (ltb at len) at len within refl none

pub place-Some : {X : Type 0} (p : X → Bool) (text : List X) (at : ℕ) → Some at ≡ position p text → position_or_len p text ≡ at
place-Some p text at is = (cond_some (ltb (position_or_len p text) (length text)) (position_or_len p text) at (sym is)).1

pub split-Some : {X : Type 0} (p : X → Bool) (text : List X) (at : ℕ) → Some at ≡ position p text → slice_split p text ≡ take at text ∷ slice_split p (drop (at + 1) text)
split-Some p [] at is = cc
split-Some p (x ∷ text) at is =
    let parts = cond_some (ltb (position_or_len p (x ∷ text)) (length (x ∷ text))) (position_or_len p (x ∷ text)) at (sym is) in
    let test = parts.0 in
    let within : position_or_len p (x ∷ text) < length (x ∷ text) = grind (arith, nat_tests) in
    slice_split_first p (x ∷ text) x within ∙ ap (λ n. take n (x ∷ text) ∷ slice_split p (drop (n + 1) (x ∷ text))) parts.1

split_next : {X : Type 0} (p : X → Bool) (x : X) (text : List X) (test : Bool) → p x ≡ test → length (x ∷ text) ≡ position_or_len p (x ∷ text)
    → (length text ≡ position_or_len p text → slice_split p text ≡ text ∷ []) → slice_split p (x ∷ text) ≡ (x ∷ text) ∷ []
split_next p x text true e is later =
    let no : suc (length text) ≡ 0 = is ∙ ap (λ b. cond (not b) (1 + position_or_len p text) 0) e in cc
split_next {X} p x text false e is later =
    let one : suc (length text) ≡ 1 + position_or_len p text = is ∙ ap (λ b. cond (not b) (1 + position_or_len p text) 0) e in
    let fewer : length text ≡ position_or_len p text = omega arith in
    ap (λ b. cond {A = List (List X)} b ([] ∷ slice_split p text) (onto_first x (slice_split p text))) e ∙ ap (onto_first x) (later fewer)

split_all : {X : Type 0} (p : X → Bool) (text : List X) → length text ≡ position_or_len p text → slice_split p text ≡ text ∷ []
split_all p [] is = refl
split_all p (x ∷ text) is = split_next p x text (p x) refl is (split_all p text)

pub split-None : {X : Type 0} (p : X → Bool) (text : List X) → None ≡ position p text → slice_split p text ≡ text ∷ []
split-None p text none = split_all p text (none_of (position_or_len p text) (length text) (prefix_len-le-length (λ x. not (p x)) text) none)
