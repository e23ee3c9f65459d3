-- Parameters: operands stand twice where the names that they write do.
use Rattle.std.proofs.Common.{◌≡◌, ℕ, zero, suc, ◌-◌, ◌+◌, Bool, true, false, true≢false, ◌&&◌, ◌||◌, cond, List, [], ◌∷◌, ◌++◌, length, Option, None, Some, refl, sym, ap, ◌∙◌}
use Rattle.std.specs.Prelude.{is_some, unwrap_or, nat_lt, nat_eq, count_by, bytes_eq, replicate}
use Rattle.std.specs.Cmp.Lexicographic.{pointwise, bytes_decides}
use Rattle.std.specs.List.{list_all, list_any}
use Rattle.std.proofs.lemmas.List.Sums.{sum_by-cons}
use Rattle.cps_text.specs.declared.name.Name.{Name}
use Rattle.cps_text.specs.Name.{is_one}
use Rattle.cps_text.specs.Symbol.{continues_symbol, is_symbol, is_generated, is_name, padded}
use Rattle.cps_text.specs.Text.{capitals, is_digit}
use Rattle.cps_expr.specs.Code.Twice.{is_twice}
use Rattle.cps_expr.specs.OperandList.{with_first, all_some}
use Rattle.cps_expr.specs.Row.{is_equal_sign, parameter_of, parameters_of, stands_twice}
use Rattle.cps_expr.specs.Same.{is_same}

-- ---- the characters of a name, without the zeros behind them

both : (a b : Bool) → (a && b) ≡ true → (a ≡ true) × (b ≡ true)
both true b is = (refl, is)
both false b is = cc

alike : (a b : Bool) → (a ≡ true → b ≡ true) → (b ≡ true → a ≡ true) → a ≡ b
alike true b there back = sym (there refl)
alike false true there back = back refl
alike false false there back = refl

abbrev before_zero : List ℕ → List ℕ
before_zero [] = []
before_zero (zero ∷ text) = []
before_zero (suc c ∷ text) = suc c ∷ before_zero text

zeros-behind : (k : ℕ) → before_zero (replicate k 0) ≡ []
zeros-behind zero = refl
zeros-behind (suc k) = refl

without-zeros : (is_used : ℕ → Bool) → is_used 0 ≡ false → (text : List ℕ) → list_all is_used text ≡ true → (k : ℕ) → before_zero (text ++ replicate k 0) ≡ text
without-zeros is_used none [] all k = zeros-behind k
without-zeros is_used none (zero ∷ text) all k = absurd (true≢false (sym (both (is_used 0) (list_all is_used text) all).0 ∙ none))
without-zeros is_used none (suc c ∷ text) all k = ap (λ t. suc c ∷ t) (without-zeros is_used none text (both (is_used (suc c)) (list_all is_used text) all).1 k)

of-symbol : (text : List ℕ) → is_symbol text ≡ true → (k : ℕ) → before_zero (text ++ replicate k 0) ≡ text
of-symbol text is k =
    let behind = (both _ _ (both _ _ is).1).1 in
    without-zeros continues_symbol refl text (both (list_all continues_symbol text) _ behind).0 k

of-generated : (text : List ℕ) → is_generated text ≡ true → (k : ℕ) → before_zero (text ++ replicate k 0) ≡ text
of-generated [] is k = cc
of-generated (zero ∷ digits) is k = cc
of-generated (suc c ∷ digits) is k =
    let behind = (both _ _ (both _ _ is).1).1 in
    ap (λ t. suc c ∷ t) (without-zeros (is_digit 10) refl digits (both (list_all (is_digit 10) digits) _ behind).0 k)

of-either : (symbol generated : Bool) (text : List ℕ) → is_symbol text ≡ symbol → is_generated text ≡ generated → (symbol || generated) ≡ true
    → (k : ℕ) → before_zero (text ++ replicate k 0) ≡ text
of-either true generated text one other is k = of-symbol text one k
of-either false true text one other is k = of-generated text other k
of-either false false text one other is k = cc

unpadded : (text : List ℕ) → is_name text ≡ true → before_zero (padded text) ≡ text
unpadded text is = of-either (is_symbol text) (is_generated text) text refl refl is (8 - length text)

-- ---- two names

named-by : (equal name : Bool) (bytes : List ℕ) (one : Name) → cond equal None (cond name (Some (record { bytes = bytes })) None) ≡ Some one
    → (name ≡ true) × (bytes ≡ one.bytes)
named-by true name bytes one is = cc
named-by false false bytes one is = cc
named-by false true bytes one is = (refl, ap (λ (o : Option Name). (unwrap_or o (record { bytes = [] })).bytes) is)

named : (text : List ℕ) (name : Name) → parameter_of text ≡ Some name → (is_name (capitals text) ≡ true) × (padded (capitals text) ≡ name.bytes)
named text name is = named-by (list_any is_equal_sign text) (is_name (capitals text)) (padded (capitals text)) name is

one-same : (text other : List ℕ) (name more : Name) → parameter_of text ≡ Some name → parameter_of other ≡ Some more → is_same text other ≡ is_one name more
one-same text other name more is also =
    let left = named text name is in
    let right = named other more also in
    let tests : is_same text other ≡ pointwise nat_eq (padded (capitals text)) (padded (capitals other)) =
    alike (bytes_eq (capitals text) (capitals other)) (pointwise nat_eq (padded (capitals text)) (padded (capitals other)))
    (λ same. (bytes_decides (padded (capitals text)) (padded (capitals other))).1 (ap padded ((bytes_decides (capitals text) (capitals other)).0 same)))
    (λ same. (bytes_decides (capitals text) (capitals other)).1
    (sym (unpadded (capitals text) left.0) ∙ ap before_zero ((bytes_decides (padded (capitals text)) (padded (capitals other))).0 same) ∙ unpadded (capitals other) right.0)) in
    tests ∙ (λ i. pointwise nat_eq (left.1 i) (right.1 i))

-- ---- all operands

-- what the first operand and those behind it write
parts : {T : Type 0} (first : Option T) (rest : Option (List T)) (all : List T) → with_first first rest ≡ Some all
    → (name : T) × (names : List T) × (first ≡ Some name) × (rest ≡ Some names) × (name ∷ names ≡ all)
parts None rest all is = cc
parts (Some name) None all is = cc
parts (Some name) (Some names) all is = (name, names, refl, refl, ap (λ o. unwrap_or o []) is)

module _ (test : List ℕ → Bool) (passes : Name → Bool) (same : (text : List ℕ) (name : Name) → parameter_of text ≡ Some name → test text ≡ passes name) where
  count : (texts : List (List ℕ)) (all : List Name) → all_some parameter_of texts ≡ Some all → count_by test texts ≡ count_by passes all
  count [] all is = ap (λ o. count_by passes (unwrap_or o [])) is
  count (text ∷ texts) all is =
      let p = parts (parameter_of text) (all_some parameter_of texts) all is in
      sum_by-cons (λ x. cond (test x) 1 0) text texts
      ∙ (λ i. cond (same text p.0 p.2 i) 1 0 + count texts p.1 p.3 i)
      ∙ sym (sum_by-cons (λ x. cond (passes x) 1 0) p.0 p.1)
      ∙ ap (count_by passes) p.4

  any : (texts : List (List ℕ)) (all : List Name) → all_some parameter_of texts ≡ Some all → list_any test texts ≡ list_any passes all
  any [] all is = ap (λ o. list_any passes (unwrap_or o [])) is
  any (text ∷ texts) all is =
      let p = parts (parameter_of text) (all_some parameter_of texts) all is in
      (λ i. same text p.0 p.2 i || any texts p.1 p.3 i) ∙ ap (list_any passes) p.4

some-twice : (texts : List (List ℕ)) (names : List Name) → all_some parameter_of texts ≡ Some names → list_any (stands_twice texts) texts ≡ list_any (is_twice names) names
some-twice texts names is =
    any (stands_twice texts) (is_twice names)
    (λ text name one. ap (nat_lt 1) (count (is_same text) (is_one name) (λ other more also. one-same text other name more one also) texts names is))
    texts names is

pub twice_unread : (texts : List (List ℕ)) (names : List Name) → all_some parameter_of texts ≡ Some names → list_any (is_twice names) names ≡ true
    → is_some (parameters_of texts) ≡ false
unfolding parameters_of
twice_unread texts names is twice = ap (λ b. is_some (cond b None (all_some parameter_of texts))) (some-twice texts names is ∙ twice)

pub apart_read : (texts : List (List ℕ)) (names : List Name) → all_some parameter_of texts ≡ Some names → list_any (is_twice names) names ≡ false
    → parameters_of texts ≡ Some names
unfolding parameters_of
apart_read texts names is apart = ap (λ b. cond b None (all_some parameter_of texts)) (some-twice texts names is ∙ apart) ∙ is
