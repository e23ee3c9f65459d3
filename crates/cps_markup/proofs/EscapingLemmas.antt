-- Characters that are written by name, one by one.
use Prim.Native.Char.{code}
use Rattle.std.proofs.Common.{◌≡◌, ℕ, ◌+◌, ◌%◌, ◌<◌, ◌≤◌, ◌^◌, true, false, ◌&&◌, ◌==◌, refl, sym, ap, ◌∙◌, List, [], ◌∷◌, ◌++◌, decimal, arith}
use Rattle.std.specs.Prelude.{codes, if◌then◌else◌, not, ◌||◌}
use Rattle.std.specs.List.{list_all}
use Rattle.std.proofs.lemmas.Bool.{eqb-true, ne_eqb}
use Rattle.std.proofs.lemmas.Fmt.{decimal_by_steps}
use Rattle.std.proofs.lemmas.List.Concat.{flat_map-append}
use Rattle.std.proofs.lemmas.List.Folds.{list_all-append}
use Rattle.cps_markup.specs.Markup.{character_text, escaped}
use Rattle.cps_markup.specs.EscapingLaws.{is_harmless, NoTextIsMarkup, read_back, TextIsReadBack}

harmless-alone : (c : ℕ) → (c == code "<") ≡ false → (c == code ">") ≡ false → (c == code "\"") ≡ false → list_all is_harmless (c ∷ []) ≡ true
harmless-alone c less greater quote = λ i. not (less i || (greater i || (quote i || false))) && true

harmless-character : (c : ℕ) → list_all is_harmless (character_text c) ≡ true
harmless-character c =
    elim (c == code "&") as (λ b. list_all is_harmless (if b then codes "&amp;" else if c == code "<" then codes "&lt;" else if c == code ">" then codes "&gt;" else if c == code "\"" then codes "&quot;" else c ∷ []) ≡ true) [
      | true ↦ refl
      | false ↦
          elim (c == code "<") as (λ b. (c == code "<") ≡ b → list_all is_harmless (if b then codes "&lt;" else if c == code ">" then codes "&gt;" else if c == code "\"" then codes "&quot;" else c ∷ []) ≡ true) [
            | true ↦ λ _. refl
            | false ↦ λ less.
                elim (c == code ">") as (λ b. (c == code ">") ≡ b → list_all is_harmless (if b then codes "&gt;" else if c == code "\"" then codes "&quot;" else c ∷ []) ≡ true) [
                  | true ↦ λ _. refl
                  | false ↦ λ greater.
                      elim (c == code "\"") as (λ b. (c == code "\"") ≡ b → list_all is_harmless (if b then codes "&quot;" else c ∷ []) ≡ true) [
                        | true ↦ λ _. refl
                        | false ↦ λ quote. harmless-alone c less greater quote
                      ] refl
                ] refl
          ] refl
    ]

pub no-text-is-markup : NoTextIsMarkup
no-text-is-markup [] = refl
no-text-is-markup (c ∷ text) = list_all-append is_harmless (character_text c) (escaped text) ∙ (λ i. harmless-character c i && no-text-is-markup text i)

read-alone : (c : ℕ) (rest : List ℕ) → (c == code "&") ≡ false → read_back [] (c ∷ rest) ≡ c ∷ read_back [] rest
read-alone c rest other = ap (λ b. if b then read_back (c ∷ []) rest else c ∷ read_back [] rest) other

read-character : (c : ℕ) (rest : List ℕ) → read_back [] (character_text c ++ rest) ≡ c ∷ read_back [] rest
read-character c rest =
    elim (c == code "&") as (λ b. (c == code "&") ≡ b
    → read_back [] ((if b then codes "&amp;" else if c == code "<" then codes "&lt;" else if c == code ">" then codes "&gt;" else if c == code "\"" then codes "&quot;" else c ∷ []) ++ rest) ≡ c ∷ read_back [] rest) [
      | true ↦ λ is. ap (λ x. x ∷ read_back [] rest) (sym (eqb-true c (code "&") is))
      | false ↦ λ other.
          elim (c == code "<") as (λ b. (c == code "<") ≡ b → read_back [] ((if b then codes "&lt;" else if c == code ">" then codes "&gt;" else if c == code "\"" then codes "&quot;" else c ∷ []) ++ rest) ≡ c ∷ read_back [] rest) [
            | true ↦ λ is. ap (λ x. x ∷ read_back [] rest) (sym (eqb-true c (code "<") is))
            | false ↦ λ less.
                elim (c == code ">") as (λ b. (c == code ">") ≡ b → read_back [] ((if b then codes "&gt;" else if c == code "\"" then codes "&quot;" else c ∷ []) ++ rest) ≡ c ∷ read_back [] rest) [
                  | true ↦ λ is. ap (λ x. x ∷ read_back [] rest) (sym (eqb-true c (code ">") is))
                  | false ↦ λ greater.
                      elim (c == code "\"") as (λ b. (c == code "\"") ≡ b → read_back [] ((if b then codes "&quot;" else c ∷ []) ++ rest) ≡ c ∷ read_back [] rest) [
                        | true ↦ λ is. ap (λ x. x ∷ read_back [] rest) (sym (eqb-true c (code "\"") is))
                        | false ↦ λ quote. read-alone c rest other
                      ] refl
                ] refl
          ] refl
    ] refl

pub text-is-read-back : TextIsReadBack
text-is-read-back [] = refl
text-is-read-back (c ∷ text) = read-character c (escaped text) ∙ ap (λ l. c ∷ l) (text-is-read-back text)

-- ---- no digit is written by name

digit-alone : (d : ℕ) → 48 ≤ d → d ≤ 57 → escaped (d ∷ []) ≡ d ∷ []
digit-alone d low high =
    let ampersand : (d == 38) ≡ false = ne_eqb d 38 (λ e. omega arith) in
    let less : (d == 60) ≡ false = ne_eqb d 60 (λ e. omega arith) in
    let greater : (d == 62) ≡ false = ne_eqb d 62 (λ e. omega arith) in
    let quote : (d == 34) ≡ false = ne_eqb d 34 (λ e. omega arith) in
    λ i. (if ampersand i then codes "&amp;" else if less i then codes "&lt;" else if greater i then codes "&gt;" else if quote i then codes "&quot;" else d ∷ []) ++ []

pub number-alone : (n : ℕ) → n < 2 ^ 64 → escaped (decimal n) ≡ decimal n
number-alone = decimal_by_steps (λ n text. escaped text ≡ text)
    (λ n small. digit-alone (48 + n) (omega arith) (omega arith))
    (λ n text big h. flat_map-append character_text text ((48 + n % 10) ∷ []) ∙ (λ i. h i ++ digit-alone (48 + n % 10) (omega arith) (omega arith) i))
