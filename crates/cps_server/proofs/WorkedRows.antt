-- Fields of words, names of instructions, and words as numbers, worked by hand.
use Rattle.std.proofs.Common.{◌≡◌, refl, ℕ, true, false, List, [], ◌∷◌}
use Rattle.std.specs.Prelude.{codes}
use Rattle.cps_server.specs.declared.field.Field.TheVariants.{Location, Operation, Operand, Remark}
use Rattle.cps_server.specs.Completions.{spelled}
use Rattle.cps_server.specs.Fields.{letter_field}
use Rattle.cps_server.specs.Tokens.{encoded}
use Rattle.cps_server.specs.declared.token.Nature.{Nature}
use Rattle.cps_server.specs.declared.token.Token.{Token}
use Rattle.cps_server.specs.declared.token.TokenKind.{TokenKind}
use Rattle.cps_server.specs.declared.token.TokenKind.TheVariants.{Keyword, Number, Variable}

-- ---- fields, by the columns in front of a letter and its place

column-1 : letter_field [] 0 ≡ Location
column-1 = refl

column-2 : letter_field (codes " ") 1 ≡ Location
column-2 = refl

column-3 : letter_field (codes "  ") 2 ≡ Operation
column-3 = refl

in-location : letter_field (codes "LP") 2 ≡ Location
in-location = refl

behind-location : letter_field (codes "LP ") 3 ≡ Operation
behind-location = refl

in-operation : letter_field (codes "          SX1") 11 ≡ Operation
in-operation = refl

in-operand : letter_field (codes "          SX1    B1+") 20 ≡ Operand
in-operand = refl

behind-operand : letter_field (codes "          CON    1 ") 19 ≡ Remark
behind-operand = refl

-- operands begin in column 29 at the latest
column-29 : letter_field (codes "          PS                 ") 28 ≡ Operand
column-29 = refl

column-30 : letter_field (codes "          PS                 ") 29 ≡ Remark
column-30 = refl

comment : letter_field (codes "*         ") 10 ≡ Remark
comment = refl

continued : letter_field (codes ",         ") 10 ≡ Remark
continued = refl

column-73 : letter_field [] 72 ≡ Remark
column-73 = refl

-- ---- names of instructions

with-register : spelled (codes "SAi")
    ≡ codes "SA0" ∷ codes "SA1" ∷ codes "SA2" ∷ codes "SA3" ∷ codes "SA4" ∷ codes "SA5" ∷ codes "SA6" ∷ codes "SA7" ∷ []
with-register = refl

without-register : spelled (codes "JP") ≡ codes "JP" ∷ []
without-register = refl

-- ---- tokens as numbers

abbrev token : ℕ → ℕ → ℕ → Nature → Token
token line start end nature = record { line = line; start = start; end = end; nature = nature }

abbrev plain : TokenKind → Nature
plain kind = record { kind = kind; is_definition = false; is_readonly = false }

abbrev constant : Nature
constant = record { kind = Variable; is_definition = true; is_readonly = true }

-- `COUNT     EQU    5` in line 7, and `PS` in line 9
numbers : encoded (token 7 0 5 constant ∷ token 7 10 13 (plain Keyword) ∷ token 7 17 18 (plain Number) ∷ token 9 10 12 (plain Keyword) ∷ [])
    ≡ 7 ∷ 0 ∷ 5 ∷ 3 ∷ 3 ∷ 0 ∷ 10 ∷ 3 ∷ 0 ∷ 0 ∷ 0 ∷ 7 ∷ 1 ∷ 6 ∷ 0 ∷ 2 ∷ 10 ∷ 2 ∷ 0 ∷ 0 ∷ []
numbers = refl

no-numbers : encoded [] ≡ []
no-numbers = refl
