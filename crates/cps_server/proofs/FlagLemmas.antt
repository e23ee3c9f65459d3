-- Causes are told exactly where a line has a flag.
use Rattle.std.proofs.Common.{◌≡◌, Bool, true, false, List, [], ◌∷◌, refl, sym, ap, subst, ◌∙◌}
use Rattle.std.specs.Prelude.{◌||◌, fold}
use Rattle.cps_state.specs.declared.flags.Flags.{Flags}
use Rattle.cps_state.specs.Flags.{joined, has_flag}
use Rattle.cps_state.specs.Made.{no_flags}
use Rattle.cps_cause.specs.declared.letter.Letter.{Letter}
use Rattle.cps_cause.specs.declared.letter.Letter.TheVariants.{A, D, E, L, O, T, U, V}
use Rattle.cps_cause.specs.declared.diagnostic.Diagnostic.{Diagnostic}
use Rattle.cps_cause.specs.Letters.{letter_of, only}
use Rattle.cps_cause.specs.Explaining.{flags_told}

abbrev pub is_yes : Bool → Type 0
is_yes true = Unit {0}
is_yes false = ⊥

pub true-false : true ≡ false → ⊥
true-false is = subst is_yes is tt

-- ---- no flag

abbrev flags_from : (operand twice structure location operation cut undefined width : Bool) → Flags
flags_from operand twice structure location operation cut undefined width = record {
  operand = operand;
  twice = twice;
  structure = structure;
  location = location;
  operation = operation;
  cut = cut;
  undefined = undefined;
  width = width;
}

all-none : (a d e l o t u v : Bool) → has_flag (flags_from a d e l o t u v) ≡ false → flags_from a d e l o t u v ≡ no_flags
all-none false false false false false false false false is = refl
all-none true d e l o t u v is = absurd (true-false is)
all-none false true e l o t u v is = absurd (true-false is)
all-none false false true l o t u v is = absurd (true-false is)
all-none false false false true o t u v is = absurd (true-false is)
all-none false false false false true t u v is = absurd (true-false is)
all-none false false false false false true u v is = absurd (true-false is)
all-none false false false false false false true v is = absurd (true-false is)
all-none false false false false false false false true is = absurd (true-false is)

-- flags among which none is there
pub none-there : (flags : Flags) → has_flag flags ≡ false → flags ≡ no_flags
none-there f is = all-none f.operand f.twice f.structure f.location f.operation f.cut f.undefined f.width is

-- ---- some flag

or_right : (a b : Bool) → b ≡ true → (a || b) ≡ true
or_right true b is = refl
or_right false b is = is

or-swapped : (a b c d : Bool) → ((a || b) || (c || d)) ≡ ((a || c) || (b || d))
or-swapped true b c d = refl
or-swapped false true true d = refl
or-swapped false true false d = refl
or-swapped false false c d = refl

or-step : (a b c d rest : Bool) → rest ≡ (c || d) → ((a || b) || rest) ≡ ((a || c) || (b || d))
or-step a b c d rest is = ap (λ (r : Bool). (a || b) || r) is ∙ or-swapped a b c d

-- some flag is among those of both exactly where it is among those of one
joined-either : (f g : Flags) → has_flag (joined f g) ≡ (has_flag f || has_flag g)
joined-either f g =
    or-step f.operand g.operand _ _ _
    (or-step f.twice g.twice _ _ _
    (or-step f.structure g.structure _ _ _
    (or-step f.location g.location _ _ _
    (or-step f.operation g.operation _ _ _ (or-step f.cut g.cut _ _ _ (or-step f.undefined g.undefined f.width g.width _ refl))))))

letter-there : (letter : Letter) → has_flag (only letter true) ≡ true
letter-there A = refl
letter-there D = refl
letter-there E = refl
letter-there L = refl
letter-there O = refl
letter-there T = refl
letter-there U = refl
letter-there V = refl

abbrev flags_with : Flags → List Diagnostic → Flags
flags_with flags told = fold (λ all d. joined (only (letter_of d.cause) true) all) flags told

still-there : (told : List Diagnostic) (flags : Flags) → has_flag flags ≡ true → has_flag (flags_with flags told) ≡ true
still-there [] flags is = is
still-there (d ∷ told) flags is =
    let letter = only (letter_of d.cause) true in
    still-there told (joined letter flags) (joined-either letter flags ∙ or_right (has_flag letter) (has_flag flags) is)

some-told : (d : Diagnostic) (told : List Diagnostic) → has_flag (flags_told (d ∷ told)) ≡ true
some-told d told =
    let letter = only (letter_of d.cause) true in
    still-there told (joined letter no_flags) (joined-either letter no_flags ∙ ap (λ (b : Bool). b || false) (letter-there (letter_of d.cause)))

-- where no flag is there nothing is told
pub none-told : (told : List Diagnostic) → has_flag (flags_told told) ≡ false → told ≡ []
none-told [] is = refl
none-told (d ∷ told) is = absurd (true-false (sym (some-told d told) ∙ is))
