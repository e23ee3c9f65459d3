-- Causes are told exactly where a line has a flag.
use Rattle.std.proofs.Common.{◌≡◌, Bool, true, false, List, [], ◌∷◌, refl, sym, ap, subst, ◌∙◌}
use Rattle.std.specs.Prelude.{◌||◌, fold}
use Rattle.cps_state.specs.declared.flags.Flags.{Flags}
use Rattle.cps_state.specs.Flags.{joined, has_flag}
use Rattle.cps_final.specs.declared.row.Row.{Row}
use Rattle.cps_final.specs.Outcome.{flags_of}
use Rattle.cps_cause.specs.declared.letter.Letter.{Letter}
use Rattle.cps_cause.specs.declared.letter.Letter.TheVariants.{A, D, E, L, O, T, U, V}
use Rattle.cps_cause.specs.declared.diagnostic.Diagnostic.{Diagnostic}
use Rattle.cps_cause.specs.Letters.{has, letter_of, only}
use Rattle.cps_cause.specs.Explaining.{flags_told}

or_right : (a b : Bool) → b ≡ true → (a || b) ≡ true
or_right true b is = refl
or_right false b is = is

or_left : (a b : Bool) → a ≡ true → (a || b) ≡ true
or_left a b is = ap (λ (x : Bool). x || b) is

has-joined : (letter : Letter) (more flags : Flags) → has letter flags ≡ true → has letter (joined more flags) ≡ true
has-joined A more flags is = or_right more.operand flags.operand is
has-joined D more flags is = or_right more.twice flags.twice is
has-joined E more flags is = or_right more.structure flags.structure is
has-joined L more flags is = or_right more.location flags.location is
has-joined O more flags is = or_right more.operation flags.operation is
has-joined T more flags is = or_right more.cut flags.cut is
has-joined U more flags is = or_right more.undefined flags.undefined is
has-joined V more flags is = or_right more.width flags.width is

has-only : (letter : Letter) (flags : Flags) → has letter (joined (only letter true) flags) ≡ true
has-only A flags = refl
has-only D flags = refl
has-only E flags = refl
has-only L flags = refl
has-only O flags = refl
has-only T flags = refl
has-only U flags = refl
has-only V flags = refl

abbrev flags_with : Flags → List Diagnostic → Flags
flags_with flags told = fold (λ all d. joined (only (letter_of d.cause) true) all) flags told

has-told : (letter : Letter) (told : List Diagnostic) (flags : Flags) → has letter flags ≡ true → has letter (flags_with flags told) ≡ true
has-told letter [] flags is = is
has-told letter (d ∷ told) flags is =
    has-told letter told (joined (only (letter_of d.cause) true) flags) (has-joined letter (only (letter_of d.cause) true) flags is)

has_flag-letter : (letter : Letter) (flags : Flags) → has letter flags ≡ true → has_flag flags ≡ true
has_flag-letter A f is = or_left f.operand _ is
has_flag-letter D f is = or_right f.operand _ (or_left f.twice _ is)
has_flag-letter E f is = or_right f.operand _ (or_right f.twice _ (or_left f.structure _ is))
has_flag-letter L f is = or_right f.operand _ (or_right f.twice _ (or_right f.structure _ (or_left f.location _ is)))
has_flag-letter O f is = or_right f.operand _ (or_right f.twice _ (or_right f.structure _ (or_right f.location _ (or_left f.operation _ is))))
has_flag-letter T f is =
    or_right f.operand _ (or_right f.twice _ (or_right f.structure _ (or_right f.location _ (or_right f.operation _ (or_left f.cut _ is)))))
has_flag-letter U f is =
    or_right f.operand _ (or_right f.twice _ (or_right f.structure _ (or_right f.location _ (or_right f.operation _ (or_right f.cut _ (or_left f.undefined f.width is))))))
has_flag-letter V f is =
    or_right f.operand _ (or_right f.twice _ (or_right f.structure _ (or_right f.location _ (or_right f.operation _ (or_right f.cut _ (or_right f.undefined f.width is))))))

abbrev pub is_yes : Bool → Type 0
is_yes true = Unit {0}
is_yes false = ⊥

pub true-false : true ≡ false → ⊥
true-false is = subst is_yes is tt

-- where nothing is told no flag is there
pub no-flag : (rows : List Row) (told : List Diagnostic) → flags_told told ≡ flags_of rows → told ≡ [] → has_flag (flags_of rows) ≡ false
no-flag rows told is none = ap has_flag (sym is ∙ ap flags_told none)

some-flag : (d : Diagnostic) (told : List Diagnostic) → has_flag (flags_told (d ∷ told)) ≡ true
some-flag d told =
    let letter = letter_of d.cause in
    has_flag-letter letter (flags_told (d ∷ told)) (has-told letter told (joined (only letter true) (flags_told [])) (has-only letter (flags_told [])))

-- and where no flag is there nothing is told
pub none-told : (rows : List Row) (told : List Diagnostic) → flags_told told ≡ flags_of rows → has_flag (flags_of rows) ≡ false → told ≡ []
none-told rows [] is unflagged = refl
none-told rows (d ∷ told) is unflagged = absurd (true-false (sym (some-flag d told) ∙ ap has_flag is ∙ unflagged))
