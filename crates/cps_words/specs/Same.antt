-- Names of an export that lead to one file, as far as that is known. Our own.
use Rattle.std.specs.Prelude.{◌≡◌, ℕ, Bool, true, false, ◌&&◌, ◌||◌, nat_eq, List, [], ◌∷◌, ◌++◌, Contains, All, Option, None, Some, option_map, unwrap_or, if◌then◌else◌, codes, ⊤}
use Rattle.std.specs.List.{starts_with}
use Rattle.cps_words.specs.declared.names.Clash.{Clash}
use Rattle.cps_words.specs.declared.names.Clash.TheVariants.{Source, Texts}
use Rattle.cps_words.specs.Export.{Wanted}

-- whether two names lead to one file that has a text or would get one, None where that isn't known
abbrev pub Sameness : Type 0
Sameness = List ℕ → List ℕ → Option Bool

-- ---- the names of an export

-- the name under which the source is read, which is standard input where it has no file
abbrev pub source_name : Option (List ℕ) → List ℕ
source_name source = unwrap_or source (codes "/dev/stdin")

-- the names under which texts are written, None where one isn't wanted; a part goes to standard output
abbrev pub text_names : Wanted → List (Option (List ℕ))
text_names wanted =
    wanted.names.listing
    ∷ wanted.names.binary
    ∷ wanted.names.symbols
    ∷ wanted.names.flags
    ∷ wanted.names.page
    ∷ option_map (λ part. codes "/dev/stdout") wanted.part
    ∷ []

-- a name of what a process has open already
abbrev pub is_open_already : List ℕ → Bool
is_open_already name = starts_with nat_eq name (codes "/dev/std") || (starts_with nat_eq name (codes "/dev/fd/") || starts_with nat_eq name (codes "/proc/"))

-- Whether one of two texts would take the place of the other. What is open already goes on where it is, so such texts stand one behind the other.
abbrev pub replaces : Sameness → Sameness
replaces same one other = if is_open_already one && is_open_already other then Some false else same one other

-- ---- names that are apart

-- a name isn't known to lead where another does, if that is given
abbrev pub IsApart : Sameness → List ℕ → Option (List ℕ) → Type 0
IsApart same name None = ⊤
IsApart same name (Some other) = same name other ≡ Some true → ⊥

-- no two of the names that are given are known to lead to one file
abbrev pub AreApart : Sameness → List (Option (List ℕ)) → Type 0
AreApart same [] = ⊤
AreApart same (None ∷ names) = AreApart same names
AreApart same (Some name ∷ names) = All (IsApart same name) names × AreApart same names

-- as far as is known, no text of an export goes over the source, or over another one
abbrev pub KeepsAll : Sameness → Option (List ℕ) → Wanted → Type 0
KeepsAll same source wanted = All (IsApart same (source_name source)) (text_names wanted) × AreApart (replaces same) (text_names wanted)

-- ---- names that clash

-- one of the names that are given may lead where a name does
abbrev pub MayMeet : Sameness → List ℕ → List (Option (List ℕ)) → List ℕ → Type 0
MayMeet same name names other = Contains names (Some other) × (same name other ≡ Some false → ⊥)

-- of the names that are given one and a later one may lead to one file
abbrev pub MayClash : Sameness → List (Option (List ℕ)) → List ℕ → List ℕ → Type 0
MayClash same names one other =
    (front back : List (Option (List ℕ))) × (names ≡ front ++ Some one ∷ back) × MayMeet same one back other

-- two names of an export may lead to one file: that of the source and that of a text, or those of two texts
abbrev pub Clashes : Sameness → Option (List ℕ) → Wanted → Clash → Type 0
Clashes same source wanted (Source one other) = (one.now ≡ source_name source) × MayMeet same one.now (text_names wanted) other.now
Clashes same source wanted (Texts one other) = MayClash (replaces same) (text_names wanted) one.now other.now
