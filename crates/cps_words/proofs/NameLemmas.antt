-- Names that may lead to one file, among more names.
use Rattle.std.proofs.Common.{◌≡◌, ap, ℕ, List, [], ◌∷◌, map, length, take, drop, ◌-◌, ◌≤◌, slice_index_or, arith, refl, subst}
use Rattle.std.proofs.lemmas.List.{take_all}
use Rattle.std.proofs.lemmas.List.Elements.{Contains-append_right}
use Rattle.std.specs.Prelude.{Option, Some, None, IfSome, unwrap_or}
use Rattle.std.specs.Borrow.{Bor}
use Rattle.cps_words.specs.Outputs.{name_of}
use Rattle.cps_words.specs.Same.{MayClash, MayMeet, Sameness}

-- the names behind the first one, as a slice has them
names-rest : (names : List (Option (Bor (List ℕ)))) → map name_of (take (length names - 1) (drop 1 names)) ≡ drop 1 (map name_of names)
names-rest [] = refl
names-rest (name ∷ names) = ap (map name_of) (take_all (length (name ∷ names) - 1) names (omega arith))

meet-later : (same : Sameness) (name : List ℕ) (names : List (Option (List ℕ))) (other : List ℕ) → MayMeet same name (drop 1 names) other → MayMeet same name names other
meet-later same name [] other meets = meets
meet-later same name (first ∷ names) other meets = (Contains-append_right (first ∷ []) names (Some other) meets.0, meets.1)

clash-later : (same : Sameness) (names : List (Option (List ℕ))) (one other : List ℕ) → MayClash same (drop 1 names) one other → MayClash same names one other
clash-later same [] one other clash = clash
clash-later same (first ∷ names) one other (front, back, whole, meets) = (first ∷ front, back, ap (λ l. first ∷ l) whole, meets)

-- what is found among the names behind the first one is found among all
pub met-later : (same : Sameness) (name : List ℕ) (names : List (Option (Bor (List ℕ)))) (found : Option (Bor (List ℕ)))
    → IfSome found (λ other. MayMeet same name (map name_of (take (length names - 1) (drop 1 names))) other.now)
    → IfSome found (λ other. MayMeet same name (map name_of names) other.now)
met-later same name names None meets = tt
met-later same name names (Some other) meets =
    meet-later same name (map name_of names) other.now
    (subst (λ (l : List (Option (List ℕ))). MayMeet same name l other.now) (names-rest names) meets)

pub clashed-later : (same : Sameness) (names : List (Option (Bor (List ℕ)))) (found : Option (Bor (List ℕ) × Bor (List ℕ)))
    → IfSome found (λ pair. MayClash same (map name_of (take (length names - 1) (drop 1 names))) pair.0.now pair.1.now)
    → IfSome found (λ pair. MayClash same (map name_of names) pair.0.now pair.1.now)
clashed-later same names None clashes = tt
clashed-later same names (Some pair) clashes =
    clash-later same (map name_of names) pair.0.now pair.1.now
    (subst (λ (l : List (Option (List ℕ))). MayClash same l pair.0.now pair.1.now) (names-rest names) clashes)

-- the first name clashes with one behind it
pub clash-first : (same : Sameness) (names : List (Option (Bor (List ℕ)))) (one : Bor (List ℕ)) (other : List ℕ)
    → 1 ≤ length names → slice_index_or names 0 (Some one) ≡ Some one → MayMeet same one.now (map name_of (take (length names - 1) (drop 1 names))) other
    → MayClash same (map name_of names) one.now other
clash-first same [] one other some is meets = let no : ⊥ = omega (arith, some) in absurd no
clash-first same (first ∷ names) one other some is meets = (
  [],
  map name_of names,
  ap (λ (f : Option (Bor (List ℕ))). name_of f ∷ map name_of names) is,
  subst (λ (l : List (Option (List ℕ))). MayMeet same one.now l other) (names-rest (first ∷ names)) meets,
)

-- the name of the source
pub source-is : (source : Option (Bor (List ℕ))) (default found : Bor (List ℕ)) → found ≡ unwrap_or source default → found.now ≡ unwrap_or (name_of source) default.now
source-is None default found is = ap (λ (name : Bor (List ℕ)). name.now) is
source-is (Some name) default found is = ap (λ (name : Bor (List ℕ)). name.now) is
