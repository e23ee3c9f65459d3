-- The names of a macro and an index of them: one more.
use Rattle.std.proofs.Common.{◌≡◌, ℕ, ◌+◌, Bool, true, false, cond, List, [], ◌∷◌, ◌++◌, Option, None, Some, length, refl, sym, ap, ◌∙◌, arith}
use Rattle.std.specs.Prelude.{is_some}
use Rattle.std.specs.BTreeMap.{BTreeMap, get}
use Rattle.std.specs.Cmp.Lexicographic.{texts_ties, bytes_decides}
use Rattle.std.specs.List.{position_from}
use Rattle.std.specs.Ordering.{is_eq}
use Rattle.cps_text.specs.declared.name.Name.{Name}
use Rattle.cps_text.specs.Name.{is_one}
use Rattle.cps_list.specs.Symbols.{name_order}
use Rattle.cps_mention.specs.declared.macro_names.MacroName.{MacroName}
use Rattle.cps_mention.specs.Code.MacroNames.{Indexes, place_in}

one-is : (a b : Name) → is_one a b ≡ true → a ≡ b
one-is a b is = let same = (bytes_decides a.bytes b.bytes).0 is in λ i. record { bytes = same i }

abbrev or_place : Option ℕ → Option ℕ → Option ℕ
or_place None other = other
or_place (Some at) other = Some at

or-none : (at : Option ℕ) → or_place at None ≡ at
or-none None = refl
or-none (Some at) = refl

-- where one name stands, for another one
abbrev last_at : Bool → ℕ → Option ℕ
last_at is at = cond is (Some at) None

of-next : (b : Bool) (from : ℕ) (found later last : Option ℕ) → later ≡ or_place found last → cond b (Some from) later ≡ or_place (cond b (Some from) found) last
of-next true from found later last more = refl
of-next false from found later last more = more

place-more : (names : List MacroName) (next : MacroName) (name : Name) (from : ℕ)
    → position_from (λ n. is_one n.name name) from (names ++ next ∷ [])
    ≡ or_place (position_from (λ n. is_one n.name name) from names) (last_at (is_one next.name name) (from + length names))
place-more [] next name from =
    let same : from ≡ from + 0 = omega arith in
    ap (last_at (is_one next.name name)) same
place-more (one ∷ names) next name from =
    let shift : from + 1 + length names ≡ from + length (one ∷ names) = omega arith in
    of-next (is_one one.name name) from (position_from (λ n. is_one n.name name) (from + 1) names) _ (last_at (is_one next.name name) (from + length (one ∷ names)))
    (place-more names next name (from + 1)
    ∙ ap (λ at. or_place (position_from (λ n. is_one n.name name) (from + 1) names) (last_at (is_one next.name name) at)) shift)

none-there : (at : Option ℕ) → is_some at ≡ false → at ≡ None
none-there None h = refl
none-there (Some at) h = cc

some-first : (at last : Option ℕ) → is_some at ≡ true → at ≡ or_place at last
some-first None last some = cc
some-first (Some at) last some = refl

-- a name that the index has already
taken-by : (b : Bool) (names : List MacroName) (index : BTreeMap Name ℕ) (next : MacroName) (other : Name) (at : ℕ) → is_one next.name other ≡ b
    → is_some (get name_order index next.name) ≡ true → Indexes names index → place_in names other ≡ or_place (place_in names other) (last_at b at)
taken-by true names index next other at is some was =
    let here : is_some (place_in names other) ≡ true =
    ap (λ n. is_some (place_in names n)) (sym (one-is next.name other is)) ∙ sym (ap is_some (was next.name)) ∙ some in
    some-first (place_in names other) (Some at) here
taken-by false names index next other at is some was = sym (or-none (place_in names other))

pub indexes-taken : (names : List MacroName) (index : BTreeMap Name ℕ) (next : MacroName)
    → is_some (get name_order index next.name) ≡ true → Indexes names index → Indexes (names ++ next ∷ []) index
indexes-taken names index next some was = λ other.
    was other ∙ taken-by (is_one next.name other) names index next other (0 + length names) refl some was ∙ sym (place-more names next other 0)

-- a new one
new-by : (b : Bool) (names : List MacroName) (index : BTreeMap Name ℕ) (next : MacroName) (other : Name) → is_one next.name other ≡ b
    → is_some (get name_order index next.name) ≡ false → Indexes names index
    → cond b (Some (length names)) (get name_order index other) ≡ or_place (place_in names other) (last_at b (0 + length names))
new-by true names index next other is none was =
    let empty : place_in names other ≡ None =
    ap (place_in names) (sym (one-is next.name other is)) ∙ sym (was next.name) ∙ none-there (get name_order index next.name) none in
    let none_before : length names ≡ 0 + length names = omega arith in
    ap Some none_before ∙ sym (ap (λ o. or_place o (Some (0 + length names))) empty)
new-by false names index next other is none was = was other ∙ sym (or-none (place_in names other))

pub indexes-new : (names : List MacroName) (index new : BTreeMap Name ℕ) (next : MacroName) (before : ℕ) → is_some (get name_order index next.name) ≡ false
    → ((other : Name) → get name_order new other ≡ cond (is_eq (name_order next.name other)) (Some before) (get name_order index other))
    → Indexes names index → length names ≡ before → Indexes (names ++ next ∷ []) new
indexes-new names index new next before none updates was len = λ other.
    updates other
    ∙ ap (λ b. cond b (Some before) (get name_order index other)) (sym (texts_ties next.name.bytes other.bytes))
    ∙ ap (λ at. cond (is_one next.name other) (Some at) (get name_order index other)) (sym len)
    ∙ new-by (is_one next.name other) names index next other refl none was
    ∙ sym (place-more names next other 0)
