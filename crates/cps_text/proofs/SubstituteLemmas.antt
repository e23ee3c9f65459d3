-- What stands for names: one more, in a list and in an index of it.
use Rattle.std.proofs.Common.{◌≡◌, ℕ, Bool, true, false, cond, List, [], ◌∷◌, ◌++◌, Option, None, Some, refl, sym, ap, subst, ◌∙◌, take, get_or, ◌+◌, ◌<◌, length}
use Rattle.std.specs.Prelude.{option_map, unwrap_or}
use Rattle.std.specs.BTreeMap.{BTreeMap, get}
use Rattle.std.specs.Cmp.{unsigned_ties}
use Rattle.std.specs.Cmp.Lexicographic.{bytes_decides}
use Rattle.std.specs.Ordering.{is_eq}
use Rattle.std.proofs.lemmas.List.{take_more, map-append}
use Rattle.cps_text.specs.declared.name.Name.{Name}
use Rattle.cps_text.specs.declared.name_number.NameNumber.{NameNumber}
use Rattle.cps_text.specs.declared.substitutes.Substitute.{Substitute}
use Rattle.cps_text.specs.Insertion.{Pairs, text_of}
use Rattle.cps_text.specs.Name.{is_one}
use Rattle.cps_text.specs.Code.NameNumbers.{name_number, number_of, number_order, HasEightBytes}
use Rattle.cps_text.specs.Code.Substitutes.{substitute_value, substitutes_value, Indexes}
use Rattle.cps_text.proofs.NameLemmas.{one-text}

one-is : (a b : Name) → is_one a b ≡ true → a ≡ b
one-is a b is = let same = (bytes_decides a.bytes b.bytes).0 is in λ i. record { bytes = same i }

-- ---- one more name of a list

abbrev or_else : Option (List ℕ) → Option (List ℕ) → Option (List ℕ)
or_else None other = other
or_else (Some text) other = Some text

or-none : (text : Option (List ℕ)) → or_else text None ≡ text
or-none None = refl
or-none (Some text) = refl

-- what one name has for another one
abbrev last_of : Bool → List ℕ → Option (List ℕ)
last_of is text = cond is (Some text) None

last-is : (b : Bool) (name : Name) (text : List ℕ) → option_map (λ (pair : Name × List ℕ). pair.1) (cond b (Some (name, text)) None) ≡ last_of b text
last-is true name text = refl
last-is false name text = refl

of-next : (b : Bool) (pair : Name × List ℕ) (found later : Option (Name × List ℕ)) (last : Option (List ℕ))
    → option_map (λ (p : Name × List ℕ). p.1) later ≡ or_else (option_map (λ (p : Name × List ℕ). p.1) found) last
    → option_map (λ (p : Name × List ℕ). p.1) (cond b (Some pair) later) ≡ or_else (option_map (λ (p : Name × List ℕ). p.1) (cond b (Some pair) found)) last
of-next true pair found later last more = refl
of-next false pair found later last more = more

of-more : (pairs : Pairs) (name : Name) (text : List ℕ) (other : Name) → text_of (pairs ++ (name, text) ∷ []) other ≡ or_else (text_of pairs other) (last_of (is_one name other) text)
of-more [] name text other = last-is (is_one name other) name text
of-more (pair ∷ pairs) name text other = of-next (is_one pair.0 other) pair _ _ (last_of (is_one name other) text) (of-more pairs name text other)

-- ---- one more in both

number-ties : (a b : Name) → HasEightBytes a → HasEightBytes b → is_eq (number_order (number_of a) (number_of b)) ≡ is_one a b
number-ties a b eight other =
    sym (unsigned_ties (name_number a) (name_number b)) ∙ one-text a.bytes b.bytes eight.0 eight.1 other.0 other.1

first-counts : (found : Option Substitute) (known : Option (List ℕ)) (text : Substitute) → option_map substitute_value found ≡ known
    → option_map substitute_value (Some (unwrap_or found text)) ≡ or_else known (Some (substitute_value text))
first-counts None known text is = ap (λ o. or_else o (Some (substitute_value text))) is
first-counts (Some one) known text is = ap (λ o. or_else o (Some (substitute_value text))) is

entered-by : (b : Bool) (pairs : Pairs) (index : BTreeMap NameNumber Substitute) (name : Name) (text : Substitute) (other : Name) → is_one name other ≡ b
    → HasEightBytes name → HasEightBytes other → Indexes pairs index
    → option_map substitute_value (cond b (Some (unwrap_or (get number_order index (number_of name)) text)) (get number_order index (number_of other)))
    ≡ or_else (text_of pairs other) (last_of b (substitute_value text))
entered-by true pairs index name text other is eight also was =
    first-counts (get number_order index (number_of name)) (text_of pairs other) text (was name eight ∙ ap (text_of pairs) (one-is name other is))
entered-by false pairs index name text other is eight also was = was other also ∙ sym (or-none (text_of pairs other))

-- a name that the index has already keeps what stands for it
pub indexes-entered : (pairs : Pairs) (index new : BTreeMap NameNumber Substitute) (name : Name) (text : Substitute) → HasEightBytes name
    → ((n : NameNumber) → get number_order new n ≡ cond (is_eq (number_order (number_of name) n)) (Some (unwrap_or (get number_order index (number_of name)) text)) (get number_order index n))
    → Indexes pairs index → Indexes (pairs ++ (name, substitute_value text) ∷ []) new
indexes-entered pairs index new name text eight updates was = λ other also.
    ap (option_map substitute_value) (updates (number_of other)
    ∙ ap (λ b. cond b (Some (unwrap_or (get number_order index (number_of name)) text)) (get number_order index (number_of other))) (number-ties name other eight also))
    ∙ entered-by (is_one name other) pairs index name text other refl eight also was
    ∙ sym (of-more pairs name (substitute_value text) other)

-- an index of the first pairs of a list, one more
pub indexes-next : (pairs : List (Name × Substitute)) (i : ℕ) (d : Name × Substitute) (old new : BTreeMap NameNumber Substitute) → i < length pairs
    → ((known : Pairs) → Indexes known old → Indexes (known ++ ((get_or pairs i d).0, substitute_value (get_or pairs i d).1) ∷ []) new)
    → Indexes (substitutes_value (take i pairs)) old → Indexes (substitutes_value (take (i + 1) pairs)) new
indexes-next pairs i d old new lt more was =
    let one = get_or pairs i d in
    let same : substitutes_value (take i pairs) ++ (one.0, substitute_value one.1) ∷ [] ≡ substitutes_value (take (i + 1) pairs) =
    sym (ap substitutes_value (take_more pairs i d lt) ∙ map-append (λ (p : Name × Substitute). (p.0, substitute_value p.1)) (take i pairs) (one ∷ [])) in
    subst (λ (ps : Pairs). Indexes ps new) same (more (substitutes_value (take i pairs)) was)
