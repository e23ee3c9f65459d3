-- The symbols to which links can lead, one mention after another.
use Rattle.std.proofs.Common.{◌≡◌, ℕ, suc, ◌+◌, ◌≤◌, ◌<◌, Bool, true, false, true≢false, cond, not, ◌&&◌, ◌||◌, refl, sym, ap, subst, ◌∙◌, List, [], ◌∷◌, ◌++◌, get_or, take, length, zero-add, arith}
use Rattle.std.specs.Prelude.{All, filter, find, Option, None, Some, is_some, count_by, option_map}
use Rattle.std.specs.List.{list_any}
use Rattle.std.specs.List.Sorted.{IsStableByKey}
use Rattle.std.specs.Option.{option_map_or, option_or}
use Rattle.std.specs.Ordering.{is_eq, is_lt, ordering_reverse}
use Rattle.std.specs.declared.cmp.Ordering.{Ordering}
use Rattle.std.specs.declared.cmp.Ordering.TheVariants.{Less, Equal, Greater}
use Rattle.std.proofs.lemmas.Bool.{eqb-true}
use Rattle.std.proofs.lemmas.List.{take_all, take_more}
use Rattle.std.proofs.lemmas.List.Elements.{All-append}
use Rattle.std.proofs.lemmas.List.Sums.{sum_by-append}
use Rattle.std.proofs.lemmas.Option.{same_Some}
use Rattle.cps_text.specs.declared.name.Name.{Name}
use Rattle.cps_expr.specs.Value.{same_name}
use Rattle.cps_list.specs.declared.mention.Mention.{Mention}
use Rattle.cps_list.specs.Symbols.{defining_line, mentions_of, name_order}
use Rattle.cps_list.proofs.OrderLemmas.{name_total, same-is, same-itself, same-tied}
use Rattle.cps_markup.specs.declared.targets.Entry.{Entry}
use Rattle.cps_markup.specs.declared.place.Place.TheVariants.{Symbol}
use Rattle.cps_markup.specs.Links.{is_of, is_defined}
use Rattle.cps_markup.specs.PlaceLaws.{IsWritten}
use Rattle.cps_markup.proofs.AddsLemmas.{all-none, all-one}
use Rattle.cps_page.specs.Code.Making.{AreEntries, AreEntriesTo, IsDefinedOn, first_definition, is_behind}

-- ---- the first mention that defines a symbol, one mention more

abbrev defines : Mention → Bool
defines m = m.is_definition

abbrev line_of : Mention → ℕ
line_of m = m.line

first-more : (name : Name) (front : List Mention) (m : Mention) → first_definition name (front ++ m ∷ []) ≡ option_or (first_definition name front) (first_definition name (m ∷ []))
first-more name [] m = refl
first-more name (x ∷ front) m =
    elim (same_name x.name name) as (λ b. find defines (cond b (x ∷ mentions_of name (front ++ m ∷ [])) (mentions_of name (front ++ m ∷ [])))
    ≡ option_or (find defines (cond b (x ∷ mentions_of name front) (mentions_of name front))) (first_definition name (m ∷ []))) [
      | true ↦ elim (x.is_definition) as (λ b. cond b (Some x) (find defines (mentions_of name (front ++ m ∷ [])))
          ≡ option_or (cond b (Some x) (find defines (mentions_of name front))) (first_definition name (m ∷ []))) [
            | true ↦ refl
            | false ↦ first-more name front m
          ]
      | false ↦ first-more name front m
    ]

first-other : (name : Name) (m : Mention) → same_name m.name name ≡ false → first_definition name (m ∷ []) ≡ None
first-other name m other = ap (λ b. find defines (cond b (m ∷ []) [])) other

first-itself : (m : Mention) → m.is_definition ≡ true → first_definition m.name (m ∷ []) ≡ Some m
first-itself m is = ap (λ b. find defines (cond b (m ∷ []) [])) (same-itself m.name) ∙ ap (λ b. cond b (Some m) None) is

one-false : (a b : Bool) → (a && b) ≡ false → b ≡ true → a ≡ false
one-false true b skip is = absurd (true≢false (sym is ∙ skip))
one-false false b skip is = refl

first-skipped : (last : Option Name) (name : Name) (m : Mention) → (m.is_definition && is_behind last m.name) ≡ false → is_behind last name ≡ true
    → first_definition name (m ∷ []) ≡ None
first-skipped last name m skip behind =
    elim (same_name m.name name) as (λ b. same_name m.name name ≡ b → find defines (cond b (m ∷ []) []) ≡ None) [
      | true ↦ λ same.
          let also : is_behind last m.name ≡ true = subst (λ (n : Name). is_behind last n ≡ true) (sym (same-is m.name name same)) behind in
          ap (λ b. cond b (Some m) None) (one-false m.is_definition (is_behind last m.name) skip also)
      | false ↦ λ _. refl
    ] refl

found-more : (found other : Option Mention) (line : ℕ) → option_map line_of found ≡ Some line → option_map line_of (option_or found other) ≡ Some line
found-more None other line is = absurd (true≢false (sym (ap is_some is)))
found-more (Some m) other line is = is

defined-more : (front : List Mention) (m : Mention) (entries : List Entry) → All (IsDefinedOn front) entries → All (IsDefinedOn (front ++ m ∷ [])) entries
defined-more front m entries all = λ k d lt.
    let name = (get_or entries k d).name in
    ap (option_map line_of) (first-more name front m) ∙ found-more (first_definition name front) (first_definition name (m ∷ [])) (get_or entries k d).line (all k d lt)

-- ---- names behind the last one

lt-less : (r : Ordering) → is_lt r ≡ true → r ≡ Less
lt-less Less is = refl
lt-less Equal is = absurd (true≢false (sym is))
lt-less Greater is = absurd (true≢false (sym is))

behind-later : (last : Option Name) (a b : Name) → is_behind last a ≡ true → is_lt (name_order a b) ≡ true → is_behind last b ≡ true
behind-later None a b behind less = refl
behind-later (Some last) a b behind less = ap is_lt (name_total.trans last a b (lt-less _ behind) (lt-less _ less))

other-behind : (a b : Name) → is_lt (name_order a b) ≡ true → same_name a b ≡ false
other-behind a b less = same-tied a b ∙ ap is_eq (lt-less _ less)

behind-other : (a b : Name) → is_lt (name_order a b) ≡ true → same_name b a ≡ false
behind-other a b less = same-tied b a ∙ ap is_eq (name_total.antisymm b a ∙ ap ordering_reverse (lt-less _ less))

-- ---- the symbols so far

pub entries-none : AreEntriesTo [] None []
entries-none = record { once = λ name. omega arith; none_behind = λ name behind. refl; none_defined = λ name behind. refl; defined = all-none _; written = all-none _ }

abbrev one_if : Bool → ℕ
one_if b = cond b 1 0

count-more : (name : Name) (entries : List Entry) (entry : Entry) → count_by (is_of name) (entries ++ entry ∷ []) ≡ count_by (is_of name) entries + one_if (same_name name entry.name)
count-more name entries entry =
    sum_by-append (λ (e : Entry). one_if (is_of name e)) entries (entry ∷ []) ∙ ap (λ n. count_by (is_of name) entries + n) (zero-add (one_if (same_name name entry.name)))

one-more : (name : Name) (entries : List Entry) (entry : Entry) (b : Bool) → same_name name entry.name ≡ b → count_by (is_of name) entries ≤ 1 → (b ≡ true → count_by (is_of name) entries ≡ 0)
    → count_by (is_of name) (entries ++ entry ∷ []) ≤ 1
one-more name entries entry true is once none =
    let count = count-more name entries entry in
    let one = ap one_if is in
    let zero_here = none refl in
    omega (arith, count, one, zero_here)
one-more name entries entry false is once none =
    let count = count-more name entries entry in
    let no = ap one_if is in
    omega (arith, count, no, once)

module _ (front : List Mention) (last : Option Name) (entries : List Entry) (m : Mention) (are : AreEntriesTo front last entries) where
  none-later : is_behind last m.name ≡ true → (name : Name) → is_lt (name_order m.name name) ≡ true → first_definition name (front ++ m ∷ []) ≡ None
  none-later behind name less =
      first-more name front m ∙ (λ i. option_or (are.none_defined name (behind-later last m.name name behind less) i) (first-other name m (other-behind m.name name less) i))

  -- a mention that defines no symbol behind the last one
  pub entry-skipped : (m.is_definition && is_behind last m.name) ≡ false → AreEntriesTo (front ++ m ∷ []) last entries
  entry-skipped skip = record {
    once = are.once;
    none_behind = are.none_behind;
    none_defined = λ name behind. first-more name front m ∙ (λ i. option_or (are.none_defined name behind i) (first-skipped last name m skip behind i));
    defined = defined-more front m entries are.defined;
    written = are.written;
  }

  -- the symbol of the first mention that defines it is left out
  pub entry-left : is_behind last m.name ≡ true → AreEntriesTo (front ++ m ∷ []) (Some m.name) entries
  entry-left behind = record {
    once = are.once;
    none_behind = λ name less. are.none_behind name (behind-later last m.name name behind less);
    none_defined = none-later behind;
    defined = defined-more front m entries are.defined;
    written = are.written;
  }

  -- or is added
  pub entry-more : (entry : Entry) → entry.name ≡ m.name → entry.line ≡ m.line → is_behind last m.name ≡ true → m.is_definition ≡ true → IsWritten (Symbol entry.name)
      → AreEntriesTo (front ++ m ∷ []) (Some m.name) (entries ++ entry ∷ [])
  entry-more entry named lined behind is written = record {
    once = λ name. one-more name entries entry (same_name name entry.name) refl (are.once name)
        (λ same. are.none_behind name (subst (λ (n : Name). is_behind last n ≡ true) (sym (same-is name entry.name same ∙ named)) behind));
    none_behind = λ name less.
        let other : same_name name entry.name ≡ false = ap (same_name name) named ∙ behind-other m.name name less in
        let count = count-more name entries entry in
        let no = ap one_if other in
        let before = are.none_behind name (behind-later last m.name name behind less) in
        omega (arith, count, no, before);
    none_defined = none-later behind;
    defined =
        let found = first-more m.name front m ∙ (λ i. option_or (are.none_defined m.name behind i) (first-itself m is i)) in
        let here : IsDefinedOn (front ++ m ∷ []) entry = ap (λ (n : Name). option_map line_of (first_definition n (front ++ m ∷ []))) named ∙ ap (option_map line_of) found ∙ ap Some (sym lined) in
        All-append (IsDefinedOn (front ++ m ∷ [])) entries (entry ∷ []) (defined-more front m entries are.defined) (all-one (IsDefinedOn (front ++ m ∷ [])) entry here);
    written = let P : Entry → Type 0 = λ e. IsWritten (Symbol e.name) in All-append P entries (entry ∷ []) are.written (all-one P entry written);
  }

pub entries-next : (ms : List Mention) (i : ℕ) (d : Mention) (last : Option Name) (entries : List Entry) → i < length ms
    → AreEntriesTo (take i ms ++ get_or ms i d ∷ []) last entries → AreEntriesTo (take (i + 1) ms) last entries
entries-next ms i d last entries lt are = subst (λ front. AreEntriesTo front last entries) (sym (take_more ms i d lt)) are

-- ---- all symbols

on-line : (found : Option Mention) (line : ℕ) → option_map line_of found ≡ Some line → line ≡ option_map_or line_of found 0
on-line None line is = absurd (true≢false (sym (ap is_some is)))
on-line (Some m) line is = sym (same_Some m.line line is)

pub entries-all : (ms : List Mention) (i : ℕ) (last : Option Name) (entries : List Entry) → length ms ≤ i → AreEntriesTo (take i ms) last entries → AreEntries ms entries
entries-all ms i last entries past before =
    let are = subst (λ front. AreEntriesTo front last entries) (take_all i ms past) before in
    record {
      once = are.once;
      defined = λ k d lt. on-line (first_definition (get_or entries k d).name ms) (get_or entries k d).line (are.defined k d lt);
      written = are.written;
    }

tie-by : (r : Ordering) → (not (is_lt r) && not (is_lt (ordering_reverse r))) ≡ is_eq (ordering_reverse r)
tie-by Less = refl
tie-by Equal = refl
tie-by Greater = refl

ties-same : (a b : Name) → (not (is_lt (name_order a b)) && not (is_lt (name_order b a))) ≡ same_name b a
ties-same a b =
    ap (λ r. not (is_lt (name_order a b)) && not (is_lt r)) (name_total.antisymm b a)
    ∙ tie-by (name_order a b) ∙ ap is_eq (sym (name_total.antisymm b a)) ∙ sym (same-tied b a)

abbrev mention_of : Name → Mention
mention_of name = record { name = name; line = 0; is_definition = false }

mentions-stable : (xs ys : List Mention) → IsStableByKey (λ (m : Mention). m.name) name_order xs ys → (n : Name) → mentions_of n ys ≡ mentions_of n xs
mentions-stable xs ys stable n =
    (λ i. filter (λ (m : Mention). sym (ties-same n m.name) i) ys) ∙ stable (mention_of n) ∙ (λ i. filter (λ (m : Mention). ties-same n m.name i) xs)

-- mentions in the order of the symbols define what they define in any order of these
pub entries-sorted : (xs ys : List Mention) (entries : List Entry) → IsStableByKey (λ (m : Mention). m.name) name_order xs ys → AreEntries ys entries → AreEntries xs entries
entries-sorted xs ys entries stable are = record {
  once = are.once;
  defined = λ k d lt. are.defined k d lt ∙ ap defining_line (mentions-stable xs ys stable (get_or entries k d).name);
  written = are.written;
}

-- ---- a line that is found defines its symbol first

pub and-both : (a b : Bool) → (a && b) ≡ true → (a ≡ true) × (b ≡ true)
and-both true true h = (refl, refl)
and-both true false h = absurd (true≢false (sym h))
and-both false b h = absurd (true≢false (sym h))

abbrev IsHomeOf : List Mention → Entry → Type 0
IsHomeOf ms entry = entry.line ≡ defining_line (mentions_of entry.name ms)

defined-here : (ms : List Mention) (name : Name) (number : ℕ) (entry : Entry) → IsHomeOf ms entry → is_defined name number entry ≡ true → number ≡ defining_line (mentions_of name ms)
defined-here ms name number entry home is =
    let both = and-both _ _ is in
    sym (eqb-true entry.line number both.1) ∙ home ∙ ap (λ (n : Name). defining_line (mentions_of n ms)) (sym (same-is name entry.name both.0))

pub found-defined : (ms : List Mention) (name : Name) (number : ℕ) (entries : List Entry) → All (IsHomeOf ms) entries → list_any (is_defined name number) entries ≡ true
    → number ≡ defining_line (mentions_of name ms)
found-defined ms name number [] all found = absurd (true≢false (sym found))
found-defined ms name number (entry ∷ entries) all found =
    elim (is_defined name number entry) as (λ b. is_defined name number entry ≡ b → (b || list_any (is_defined name number) entries) ≡ true → number ≡ defining_line (mentions_of name ms)) [
      | true ↦ λ here _. defined-here ms name number entry (all 0 entry (omega arith)) here
      | false ↦ λ _ later. found-defined ms name number entries (λ k d lt. all (suc k) d (omega arith)) later
    ] refl found
