-- The first symbol of mentions that stand in the order of their names, and those after it.
use Rattle.std.proofs.Common.{◌≡◌, ℕ, suc, ◌+◌, ◌≤◌, Bool, true, false, true≢false, cond, ◌||◌, refl, sym, ap, subst, ◌∙◌, List, [], ◌∷◌, ◌++◌, length, get_or, take, drop, ◌<◌, arith}
use Rattle.std.specs.Prelude.{map, flat_map, None, Some, is_some, slice_get}
use Rattle.std.specs.declared.cmp.Ordering.TheVariants.{Less}
use Rattle.std.specs.List.{list_any, prefix_len, find as find_first}
use Rattle.std.specs.Option.{option_map_or}
use Rattle.std.proofs.lemmas.List.{at_drop_more}
use Rattle.std.proofs.lemmas.List.Sums.{prefix_len-le-length}
use Rattle.std.proofs.lemmas.Option.{same_Some}
use Rattle.std.specs.Ordering.{is_eq, eq_by_cmp}
use Rattle.std.specs.Cmp.{Equal-is, tied_itself}
use Rattle.std.specs.FinMap.{FinMap, entries, insert, entries-insert, get-insert, get-from_entries, contains_key-keys, keys, find, put, same_map, len-entries, len-empty}
use Rattle.std.specs.FinMap.Entries.{by_order}
use Rattle.cps_text.specs.declared.name.Name.{Name}
use Rattle.cps_expr.specs.Value.{same_name}
use Rattle.cps_final.specs.Finals.{Finals}
use Rattle.cps_list.specs.declared.mention.Mention.{Mention}
use Rattle.cps_list.specs.Symbols.{mentions_of, name_order, symbol_set, symbols_in, row_of, symbol_rows, defining_line}
use Rattle.cps_list.proofs.OrderLemmas.{name_total, name_is, entry, found-any, same-is, same-itself, same-not, same-tied, above-tied, Rising, Above, NotBelow, above-first}

-- ---- the mentions of the first name, and those after them

abbrev pub is_of : Name → Mention → Bool
is_of n m = same_name m.name n

abbrev pub leading : Name → List Mention → List Mention
leading n [] = []
leading n (m ∷ ms) = cond (same_name m.name n) (m ∷ leading n ms) []

abbrev pub behind : Name → List Mention → List Mention
behind n [] = []
behind n (m ∷ ms) = cond (same_name m.name n) (behind n ms) (m ∷ ms)

one-more : (n : ℕ) → 1 + n ≡ suc n
one-more n = omega arith

pub take-leading : (n : Name) (ms : List Mention) → take (prefix_len (is_of n) ms) ms ≡ leading n ms
take-leading n [] = refl
take-leading n (m ∷ ms) = elim (same_name m.name n) as (λ b. take (cond b (1 + prefix_len (is_of n) ms) 0) (m ∷ ms) ≡ cond b (m ∷ leading n ms) []) [
  | true ↦ ap (λ k. take k (m ∷ ms)) (one-more (prefix_len (is_of n) ms)) ∙ ap (λ l. m ∷ l) (take-leading n ms)
  | false ↦ refl
]

pub drop-leading : (n : Name) (ms : List Mention) → drop (prefix_len (is_of n) ms) ms ≡ behind n ms
drop-leading n [] = refl
drop-leading n (m ∷ ms) = elim (same_name m.name n) as (λ b. drop (cond b (1 + prefix_len (is_of n) ms) 0) (m ∷ ms) ≡ cond b (behind n ms) (m ∷ ms)) [
  | true ↦ ap (λ k. drop k (m ∷ ms)) (one-more (prefix_len (is_of n) ms)) ∙ drop-leading n ms
  | false ↦ refl
]

pub rising-behind : (n : Name) (ms : List Mention) → Rising ms → Rising (behind n ms)
rising-behind n [] rising = tt
rising-behind n (m ∷ ms) rising = elim (same_name m.name n) as (λ b. Rising (cond b (behind n ms) (m ∷ ms))) [
  | true ↦ rising-behind n ms rising.1
  | false ↦ rising
]

-- the names after it are above
above-behind : (n : Name) (ms : List Mention) → NotBelow n ms → Rising ms → Above n (behind n ms)
above-behind n [] first rising = tt
above-behind n (m ∷ ms) first rising = elim (same_name m.name n) as (λ b. same_name m.name n ≡ b → Above n (cond b (behind n ms) (m ∷ ms))) [
  | true ↦ λ same. above-behind n ms (subst (λ a. NotBelow a ms) (same-is m.name n same) rising.0) rising.1
  | false ↦ λ other. above-first n m ms first other rising
] refl

-- ---- the mentions of names

none-above : (n : Name) (ms : List Mention) → Above n ms → mentions_of n ms ≡ []
none-above n [] above = refl
none-above n (m ∷ ms) above =
    ap (λ b. cond b (m ∷ mentions_of n ms) (mentions_of n ms)) (same-not n m.name above.0) ∙ none-above n ms above.1

-- those of the first name lead
mentions-first : (n : Name) (ms : List Mention) → NotBelow n ms → Rising ms → mentions_of n ms ≡ leading n ms
mentions-first n [] first rising = refl
mentions-first n (m ∷ ms) first rising =
    elim (same_name m.name n) as (λ b. same_name m.name n ≡ b → cond b (m ∷ mentions_of n ms) (mentions_of n ms) ≡ cond b (m ∷ leading n ms) []) [
      | true ↦ λ same. ap (λ l. m ∷ l) (mentions-first n ms (subst (λ a. NotBelow a ms) (same-is m.name n same) rising.0) rising.1)
      | false ↦ λ other. none-above n ms (above-first n m ms first other rising).1
    ] refl

-- those of a name above stand after its own
mentions-above : (n x : Name) (ms : List Mention) → name_order n x ≡ Less → mentions_of x ms ≡ mentions_of x (behind n ms)
mentions-above n x [] above = refl
mentions-above n x (m ∷ ms) above =
    elim (same_name m.name n) as (λ b. same_name m.name n ≡ b → mentions_of x (m ∷ ms) ≡ mentions_of x (cond b (behind n ms) (m ∷ ms))) [
      | true ↦ λ same.
          let other : same_name m.name x ≡ false = same-tied m.name x ∙ ap is_eq (ap (λ a. name_order a x) (same-is m.name n same) ∙ above) in
          ap (λ b. cond b (m ∷ mentions_of x ms) (mentions_of x ms)) other ∙ mentions-above n x ms above
      | false ↦ λ other. refl
    ] refl

-- ---- the set of names

shadowed : {A : Type 0} (b : Bool) (x y : A) → cond b x (cond b x y) ≡ cond b x y
shadowed true x y = refl
shadowed false x y = refl

found-behind : (n q : Name) (ms : List Mention)
    → cond (eq_by_cmp name_order q n) (Some tt) (find name_order q (map entry ms)) ≡ cond (eq_by_cmp name_order q n) (Some tt) (find name_order q (map entry (behind n ms)))
found-behind n q [] = refl
found-behind n q (m ∷ ms) =
    let is = eq_by_cmp name_order q in
    elim (same_name m.name n) as (λ b. same_name m.name n ≡ b → cond (is n) (Some tt) (cond (is m.name) (Some tt) (find name_order q (map entry ms)))
    ≡ cond (is n) (Some tt) (find name_order q (map entry (cond b (behind n ms) (m ∷ ms))))) [
      | true ↦ λ same. ap (λ a. cond (is n) (Some tt) (cond (is a) (Some tt) (find name_order q (map entry ms)))) (same-is m.name n same)
          ∙ shadowed (is n) (Some tt) (find name_order q (map entry ms)) ∙ found-behind n q ms
      | false ↦ λ other. refl
    ] refl

set-first : (m : Mention) (ms : List Mention) → symbol_set (m ∷ ms) ≡ insert (symbol_set (behind m.name ms)) m.name tt
set-first m ms = same_map name_total name_is (symbol_set (m ∷ ms)) (insert (symbol_set (behind m.name ms)) m.name tt) (λ q.
    get-from_entries name_total (map entry (m ∷ ms)) q
    ∙ found-behind m.name q ms
    ∙ ap (cond (eq_by_cmp name_order q m.name) (Some tt)) (sym (get-from_entries name_total (map entry (behind m.name ms)) q))
    ∙ sym (get-insert name_total (symbol_set (behind m.name ms)) m.name tt q))

-- a name that ties with one of some names above is above
above-any : (n x : Name) (ms : List Mention) → Above n ms → list_any (λ (m : Mention). eq_by_cmp name_order x m.name) ms ≡ true → name_order n x ≡ Less
above-any n x [] above any = absurd (true≢false (sym any))
above-any n x (m ∷ ms) above any =
    elim (eq_by_cmp name_order x m.name) as (λ b. eq_by_cmp name_order x m.name ≡ b → (b || list_any (λ (m : Mention). eq_by_cmp name_order x m.name) ms) ≡ true → name_order n x ≡ Less) [
      | true ↦ λ tied _. above-tied n x m.name ((Equal-is (name_order x m.name)).0 tied) above.0
      | false ↦ λ _ later. above-any n x ms above.1 later
    ] refl any

-- a name below all of a set comes first
first-entry : (n : Name) (es : List (Name × Unit {0})) → ((x : Name) → list_any (eq_by_cmp name_order x) (map (λ (e : Name × Unit {0}). e.0) es) ≡ true → name_order n x ≡ Less)
    → put name_order n tt es ≡ (n, tt) ∷ es
first-entry n [] below = refl
first-entry n (e ∷ es) below =
    let is : name_order n e.0 ≡ Less = below e.0 (ap (λ b. b || list_any (eq_by_cmp name_order e.0) (map (λ (e : Name × Unit {0}). e.0) es)) (ap is_eq (tied_itself name_total e.0))) in
    ap (λ r. by_order r ((n, tt) ∷ e ∷ es) ((e.0, tt) ∷ es) (e ∷ put name_order n tt es)) is

first-of : (s : FinMap name_order (Unit {0})) (n : Name) → ((x : Name) → list_any (eq_by_cmp name_order x) (keys s) ≡ true → name_order n x ≡ Less)
    → keys (insert s n tt) ≡ n ∷ keys s
first-of s n below = ap (map (λ (e : Name × Unit {0}). e.0)) (entries-insert name_total s n tt ∙ first-entry n (entries s) below)

-- ---- rows

or-true : (a : Bool) → (a || true) ≡ true
or-true true = refl
or-true false = refl

rows-alike : (f g : Name → List ℕ) (names : List Name) → ((x : Name) → list_any (eq_by_cmp name_order x) names ≡ true → f x ≡ g x) → flat_map f names ≡ flat_map g names
rows-alike f g [] same = refl
rows-alike f g (n ∷ names) same =
    let here = same n (ap (λ b. b || list_any (eq_by_cmp name_order n) names) (ap is_eq (tied_itself name_total n))) in
    (λ i. here i ++ flat_map f names)
    ∙ ap (λ rows. g n ++ rows) (rows-alike f g names (λ x any. same x (ap (λ b. eq_by_cmp name_order x n || b) any ∙ or-true _)))

-- the row of the first name, and the rows of those after it
pub rows-first : (finals : Finals) (m : Mention) (ms : List Mention) → Rising (m ∷ ms)
    → symbol_rows finals (m ∷ ms) ≡ row_of finals m.name (leading m.name (m ∷ ms)) ++ symbol_rows finals (behind m.name ms)
rows-first finals m ms rising =
    let n = m.name in
    let later = behind n ms in
    let above : Above n later = above-behind n ms rising.0 rising.1 in
    let all_above : (x : Name) → list_any (eq_by_cmp name_order x) (symbols_in later) ≡ true → name_order n x ≡ Less = λ x any.
    above-any n x later above (sym (found-any x later) ∙ sym (ap is_some (get-from_entries name_total (map entry later) x)) ∙ contains_key-keys (symbol_set later) x ∙ any) in
    let names : symbols_in (m ∷ ms) ≡ n ∷ symbols_in later = ap keys (set-first m ms) ∙ first-of (symbol_set later) n all_above in
    let same = same-itself n in
    let group : mentions_of n (m ∷ ms) ≡ leading n (m ∷ ms) =
    ap (λ b. cond b (m ∷ mentions_of n ms) (mentions_of n ms)) same ∙ ap (λ l. m ∷ l) (mentions-first n ms rising.0 rising.1)
    ∙ sym (ap (λ b. cond b (m ∷ leading n ms) []) same) in
    let skip : behind n (m ∷ ms) ≡ later = ap (λ b. cond b later (m ∷ ms)) same in
    ap (flat_map (λ x. row_of finals x (mentions_of x (m ∷ ms)))) names
    ∙ (λ i. row_of finals n (group i) ++ flat_map (λ x. row_of finals x (mentions_of x (m ∷ ms))) (symbols_in later))
    ∙ ap (λ rows. row_of finals n (leading n (m ∷ ms)) ++ rows) (rows-alike _ _ (symbols_in later) (λ x any.
    ap (row_of finals x) (mentions-above n x (m ∷ ms) (all_above x any) ∙ ap (mentions_of x) skip)))

-- what stands after the first name, counted from the first mention on
pub behind-first : (m : Mention) (ms : List Mention) → behind m.name (m ∷ ms) ≡ behind m.name ms
behind-first m ms = ap (λ b. cond b (behind m.name ms) (m ∷ ms)) (same-itself m.name)

-- ---- walks over the mentions of one symbol

pub defining-here : (ms : List Mention) (i : ℕ) (d : Mention) → i < length ms → (get_or ms i d).is_definition ≡ true → defining_line (drop i ms) ≡ (get_or ms i d).line
defining-here ms i d lt is =
    at_drop_more defining_line ms i d lt
    ∙ ap (λ b. option_map_or (λ (m : Mention). m.line) (cond b (Some (get_or ms i d)) (find_first (λ (m : Mention). m.is_definition) (drop (i + 1) ms))) 0) is

pub defining-later : (ms : List Mention) (i : ℕ) (d : Mention) → i < length ms → (get_or ms i d).is_definition ≡ false → defining_line (drop i ms) ≡ defining_line (drop (i + 1) ms)
defining-later ms i d lt is =
    at_drop_more defining_line ms i d lt
    ∙ ap (λ b. option_map_or (λ (m : Mention). m.line) (cond b (Some (get_or ms i d)) (find_first (λ (m : Mention). m.is_definition) (drop (i + 1) ms))) 0) is

-- ---- the first symbol, as it is cut off

pub group-some : (rest : List Mention) (m : Mention) → Some m ≡ slice_get rest 0 → 1 ≤ prefix_len (is_of m.name) rest
group-some [] m is = absurd (true≢false (ap is_some is))
group-some (x ∷ ms) m is =
    let same : same_name x.name m.name ≡ true = ap (λ (a : Mention). same_name x.name a.name) (same_Some m x is) ∙ same-itself x.name in
    subst (λ b. 1 ≤ cond b (1 + prefix_len (is_of m.name) ms) 0) (sym same) (omega arith)

pub group-within : (rest : List Mention) (n : Name) → prefix_len (is_of n) rest ≤ length rest
group-within rest n = prefix_len-le-length (is_of n) rest

pub rising-drop : (rest : List Mention) (n : Name) → Rising rest → Rising (drop (prefix_len (is_of n) rest) rest)
rising-drop rest n rising = subst Rising (sym (drop-leading n rest)) (rising-behind n rest rising)

pub group-first : (finals : Finals) (rest : List Mention) (m : Mention) → Some m ≡ slice_get rest 0 → Rising rest
    → symbol_rows finals rest ≡ row_of finals m.name (take (prefix_len (is_of m.name) rest) rest) ++ symbol_rows finals (drop (prefix_len (is_of m.name) rest) rest)
group-first finals [] m is rising = absurd (true≢false (ap is_some is))
group-first finals (x ∷ ms) m is rising =
    let rest = x ∷ ms in
    rows-first finals x ms rising
    ∙ (λ i. row_of finals x.name (sym (take-leading x.name rest) i) ++ symbol_rows finals ((sym (behind-first x ms) ∙ sym (drop-leading x.name rest)) i))
    ∙ ap (λ (a : Mention). row_of finals a.name (take (prefix_len (is_of a.name) rest) rest) ++ symbol_rows finals (drop (prefix_len (is_of a.name) rest) rest)) (sym (same_Some m x is))

no_entries : {A : Type 0} (es : List A) → length es ≡ 0 → es ≡ []
no_entries [] is = refl
no_entries (e ∷ es) is = absurd (omega arith)

pub rows-none : (finals : Finals) → symbol_rows finals [] ≡ []
rows-none finals =
    let none = no_entries (entries (symbol_set [])) (sym (len-entries (symbol_set [])) ∙ len-empty name_order (Unit {0})) in
    ap (λ (es : List (Name × Unit {0})). flat_map (λ n. row_of finals n (mentions_of n [])) (map (λ (e : Name × Unit {0}). e.0) es)) none

pub all-cut : (rest : List Mention) → None ≡ slice_get rest 0 → rest ≡ []
all-cut [] is = refl
all-cut (m ∷ ms) is = absurd (true≢false (sym (ap is_some is)))
