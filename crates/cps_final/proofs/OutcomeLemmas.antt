-- Pass two, one content or one statement further.
use Rattle.std.proofs.Common.{◌≡◌, ℕ, ◌+◌, ◌*◌, ◌<◌, ◌≤◌, Bool, true, false, List, [], ◌∷◌, ◌++◌, length, get_or, take, drop, flat_map, refl, sym, ap, subst, ◌∙◌, arith, append-nil, append_assoc, true≢false, Result, Ok, Err}
use Rattle.std.specs.Prelude.{map, if◌then◌else◌, is_ok, OnOk}
use Rattle.std.proofs.lemmas.Grind.{flat_map-append}
use Rattle.std.proofs.lemmas.List.{take_more, take_all, drop_more}
use Rattle.std.proofs.lemmas.List.Sums.{fold-append}
use Rattle.indexmap.specs.IndexSet.{insert_all, insert_key}
use Rattle.cps_text.specs.declared.name.Name.{Name}
use Rattle.cps_expr.specs.declared.machine.Machine.{Machine}
use Rattle.cps_expr.specs.Value.{same_name}
use Rattle.cps_state.specs.declared.flags.Flags.{Flags}
use Rattle.cps_state.specs.declared.made.Content.{Content}
use Rattle.cps_state.specs.declared.item.Item.{Item}
use Rattle.cps_state.specs.declared.key.Put.{Put}
use Rattle.cps_state.specs.Course.{Trace}
use Rattle.cps_state.specs.Flags.{joined}
use Rattle.cps_state.specs.Machines.{limit, behind}
use Rattle.cps_state.specs.Made.{no_flags, width_of, end_of}
use Rattle.cps_state.proofs.PlaceLemmas.{end-not-before, end-next}
use Rattle.cps_final.specs.declared.row.Row.{Row}
use Rattle.cps_final.specs.Values.{Resolved, known_in, PlacedStatement, placed_statement, first_address}
use Rattle.cps_final.specs.Places.{with_places}
use Rattle.cps_final.specs.Rows.{row_at, later_rows, content_rows, with_contents, blank_row, rows_with, row_of}
use Rattle.cps_final.specs.LineNames.{defined_by, names_defined, names_later, names_read, read_by, symbol_put}
use Rattle.cps_final.specs.Code.NamesKept.{few_or_many}
use Rattle.cps_final.specs.Outcome.{Output, output_of, outcome_of, joined_with}
use Rattle.cps_final.proofs.BlockLemmas.{same_name-laws}
use Rattle.cps_final.proofs.GatherLemmas.{distinct-append}

-- ---- the walk over contents

-- the rows from a place on, where the first has these flags
abbrev pub rows_from : PlacedStatement → Flags → Bool → ℕ → List Content → List Row
rows_from statement flags is_later at [] = []
rows_from statement flags is_later at (content ∷ contents) =
    row_at statement flags is_later at content ∷ rows_from statement no_flags true (behind statement.machine at (width_of content)) contents

rows_from-later : (statement : PlacedStatement) (at : ℕ) (contents : List Content)
    → rows_from statement no_flags true at contents ≡ later_rows statement (with_places statement.machine at contents)
rows_from-later statement at [] = refl
rows_from-later statement at (content ∷ contents) =
    ap (λ (l : List Row). row_at statement no_flags true at content ∷ l) (rows_from-later statement (behind statement.machine at (width_of content)) contents)

pub rows_from-first : (statement : PlacedStatement) (flags : Flags) (at : ℕ) (contents : List Content)
    → rows_from statement flags false at contents ≡ content_rows statement flags (with_places statement.machine at contents)
rows_from-first statement flags at [] = refl
rows_from-first statement flags at (content ∷ contents) =
    ap (λ (l : List Row). row_at statement flags false at content ∷ l) (rows_from-later statement (behind statement.machine at (width_of content)) contents)

-- the same from what the code worked out
pub rows_from-given : (statement found : PlacedStatement) (flags own : Flags) (start at : ℕ) (contents : List Content) → found ≡ statement → own ≡ flags → at ≡ start
    → rows_from found own false at contents ≡ content_rows statement flags (with_places statement.machine start contents)
rows_from-given statement found flags own start at contents of given starts =
    (λ i. rows_from (of i) (given i) false (starts i) contents) ∙ rows_from-first statement flags start contents

-- the content at an index, its row, and the place after it
pub record Step (statement : PlacedStatement) (contents : List Content) (machine : Machine) (flags : Flags) (is_later : Bool) (at next i : ℕ) (content : Content) (row : Row) : Type 0 where
  pub of : machine ≡ statement.machine
  pub within : i < length contents
  pub is : content ≡ get_or contents i content
  pub moved : next ≡ behind machine at (width_of content)
  pub shows : row ≡ row_at statement flags is_later at content

-- the same from what the code worked out
pub step : (statement : PlacedStatement) (contents walked : List Content) (machine : Machine) (flags : Flags) (is_later : Bool) (at next width i : ℕ) (content : Content) (row : Row)
    → machine ≡ statement.machine → walked ≡ contents → i < length walked → content ≡ get_or walked i content → width ≡ width_of content → next ≡ behind machine at width
    → row ≡ row_at statement flags is_later at content → Step statement contents machine flags is_later at next i content row
step statement contents walked machine flags is_later at next width i content row of same lt is wide moved shows = record {
  of = of;
  within = subst (λ (l : List Content). i < length l) same lt;
  is = is ∙ ap (λ (l : List Content). get_or l i content) same;
  moved = moved ∙ ap (behind machine at) wide;
  shows = shows;
}

module _ (statement : PlacedStatement) (contents : List Content) (machine : Machine) (flags : Flags) (is_later : Bool) (at next i : ℕ) (content : Content) (row : Row)
    (so : Step statement contents machine flags is_later at next i content row) where
  pub room-next : end_of machine at (drop i contents) ≤ 60 * limit machine
      → (next ≤ 60 * limit machine) × (end_of machine next (drop (i + 1) contents) ≤ 60 * limit machine)
  room-next room =
      let same = end-next machine at next (end_of machine at (drop i contents)) contents i content so.within so.is so.moved refl in
      let ends : end_of machine next (drop (i + 1) contents) ≤ 60 * limit machine = subst (λ (n : ℕ). n ≤ 60 * limit machine) (sym same) room in
      let after = end-not-before machine next (drop (i + 1) contents) in
      (omega (arith, after, ends), ends)

  -- the rows from a content on are its own and those after it
  rows-more : rows_from statement flags is_later at (drop i contents) ≡ row ∷ rows_from statement no_flags true next (drop (i + 1) contents)
  rows-more =
      let moved : next ≡ behind statement.machine at (width_of content) = so.moved ∙ ap (λ (m : Machine). behind m at (width_of content)) so.of in
      ap (rows_from statement flags is_later at) (drop_more contents i content so.within)
      ∙ ap (λ (c : Content). row_at statement flags is_later at c
      ∷ rows_from statement no_flags true (behind statement.machine at (width_of c)) (drop (i + 1) contents)) (sym so.is)
      ∙ (λ j. sym so.shows j ∷ rows_from statement no_flags true (sym moved j) (drop (i + 1) contents))

  pub rows-next : (item : Item) (rows new end : List Row) (next_flags : Flags) → new ≡ rows ++ row_of item row ∷ [] → next_flags ≡ no_flags
      → rows ++ map (row_of item) (rows_from statement flags is_later at (drop i contents)) ≡ end
      → new ++ map (row_of item) (rows_from statement next_flags true next (drop (i + 1) contents)) ≡ end
  rows-next item rows new end next_flags pushed none so_far =
      let rest = map (row_of item) (rows_from statement no_flags true next (drop (i + 1) contents)) in
      ap (λ (f : Flags). new ++ map (row_of item) (rows_from statement f true next (drop (i + 1) contents))) none
      ∙ ap (λ (l : List Row). l ++ rest) pushed ∙ append_assoc rows (row_of item row ∷ []) rest
      ∙ sym (ap (λ (l : List Row). rows ++ map (row_of item) l) rows-more) ∙ so_far

  pub flags-next : (all new end next_flags : Flags) → new ≡ joined all row.flags → next_flags ≡ no_flags
      → joined_with all (rows_from statement flags is_later at (drop i contents)) ≡ end
      → joined_with new (rows_from statement next_flags true next (drop (i + 1) contents)) ≡ end
  flags-next all new end next_flags joins none so_far =
      ap (λ (f : Flags). joined_with new (rows_from statement f true next (drop (i + 1) contents))) none
      ∙ ap (λ (f : Flags). joined_with f (rows_from statement no_flags true next (drop (i + 1) contents))) joins
      ∙ sym (ap (joined_with all) rows-more) ∙ so_far

-- the rows of contents that are bits
pub contents-rows : (finals : Resolved) (item : Item) (statement : PlacedStatement) (contents : List Content) → 0 < length contents → item.made.only_flags ≡ false → statement ≡ placed_statement finals item
    → rows_with finals item contents ≡ content_rows statement item.made.flags (with_places statement.machine item.made.start contents)
contents-rows finals item statement [] some are_bits is = absurd (omega (arith, some))
contents-rows finals item statement (content ∷ contents) some are_bits is =
    let all = content ∷ contents in
    let flags = item.made.flags in
    ap (λ (b : Bool). if b then blank_row (with_contents (known_in finals item.made) (first_address finals item) flags all) ∷ []
    else content_rows (placed_statement finals item) flags (with_places item.made.machine item.made.start all)) are_bits
    ∙ sym (ap (λ (s : PlacedStatement). content_rows s flags (with_places s.machine item.made.start all)) is)

-- all contents were walked
pub flags-all : (statement found : PlacedStatement) (flags all : Flags) (contents : List Content) (i : ℕ) → length contents ≤ i → found ≡ statement
    → all ≡ with_contents found.known found.here flags (take i contents) → all ≡ with_contents statement.known statement.here flags contents
flags-all statement found flags all contents i past is so_far =
    so_far ∙ ap (with_contents found.known found.here flags) (take_all i contents past) ∙ ap (λ (s : PlacedStatement). with_contents s.known s.here flags contents) is

-- ---- lists

pub flat_map-more : {X Y : Type 0} (f : X → List Y) (xs : List X) (i : ℕ) (x : X) → i < length xs → x ≡ get_or xs i x
    → flat_map f (take (i + 1) xs) ≡ flat_map f (take i xs) ++ f x
flat_map-more f xs i x lt is =
    ap (flat_map f) (take_more xs i x lt) ∙ flat_map-append f (take i xs) (get_or xs i x ∷ []) ∙ ap (λ l. flat_map f (take i xs) ++ l) (append-nil (f (get_or xs i x)))
    ∙ ap (λ y. flat_map f (take i xs) ++ f y) (sym is)

-- what a call that succeeded ensures
pub at_ok : {T E P : Type 0} (r : Result T E) → is_ok r ≡ true → OnOk r P → P
at_ok (Ok x) ok p = p
at_ok (Err e) ok p = absurd (true≢false (sym ok))

-- ---- a line

-- the names of a line, inserted one after another into none
pub defined-made : (puts : List Put) (none defined : List Name) → none ≡ [] → defined ≡ insert_all same_name none (flat_map (λ p. symbol_put p.key) puts) → defined ≡ defined_by puts
defined-made puts none defined is_none defines =
    defines ∙ ap (λ (l : List Name). insert_all same_name l (flat_map (λ p. symbol_put p.key) puts)) is_none
    ∙ sym (distinct-append same_name same_name-laws [] (flat_map (λ p. symbol_put p.key) puts))

pub read-made : (reads : List Name) (items : List Item) (none read : List Name) → none ≡ [] → read ≡ insert_all same_name none (reads ++ names_later items) → read ≡ read_by reads items
read-made reads items none read is_none made =
    made ∙ ap (λ (l : List Name). insert_all same_name l (reads ++ names_later items)) is_none
    ∙ sym (distinct-append same_name same_name-laws [] (reads ++ names_later items))

-- those that are read now, and then those that are read later
pub reads-join : (reads : List Name) (items : List Item) (old mid new : List Name) → mid ≡ insert_all same_name old reads → new ≡ insert_all same_name mid (names_later items)
    → new ≡ insert_all same_name old (reads ++ names_later items)
reads-join reads items old mid new first later =
    later ∙ ap (λ (l : List Name). insert_all same_name l (names_later items)) first ∙ sym (fold-append (insert_key same_name) old reads (names_later items))

pub outcome-made : (finals : Resolved) (trace : Trace) (output : Output) (defined read : List Name) (items : List Item) → items ≡ trace.items
    → output ≡ output_of finals items → defined ≡ names_defined trace → read ≡ names_read trace
    → record { rows = output.rows; pieces = output.pieces; defined = defined; read = read } ≡ outcome_of finals trace
outcome-made finals trace output defined read items is shows defines reads =
    λ i. record {
      rows = ((shows ∙ ap (output_of finals) is) i).rows;
      pieces = ((shows ∙ ap (output_of finals) is) i).pieces;
      defined = defines i;
      read = reads i;
    }

pub appends-more : {X Y : Type 0} (f : X → List Y) (xs : List X) (i : ℕ) (x : X) (mid new : List Y) → i < length xs → x ≡ get_or xs i x
    → mid ≡ flat_map f (take i xs) → new ≡ mid ++ f x → new ≡ flat_map f (take (i + 1) xs)
appends-more f xs i x mid new lt is before made = made ∙ ap (λ l. l ++ f x) before ∙ sym (flat_map-more f xs i x lt is)

-- ---- flags

-- a few names, or many: which of them there are
pub all-few : (few many : List Name) → many ≡ [] → few_or_many few many ≡ few
all-few few many none = ap (few_or_many few) none

pub all-many : (few many : List Name) → few ≡ [] → few_or_many few many ≡ many
all-many few [] none = none
all-many few (name ∷ names) none = refl
