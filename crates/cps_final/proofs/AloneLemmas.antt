-- The outcome of a line depends on what its statements name alone.
use Rattle.std.proofs.Common.{◌≡◌, ℕ, ◌+◌, ◌/◌, Bool, true, false, List, [], ◌∷◌, ◌++◌, flat_map, Option, Some, pos, get_or, refl, sym, ap, ◌∙◌, arith}
use Rattle.std.specs.Prelude.{All, map, is_none, not, unwrap_or, option_map, nat_abs, nat_le, filter, ℤ, ◌||◌, ◌+ℤ◌, if◌then◌else◌}
use Rattle.std.specs.List.{list_any}
use Rattle.std.proofs.lemmas.List.Elements.{All-nil, All-cons, All-tail}
use Rattle.cps_text.specs.declared.name.Name.{Name}
use Rattle.cps_expr.specs.declared.machine.Machine.{Machine}
use Rattle.cps_expr.specs.declared.value.Value.{Value}
use Rattle.cps_expr.specs.Expression.{Expression, names_of}
use Rattle.cps_expr.specs.Value.{AgreeOn, plain, limited, same_name}
use Rattle.cps_expr.proofs.ValueAlone.{value-alone, undefined-alone}
use Rattle.cps_code.specs.Bits.{word_bits}
use Rattle.cps_code.specs.declared.hole.Hole.{Hole}
use Rattle.cps_code.specs.declared.hole.Operand.{Operand}
use Rattle.cps_code.specs.declared.hole.Operand.TheVariants as operand
use Rattle.cps_code.specs.Operand.{operand_names, operand_literals}
use Rattle.cps_code.specs.Form.{Form, filled, fits_width, put_value, complemented}
use Rattle.cps_state.specs.declared.flags.Flags.{Flags}
use Rattle.cps_state.specs.declared.item.Item.{Item}
use Rattle.cps_state.specs.declared.item.Stand.{Stand}
use Rattle.cps_state.specs.declared.item.Stand.TheVariants.{Nowhere, In}
use Rattle.cps_state.specs.declared.made.Content.{Content}
use Rattle.cps_state.specs.declared.made.Content.TheVariants as content
use Rattle.cps_state.specs.declared.made.SetValue.{SetValue}
use Rattle.cps_state.specs.declared.made.Shown.{Shown}
use Rattle.cps_state.specs.declared.made.Shown.TheVariants as shown
use Rattle.cps_state.specs.Course.{Trace}
use Rattle.cps_state.specs.Flags.{joined}
use Rattle.cps_state.specs.Machines.{limit, behind}
use Rattle.cps_state.specs.Made.{no_flags, width_of, end_of, content_names, content_literals}
use Rattle.cps_final.specs.declared.row.Row.{Row}
use Rattle.cps_final.specs.Finals.{block, label, literal}
use Rattle.cps_final.specs.Values.{Resolved, address_of, address_in, final_of, values_in, Known, known_in, PlacedStatement, placed_statement, plain_offset, value_at, number_at, operand_number, operand_flags, is_valueless, reads_undefined, number_for, form_number, form_flags, number_of, value_flags, first_address}
use Rattle.cps_final.specs.Places.{with_places}
use Rattle.cps_final.specs.Rows.{limit_flags, literal_flags, digits_for, first_digits, second_digits, blank_row, row_at, later_rows, content_rows, with_contents, statement_row, rows_with, rows_made, row_of, rows_of}
use Rattle.cps_final.specs.Pieces.{pieces_at, last_word, zeros_at, placed, content_bits, contents_of, pieces_of}
use Rattle.cps_final.specs.LineNames.{names_read, names_defined}
use Rattle.cps_final.specs.Outcome.{outcome_of, blocks_stood, blocks_shown, AgreeOnItem, AgreeOnNamed}

all-head : {T : Type 0} (P : T → Type 0) (x : T) (xs : List T) → All P (x ∷ xs) → P x
all-head P x xs each = each 0 x (omega arith)

all-split : {T : Type 0} (P : T → Type 0) (xs ys : List T) → All P (xs ++ ys) → All P xs × All P ys
all-split P [] ys each = (All-nil P, each)
all-split P (x ∷ xs) ys each =
    let rest = all-split P xs ys (All-tail P x (xs ++ ys) each) in (All-cons P x xs (all-head P x (xs ++ ys) each) rest.0, rest.1)

-- ---- numbers and flags

abbrev stands_at : Known → Machine → ℕ → ℕ → PlacedStatement
stands_at known machine base here = record { known = known; machine = machine; base = base; here = here }

module _ (o f : Known) (here : ℕ) where
  abbrev Same : List Name → Type 0
  Same names = AgreeOn o.symbols f.symbols names

  abbrev SameWords : List ℕ → Type 0
  SameWords words = All (λ word. o.literals word ≡ f.literals word) words

  abbrev names : List Hole → List Name
  names holes = flat_map (λ hole. operand_names hole.operand) holes

  abbrev words : List Hole → List ℕ
  words holes = flat_map (λ hole. operand_literals hole.operand) holes

  names-split : (xs ys : List Name) → Same (xs ++ ys) → Same xs × Same ys
  names-split xs ys = all-split (λ (name : Name). o.symbols name ≡ f.symbols name) xs ys

  words-split : (xs ys : List ℕ) → SameWords (xs ++ ys) → SameWords xs × SameWords ys
  words-split xs ys = all-split (λ (word : ℕ). o.literals word ≡ f.literals word) xs ys

  at-same : (terms : Expression) → Same (names_of terms) → value_at o.symbols here terms ≡ value_at f.symbols here terms
  at-same terms agree = ap plain_offset (value-alone o.symbols f.symbols (plain (pos here)) terms agree)

  number_at-same : (terms : Expression) → Same (names_of terms) → number_at o.symbols here terms ≡ number_at f.symbols here terms
  number_at-same terms agree = ap (λ (v : Option ℤ). unwrap_or v (pos 0)) (at-same terms agree)

  operand-same : (x : Operand) → Same (operand_names x) → SameWords (operand_literals x) → operand_number o here x ≡ operand_number f here x
  operand-same (operand.Expression terms) agree stand = number_at-same terms agree
  operand-same (operand.Literal word) agree stand = ap pos (all-head (λ (w : ℕ). o.literals w ≡ f.literals w) word [] stand)

  valueless-same : (x : Operand) → Same (operand_names x) → is_valueless o here x ≡ is_valueless f here x
  valueless-same (operand.Expression terms) agree = ap is_none (at-same terms agree)
  valueless-same (operand.Literal word) agree = refl

  undefined-same : (x : Operand) → Same (operand_names x) → reads_undefined o x ≡ reads_undefined f x
  undefined-same (operand.Expression terms) agree = undefined-alone o.symbols f.symbols terms agree
  undefined-same (operand.Literal word) agree = refl

  -- a hole by itself
  alone-same : (hole : Hole) → Same (names (hole ∷ [])) → SameWords (words (hole ∷ [])) → operand_number o here hole.operand ≡ operand_number f here hole.operand
  alone-same hole agree stand =
      operand-same hole.operand (names-split (operand_names hole.operand) [] agree).0 (words-split (operand_literals hole.operand) [] stand).0

  alone-flags : (hole : Hole) → Same (names (hole ∷ [])) → operand_flags o here hole.operand ≡ operand_flags f here hole.operand
  alone-flags hole agree =
      let own = (names-split (operand_names hole.operand) [] agree).0 in
      λ i. record no_flags { operand = valueless-same hole.operand own i; undefined = undefined-same hole.operand own i }

  numbers-same : (holes : List Hole) → Same (names holes) → SameWords (words holes)
      → map (λ hole. number_for hole.kind here (operand_number o here hole.operand)) holes ≡ map (λ hole. number_for hole.kind here (operand_number f here hole.operand)) holes
  numbers-same [] agree stand = refl
  numbers-same (hole ∷ holes) agree stand =
      let split = names-split (operand_names hole.operand) (names holes) agree in
      let literals = words-split (operand_literals hole.operand) (words holes) stand in
      λ i. number_for hole.kind here (operand-same hole.operand split.0 literals.0 i) ∷ numbers-same holes split.1 literals.1 i

  any-same : (p q : Operand → Bool) → ((x : Operand) → Same (operand_names x) → p x ≡ q x) → (holes : List Hole) → Same (names holes)
      → list_any (λ hole. p hole.operand) holes ≡ list_any (λ hole. q hole.operand) holes
  any-same p q same [] agree = refl
  any-same p q same (hole ∷ holes) agree =
      let split = names-split (operand_names hole.operand) (names holes) agree in
      λ i. same hole.operand split.0 i || any-same p q same holes split.1 i

  form_number-same : (form : Form) → Same (names form.holes) → SameWords (words form.holes) → form_number o here form ≡ form_number f here form
  form_number-same form agree stand = λ i. (filled form (numbers-same form.holes agree stand i)).digits

  form_flags-same : (form : Form) → Same (names form.holes) → SameWords (words form.holes) → form_flags o here form ≡ form_flags f here form
  form_flags-same form agree stand = λ i. record no_flags {
    operand = any-same (is_valueless o here) (is_valueless f here) valueless-same form.holes agree i || (filled form (numbers-same form.holes agree stand i)).is_out_of_range;
    cut = (filled form (numbers-same form.holes agree stand i)).is_truncated;
    undefined = any-same (reads_undefined o) (reads_undefined f) undefined-same form.holes agree i;
  }

  number-same : (c : Content) → Same (content_names c) → SameWords (content_literals c) → number_of o here c ≡ number_of f here c
  number-same (content.Instruction form) agree stand = form_number-same form agree stand
  number-same (content.Value hole) agree stand = ap (put_value hole.width) (alone-same hole agree stand)
  number-same (content.Number width number) agree stand = refl
  number-same (content.Unsized hole) agree stand = refl

  flags-same : (c : Content) → Same (content_names c) → SameWords (content_literals c) → value_flags o here c ≡ value_flags f here c
  flags-same (content.Instruction form) agree stand = form_flags-same form agree stand
  flags-same (content.Value hole) agree stand =
      λ i. record (alone-flags hole agree i) { cut = not (fits_width hole.width (alone-same hole agree stand i)) }
  flags-same (content.Number width number) agree stand = refl
  flags-same (content.Unsized hole) agree stand = alone-flags hole agree

  far-same : (machine : Machine) (ws : List ℕ) → SameWords ws → list_any (λ word. nat_le (limit machine) (o.literals word)) ws ≡ list_any (λ word. nat_le (limit machine) (f.literals word)) ws
  far-same machine [] stand = refl
  far-same machine (word ∷ ws) stand =
      let own = all-head (λ (w : ℕ). o.literals w ≡ f.literals w) word ws stand in
      let rest = far-same machine ws (All-tail (λ (w : ℕ). o.literals w ≡ f.literals w) word ws stand) in
      λ i. nat_le (limit machine) (own i) || rest i

  literal_flags-same : (machine : Machine) (c : Content) → SameWords (content_literals c) → literal_flags o.literals machine c ≡ literal_flags f.literals machine c
  literal_flags-same machine c stand = λ i. record no_flags { structure = far-same machine (content_literals c) stand i }

  contents-split : (c : Content) (contents : List Content) → Same (flat_map content_names (c ∷ contents)) → Same (content_names c) × Same (flat_map content_names contents)
  contents-split c contents = names-split (content_names c) (flat_map content_names contents)

  literals-split : (c : Content) (contents : List Content) → SameWords (flat_map content_literals (c ∷ contents)) → SameWords (content_literals c) × SameWords (flat_map content_literals contents)
  literals-split c contents = words-split (content_literals c) (flat_map content_literals contents)

  with-same : (flags : Flags) (contents : List Content) → Same (flat_map content_names contents) → SameWords (flat_map content_literals contents)
      → with_contents o here flags contents ≡ with_contents f here flags contents
  with-same flags [] agree stand = refl
  with-same flags (c ∷ contents) agree stand =
      let split = contents-split c contents agree in
      let literals = literals-split c contents stand in
      ap (λ (own : Flags). with_contents o here (joined flags own) contents) (flags-same c split.0 literals.0)
      ∙ with-same (joined flags (value_flags f here c)) contents split.1 literals.1

  -- ---- contents at one address

  row-same : (machine : Machine) (base : ℕ) (flags : Flags) (is_later : Bool) (at : ℕ) (c : Content) → Same (content_names c) → SameWords (content_literals c)
      → row_at (stands_at o machine base here) flags is_later at c ≡ row_at (stands_at f machine base here) flags is_later at c
  row-same machine base flags is_later at c agree stand = λ i. record {
    flags = joined (joined (joined flags (flags-same c agree stand i)) (literal_flags-same machine c stand i)) (limit_flags machine (base + at / 60));
    location = Some (base + at / 60);
    code = Some (first_digits machine c (number-same c agree stand i));
    second = second_digits machine c (number-same c agree stand i);
    is_later = is_later;
    depth = 0;
    text = [];
  }

  later-same : (machine : Machine) (base at : ℕ) (contents : List Content) → Same (flat_map content_names contents) → SameWords (flat_map content_literals contents)
      → later_rows (stands_at o machine base here) (with_places machine at contents) ≡ later_rows (stands_at f machine base here) (with_places machine at contents)
  later-same machine base at [] agree stand = refl
  later-same machine base at (c ∷ contents) agree stand =
      let split = contents-split c contents agree in
      let literals = literals-split c contents stand in
      let own = row-same machine base no_flags true at c split.0 literals.0 in
      λ i. own i ∷ later-same machine base (behind machine at (width_of c)) contents split.1 literals.1 i

  content_rows-same : (machine : Machine) (base : ℕ) (flags : Flags) (at : ℕ) (contents : List Content)
      → Same (flat_map content_names contents) → SameWords (flat_map content_literals contents)
      → content_rows (stands_at o machine base here) flags (with_places machine at contents) ≡ content_rows (stands_at f machine base here) flags (with_places machine at contents)
  content_rows-same machine base flags at [] agree stand = refl
  content_rows-same machine base flags at (c ∷ contents) agree stand =
      let split = contents-split c contents agree in
      let literals = literals-split c contents stand in
      let own = row-same machine base flags false at c split.0 literals.0 in
      λ i. own i ∷ later-same machine base (behind machine at (width_of c)) contents split.1 literals.1 i

  bits-same : (machine : Machine) (base at : ℕ) (contents : List Content) → Same (flat_map content_names contents) → SameWords (flat_map content_literals contents)
      → flat_map (content_bits (stands_at o machine base here)) (with_places machine at contents)
      ≡ flat_map (content_bits (stands_at f machine base here)) (with_places machine at contents)
  bits-same machine base at [] agree stand = refl
  bits-same machine base at (c ∷ contents) agree stand =
      let split = contents-split c contents agree in
      let literals = literals-split c contents stand in
      let number = number-same c split.0 literals.0 in
      λ i. pieces_at machine at (width_of c) (number i) ++ bits-same machine base (behind machine at (width_of c)) contents split.1 literals.1 i

-- ---- symbols

clash : true ≡ false → ⊥
clash same = cc

-- what holds of the elements that a test keeps
kept-first : {T : Type 0} (P : T → Type 0) (q : T → Bool) (x : T) (xs : List T) (b : Bool) → q x ≡ b → All P (if b then x ∷ filter q xs else filter q xs)
    → (All P (filter q xs) → All (λ y. q y ≡ true → P y) xs) → All (λ y. q y ≡ true → P y) (x ∷ xs)
kept-first P q x xs true is each rest =
    All-cons (λ y. q y ≡ true → P y) x xs (λ yes. all-head P x (filter q xs) each) (rest (All-tail P x (filter q xs) each))
kept-first P q x xs false is each rest = All-cons (λ y. q y ≡ true → P y) x xs (λ yes. absurd (clash (sym yes ∙ is))) (rest each)

all-kept : {T : Type 0} (P : T → Type 0) (q : T → Bool) (xs : List T) → All P (filter q xs) → All (λ x. q x ≡ true → P x) xs
all-kept P q [] each = All-nil (λ x. q x ≡ true → P x)
all-kept P q (x ∷ xs) each = kept-first P q x xs (q x) refl each (all-kept P q xs)

all-so : {T : Type 0} (P Q : T → Type 0) → ((x : T) → P x → Q x) → (xs : List T) → All P xs → All Q xs
all-so P Q so xs each = λ k d lt. so (get_or xs k d) (each k d lt)

abbrev is_held : List SetValue → Name → Bool
is_held held name = list_any (λ (h : SetValue). same_name h.name name) held

abbrev Stands : Resolved → Resolved → Option Name → Type 0
Stands others finals name = others (block name) ≡ finals (block name)

final-same : (others finals : Resolved) (value : Value) → Stands others finals value.block → final_of others value ≡ final_of finals value
final-same others finals value agree = ap (λ (b : Option Value). limited (plain (value.offset +ℤ pos (address_of b)))) agree

module _ (others finals : Resolved) (name : Name) where
  abbrev AgreesFree : List SetValue → Type 0
  AgreesFree held = is_held held name ≡ false → others (label name) ≡ finals (label name)

  value-first : (h : SetValue) (held : List SetValue) → Stands others finals h.value.block → AgreesFree (h ∷ held)
      → (AgreesFree held → values_in others held name ≡ values_in finals held name) → (b : Bool) → same_name h.name name ≡ b
      → (if b then final_of others h.value else values_in others held name) ≡ (if b then final_of finals h.value else values_in finals held name)
  value-first h held stands agree rest true is = final-same others finals h.value stands
  value-first h held stands agree rest false is = rest (λ none. agree (ap (λ (b : Bool). b || is_held held name) is ∙ none))

  value-same : (held : List SetValue) → All (Stands others finals) (map (λ h. h.value.block) held) → AgreesFree held → values_in others held name ≡ values_in finals held name
  value-same [] stand agree = agree refl
  value-same (h ∷ held) stand agree =
      let blocks = map (λ (h : SetValue). h.value.block) held in
      value-first h held (all-head (Stands others finals) h.value.block blocks stand) agree
      (value-same held (All-tail (Stands others finals) h.value.block blocks stand)) (same_name h.name name) refl

address-same : (others finals : Resolved) (stand : Stand) → All (Stands others finals) (blocks_stood stand) → address_in others stand ≡ address_in finals stand
address-same others finals Nowhere agree = refl
address-same others finals (In name) agree = ap address_of (all-head (Stands others finals) name [] agree)

-- ---- rows and bits

-- ways of giving final values that agree on what a statement names give the same values and addresses in it
module _ (others finals : Resolved) (item : Item) (agree : AgreeOnItem others finals item) where
  abbrev o : Known
  o = known_in others item.made

  abbrev f : Known
  f = known_in finals item.made

  abbrev here : ℕ
  here = first_address finals item

  own-blocks : All (Stands others finals) (blocks_stood item.stand ++ blocks_shown item.made.shown) × All (Stands others finals) (map (λ h. h.value.block) item.made.held)
  own-blocks = all-split (Stands others finals) (blocks_stood item.stand ++ blocks_shown item.made.shown) (map (λ h. h.value.block) item.made.held) agree.blocks

  row-blocks : All (Stands others finals) (blocks_stood item.stand) × All (Stands others finals) (blocks_shown item.made.shown)
  row-blocks = all-split (Stands others finals) (blocks_stood item.stand) (blocks_shown item.made.shown) own-blocks.0

  symbols-same : AgreeOn o.symbols f.symbols (flat_map content_names item.made.contents)
  symbols-same =
      let names = flat_map content_names item.made.contents in
      let held = item.made.held in
      let read = all-kept (λ (name : Name). others (label name) ≡ finals (label name)) (λ name. not (is_held held name)) names agree.labels in
      all-so (λ name. not (is_held held name) ≡ true → others (label name) ≡ finals (label name)) (λ name. o.symbols name ≡ f.symbols name)
      (λ name same. value-same others finals name held own-blocks.1 (λ none. same (ap not none))) names read

  literals-same : All (λ word. o.literals word ≡ f.literals word) (flat_map content_literals item.made.contents)
  literals-same =
      all-so (λ word. others (literal word) ≡ finals (literal word)) (λ word. o.literals word ≡ f.literals word) (λ word same. ap address_of same)
      (flat_map content_literals item.made.contents) agree.literals

  base-same : address_in others item.stand ≡ address_in finals item.stand
  base-same = address-same others finals item.stand row-blocks.0

  first-same : first_address others item ≡ here
  first-same = ap (λ (n : ℕ). n + item.made.start / 60) base-same

  standing-same : placed_statement others item ≡ stands_at o item.made.machine (address_in finals item.stand) here
  standing-same = λ i. record { known = o; machine = item.made.machine; base = base-same i; here = first-same i }

  statement-same : (shows : Shown) → All (Stands others finals) (blocks_shown shows) → statement_row others item shows ≡ statement_row finals item shows
  statement-same shown.Nothing blocks = refl
  statement-same (shown.Value value) blocks =
      let same = final-same others finals value (all-head (Stands others finals) value.block [] blocks) in
      λ i. record (blank_row item.made.flags) { code = option_map (λ (v : Value). digits_for word_bits (complemented word_bits v.offset)) (same i) }
  statement-same (shown.Address value) blocks =
      let same = final-same others finals value (all-head (Stands others finals) value.block [] blocks) in
      λ i. record (blank_row item.made.flags) { location = option_map (λ (v : Value). nat_abs v.offset) (same i) }
  statement-same shown.Start blocks =
      λ i. record (blank_row (joined item.made.flags (limit_flags item.made.machine (first-same i)))) { location = Some (first-same i) }

  rows_with-same : (contents : List Content) → AgreeOn o.symbols f.symbols (flat_map content_names contents) → All (λ word. o.literals word ≡ f.literals word) (flat_map content_literals contents)
      → rows_with others item contents ≡ rows_with finals item contents
  rows_with-same [] names literals = ap (λ (r : Row). r ∷ []) (statement-same item.made.shown row-blocks.1)
  rows_with-same (c ∷ contents) names literals =
      let base = address_in finals item.stand in
      ap (λ (s : PlacedStatement). if item.made.only_flags then blank_row (with_contents s.known s.here item.made.flags (c ∷ contents)) ∷ []
      else content_rows s item.made.flags (with_places s.machine item.made.start (c ∷ contents))) standing-same
      ∙ (λ i. if item.made.only_flags then blank_row (with-same o f here item.made.flags (c ∷ contents) names literals i) ∷ []
      else content_rows-same o f here item.made.machine base item.made.flags item.made.start (c ∷ contents) names literals i)

  rows-same : rows_made others item ≡ rows_made finals item
  rows-same = rows_with-same item.made.contents symbols-same literals-same

  pieces-same : pieces_of others item ≡ pieces_of finals item
  pieces-same =
      let made = item.made in
      let base = address_in finals item.stand in
      ap (λ (s : PlacedStatement). flat_map (placed made.machine s.base) (made.filling ++ zeros_at made.machine made.start made.zeros ++ contents_of s made)) standing-same
      ∙ (λ i. flat_map (placed made.machine base) (made.filling ++ zeros_at made.machine made.start made.zeros
      ++ (if made.only_flags then [] else bits-same o f here made.machine base made.start made.contents symbols-same literals-same i
      ++ last_word made.machine (end_of made.machine made.start made.contents))))

-- ---- a line

all-rows-same : (others finals : Resolved) (items : List Item) → All (AgreeOnItem others finals) items → flat_map (rows_of others) items ≡ flat_map (rows_of finals) items
all-rows-same others finals [] agree = refl
all-rows-same others finals (item ∷ items) agree =
    λ i. map (row_of item) (rows-same others finals item (all-head (AgreeOnItem others finals) item items agree) i)
    ++ all-rows-same others finals items (All-tail (AgreeOnItem others finals) item items agree) i

all-pieces-same : (others finals : Resolved) (items : List Item) → All (AgreeOnItem others finals) items → flat_map (pieces_of others) items ≡ flat_map (pieces_of finals) items
all-pieces-same others finals [] agree = refl
all-pieces-same others finals (item ∷ items) agree =
    λ i. pieces-same others finals item (all-head (AgreeOnItem others finals) item items agree) i
    ++ all-pieces-same others finals items (All-tail (AgreeOnItem others finals) item items agree) i

pub outcome-alone : (others finals : Resolved) (trace : Trace) → AgreeOnNamed others finals trace → outcome_of others trace ≡ outcome_of finals trace
outcome-alone others finals trace agree = λ i. record {
  rows = all-rows-same others finals trace.items agree i;
  pieces = all-pieces-same others finals trace.items agree i;
  defined = names_defined trace;
  read = names_read trace;
}
