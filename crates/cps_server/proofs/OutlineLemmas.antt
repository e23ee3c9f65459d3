-- Rows of an outline that are taken from others, and sections over them.
use Rattle.std.proofs.Common.{◌≡◌, ◌≤◌, ◌<◌, refl, subst, sym, ap, ◌∙◌, ℕ, List, [], ◌∷◌, ◌++◌, map, Some}
use Rattle.std.specs.Prelude.{All, flat_map}
use Rattle.std.specs.List.{AllZip}
use Rattle.std.specs.List.Sorted.{IsPermutation}
use Rattle.std.proofs.lemmas.List.{append_assoc, flat_map_more, map-append}
use Rattle.std.proofs.lemmas.List.Elements.{All-append, All-cons, All-map, All-nil, All-pop, All-push, All-weaker}
use Rattle.std.proofs.lemmas.List.Sorted.{IsPermutation-append_comm, IsPermutation-append_right, IsPermutation-map, IsPermutation-pop_more, IsPermutation-refl, IsPermutation-to_front, IsPermutation-trans}
use Rattle.serde_json.specs.Data.{Data}
use Rattle.serde_json.specs.View.{view}
use Rattle.serde_json.specs.declared.value.Value.{Value}
use Rattle.cps_server.specs.declared.outline_row.OutlineRow.{OutlineRow}
use Rattle.cps_server.specs.Outline.{IsOutlined, IsRow, IsRowBetween, IsSection, IsTree, Section}
use Rattle.cps_server.specs.Code.Outlining.{AddsSections, IsPlaced, TakesRows, TellsPlaced, row_json}

abbrev IsSomeRow : Data → Type 0
IsSomeRow json = (line : ℕ) × IsRow line json

rows-stand : (rows : List OutlineRow) → All IsPlaced rows → All IsSomeRow (map row_json rows)
rows-stand rows placed = All-map IsSomeRow row_json rows (All-weaker IsPlaced (λ (row : OutlineRow). IsSomeRow (row_json row)) (λ row is. (row.line, is)) rows placed)

-- ---- what rows tell, and that they are in their lines

pub zip-told : {A : Type 0} (tells : A → Data → Type 0) (list : List A) (rows : List OutlineRow) → AllZip (TellsPlaced tells) list rows
    → AllZip tells list (map row_json rows) × All IsPlaced rows
zip-told tells [] [] each = (tt, All-nil IsPlaced)
zip-told tells [] (row ∷ rows) each = absurd each
zip-told tells (a ∷ list) [] each = absurd each
zip-told tells (a ∷ list) (row ∷ rows) each =
    let rest = zip-told tells list rows each.1 in
    ((each.0.0, rest.0), All-cons IsPlaced row rows each.0.1 rest.1)

pub row-placed : (kind : ℕ) (detail name : List ℕ) (row : OutlineRow) → IsOutlined kind detail name row.line (row_json row) → IsPlaced row
row-placed kind detail name row is = record { kind = kind; detail = detail; name = name; is = is }

-- ---- rows are taken

pub take-one : (first end : ℕ) (old rest : List OutlineRow) (taken : List Value) (row : OutlineRow) (json : Value)
    → TakesRows first end old (rest ++ row ∷ []) taken → first ≤ row.line → row.line < end → view json ≡ row_json row
    → TakesRows first end old rest (taken ++ json ∷ [])
take-one first end old rest taken row json takes behind before is =
    let more : map view (taken ++ json ∷ []) ≡ map view taken ++ row_json row ∷ [] =
    map-append view taken (json ∷ []) ∙ ap (λ (j : Data). map view taken ++ j ∷ []) is in
    let placed = All-pop IsPlaced (rest ++ row ∷ []) rest (Some row) refl takes.placed in
    record {
      within = subst (All (IsRowBetween first end)) (sym more)
          (All-push (IsRowBetween first end) (map view taken) (row_json row) takes.within
          (record { line = row.line; behind = behind; before = before; is = placed.1 }));
      placed = placed.0;
      same = subst (λ (all : List Data). IsPermutation (map row_json old) (all ++ map row_json rest)) (sym more)
          (IsPermutation-pop_more (map row_json old) (map view taken) (map row_json rest ++ row_json row ∷ []) (map row_json rest) (row_json row)
          (subst (λ (left : List Data). IsPermutation (map row_json old) (map view taken ++ left)) (map-append row_json rest (row ∷ [])) takes.same)
          (IsPermutation-to_front (map row_json rest) (row_json row)));
    }

-- ---- sections are told

abbrev rows_of : Section → List Data
rows_of section = section.rows

abbrev json_of : Section → Data
json_of section = section.json

pub sections-none : (rows : List OutlineRow) → All IsPlaced rows → AddsSections rows rows []
sections-none rows placed = record { sections = []; each = All-nil IsSection; placed = placed; are = refl; same = IsPermutation-refl (map row_json rows) }

pub sections-one : (first end : ℕ) (old mid new : List OutlineRow) (told taken : List Value) (json : Value)
    → AddsSections old mid told → TakesRows first end mid new taken → IsSection (record { rows = map view taken; json = view json })
    → AddsSections old new (told ++ json ∷ [])
sections-one first end old mid new told taken json adds takes is =
    let section : Section = record { rows = map view taken; json = view json } in
    let front = flat_map rows_of adds.sections in
    let left = map row_json new in
    record {
      sections = adds.sections ++ section ∷ [];
      each = All-push IsSection adds.sections section adds.each is;
      placed = takes.placed;
      are = map-append view told (json ∷ []) ∙ ap (λ (jsons : List Data). jsons ++ view json ∷ []) adds.are ∙ sym (map-append json_of adds.sections (section ∷ []));
      same = subst (λ (all : List Data). IsPermutation (map row_json old) (all ++ left)) (flat_map_more rows_of [] adds.sections section)
          (subst (IsPermutation (map row_json old)) (sym (append_assoc front (map view taken) left))
          (IsPermutation-trans (map row_json old) (front ++ map row_json mid) (front ++ (map view taken ++ left)) adds.same
          (IsPermutation-append_right front (map row_json mid) (map view taken ++ left) takes.same)));
    }

-- ---- the tree

pub tree-made : (first end : ℕ) (rows sorted mid left : List OutlineRow) (front rest sections : List Value)
    → IsPermutation rows sorted → TakesRows first end sorted mid front → AddsSections mid left sections → map view rest ≡ map row_json left
    → IsTree (map row_json rows) (map view ((front ++ rest) ++ sections))
tree-made first end rows sorted mid left front rest sections same takes adds is_rest =
    let taken = map view front in
    let over = map row_json left in
    let beneath = flat_map rows_of adds.sections in
    record {
      front = taken ++ over;
      in_line = All-append IsSomeRow taken over
          (All-weaker (IsRowBetween first end) IsSomeRow (λ json between. (between.line, between.is)) taken takes.within) (rows-stand left adds.placed);
      sections = adds.sections;
      each_section = adds.each;
      same = subst (IsPermutation (map row_json rows)) (sym (append_assoc taken over beneath))
          (IsPermutation-trans (map row_json rows) (map row_json sorted) (taken ++ (over ++ beneath)) (IsPermutation-map row_json rows sorted same)
          (IsPermutation-trans (map row_json sorted) (taken ++ map row_json mid) (taken ++ (over ++ beneath)) takes.same
          (IsPermutation-append_right taken (map row_json mid) (over ++ beneath)
          (IsPermutation-trans (map row_json mid) (beneath ++ over) (over ++ beneath) adds.same (IsPermutation-append_comm beneath over)))));
      is = map-append view (front ++ rest) sections ∙ ap (λ (jsons : List Data). jsons ++ map view sections) (map-append view front rest)
          ∙ ap (λ (jsons : List Data). (taken ++ jsons) ++ map view sections) is_rest ∙ ap (λ (jsons : List Data). (taken ++ over) ++ jsons) adds.are;
    }

-- ---- a row by what it tells

pub outlined-as : (kind : ℕ) (a b n m : List ℕ) (l k : ℕ) (json : Data) → a ≡ b → n ≡ m → l ≡ k → IsOutlined kind a n l json → IsOutlined kind b m k json
outlined-as kind a b n m l k json detail name line is =
    subst (λ (line : ℕ). IsOutlined kind b m line json) line
    (subst (λ (name : List ℕ). IsOutlined kind b name l json) name (subst (λ (detail : List ℕ). IsOutlined kind detail n l json) detail is))
