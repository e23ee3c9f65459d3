-- The pieces of a statement, one further.
use Rattle.std.proofs.Common.{◌≡◌, ℕ, ◌+◌, ◌*◌, ◌%◌, ◌<◌, ◌≤◌, List, [], ◌∷◌, ◌++◌, length, get_or, drop, map, flat_map, subst, sym, ap, ◌∙◌, arith, append_assoc}
use Rattle.std.specs.Prelude.{Bool, false, if◌then◌else◌}
use Rattle.std.specs.List.{range_with_len}
use Rattle.std.proofs.lemmas.Grind.{flat_map-append}
use Rattle.std.proofs.lemmas.List.{drop_more}
use Rattle.std.proofs.lemmas.List.Elements.{All-tail}
use Rattle.std.proofs.lemmas.List.FromFn.{map-range_with_len_more}
use Rattle.cps_expr.specs.declared.machine.Machine.{Machine}
use Rattle.cps_expr.specs.declared.machine.Machine.TheVariants.{Cp, Pp}
use Rattle.cps_expr.specs.Item.{bits_of}
use Rattle.cps_code.specs.Image.{Piece}
use Rattle.cps_state.specs.declared.item.Item.{Item}
use Rattle.cps_state.specs.declared.made.Content.{Content}
use Rattle.cps_state.specs.Machines.{limit, behind}
use Rattle.cps_state.specs.Made.{Made, width_of, end_of, HaveRoom}
use Rattle.cps_state.proofs.PlaceLemmas.{end-not-before}
use Rattle.cps_final.specs.Values.{Resolved, PlacedStatement, placed_statement, number_of}
use Rattle.cps_final.specs.Places.{with_places}
use Rattle.cps_final.specs.Pieces.{pieces_at, last_word, zeros_at, placed, content_bits, content_pieces, pieces_of}

-- ---- words

-- the piece in one more word
pub word-next : (p : ℕ → Piece) (g : Piece → List Piece) (old mid new : List Piece) (k : ℕ) (piece : Piece) → mid ≡ old ++ flat_map g (map p (range_with_len 0 k))
    → piece ≡ p k → new ≡ mid ++ flat_map g (piece ∷ []) → new ≡ old ++ flat_map g (map p (range_with_len 0 (k + 1)))
word-next p g old mid new k piece before is pushed =
    pushed ∙ (λ i. before i ++ flat_map g (is i ∷ [])) ∙ append_assoc old (flat_map g (map p (range_with_len 0 k))) (flat_map g (p k ∷ []))
    ∙ ap (λ (l : List Piece). old ++ l) (sym (flat_map-append g (map p (range_with_len 0 k)) (p k ∷ [])))
    ∙ ap (λ (l : List Piece). old ++ flat_map g l) (sym (map-range_with_len_more p 0 k k (omega arith)))

-- ---- contents

behind-in-word : (machine : Machine) (at width : ℕ) → behind machine at width % 60 < bits_of machine
behind-in-word Cp at width = omega (arith)
behind-in-word Pp at width = omega (arith)

-- after a content there is room for the others
room-behind : (machine : Machine) (at : ℕ) (content : Content) (contents : List Content) → HaveRoom machine at (content ∷ contents)
    → HaveRoom machine (behind machine at (width_of content)) contents
room-behind machine at content contents room = record {
  in_word = behind-in-word machine at (width_of content);
  some = All-tail (λ (c : Content). 0 < width_of c) content contents room.some;
  within = room.within;
}

-- from the place where a statement starts its contents have room
pub room-given : (machine : Machine) (at : ℕ) (made : Made) → machine ≡ made.machine → at ≡ made.start → HaveRoom made.machine made.start made.contents → HaveRoom machine at made.contents
room-given machine at made of starts room =
    subst (λ (m : Machine). HaveRoom m at made.contents) (sym of) (subst (λ (n : ℕ). HaveRoom made.machine n made.contents) (sym starts) room)

pub room-low : (machine : Machine) (at : ℕ) (contents : List Content) → HaveRoom machine at contents → at ≤ 60 * limit machine
room-low machine at contents room =
    let after = end-not-before machine at contents in
    let within = room.within in
    omega (arith)

-- the content at an index, with what the code worked out for it: its pieces, and then those after it
module _ (statement : PlacedStatement) (walked all : List Content) (machine : Machine) (at width number next i : ℕ) (content : Content) (of : machine ≡ statement.machine)
    (same : walked ≡ all) (lt : i < length walked) (is : content ≡ get_or walked i content) (wide : width ≡ width_of content)
    (counts : number ≡ number_of statement.known statement.here content) (moved : next ≡ behind machine at width) where
  within : i < length all
  within = subst (λ (l : List Content). i < length l) same lt

  rest-is : drop i all ≡ content ∷ drop (i + 1) all
  rest-is =
      drop_more all i content within
      ∙ ap (λ (c : Content). c ∷ drop (i + 1) all) (sym (is ∙ ap (λ (l : List Content). get_or l i content) same))

  moves : next ≡ behind machine at (width_of content)
  moves = moved ∙ ap (behind machine at) wide

  room-next : HaveRoom machine at (drop i all) → HaveRoom machine next (drop (i + 1) all)
  room-next room =
      let now : HaveRoom machine at (content ∷ drop (i + 1) all) = subst (HaveRoom machine at) rest-is room in
      subst (λ (n : ℕ). HaveRoom machine n (drop (i + 1) all)) (sym moves) (room-behind machine at content (drop (i + 1) all) now)

  pieces-more : content_pieces statement at (drop i all) ≡ pieces_at machine at width number ++ content_pieces statement next (drop (i + 1) all)
  pieces-more =
      let after = drop (i + 1) all in
      let next_at = behind statement.machine at (width_of content) in
      ap (content_pieces statement at) rest-is
      ∙ append_assoc (content_bits statement (at, content)) (flat_map (content_bits statement) (with_places statement.machine next_at after))
      (last_word statement.machine (end_of statement.machine next_at after))
      ∙ (λ j. pieces_at (sym of j) at (sym wide j) (sym counts j) ++ content_pieces statement (behind (sym of j) at (width_of content)) (drop (i + 1) all))
      ∙ ap (λ (n : ℕ). pieces_at machine at width number ++ content_pieces statement n (drop (i + 1) all)) (sym moves)

  pub content-next : (g : Piece → List Piece) (old new end : List Piece) → new ≡ old ++ flat_map g (pieces_at machine at width number)
      → HaveRoom machine at (drop i all) → old ++ flat_map g (content_pieces statement at (drop i all)) ≡ end
      → HaveRoom machine next (drop (i + 1) all) × (new ++ flat_map g (content_pieces statement next (drop (i + 1) all)) ≡ end)
  content-next g old new end pushed room before =
      let own = pieces_at machine at width number in
      let rest = content_pieces statement next (drop (i + 1) all) in (
        room-next room,
        ap (λ (l : List Piece). l ++ flat_map g rest) pushed ∙ append_assoc old (flat_map g own) (flat_map g rest)
            ∙ ap (λ (l : List Piece). old ++ l) (sym (flat_map-append g own rest) ∙ ap (flat_map g) (sym pieces-more)) ∙ before,
      )

-- ---- a statement

-- the filling and the zeros, and then the contents
pub statement-pieces : (finals : Resolved) (item : Item) (statement : PlacedStatement) (base : ℕ) (old skipped new : List Piece)
    → statement ≡ placed_statement finals item → base ≡ statement.base → item.made.only_flags ≡ false
    → skipped ≡ old ++ flat_map (placed item.made.machine base) (item.made.filling ++ zeros_at item.made.machine item.made.start item.made.zeros)
    → new ≡ skipped ++ flat_map (placed statement.machine statement.base) (content_pieces statement item.made.start item.made.contents)
    → new ≡ old ++ pieces_of finals item
statement-pieces finals item statement base old skipped new is based are_bits skips pushed =
    let made = item.made in
    let s = placed_statement finals item in
    let g = placed made.machine s.base in
    let first = made.filling ++ zeros_at made.machine made.start made.zeros in
    let bits = content_pieces s made.start made.contents in
    let skips-now : skipped ≡ old ++ flat_map g first =
    skips ∙ ap (λ (n : ℕ). old ++ flat_map (placed made.machine n) first) (based ∙ ap (λ (t : PlacedStatement). t.base) is) in
    let pushed-now : new ≡ skipped ++ flat_map g bits =
    pushed ∙ ap (λ (t : PlacedStatement). skipped ++ flat_map (placed t.machine t.base) (content_pieces t made.start made.contents)) is in
    pushed-now ∙ ap (λ (l : List Piece). l ++ flat_map g bits) skips-now ∙ append_assoc old (flat_map g first) (flat_map g bits)
    ∙ ap (λ (l : List Piece). old ++ l) (sym (flat_map-append g first bits))
    ∙ ap (λ (b : Bool). old ++ flat_map g (first ++ (if b then [] else bits))) (sym are_bits)
