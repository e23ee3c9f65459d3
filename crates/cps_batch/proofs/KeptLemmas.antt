-- The statements of lines that are kept in groups.
use Rattle.std.proofs.Common.{◌≡◌, ℕ, ◌+◌, ◌<◌, ◌≤◌, sym, ap, subst, ◌∙◌, List, [], ◌∷◌, ◌++◌, length, get_or, drop, reverse, arith}
use Rattle.std.proofs.Math.Seq.{drop-append_seam}
use Rattle.std.proofs.lemmas.List.{append_assoc, append-nil, drop-drop, get_or_append_left, get_or-drop, length-append, length-drop, reverse-append}
use Rattle.cps_state.specs.declared.item.Item.{Item}
use Rattle.cps_input.specs.Code.Parts.{RisesTo, parts_at}
use Rattle.cps_input.proofs.PartLemmas.{parts-more, rises-more}
use Rattle.cps_batch.specs.Code.KeptLines.{AreKept, statements_in}
use Rattle.cps_batch.specs.declared.kept_lines.KeptStatements.{KeptStatements}

-- the last group of a list is the first of that in the other order
pub first-group : (groups left : List (List (List Item))) (group : List (List Item)) → groups ≡ left ++ group ∷ []
    → statements_in (reverse groups) ≡ group ++ statements_in (reverse left)
first-group groups left group is = ap (λ (g : List (List (List Item))). statements_in (reverse g)) is ∙ ap statements_in (reverse-append left (group ∷ []))

-- one line more, whose statements stay on the scratch
pub line-more : (old new : KeptStatements) (front items : List Item) (size : ℕ) → new.groups.items ≡ old.groups.items → new.ends.items ≡ old.ends.items ++ size ∷ []
    → size ≡ length (front ++ items) → (statements : List (List Item)) → AreKept old front statements → AreKept new (front ++ items) (statements ++ items ∷ [])
line-more old new front items size groups ends long statements so =
    let more = parts-more 0 size old.ends.items front items so.rise long in
    record {
      rise = subst (λ (es : List ℕ). RisesTo 0 es (length (front ++ items))) (sym ends)
          (subst (λ n. RisesTo 0 (old.ends.items ++ size ∷ []) n) long (rises-more 0 (length front) size old.ends.items so.rise (omega (arith, long, length-append front items))));
      are = (λ i. statements_in (groups i) ++ parts_at 0 (ends i) (front ++ items))
          ∙ ap (λ (ps : List (List Item)). statements_in old.groups.items ++ ps) more
          ∙ sym (append_assoc (statements_in old.groups.items) (parts_at 0 old.ends.items front) (items ∷ []))
          ∙ ap (λ (ps : List (List Item)). ps ++ items ∷ []) so.are;
    }

-- a scratch became a group, and no statement stands on the next
pub group-ended : (old kept new : KeptStatements) (items next : List Item) (statements : List (List Item)) → kept.groups.items ≡ old.groups.items → AreKept kept items statements
    → new.ends.items ≡ [] → statements_in new.groups.items ≡ statements_in old.groups.items ++ parts_at 0 kept.ends.items items → next ≡ [] → AreKept new next statements
group-ended old kept new items next statements same so none groups blank = record {
  rise = subst (λ (es : List ℕ). RisesTo 0 es (length next)) (sym none) (sym (ap (λ (l : List Item). length l) blank));
  are = ap (λ (es : List ℕ). statements_in new.groups.items ++ parts_at 0 es next) none
      ∙ append-nil (statements_in new.groups.items) ∙ groups
      ∙ ap (λ (gs : List (List (List Item))). statements_in gs ++ parts_at 0 kept.ends.items items) (sym same)
      ∙ so.are;
}

-- of no line
pub none-kept : (kept : KeptStatements) (items : List Item) → kept.groups.items ≡ [] → kept.ends.items ≡ [] → items ≡ [] → AreKept kept items []
none-kept kept items groups ends none = record {
  rise = subst (λ (es : List ℕ). RisesTo 0 es (length items)) (sym ends) (sym (ap (λ (l : List Item). length l) none));
  are = λ i. statements_in (groups i) ++ parts_at 0 (ends i) items;
}

-- the statements of a line of a group, among those of all lines
pub item-there : (all own rest : List (List Item)) (shown at : ℕ) (items : List Item) → drop shown all ≡ own ++ rest → at < length own → items ≡ get_or own at items
    → items ≡ get_or all (shown + at) items
item-there all own rest shown at items is lt has =
    has ∙ sym (get_or_append_left own rest items at lt) ∙ ap (λ (l : List (List Item)). get_or l at items) (sym is) ∙ get_or-drop shown all at items

-- a group's lines are among all
pub group-reaches : (all own rest : List (List Item)) (shown at : ℕ) → drop shown all ≡ own ++ rest → at < length own → shown + length own ≤ length all
group-reaches all own rest shown at is lt =
    let long = ap (λ (l : List (List Item)). length l) is in
    omega (arith, long, length-drop shown all, length-append own rest, lt)

pub group-within : (all own rest : List (List Item)) (shown : ℕ) → drop shown all ≡ own ++ rest → shown ≤ length all → shown + length own ≤ length all
group-within all own rest shown is within =
    let long = ap (λ (l : List (List Item)). length l) is in
    omega (arith, long, length-drop shown all, length-append own rest, within)

-- what is left behind a group
pub group-shown : (all own rest : List (List Item)) (shown : ℕ) → drop shown all ≡ own ++ rest → drop (shown + length own) all ≡ rest
group-shown all own rest shown is = sym (drop-drop (length own) shown all) ∙ ap (drop (length own)) is ∙ drop-append_seam own rest

-- no group is left
pub none-left : (all : List (List Item)) (groups : List (List (List Item))) (shown : ℕ) → drop shown all ≡ statements_in (reverse groups) → length groups ≡ 0 → length all ≤ shown
none-left all [] shown is none =
    let long = ap (λ (l : List (List Item)). length l) is in
    omega (arith, long, length-drop shown all)
none-left all (group ∷ groups) shown is none = absurd (omega (arith, none))
