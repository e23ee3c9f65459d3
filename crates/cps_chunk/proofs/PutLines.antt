-- Lines in the place of others, as single edits.
use Rattle.std.proofs.Common.{◌≡◌, ◌+◌, ◌-◌, sym, ap, ◌∙◌, [], ◌∷◌, ◌++◌, append_assoc, length, take, drop, arith}
use Rattle.std.proofs.lemmas.List.{length-append, length-take-le}
use Rattle.cps_edit.proofs.ListLemmas.{take-here, drop-here}
use Rattle.cps_chunk.specs.EditLaws.{PutsAreOneByOne}

pub puts-one-by-one : PutsAreOneByOne
puts-one-by-one lines keep from le = (
  ap (λ k. take k lines ++ drop from lines) none,
  λ new line.
      let front = take keep lines in
      let back = drop from lines in
      let count : keep + length new ≡ length (front ++ new) = omega (arith, length-append front new, length-take-le keep lines le) in
      let all : front ++ (new ++ back) ≡ (front ++ new) ++ back = sym (append_assoc front new back) in
      let before : take (keep + length new) (front ++ (new ++ back)) ≡ front ++ new = ap (take (keep + length new)) all ∙ take-here (front ++ new) back (keep + length new) count in
      let behind : drop (keep + length new) (front ++ (new ++ back)) ≡ back = ap (drop (keep + length new)) all ∙ drop-here (front ++ new) back (keep + length new) count in
      ap (λ xs. front ++ xs) (append_assoc new (line ∷ []) back) ∙ sym (append_assoc front new (line ∷ back)) ∙ (λ i. sym before i ++ line ∷ sym behind i),
)
  where
    none : keep ≡ keep + 1 - 1
    none = omega arith
