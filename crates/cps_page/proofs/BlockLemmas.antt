-- The blocks to which links can lead, one after another.
use Rattle.std.proofs.Common.{◌≡◌, ℕ, ◌+◌, ◌≤◌, Bool, true, false, true≢false, cond, ◌||◌, refl, ap, ◌∙◌, List, [], ◌∷◌, ◌++◌, zero-add, arith}
use Rattle.std.specs.Prelude.{count_by}
use Rattle.std.specs.List.{list_any}
use Rattle.std.proofs.lemmas.List.Elements.{All-append}
use Rattle.std.proofs.lemmas.List.Sums.{sum_by-append}
use Rattle.cps_text.specs.declared.name.Name.{Name}
use Rattle.cps_expr.specs.Value.{same_name}
use Rattle.cps_list.proofs.OrderLemmas.{same-is}
use Rattle.cps_markup.specs.declared.place.Place.TheVariants.{Block}
use Rattle.cps_markup.specs.PlaceLaws.{IsWritten}
use Rattle.cps_markup.proofs.AddsLemmas.{all-none, all-one}
use Rattle.cps_page.specs.Code.Making.{AreBlocks}

pub blocks-none : AreBlocks []
blocks-none = record { once = λ name. omega arith; written = all-none _ }

abbrev one_if : Bool → ℕ
one_if b = cond b 1 0

count-more : (p : Name → Bool) (blocks : List Name) (block : Name) → count_by p (blocks ++ block ∷ []) ≡ count_by p blocks + one_if (p block)
count-more p blocks block = sum_by-append (λ (b : Name). one_if (p b)) blocks (block ∷ []) ∙ ap (λ n. count_by p blocks + n) (zero-add (one_if (p block)))

count-cons : (p : Name → Bool) (block : Name) (blocks : List Name) → count_by p (block ∷ blocks) ≡ one_if (p block) + count_by p blocks
count-cons p block blocks = sum_by-append (λ (b : Name). one_if (p b)) (block ∷ []) blocks ∙ ap (λ n. n + count_by p blocks) (zero-add (one_if (p block)))

or-none : (a b : Bool) → (a || b) ≡ false → (a ≡ false) × (b ≡ false)
or-none true b h = absurd (true≢false h)
or-none false b h = (refl, h)

none-counted : (p : Name → Bool) (blocks : List Name) → list_any p blocks ≡ false → count_by p blocks ≡ 0
none-counted p [] none = refl
none-counted p (block ∷ blocks) none =
    let both = or-none _ _ none in
    let count = count-cons p block blocks in
    let no : one_if (p block) ≡ 0 = ap one_if both.0 in
    let later = none-counted p blocks both.1 in
    omega (arith, count, no, later)

pub block-more : (blocks : List Name) (block : Name) → AreBlocks blocks → list_any (same_name block) blocks ≡ false → IsWritten (Block block) → AreBlocks (blocks ++ block ∷ [])
block-more blocks block are other written = record {
  once = λ name.
      let count = count-more (same_name name) blocks block in
      elim (same_name name block) as (λ b. same_name name block ≡ b → count_by (same_name name) (blocks ++ block ∷ []) ≤ 1) [
        | true ↦ λ same.
            let one : one_if (same_name name block) ≡ 1 = ap one_if same in
            let none = none-counted (same_name name) blocks (ap (λ (n : Name). list_any (same_name n) blocks) (same-is name block same) ∙ other) in
            omega (arith, count, one, none)
        | false ↦ λ differs.
            let no : one_if (same_name name block) ≡ 0 = ap one_if differs in
            let once = are.once name in
            omega (arith, count, no, once)
      ] refl;
  written = let P : Name → Type 0 = λ n. IsWritten (Block n) in All-append P blocks (block ∷ []) are.written (all-one P block written);
}
