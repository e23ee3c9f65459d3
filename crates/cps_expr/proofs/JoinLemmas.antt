-- Reading a list item by item: what has been read, joined with what is left.
use Rattle.std.proofs.Common.{◌≡◌, List, [], ◌∷◌, ◌++◌, Option, None, Some, true, refl, sym, ap, ◌∙◌, append_assoc}
use Rattle.std.specs.Prelude.{option_map, is_none, IfSome, IsSomeAnd}

-- what has been read, in front of what is left to read
abbrev pub joined : {X : Type 0} → List X → Option (List X) → Option (List X)
joined items left = option_map (λ more. items ++ more) left

abbrev pub with_front : {X : Type 0} → X → Option (List X) → Option (List X)
with_front item left = option_map (λ more. item ∷ more) left

pub joined-none : {X : Type 0} (left : Option (List X)) → joined [] left ≡ left
joined-none None = refl
joined-none (Some left) = refl

pub joined-more : {X : Type 0} (items : List X) (item : X) (left : Option (List X)) → joined items (with_front item left) ≡ joined (items ++ item ∷ []) left
joined-more items item None = refl
joined-more items item (Some left) = ap Some (sym (append_assoc items (item ∷ []) left))

pub readable-more : {X : Type 0} (item : X) (left : Option (List X)) → is_none (with_front item left) ≡ is_none left
readable-more item None = refl
readable-more item (Some left) = refl

-- one item more, where memory may have been refused before or now
pub joined-kept : {X V : Type 0} (items : V → List X) (old new : Option V) (item : X) (left rest whole : Option (List X)) → left ≡ with_front item rest
    → IfSome new (λ after. IsSomeAnd old (λ before. items after ≡ items before ++ item ∷ []))
    → IfSome old (λ kept. joined (items kept) left ≡ whole) → IfSome new (λ kept. joined (items kept) rest ≡ whole)
joined-kept items old None item left rest whole is added so_far = tt
joined-kept items None (Some after) item left rest whole is added so_far = absurd added
joined-kept items (Some before) (Some after) item left rest whole is added so_far =
    ap (λ xs. joined xs rest) added ∙ sym (joined-more (items before) item rest) ∙ sym (ap (joined (items before)) is) ∙ so_far

pub unreadable : {X : Type 0} (left whole : Option (List X)) → is_none left ≡ is_none whole → left ≡ None → whole ≡ None
unreadable left None same none = refl
unreadable left (Some whole) same none = let no : is_none left ≡ true = ap is_none none in cc
