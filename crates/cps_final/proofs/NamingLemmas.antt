-- A test of what a statement names, one thing after another.
use Rattle.std.proofs.Common.{◌≡◌, ℕ, refl, sym, ap, ◌∙◌, Bool, true, false, List, [], ◌∷◌, ◌++◌}
use Rattle.std.specs.Prelude.{◌&&◌, ◌||◌, not, map, filter, flat_map, if◌then◌else◌}
use Rattle.std.specs.List.{list_any, list_all}
use Rattle.std.proofs.lemmas.Grind.{flat_map-append}
use Rattle.std.proofs.lemmas.List.Folds.{list_all-append, list_all-map}
use Rattle.cps_text.specs.declared.name.Name.{Name}
use Rattle.cps_expr.specs.Expression.{names_of}
use Rattle.cps_expr.specs.Value.{same_name}
use Rattle.cps_code.specs.declared.hole.Hole.{Hole}
use Rattle.cps_code.specs.declared.hole.Operand.{Operand}
use Rattle.cps_code.specs.declared.hole.Operand.TheVariants.{Expression, Literal}
use Rattle.cps_code.specs.Operand.{operand_names, operand_literals}
use Rattle.cps_state.specs.declared.item.Item.{Item}
use Rattle.cps_state.specs.declared.made.Content.{Content}
use Rattle.cps_state.specs.declared.made.SetValue.{SetValue}
use Rattle.cps_state.specs.Made.{holes_of, content_names, content_literals}
use Rattle.cps_final.specs.Finals.{Named, label, block, literal}
use Rattle.cps_final.specs.Naming.{all_named}
use Rattle.cps_final.specs.Outcome.{labels_read, blocks_named}
use Rattle.cps_final.specs.Code.NamesPassing.{name_passes, operand_passes, hole_passes, contents_pass}

-- ---- tests of lists, one after another

pub flat-all : {X Y : Type 0} (p : Y → Bool) (f : X → List Y) (xs : List X) → list_all (λ x. list_all p (f x)) xs ≡ list_all p (flat_map f xs)
flat-all p f [] = refl
flat-all p f (x ∷ xs) = ap (λ b. list_all p (f x) && b) (flat-all p f xs) ∙ sym (list_all-append p (f x) (flat_map f xs))

pub flat-flat : {X Y Z : Type 0} (f : Y → List Z) (g : X → List Y) (xs : List X) → flat_map (λ x. flat_map f (g x)) xs ≡ flat_map f (flat_map g xs)
flat-flat f g [] = refl
flat-flat f g (x ∷ xs) = ap (λ l. flat_map f (g x) ++ l) (flat-flat f g xs) ∙ sym (flat_map-append f (g x) (flat_map g xs))

out-all : {X : Type 0} (p out : X → Bool) (xs : List X) → list_all (λ x. out x || p x) xs ≡ list_all p (filter (λ x. not (out x)) xs)
out-all p out [] = refl
out-all p out (x ∷ xs) = join (out x) (out-all p out xs)
  where
    join : (left : Bool) → list_all (λ y. out y || p y) xs ≡ list_all p (filter (λ y. not (out y)) xs)
        → ((left || p x) && list_all (λ y. out y || p y) xs) ≡ list_all p (if not left then x ∷ filter (λ y. not (out y)) xs else filter (λ y. not (out y)) xs)
    join true same = same
    join false same = ap (λ b. p x && b) same

true-and : (a b : Bool) → a ≡ true → (a && b) ≡ b
true-and true b h = refl
true-and false b h = cc

pub and-four : (a b c d : Bool) → ((a && b) && (c && d)) ≡ ((a && c) && (b && d))
and-four false b c d = refl
and-four true b true d = refl
and-four true true false d = refl
and-four true false false d = refl

and-true : (a : Bool) → (a && true) ≡ a
and-true true = refl
and-true false = refl

outer-fails : (a b c : Bool) → (a && c) ≡ false → false ≡ (a && (b && c))
outer-fails false b c h = refl
outer-fails true true c h = sym h
outer-fails true false c h = refl

outer-pass : (a b c : Bool) → (a && c) ≡ true → b ≡ (a && (b && c))
outer-pass false b c h = cc
outer-pass true b true h = sym (and-true b)
outer-pass true b false h = cc

-- a place's block, those that are shown, and those of held values
pub blocks-join : {X Y : Type 0} (p : Y → Bool) (f : X → Y) (stood shown : List Y) (held : List X) → list_all p stood ≡ true → list_all p shown ≡ true
    → list_all (λ x. p (f x)) held ≡ list_all p (stood ++ shown ++ map f held)
blocks-join p f stood shown held a b =
    let front : list_all p (stood ++ shown) ≡ true = list_all-append p stood shown ∙ true-and (list_all p stood) (list_all p shown) a ∙ b in
    sym (list_all-append p (stood ++ shown) (map f held) ∙ true-and (list_all p (stood ++ shown)) (list_all p (map f held)) front ∙ list_all-map p f held)

-- ---- what a statement names

module _ (test : Named → Bool) (held : List SetValue) where
  abbrev is-free : Name → Bool
  is-free name = name_passes test held name

  abbrev is-placed : ℕ → Bool
  is-placed word = test (literal word)

  abbrev names : Hole → List Name
  names hole = operand_names hole.operand

  abbrev words : Hole → List ℕ
  words hole = operand_literals hole.operand

  operand-both : (x : Operand) → operand_passes test held x ≡ (list_all is-free (operand_names x) && list_all is-placed (operand_literals x))
  operand-both (Expression terms) = sym (and-true (list_all is-free (names_of terms)))
  operand-both (Literal word) = sym (and-true (test (literal word)))

  holes-both : (holes : List Hole) → list_all (hole_passes test held) holes ≡ (list_all is-free (flat_map names holes) && list_all is-placed (flat_map words holes))
  holes-both [] = refl
  holes-both (hole ∷ holes) =
      (λ i. operand-both hole.operand i && holes-both holes i)
      ∙ sym (and-four (list_all is-free (names hole)) (list_all is-free (flat_map names holes)) (list_all is-placed (words hole)) (list_all is-placed (flat_map words holes)))
      ∙ (λ i. sym (list_all-append is-free (names hole) (flat_map names holes)) i && sym (list_all-append is-placed (words hole) (flat_map words holes)) i)

  contents-both : (contents : List Content)
      → contents_pass test held contents ≡ (list_all is-free (flat_map content_names contents) && list_all is-placed (flat_map content_literals contents))
  contents-both contents =
      flat-all (hole_passes test held) holes_of contents ∙ holes-both (flat_map holes_of contents)
      ∙ (λ i. list_all is-free (sym (flat-flat names holes_of contents) i) && list_all is-placed (sym (flat-flat words holes_of contents) i))

-- contents are tested before blocks: one of them fails, or all pass
module _ (test : Named → Bool) (item : Item) where
  abbrev labels : Bool
  labels = list_all (λ name. test (label name)) (labels_read item.made)

  abbrev blocks : Bool
  blocks = list_all (λ name. test (block name)) (blocks_named item)

  abbrev literals : Bool
  literals = list_all (λ word. test (literal word)) (flat_map content_literals item.made.contents)

  contents-join : contents_pass test item.made.held item.made.contents ≡ (labels && literals)
  contents-join =
      contents-both test item.made.held item.made.contents
      ∙ ap (λ b. b && literals) (out-all (λ name. test (label name)) (λ name. list_any (λ (set : SetValue). same_name set.name name) item.made.held) (flat_map content_names item.made.contents))

  pub item-fails : contents_pass test item.made.held item.made.contents ≡ false → false ≡ all_named test item
  item-fails failed = outer-fails labels blocks literals (sym contents-join ∙ failed)

  pub item-join : contents_pass test item.made.held item.made.contents ≡ true → blocks ≡ all_named test item
  item-join passed = outer-pass labels blocks literals (sym contents-join ∙ passed)
