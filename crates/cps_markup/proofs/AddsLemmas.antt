-- Markup behind markup, and inside of an element.
use Rattle.std.proofs.Common.{◌≡◌, ℕ, zero, suc, Bool, true, false, List, [], ◌∷◌, ◌++◌, refl, sym, ap, subst, ◌∙◌, append-nil, append_assoc, take, drop, flat_map, length, arith}
use Rattle.std.specs.Prelude.{All, if◌then◌else◌}
use Rattle.std.proofs.lemmas.List.{take-append-drop}
use Rattle.std.proofs.lemmas.List.Elements.{All-append}
use Rattle.cps_markup.specs.declared.place.Place.{Place}
use Rattle.cps_markup.specs.declared.tag.Tag.{Tag}
use Rattle.cps_markup.specs.declared.tag.Tag.TheVariants as tag
use Rattle.cps_markup.specs.Markup.{Attribute, Markup, nothing, says, element, Link, written, said, places, links, opening, closing, escaped, is_note, identified, targeted}
use Rattle.cps_markup.specs.Code.Adding.{Adds, fold_attributes, front_attributes, row_attributes, row_tag}

-- ---- markup behind markup

abbrev pub joined : Markup → Markup → Markup
joined nothing b = b
joined (says words a) b = says words (joined a b)
joined (element tag attributes inside a) b = element tag attributes inside (joined a b)

more : {T : Type 0} (x : List T) (r s t : List T) → r ≡ s ++ t → x ++ r ≡ x ++ s ++ t
more x r s t e = ap (λ l. x ++ l) e ∙ sym (append_assoc x s t)

pub written-joined : (a b : Markup) → written (joined a b) ≡ written a ++ written b
written-joined nothing b = refl
written-joined (says words a) b = more (escaped words) _ _ _ (written-joined a b)
written-joined (element tag attributes inside a) b = more (opening tag attributes ++ written inside ++ closing tag) _ _ _ (written-joined a b)

pub said-joined : (a b : Markup) → said (joined a b) ≡ said a ++ said b
said-joined nothing b = refl
said-joined (says words a) b = more words _ _ _ (said-joined a b)
said-joined (element tag attributes inside a) b = more (if is_note tag then [] else said inside) _ _ _ (said-joined a b)

pub places-joined : (a b : Markup) → places (joined a b) ≡ places a ++ places b
places-joined nothing b = refl
places-joined (says words a) b = places-joined a b
places-joined (element tag attributes inside a) b = more (flat_map identified attributes ++ places inside) _ _ _ (places-joined a b)

pub links-joined : (a b : Markup) → links (joined a b) ≡ links a ++ links b
links-joined nothing b = refl
links-joined (says words a) b = links-joined a b
links-joined (element tag attributes inside a) b = more (flat_map (targeted (said inside)) attributes ++ links inside) _ _ _ (links-joined a b)

-- ---- what is added to a page

pub all-none : {T : Type 0} (P : T → Type 0) → All P []
all-none P = λ k d lt. absurd (omega arith)

pub all-one : {T : Type 0} (P : T → Type 0) (x : T) → P x → All P (x ∷ [])
all-one P x h zero d lt = h
all-one P x h (suc k) d lt = absurd (omega arith)

pub adds-nothing : (P : Link → Type 0) (page : List ℕ) → Adds P [] [] page page
adds-nothing P page = record { markup = nothing; whole = sym (append-nil page); same_words = refl; same_places = refl; good = all-none P }

module _ (P : Link → Type 0) where
  pub adds-joined : (s t : List ℕ) (p q : List Place) (old middle new : List ℕ) → Adds P s p old middle → Adds P t q middle new → Adds P (s ++ t) (p ++ q) old new
  adds-joined s t p q old middle new a b = record {
    markup = joined a.markup b.markup;
    whole = b.whole ∙ ap (λ l. l ++ written b.markup) a.whole ∙ append_assoc old _ _ ∙ ap (λ l. old ++ l) (sym (written-joined a.markup b.markup));
    same_words = said-joined a.markup b.markup ∙ (λ i. a.same_words i ++ b.same_words i);
    same_places = places-joined a.markup b.markup ∙ (λ i. a.same_places i ++ b.same_places i);
    good = subst (All P) (sym (links-joined a.markup b.markup)) (All-append P _ _ a.good b.good);
  }

  pub adds-text : (words old new : List ℕ) → new ≡ old ++ escaped words → Adds P words [] old new
  adds-text words old new e = record {
    markup = says words nothing;
    whole = e ∙ ap (λ l. old ++ l) (sym (append-nil (escaped words)));
    same_words = append-nil words;
    same_places = refl;
    good = all-none P;
  }

  regroup : (a o i c : List ℕ) → a ++ o ++ i ++ c ≡ a ++ (o ++ i ++ c ++ [])
  regroup a o i c = simp (append_assoc, append-nil)

  pub adds-element : (tag : Tag) (attributes : List Attribute) (s : List ℕ) (p : List Place) (old middle later new : List ℕ) → middle ≡ old ++ opening tag attributes → Adds P s p middle later
      → new ≡ later ++ closing tag → All P (flat_map (targeted s) attributes) → Adds P (if is_note tag then [] else s) (flat_map identified attributes ++ p) old new
  adds-element tag attributes s p old middle later new begun a ended good = record {
    markup = element tag attributes a.markup nothing;
    whole = ended ∙ ap (λ l. l ++ closing tag) (a.whole ∙ ap (λ l. l ++ written a.markup) begun) ∙ regroup old (opening tag attributes) (written a.markup) (closing tag);
    same_words = append-nil (if is_note tag then [] else said a.markup) ∙ ap (λ l. if is_note tag then [] else l) a.same_words;
    same_places = append-nil (flat_map identified attributes ++ places a.markup) ∙ ap (λ l. flat_map identified attributes ++ l) a.same_places;
    good = subst (All P) (sym (append-nil (flat_map (targeted (said a.markup)) attributes ++ links a.markup)))
        (All-append P _ _ (subst (λ l. All P (flat_map (targeted l) attributes)) (sym a.same_words) good) a.good);
  }

  -- what is added in front of what is cut off
  pub adds-cut : (n : ℕ) (rest front behind old middle last : List ℕ) → front ≡ take n rest → behind ≡ drop n rest → Adds P front [] old middle → Adds P behind [] middle last
      → Adds P rest [] old last
  adds-cut n rest front behind old middle last f b a later =
      subst (λ l. Adds P l [] old last) ((λ i. f i ++ b i) ∙ take-append-drop n rest) (adds-joined front behind [] [] old middle last a later)

  -- where nothing is left
  pub adds-end : (rest page : List ℕ) → length rest ≡ 0 → Adds P rest [] page page
  adds-end [] page is = adds-nothing P page
  adds-end (c ∷ rest) page is = absurd (omega arith)

  -- a row, whether it has a flag or not
  pub adds-row : (is_summary is_flagged : Bool) (s old middle later new : List ℕ) → middle ≡ old ++ opening (row_tag is_summary) (row_attributes is_flagged)
      → Adds P s [] middle later → new ≡ later ++ closing (row_tag is_summary) → Adds P s [] old new
  adds-row true true s old middle later new begun a ended = adds-element tag.Summary (row_attributes true) s [] old middle later new begun a ended (all-none P)
  adds-row true false s old middle later new begun a ended = adds-element tag.Summary (row_attributes false) s [] old middle later new begun a ended (all-none P)
  adds-row false true s old middle later new begun a ended = adds-element tag.Row (row_attributes true) s [] old middle later new begun a ended (all-none P)
  adds-row false false s old middle later new begun a ended = adds-element tag.Row (row_attributes false) s [] old middle later new begun a ended (all-none P)

  -- what stands before the source, in a named block or not
  pub adds-front : (is_in_block : Bool) (s old middle later new : List ℕ) → middle ≡ old ++ opening tag.Front (front_attributes is_in_block) → Adds P s [] middle later
      → new ≡ later ++ closing tag.Front → Adds P s [] old new
  adds-front true s old middle later new begun a ended = adds-element tag.Front (front_attributes true) s [] old middle later new begun a ended (all-none P)
  adds-front false s old middle later new begun a ended = adds-element tag.Front (front_attributes false) s [] old middle later new begun a ended (all-none P)

  -- folded rows, whether they are unfolded at first or not
  pub adds-fold : (is_unfolded : Bool) (s old middle later new : List ℕ) → middle ≡ old ++ opening tag.Fold (fold_attributes is_unfolded) → Adds P s [] middle later
      → new ≡ later ++ closing tag.Fold → Adds P s [] old new
  adds-fold true s old middle later new begun a ended = adds-element tag.Fold (fold_attributes true) s [] old middle later new begun a ended (all-none P)
  adds-fold false s old middle later new begun a ended = adds-element tag.Fold (fold_attributes false) s [] old middle later new begun a ended (all-none P)

  -- a text, and then a note
  pub adds-before : (s : List ℕ) (p : List Place) (old middle new : List ℕ) → Adds P s p old middle → Adds P [] [] middle new → Adds P s p old new
  adds-before s p old middle new a later =
      subst (λ l. Adds P l p old new) (append-nil s) (subst (λ ps. Adds P (s ++ []) ps old new) (append-nil p) (adds-joined s [] p [] old middle new a later))
