-- Words that are compared, and runs of them.
use Rattle.std.proofs.Common.{◌≡◌, ℕ, ◌+◌, ◌<◌, Bool, true, false, cond, not, List, [], ◌∷◌, ◌++◌, length, get_or, take, drop, map, flat_map, filter, refl, sym, ap, ◌∙◌, append_assoc, append-nil}
use Rattle.std.specs.List.{AllByRecursion, onto_first, slice_split}
use Rattle.std.proofs.lemmas.List.{map-append, take-map, drop-map, take_more}
use Rattle.std.proofs.lemmas.Grind.{flat_map-append}
use Rattle.std.proofs.lemmas.List.Folds.{flat_map-map}
use Rattle.std.proofs.lemmas.List.Elements.{filter-append}
use Rattle.cps_compare.specs.declared.compared_word.ComparedWord.{ComparedWord}
use Rattle.cps_compare.specs.Findings.{Findings}
use Rattle.cps_compare.specs.Runs.{runs_of}
use Rattle.cps_compare.specs.Code.Runs.{ends_run, addresses_in, AreCompared}

-- ---- runs

cond-map : {A B : Type 0} (f : A → B) (b : Bool) (x y : A) → f (cond b x y) ≡ cond b (f x) (f y)
cond-map f true x y = refl
cond-map f false x y = refl

onto-map : (word : ComparedWord) (runs : List (List ComparedWord)) → map addresses_in (onto_first word runs) ≡ onto_first word.address (map addresses_in runs)
onto-map word [] = refl
onto-map word (run ∷ runs) = refl

split-map : (found : Findings) (words : List ComparedWord) → AllByRecursion (λ (word : ComparedWord). word.differs ≡ found.differs word.address) words
    → map addresses_in (slice_split ends_run words) ≡ runs_of found (addresses_in words)
split-map found [] all = refl
split-map found (word ∷ words) all =
    cond-map (map addresses_in) (ends_run word) ([] ∷ slice_split ends_run words) (onto_first word (slice_split ends_run words))
    ∙ ap (λ b. cond b ([] ∷ map addresses_in (slice_split ends_run words)) (map addresses_in (onto_first word (slice_split ends_run words)))) (ap not all.0)
    ∙ ap (λ l. cond (not (found.differs word.address)) ([] ∷ map addresses_in (slice_split ends_run words)) l) (onto-map word (slice_split ends_run words))
    ∙ ap (λ (l : List (List ℕ)). cond (not (found.differs word.address)) ([] ∷ l) (onto_first word.address l)) (split-map found words all.1)

-- the rows of all runs
pub runs-same : (found : Findings) (rows : List ℕ → List ℕ) (among : List ℕ) (words : List ComparedWord) → AreCompared found among words
    → flat_map (λ run. rows (addresses_in run)) (slice_split ends_run words) ≡ flat_map rows (runs_of found among)
runs-same found rows among words is =
    sym (flat_map-map rows addresses_in (slice_split ends_run words)) ∙ ap (flat_map rows) (split-map found words is.differ)
    ∙ ap (λ l. flat_map rows (runs_of found l)) is.addresses

-- ---- one word more

all-more : (found : Findings) (words : List ComparedWord) (word : ComparedWord) → AllByRecursion (λ (word : ComparedWord). word.differs ≡ found.differs word.address) words
    → word.differs ≡ found.differs word.address → AllByRecursion (λ (word : ComparedWord). word.differs ≡ found.differs word.address) (words ++ word ∷ [])
all-more found [] word all is = (is, tt)
all-more found (x ∷ words) word all is = (all.0, all-more found words word all.1 is)

pub compared-none : (found : Findings) → AreCompared found [] []
compared-none found = record { addresses = refl; differ = tt }

-- a word that is compared
pub compared-more : (found : Findings) (among : List ℕ) (words : List ComparedWord) (word : ComparedWord) → AreCompared found (filter found.is_compared among) words
    → found.is_compared word.address ≡ true → word.differs ≡ found.differs word.address
    → AreCompared found (filter found.is_compared (among ++ word.address ∷ [])) (words ++ word ∷ [])
compared-more found among words word was here is = record {
  addresses = map-append (λ (word : ComparedWord). word.address) words (word ∷ []) ∙ ap (λ l. l ++ word.address ∷ []) was.addresses
      ∙ ap (λ b. filter found.is_compared among ++ cond b (word.address ∷ []) []) (sym here)
      ∙ sym (filter-append found.is_compared among (word.address ∷ []));
  differ = all-more found words word was.differ is;
}

-- one that isn't
pub compared-same : (found : Findings) (among : List ℕ) (address : ℕ) (words : List ComparedWord) → AreCompared found (filter found.is_compared among) words
    → found.is_compared address ≡ false → AreCompared found (filter found.is_compared (among ++ address ∷ [])) words
compared-same found among address words was absent = record {
  addresses = was.addresses ∙ sym (append-nil (filter found.is_compared among))
      ∙ ap (λ b. filter found.is_compared among ++ cond b (address ∷ []) []) (sym absent)
      ∙ sym (filter-append found.is_compared among (address ∷ []));
  differ = was.differ;
}

-- ---- words of a run, one by one

pub told-more : (rows : ℕ → List ℕ) (words : List ComparedWord) (at : ℕ) (d : ComparedWord) (text old new : List ℕ) → at < length words
    → old ≡ text ++ flat_map rows (addresses_in (take at words)) → new ≡ old ++ rows (get_or words at d).address
    → new ≡ text ++ flat_map rows (addresses_in (take (at + 1) words))
told-more rows words at d text old new within was more =
    let address = (get_or words at d).address in
    let next : flat_map rows (addresses_in (take (at + 1) words)) ≡ flat_map rows (addresses_in (take at words)) ++ rows address =
    ap (λ l. flat_map rows (addresses_in l)) (take_more words at d within)
    ∙ ap (flat_map rows) (map-append (λ (word : ComparedWord). word.address) (take at words) (get_or words at d ∷ []))
    ∙ flat_map-append rows (addresses_in (take at words)) (address ∷ [])
    ∙ ap (λ l. flat_map rows (addresses_in (take at words)) ++ l) (append-nil (rows address)) in
    more ∙ ap (λ l. l ++ rows address) was ∙ append_assoc text (flat_map rows (addresses_in (take at words))) (rows address) ∙ ap (λ l. text ++ l) (sym next)

pub addresses-take : (n : ℕ) (words : List ComparedWord) → addresses_in (take n words) ≡ take n (addresses_in words)
addresses-take n words = sym (take-map (λ (word : ComparedWord). word.address) n words)

pub addresses-drop : (n : ℕ) (words : List ComparedWord) → addresses_in (drop n words) ≡ drop n (addresses_in words)
addresses-drop n words = sym (drop-map (λ (word : ComparedWord). word.address) n words)
