-- The words to which links can lead, one after another.
use Rattle.std.proofs.Common.{◌≡◌, ℕ, ◌+◌, ◌≤◌, ◌<◌, ◌^◌, Bool, true, false, cond, ◌==◌, refl, sym, ap, subst, ◌∙◌, List, [], ◌∷◌, ◌++◌, zero-add, arith}
use Rattle.std.specs.Prelude.{All, Option, None, Some, count_by}
use Rattle.std.proofs.lemmas.Bool.{eqb-true, ne_eqb}
use Rattle.std.proofs.lemmas.List.Elements.{All-append}
use Rattle.std.proofs.lemmas.List.Sums.{sum_by-append}
use Rattle.cps_markup.specs.declared.targets.WordEntry.{WordEntry}
use Rattle.cps_markup.specs.declared.place.Place.TheVariants.{Word}
use Rattle.cps_markup.specs.Links.{is_at}
use Rattle.cps_markup.specs.PlaceLaws.{IsWritten}
use Rattle.cps_markup.proofs.AddsLemmas.{all-none, all-one}
use Rattle.cps_page.specs.Code.Making.{AreWords, AreWordsTo, IsPast}

pub words-none : AreWordsTo None []
words-none = record { once = λ digits. omega arith; none_behind = λ digits behind. refl; written = all-none _ }

pub words-all : (last : Option ℕ) (words : List WordEntry) → AreWordsTo last words → AreWords words
words-all last words are = record { once = are.once; written = are.written }

past-later : (last : Option ℕ) (a b : ℕ) → IsPast last a → a < b → IsPast last b
past-later None a b past less = tt
past-later (Some last) a b past less = omega (arith, past, less)

abbrev one_if : Bool → ℕ
one_if b = cond b 1 0

count-more : (digits : ℕ) (words : List WordEntry) (word : WordEntry) → count_by (is_at digits) (words ++ word ∷ []) ≡ count_by (is_at digits) words + one_if (digits == word.digits)
count-more digits words word =
    sum_by-append (λ (w : WordEntry). one_if (is_at digits w)) words (word ∷ []) ∙ ap (λ n. count_by (is_at digits) words + n) (zero-add (one_if (digits == word.digits)))

pub word-more : (last : Option ℕ) (words : List WordEntry) (word : WordEntry) → AreWordsTo last words → IsPast last word.digits → word.digits < 2 ^ 32
    → AreWordsTo (Some word.digits) (words ++ word ∷ [])
word-more last words word are past small = record {
  once = λ digits.
      let count = count-more digits words word in
      elim (digits == word.digits) as (λ b. (digits == word.digits) ≡ b → count_by (is_at digits) (words ++ word ∷ []) ≤ 1) [
        | true ↦ λ same.
            let one : one_if (digits == word.digits) ≡ 1 = ap one_if same in
            let none = are.none_behind digits (subst (IsPast last) (sym (eqb-true digits word.digits same)) past) in
            omega (arith, count, one, none)
        | false ↦ λ other.
            let no : one_if (digits == word.digits) ≡ 0 = ap one_if other in
            let once = are.once digits in
            omega (arith, count, no, once)
      ] refl;
  none_behind = λ digits above.
      let other : (digits == word.digits) ≡ false = ne_eqb digits word.digits (λ e. omega (arith, above, e)) in
      let count = count-more digits words word in
      let no : one_if (digits == word.digits) ≡ 0 = ap one_if other in
      let none = are.none_behind digits (past-later last word.digits digits past above) in
      omega (arith, count, no, none);
  written = let P : WordEntry → Type 0 = λ w. IsWritten (Word w.digits) in All-append P words (word ∷ []) are.written (all-one P word small);
}
