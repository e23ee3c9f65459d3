-- What is wrong in a line, from left to right.
use Rattle.std.proofs.Common.{◌≡◌, ℕ, ◌+◌, ◌-◌, ◌<◌, ◌≤◌, ◌⊎◌, ⊎_elim, true, false, List, [], ◌∷◌, ◌++◌, length, get_or, take, drop, map, refl, sym, ap, subst, ◌∙◌, arith, length-drop, length-take}
use Rattle.std.specs.Prelude.{slice_index}
use Rattle.std.specs.List.{All}
use Rattle.std.proofs.lemmas.Bool.{and_from}
use Rattle.std.proofs.lemmas.List.{drop-append-le, drop_all, take_more}
use Rattle.std.proofs.lemmas.List.Elements.{All-nil, All-cons, All-append, All-take, All-drop, All-map, All-weaker}
use Rattle.std.proofs.lemmas.List.Folds.{list_all-append}
use Rattle.bstr.specs.Utf8.{decoded}
use Rattle.bstr.proofs.lemmas.PieceLemmas.{piece-bounds}
use Rattle.cps_text.specs.Line.{all_accepted, is_accepted_byte, longest_line}
use Rattle.cps_input.specs.declared.character_fault.CharacterFault.{CharacterFault}
use Rattle.cps_input.specs.Faults.{AreAll, AreColumns, AreFaults, IsClean, IsExcess, IsStranger, misfit_of, most_faults, told, with_more}

-- ---- columns in which nothing is wrong

pub clean-none : (line : List ℕ) (at : ℕ) → IsClean line at at
clean-none line at = record {
  order = omega arith;
  accepted = ap all_accepted (drop_all at (take at line) (let len = length-take at line in omega arith));
  short = λ less. absurd (omega arith);
}

clean-more : (line : List ℕ) (from at : ℕ) → IsClean line from at → at < length line → at < longest_line → is_accepted_byte (slice_index line at) ≡ true
    → IsClean line from (at + 1)
clean-more line from at clean within short passes =
    let order = clean.order in
    let front : from ≤ length (take at line) = let len = length-take at line in omega arith in
    record {
      order = omega arith;
      accepted =
          ap (λ text. all_accepted (drop from text)) (take_more line at 0 within)
          ∙ ap all_accepted (drop-append-le from (take at line) (get_or line at 0 ∷ []) front)
          ∙ list_all-append is_accepted_byte (drop from (take at line)) (get_or line at 0 ∷ [])
          ∙ and_from _ _ clean.accepted (and_from _ _ passes refl);
      short = λ less. omega arith;
    }

-- ---- all faults

-- a character of a line is passed over
pub all-more : (number : ℕ) (line : List ℕ) (from : ℕ) (faults : List CharacterFault) (at : ℕ) → AreAll number line from faults at
    → at < length line → at < longest_line → is_accepted_byte (slice_index line at) ≡ true → AreAll number line from faults (at + 1)
all-more number line from [] at so_far within short passes = clean-more line from at so_far within short passes
all-more number line from (fault ∷ faults) at so_far within short passes =
    (so_far.0, so_far.1, all-more number line fault.last faults at so_far.2 within short passes)

-- a fault is added
pub all-push : (number : ℕ) (line : List ℕ) (from : ℕ) (faults : List CharacterFault) (at : ℕ) (fault : CharacterFault)
    → AreAll number line from faults at → fault.first ≡ at + 1 → IsStranger number line fault ⊎ IsExcess line fault
    → AreAll number line from (faults ++ fault ∷ []) fault.last
all-push number line from [] at fault so_far first wrong =
    let same : at ≡ fault.first - 1 = omega arith in
    (subst (λ n. IsClean line from n) same so_far, wrong, clean-none line fault.last)
all-push number line from (other ∷ faults) at fault so_far first wrong =
    (so_far.0, so_far.1, all-push number line other.last faults at fault so_far.2 first wrong)

in_order : (number : ℕ) (line : List ℕ) (fault : CharacterFault) → IsStranger number line fault ⊎ IsExcess line fault
    → (1 ≤ fault.first) × (fault.first ≤ fault.last)
in_order number line fault wrong =
    ⊎_elim (λ stranger. (stranger.first, stranger.order)) (λ excess. (let first = excess.first in omega arith, excess.order)) wrong

all-order : (number : ℕ) (line : List ℕ) (from : ℕ) (faults : List CharacterFault) (to : ℕ) → AreAll number line from faults to → from ≤ to
all-order number line from [] to so_far = so_far.order
all-order number line from (fault ∷ faults) to so_far =
    let front = so_far.0.order in
    let here = in_order number line fault so_far.1 in
    let back = all-order number line fault.last faults to so_far.2 in
    omega arith

all-columns : (number : ℕ) (line : List ℕ) (from : ℕ) (faults : List CharacterFault) (to : ℕ) → AreAll number line from faults to → to ≤ length line
    → All (AreColumns line) faults
all-columns number line from [] to so_far within = All-nil (AreColumns line)
all-columns number line from (fault ∷ faults) to so_far within =
    let here = in_order number line fault so_far.1 in
    let back = all-order number line fault.last faults to so_far.2 in
    All-cons (AreColumns line) fault faults (record { first = here.0; order = here.1; last = omega arith })
    (all-columns number line fault.last faults to so_far.2 within)

-- ---- the faults that are told

told-columns : (line : List ℕ) (faults : List CharacterFault) → All (AreColumns line) faults → All (AreColumns line) (told faults)
told-columns line faults all =
    let more : CharacterFault → CharacterFault = with_more (length faults - most_faults) in
    let each : All (λ next. AreColumns line (more next)) faults =
    All-weaker (AreColumns line) (λ next. AreColumns line (more next))
    (λ next is. record { first = is.first; order = is.order; last = is.last }) faults all in
    All-append (AreColumns line) (take most_faults faults) (map more (take 1 (drop most_faults faults)))
    (All-take (AreColumns line) most_faults faults all)
    (All-map (AreColumns line) more (take 1 (drop most_faults faults))
    (All-take (λ next. AreColumns line (more next)) 1 (drop most_faults faults) (All-drop (λ next. AreColumns line (more next)) most_faults faults each)))

-- ---- the faults of a line

pub faults-columns : (number : ℕ) (line : List ℕ) (faults : List CharacterFault) → AreFaults number line faults → All (AreColumns line) faults
faults-columns number line faults are =
    subst (λ l. All (AreColumns line) l) (sym are.some)
    (told-columns line are.all (all-columns number line 0 are.all (length line) are.whole (omega arith)))

-- ---- what stands at a place

pub size-within : (line : List ℕ) (at size : ℕ) → at < length line → size ≡ (decoded (drop at line)).size → (1 ≤ size) × (at + size ≤ length line)
size-within line at size within is =
    let len = length-drop at line in
    let bounds = piece-bounds (drop at line) (omega arith) in
    (omega arith, omega arith)

pub stranger-at : (number : ℕ) (line : List ℕ) (at size : ℕ) (fault : CharacterFault) → is_accepted_byte (slice_index line at) ≡ false
    → 1 ≤ size → size ≡ (decoded (drop at line)).size → fault.first ≡ at + 1 → fault.last ≡ at + size
    → fault.misfit ≡ misfit_of number (at + 1) (slice_index line at) (decoded (drop at line)).char → IsStranger number line fault
stranger-at number line at size fault strange some is first last misfit =
    let place : at ≡ fault.first - 1 = omega arith in
    let column : at + 1 ≡ fault.first = omega arith in
    let width : size ≡ (decoded (drop (fault.first - 1) line)).size = subst (λ n. size ≡ (decoded (drop n line)).size) place is in
    record {
      first = omega arith;
      stranger = subst (λ n. is_accepted_byte (slice_index line n) ≡ false) place strange;
      last = omega arith;
      order = omega arith;
      misfit =
          subst (λ n. fault.misfit ≡ misfit_of number fault.first (slice_index line n) (decoded (drop n line)).char) place
          (subst (λ n. fault.misfit ≡ misfit_of number n (slice_index line at) (decoded (drop at line)).char) column misfit);
    }
