-- The parts of a text, from its first one on.
use Rattle.std.proofs.Common.{◌≡◌, ℕ, zero, suc, ◌+◌, ◌<◌, ◌≤◌, Bool, true, false, cond, ◌==◌, List, [], ◌∷◌, ◌++◌, append-nil, append_assoc, length, take, drop, Option, None, Some, Bor, option_map, refl, sym, ap, ◌∙◌, arith, length-drop}
use Rattle.std.specs.List.{flat_map}
use Rattle.std.specs.Option.{option_map_or}
use Rattle.std.proofs.Math.Seq.{take-append_seam}
use Rattle.std.proofs.lemmas.Bool.Decides.{nat_tests}
use Rattle.std.proofs.lemmas.List.{take-append-drop}
use Rattle.cps_text.specs.Parts.{first_part, behind_comma, behind_first, parts_up_to, parts_from, with_commas}
use Rattle.cps_text.specs.Code.PartsLeft.{parts_left}

shorter_than : (test : Bool) (text rest : List ℕ) → cond {A = Option (List ℕ)} test (Some text) None ≡ Some rest → length rest < length text + 1
shorter_than true text rest is = let same : text ≡ rest = cc in omega (arith, ap length same)
shorter_than false text rest is = absurd (cc)

behind_comma-shorter : (text rest : List ℕ) → behind_comma text ≡ Some rest → length rest < length text
behind_comma-shorter [] rest is = absurd (cc)
behind_comma-shorter (character ∷ text) rest is = let less = shorter_than (character == 44) text rest is in omega arith

behind_first-shorter : (len : List ℕ → ℕ) (text rest : List ℕ) → behind_first len text ≡ Some rest → length rest < length text
behind_first-shorter len text rest is =
    let less = behind_comma-shorter (drop (len text) text) rest is in
    omega (arith, less, length-drop (len text) text)

same_behind : (len : List ℕ → ℕ) (n m : ℕ) (behind : Option (List ℕ)) → ((rest : List ℕ) → behind ≡ Some rest → parts_up_to len n rest ≡ parts_up_to len m rest) → option_map_or (parts_up_to len n) behind [] ≡ option_map_or (parts_up_to len m) behind []
same_behind len n m None same = refl
same_behind len n m (Some rest) same = same rest refl

none_behind : (len : List ℕ → ℕ) (n : ℕ) (text : List ℕ) (behind : Option (List ℕ)) → ((rest : List ℕ) → behind ≡ Some rest → length rest < length text) → length text ≡ 0 → option_map_or (parts_up_to len n) behind [] ≡ []
none_behind len n text None shorter none = refl
none_behind len n text (Some rest) shorter none = let less = shorter rest refl in absurd (omega arith)

enough : (len : List ℕ → ℕ) (n m : ℕ) (text : List ℕ) → length text ≤ n → length text ≤ m → parts_up_to len n text ≡ parts_up_to len m text
unfolding parts_up_to
enough len zero zero text low high = refl
enough len zero (suc m) text low high = ap (λ l. first_part len text ∷ l) (sym (none_behind len m text (behind_first len text) (behind_first-shorter len text) (omega arith)))
enough len (suc n) zero text low high = ap (λ l. first_part len text ∷ l) (none_behind len n text (behind_first len text) (behind_first-shorter len text) (omega arith))
enough len (suc n) (suc m) text low high =
    ap (λ l. first_part len text ∷ l)
    (same_behind len n m (behind_first len text) (λ rest is. let less = behind_first-shorter len text rest is in enough len n m rest (omega arith) (omega arith)))

as_from : (len : List ℕ → ℕ) (n : ℕ) (behind : Option (List ℕ)) → ((rest : List ℕ) → behind ≡ Some rest → length rest ≤ n) → option_map_or (parts_up_to len n) behind [] ≡ option_map_or (parts_from len) behind []
unfolding parts_from
as_from len n None short = refl
as_from len n (Some rest) short = enough len n (length rest) rest (short rest refl) (omega arith)

parts-first : (len : List ℕ → ℕ) (text : List ℕ) → parts_from len text ≡ first_part len text ∷ option_map_or (parts_from len) (behind_first len text) []
unfolding parts_from parts_up_to
parts-first len text =
    enough len (length text) (suc (length text)) text (omega arith) (omega arith)
    ∙ ap (λ l. first_part len text ∷ l) (as_from len (length text) (behind_first len text) (λ rest is. let less = behind_first-shorter len text rest is in omega arith))

same_texts : (len : List ℕ → ℕ) (behind : Option (Bor (List ℕ))) → option_map_or (parts_from len) (option_map (λ rest. rest.now) behind) [] ≡ parts_left len behind
same_texts len None = refl
same_texts len (Some rest) = refl

-- where a text is cut behind its first part
pub parts-next : (len : List ℕ → ℕ) (text part rest : List ℕ) (at : ℕ) (behind : Option (Bor (List ℕ))) → at ≡ len text → part ≡ take at text → rest ≡ drop at text → option_map (λ text. text.now) behind ≡ behind_comma rest → parts_from len text ≡ part ∷ parts_left len behind
parts-next len text part rest at behind here front back left =
    let first : part ≡ first_part len text = front ∙ ap (λ n. take n text) here in
    let last : option_map (λ text. text.now) behind ≡ behind_first len text = left ∙ ap behind_comma (back ∙ ap (λ n. drop n text) here) in
    parts-first len text ∙ ap (λ o. o ∷ option_map_or (parts_from len) (behind_first len text) []) (sym first)
    ∙ ap (λ o. part ∷ o) (ap (λ o. option_map_or (parts_from len) o []) (sym last) ∙ same_texts len behind)

few_behind : (len : List ℕ → ℕ) (n : ℕ) (behind : Option (List ℕ)) → ((rest : List ℕ) → length (parts_up_to len n rest) ≤ n + 1) → length (option_map_or (parts_up_to len n) behind []) ≤ n + 1
few_behind len n None few = omega arith
few_behind len n (Some rest) few = few rest

few_up_to : (len : List ℕ → ℕ) (n : ℕ) (text : List ℕ) → length (parts_up_to len n text) ≤ n + 1
unfolding parts_up_to
few_up_to len zero text = omega arith
few_up_to len (suc n) text = let few = few_behind len n (behind_first len text) (few_up_to len n) in omega (arith, few)

-- a text has at most one more part than it has characters
pub few_parts : (len : List ℕ → ℕ) (text : List ℕ) → length (parts_from len text) ≤ length text + 1
unfolding parts_from
few_parts len text = few_up_to len (length text) text

-- parts with commas between them are the front of the text that they are cut from

behind-is : (test : Bool) (character : ℕ) (text rest : List ℕ) → (character == 44) ≡ test → cond {A = Option (List ℕ)} test (Some text) None ≡ Some rest → character ∷ text ≡ 44 ∷ rest
behind-is true character text rest comma is =
    let same : text ≡ rest = cc in
    let here : character ≡ 44 = grind (arith, nat_tests) in
    cc
behind-is false character text rest comma is = absurd (cc)

behind_comma-is : (text rest : List ℕ) → behind_comma text ≡ Some rest → text ≡ 44 ∷ rest
behind_comma-is [] rest is = absurd (cc)
behind_comma-is (character ∷ text) rest is = behind-is (character == 44) character text rest refl is

after_comma : (len : List ℕ → ℕ) (n : ℕ) (text : List ℕ) → flat_map (λ next. 44 ∷ next) (parts_up_to len n text) ≡ 44 ∷ with_commas (parts_up_to len n text)
unfolding parts_up_to
after_comma len zero text = refl
after_comma len (suc n) text = refl

abbrev IsFront : List ℕ → List ℕ → Type 0
IsFront front text = (rest : List ℕ) × (text ≡ front ++ rest)

first_front : (text : List ℕ) (at : ℕ) → IsFront (take at text ++ []) text
first_front text at = (drop at text, rw append-nil (sym (take-append-drop at text)))

next_front : (len : List ℕ → ℕ) (n : ℕ) (text : List ℕ) (at : ℕ) (behind : Option (List ℕ)) → ((rest : List ℕ) → behind ≡ Some rest → drop at text ≡ 44 ∷ rest) → ((rest : List ℕ) → IsFront (with_commas (parts_up_to len n rest)) rest) → IsFront (take at text ++ flat_map (λ next. 44 ∷ next) (option_map_or (parts_up_to len n) behind [])) text
next_front len n text at None comma more = first_front text at
next_front len n text at (Some rest) comma more =
    let (last, same) = more rest in
    let front = take at text in
    let others = flat_map (λ next. 44 ∷ next) (parts_up_to len n rest) in (
      last,
      sym (take-append-drop at text) ∙ ap (λ d. front ++ d) (comma rest refl) ∙ ap (λ r. front ++ 44 ∷ r) same
          ∙ ap (λ f. front ++ (f ++ last)) (sym (after_comma len n rest)) ∙ sym (append_assoc front others last),
    )

front_up_to : (len : List ℕ → ℕ) (n : ℕ) (text : List ℕ) → IsFront (with_commas (parts_up_to len n text)) text
unfolding parts_up_to
front_up_to len zero text = first_front text (len text)
front_up_to len (suc n) text =
    next_front len n text (len text) (behind_first len text) (λ rest is. behind_comma-is (drop (len text) text) rest is) (front_up_to len n)

taken : (front text : List ℕ) → IsFront front text → take (length front) text ≡ front
taken front text (rest, same) = ap (take (length front)) same ∙ take-append_seam front rest

pub parts-front : (len : List ℕ → ℕ) (text : List ℕ) → take (length (with_commas (parts_from len text))) text ≡ with_commas (parts_from len text)
unfolding parts_from
parts-front len text = taken (with_commas (parts_up_to len (length text) text)) text (front_up_to len (length text) text)
