-- A text, cut into lines from the front.
use Rattle.std.proofs.Common.{◌≡◌, ℕ, ◌+◌, ◌<◌, true, None, Some, List, [], ◌∷◌, ◌++◌, length, take, drop, map, flat_map, refl, sym, ap, subst, ◌∙◌, arith, append_assoc}
use Rattle.std.specs.Borrow.{Bor}
use Rattle.std.specs.List.{list_all, position}
use Rattle.std.specs.Prelude.{◌==◌}
use Rattle.std.proofs.lemmas.Bool.{and_from}
use Rattle.std.proofs.lemmas.List.{flat_map_more, map_push}
use Rattle.std.proofs.lemmas.List.Folds.{list_all-append}
use Rattle.cps_input.specs.Lines.{HasText, has_no_newline, newline, without_return}
use Rattle.cps_input.proofs.SplitLemmas.{Cut, cut_at, no_newline}

abbrev ended : List ℕ → List ℕ
ended line = line ++ newline ∷ []

-- lines that were cut from the front of a text, and what is left of it
pub record AreCut (text : List ℕ) (lines : List (List ℕ)) (rest : List ℕ) : Type 0 where
  pub front : List (List ℕ)
  pub whole : text ≡ flat_map (λ line. line ++ newline ∷ []) front ++ rest
  pub each : list_all has_no_newline front ≡ true
  pub cut : lines ≡ map without_return front

-- one line more
pub cut-line : (text : List ℕ) (lines : List (List ℕ)) (rest : List ℕ) (at : ℕ) → AreCut text lines rest → Cut rest at
    → AreCut text (lines ++ without_return (take at rest) ∷ []) (drop (at + 1) rest)
cut-line text lines rest at so_far line =
    let next = take at rest in
    let later = drop (at + 1) rest in
    let before = flat_map ended so_far.front in
    record {
      front = so_far.front ++ next ∷ [];
      whole =
          so_far.whole
          ∙ ap (λ b. before ++ b) line.whole
          ∙ sym (append_assoc before (ended next) later ∙ ap (λ b. before ++ b) (append_assoc next (newline ∷ []) later))
          ∙ ap (λ b. b ++ later) (flat_map_more ended [] so_far.front next);
      each = list_all-append has_no_newline so_far.front (next ∷ []) ∙ and_from _ _ so_far.each (and_from _ _ line.front refl);
      cut = ap (λ l. l ++ without_return next ∷ []) so_far.cut ∙ sym (map_push without_return so_far.front next);
    }

-- the code's lines
abbrev texts : List (Bor (List ℕ)) → List (List ℕ)
texts lines = map (λ (line : Bor (List ℕ)). line.now) lines

pub cut-push : (text : List ℕ) (lines more : List (Bor (List ℕ))) (line : Bor (List ℕ)) (rest later : List ℕ) (at : ℕ) → AreCut text (texts lines) rest
    → Some at ≡ position (λ byte. byte == newline) rest → more ≡ lines ++ line ∷ [] → line.now ≡ without_return (take at rest)
    → later ≡ drop (at + 1) rest → AreCut text (texts more) later
cut-push text lines more line rest later at so_far place pushed is behind =
    let same : texts lines ++ without_return (take at rest) ∷ [] ≡ texts more =
    sym (ap texts pushed ∙ map_push (λ (line : Bor (List ℕ)). line.now) lines line ∙ ap (λ next. texts lines ++ next ∷ []) is) in
    let next = cut-line text (texts lines) rest at so_far (cut_at rest at place) in
    subst (λ l. AreCut text l later) same (subst (λ r. AreCut text (texts lines ++ without_return (take at rest) ∷ []) r) (sym behind) next)

-- a last line without a newline is left
pub cut-last : (text : List ℕ) (lines : List (List ℕ)) (rest : List ℕ) → AreCut text lines rest → has_no_newline rest ≡ true → 0 < length rest
    → HasText text (lines ++ without_return rest ∷ [])
cut-last text lines [] so_far none some = absurd (omega arith)
cut-last text lines (byte ∷ rest) so_far none some = record {
  lines = so_far.front;
  rest = byte ∷ rest;
  splits = record { whole = so_far.whole; each = so_far.each; last = none };
  all = ap (λ l. l ++ without_return (byte ∷ rest) ∷ []) so_far.cut;
}

pub cut-push-last : (text : List ℕ) (lines more : List (Bor (List ℕ))) (line : Bor (List ℕ)) (rest : List ℕ) → AreCut text (texts lines) rest
    → None ≡ position (λ byte. byte == newline) rest → 0 < length rest → more ≡ lines ++ line ∷ [] → line.now ≡ without_return rest
    → HasText text (texts more)
cut-push-last text lines more line rest so_far none some pushed is =
    let same : texts lines ++ without_return rest ∷ [] ≡ texts more =
    sym (ap texts pushed ∙ map_push (λ (line : Bor (List ℕ)). line.now) lines line ∙ ap (λ next. texts lines ++ next ∷ []) is) in
    subst (λ l. HasText text l) same (cut-last text (texts lines) rest so_far (no_newline rest none) some)
