-- What marks show of a line, wherever that stands.
use Rattle.std.proofs.Common.{◌≡◌, ℕ, ◌+◌, ◌-◌, ◌<◌, ◌⊎◌, inl, inr, ⊎_elim, List, [], ◌∷◌, ◌++◌, length, get_or, take, drop, map, refl, sym, ap, subst, ◌∙◌, append_assoc, append-nil}
use Rattle.std.proofs.lemmas.List.{drop-map, map-append, map_more, nil_from_length, length-map, take-map}
use Rattle.cps_final.specs.Outcome.{Outcome}
use Rattle.cps_input.specs.declared.character_fault.CharacterFault.{CharacterFault}
use Rattle.cps_input.specs.declared.character_fault.Misfit.{Misfit}
use Rattle.cps_input.specs.Faults.{AreAll, AreFaults, IsExcess, IsStranger, byte_in, misfit_of, most_faults, piece_in, told, with_more}
use Rattle.cps_server.specs.declared.line_mark.LineMark.{LineMark}
use Rattle.cps_server.specs.Code.Keeping.{Shown, Shows, ShowsLine, fault_shown, flag_shown, in_line, shown_of}
use Rattle.cps_server.specs.Marks.{MarksLine}

-- ---- marks to which more are added

pub Shows-none : (marks : List LineMark) → Shows [] marks marks
Shows-none marks = sym (append-nil (map shown_of marks))

pub Shows-append : (shown others : List Shown) (a b c : List LineMark) → Shows shown a b → Shows others b c → Shows (shown ++ others) a c
Shows-append shown others a b c here back = back ∙ ap (λ (ms : List Shown). ms ++ others) here ∙ append_assoc (map shown_of a) shown others

-- one more of some
pub Shows-next : {X : Type 0} (shown : X → Shown) (xs : List X) (at : ℕ) (d : X) (a b c : List LineMark) → at < length xs → Shows (map shown (take at xs)) a b
    → Shows (shown (get_or xs at d) ∷ []) b c → Shows (map shown (take (at + 1) xs)) a c
Shows-next shown xs at d a b c within before here =
    subst (λ (marks : List Shown). Shows marks a c) (sym (map_more shown xs at d within))
    (Shows-append (map shown (take at xs)) (shown (get_or xs at d) ∷ []) a b c before here)

-- ---- what is wrong in a line, wherever it stands

pub map-both : {X Y Z : Type 0} (f : Y → Z) (g : X → Y) (xs : List X) → map f (map g xs) ≡ map (λ x. f (g x)) xs
map-both f g [] = refl
map-both f g (x ∷ xs) = ap (λ zs. f (g x) ∷ zs) (map-both f g xs)

-- a fault of a line elsewhere: only the front of the first line may have another misfit
fault-at : (number other : ℕ) (line : List ℕ) (fault : CharacterFault) → IsStranger number line fault ⊎ IsExcess line fault
    → (misfit : Misfit) × (IsStranger other line (record fault { misfit = misfit }) ⊎ IsExcess line (record fault { misfit = misfit }))
fault-at number other line fault is =
    ⊎_elim
    (λ (stranger : IsStranger number line fault). (
      misfit_of other fault.first (byte_in line fault.first) (piece_in line fault.first).char,
      inl (record { first = stranger.first; stranger = stranger.stranger; last = stranger.last; order = stranger.order; misfit = refl }),
    ))
    (λ (excess : IsExcess line fault). (
      fault.misfit,
      inr (record { first = excess.first; order = excess.order; last = excess.last; misfit = excess.misfit }),
    ))
    is

AreAll-at : (number other : ℕ) (line : List ℕ) (from : ℕ) (faults : List CharacterFault) (to : ℕ) → AreAll number line from faults to
    → (others : List CharacterFault) × AreAll other line from others to × (map fault_shown others ≡ map fault_shown faults)
AreAll-at number other line from [] to clean = ([], clean, refl)
AreAll-at number other line from (fault ∷ faults) to (clean, is, rest) =
    let here = fault-at number other line fault is in
    let back = AreAll-at number other line fault.last faults to rest in
    (record fault { misfit = here.0 } ∷ back.0, (clean, here.1, back.1), ap (λ (shown : List Shown). fault_shown fault ∷ shown) back.2)

abbrev told_shown : List Shown → List Shown
told_shown shown = take most_faults shown ++ take 1 (drop most_faults shown)

shown-told : (faults : List CharacterFault) → map fault_shown (told faults) ≡ told_shown (map fault_shown faults)
shown-told faults =
    let more = take 1 (drop most_faults faults) in
    let left : ℕ = length faults - most_faults in
    map-append fault_shown (take most_faults faults) (map (with_more left) more)
    ∙ ap (λ (front : List Shown). front ++ map fault_shown (map (with_more left) more)) (sym (take-map fault_shown most_faults faults))
    ∙ ap (λ (back : List Shown). take most_faults (map fault_shown faults) ++ back)
    (map-both fault_shown (with_more left) more ∙ sym (take-map fault_shown 1 (drop most_faults faults))
    ∙ ap (take 1) (sym (drop-map fault_shown most_faults faults)))

AreFaults-at : (number other : ℕ) (line : List ℕ) (faults : List CharacterFault) → AreFaults number line faults
    → (others : List CharacterFault) × AreFaults other line others × (map fault_shown others ≡ map fault_shown faults)
AreFaults-at number other line faults are =
    let all = AreAll-at number other line 0 are.all (length line) are.whole in (
      told all.0,
      record { all = all.0; whole = all.1; some = refl },
      shown-told all.0 ∙ ap told_shown all.2 ∙ sym (shown-told are.all) ∙ ap (map fault_shown) (sym are.some),
    )

-- ---- the marks of a line where it stands

pub MarksLine-of : (number : ℕ) (line : List ℕ) (outcome : Outcome) (shown : List Shown) → ShowsLine line outcome shown
    → MarksLine number line outcome (map (in_line number) shown)
MarksLine-of number line outcome shown shows = record {
  flags = λ is. let flags = shows.flags is in (flags.0, flags.1, ap (map (in_line number)) flags.2 ∙ map-both (in_line number) flag_shown flags.0);
  faults = λ wrong.
      let faults = shows.faults wrong in
      let here = AreFaults-at faults.0 (number + 1) line faults.1 faults.2 in
      (here.0, here.1, ap (map (in_line number)) (faults.3 ∙ sym here.2) ∙ map-both (in_line number) fault_shown here.0);
  some = λ is. shows.some (nil_from_length shown (sym (length-map shown (in_line number)) ∙ ap length is));
}
