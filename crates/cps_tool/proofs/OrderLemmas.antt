-- A line spells one order at most.
use Rattle.std.proofs.Common.{◌≡◌, ℕ, ◌==◌, if◌then◌else◌, ⊎_elim, List, [], ◌++◌, drop, get_or, codes, refl, sym, ap, subst, ◌∙◌}
use Rattle.std.specs.List.{after_first}
use Rattle.std.proofs.lemmas.Slice.Eq.{bytes_eq-Decides}
use Rattle.cps_tool.specs.Command.{Order, append, insert, replace, delete, move, list, binary, symbols, flags, work, quit, Spells, IsNumbered, IsRange, IsMove}
use Rattle.cps_text.specs.Text.{is_blank}
use Rattle.cps_tool.proofs.NumberLemmas.{number_in, number_is, text_behind}
use Rattle.cps_tool.proofs.RangeLemmas.{last_in, first_is, last_is, move_is}

-- the first byte of a command
abbrev letter_of : Order → ℕ
letter_of (append text) = 97
letter_of (insert after text) = 105
letter_of (replace at text) = 114
letter_of (delete first last) = 100
letter_of (move first last after) = 109
letter_of list = 108
letter_of binary = 98
letter_of symbols = 115
letter_of flags = 102
letter_of work = 119
letter_of quit = 113

abbrev first_of : List ℕ → ℕ
first_of line = get_or line 0 0

begins : (line : List ℕ) (order : Order) → Spells line order → first_of line ≡ letter_of order
begins line (append text) spells = ⊎_elim
    (λ (alone : (line ≡ codes "a") × (text ≡ [])). ap first_of alone.0)
    (λ (both : line ≡ codes "a " ++ text). ap first_of both)
    spells.1
begins line (insert after text) spells = ap first_of spells.2
begins line (replace at text) spells = ap first_of spells.2
begins line (delete first last) spells = ap first_of spells.2
begins line (move first last after) spells = ap first_of spells.2
begins line list spells = ap first_of spells.1
begins line binary spells = ap first_of spells.1
begins line symbols spells = ap first_of spells.1
begins line flags spells = ap first_of spells.1
begins line work spells = ap first_of spells.1
begins line quit spells = ap first_of ((bytes_eq-Decides line (codes "quit")).0 spells.1)

-- ---- the order that a line can spell, from its letter and what stands behind two bytes

abbrev order_by : ℕ → List ℕ → Order
order_by letter rest =
    if letter == 97 then append rest
    else (if letter == 105 then insert (number_in rest) (after_first is_blank rest)
    else (if letter == 114 then replace (number_in rest) (after_first is_blank rest)
    else (if letter == 100 then delete (number_in rest) (last_in (after_first is_blank rest) (number_in rest))
    else (if letter == 109 then move (number_in rest) (number_in (after_first is_blank rest)) (number_in (after_first is_blank (after_first is_blank rest)))
    else (if letter == 108 then list
    else (if letter == 98 then binary
    else (if letter == 115 then symbols
    else (if letter == 102 then flags
    else (if letter == 119 then work else quit)))))))))

-- the text of an `a` is what stands behind its blank
text_of : (line text : List ℕ) → Spells line (append text) → text ≡ drop 2 line
text_of line text spells = ⊎_elim
    (λ (alone : (line ≡ codes "a") × (text ≡ [])). alone.1 ∙ sym (ap (drop 2) alone.0))
    (λ (both : line ≡ codes "a " ++ text). sym (ap (drop 2) both))
    spells.1

numbered_at : (line bytes : List ℕ) (number : ℕ) (text : List ℕ) → drop 2 line ≡ bytes → IsNumbered bytes number text → IsNumbered (drop 2 line) number text
numbered_at line bytes number text is numbered = let P : List ℕ → Type 0 = λ rest. IsNumbered rest number text in subst P (sym is) numbered

range_at : (line bytes : List ℕ) (first last : ℕ) → drop 2 line ≡ bytes → IsRange bytes first last → IsRange (drop 2 line) first last
range_at line bytes first last is range = let P : List ℕ → Type 0 = λ rest. IsRange rest first last in subst P (sym is) range

move_at : (line bytes : List ℕ) (first last after : ℕ) → drop 2 line ≡ bytes → IsMove bytes first last after → IsMove (drop 2 line) first last after
move_at line bytes first last after is numbers = let P : List ℕ → Type 0 = λ rest. IsMove rest first last after in subst P (sym is) numbers

-- an order, by the letter that its line begins with
by_letter : (line : List ℕ) (order : Order) → Spells line order → order ≡ order_by (letter_of order) (drop 2 line)
by_letter line (append text) spells = ap append (text_of line text spells)
by_letter line (insert after text) spells =
    let numbered = numbered_at line spells.1 after text (ap (drop 2) spells.2) spells.3 in
    ap (λ n. insert n text) (number_is (drop 2 line) after text numbered) ∙ ap (insert (number_in (drop 2 line))) (text_behind (drop 2 line) after text numbered)
by_letter line (replace at text) spells =
    let numbered = numbered_at line spells.1 at text (ap (drop 2) spells.2) spells.3 in
    ap (λ n. replace n text) (number_is (drop 2 line) at text numbered) ∙ ap (replace (number_in (drop 2 line))) (text_behind (drop 2 line) at text numbered)
by_letter line (delete first last) spells =
    let range = range_at line spells.1 first last (ap (drop 2) spells.2) spells.3 in
    ap (λ n. delete n last) (first_is (drop 2 line) first last range) ∙ ap (delete (number_in (drop 2 line))) (last_is (drop 2 line) first last range)
by_letter line (move first last after) spells =
    let rest = drop 2 line in
    let is = move_is rest first last after (move_at line spells.1 first last after (ap (drop 2) spells.2) spells.3) in
    ap (λ n. move n last after) is.0
    ∙ ap (λ n. move (number_in rest) n after) is.1
    ∙ ap (move (number_in rest) (number_in (after_first is_blank rest))) is.2
by_letter line list spells = refl
by_letter line binary spells = refl
by_letter line symbols spells = refl
by_letter line flags spells = refl
by_letter line work spells = refl
by_letter line quit spells = refl

order_is : (line : List ℕ) (order : Order) → Spells line order → order ≡ order_by (first_of line) (drop 2 line)
order_is line order spells = by_letter line order spells ∙ ap (λ letter. order_by letter (drop 2 line)) (sym (begins line order spells))

-- from a line's order on
pub only_order : (line : List ℕ) (is : Order) → Spells line is → (order : Order) → Spells line order → order ≡ is
only_order line is spells order other = order_is line order other ∙ sym (order_is line is spells)
