-- Identifiers of places, kind by kind.
use Rattle.std.proofs.Common.{◌≡◌, ℕ, zero, suc, ◌+◌, ◌-◌, ◌%◌, ◌<◌, ◌≤◌, ◌^◌, Bool, true, false, true≢false, ◌&&◌, ◌||◌, ◌==◌, refl, sym, ap, ◌∙◌, List, [], ◌∷◌, ◌++◌, get_or, take, drop, decimal, arith}
use Rattle.std.specs.Prelude.{codes, Some, None, is_some, length, nat_eq, nat_le, nat_lt, not, if◌then◌else◌}
use Rattle.std.specs.List.{list_all}
use Rattle.std.specs.Str.Parse.{digits_value}
use Rattle.std.proofs.lemmas.Bool.{leb-true, ne_eqb}
use Rattle.std.proofs.lemmas.Fmt.{decimal_by_steps, decimal_is_IsNumeral}
use Rattle.std.proofs.lemmas.Option.{same_Some}
use Rattle.cps_text.specs.declared.name.Name.{Name}
use Rattle.cps_text.specs.Name.{name_of, name_text}
use Rattle.cps_text.specs.Symbol.{begins_symbol, continues_symbol, is_generated, is_name, is_register, is_symbol, padded}
use Rattle.cps_text.specs.Text.{among, capital, capitals, is_digit}
use Rattle.cps_markup.specs.declared.place.Place.TheVariants.{Line, Symbol, Word, Block, Section}
use Rattle.cps_markup.specs.declared.place.PageSection.{PageSection}
use Rattle.cps_markup.specs.declared.place.PageSection.TheVariants as page
use Rattle.cps_markup.specs.Places.{section_name}
use Rattle.cps_markup.specs.PlaceLaws.{IdentifiersDiffer}

-- ---- a number begins with a digit, and is no name

abbrev BeginsAsNumber : List ℕ → Type 0
BeginsAsNumber text = (d : ℕ) × ((rest : List ℕ) × ((text ≡ d ∷ rest) × ((48 ≤ d) × (d ≤ 57))))

number-begins : (n : ℕ) → n < 2 ^ 64 → BeginsAsNumber (decimal n)
number-begins = decimal_by_steps (λ n text. BeginsAsNumber text)
    (λ n small. (48 + n, ([], (refl, (omega arith, omega arith)))))
    (λ n text big h. (h.0, (h.1.0 ++ (48 + n % 10) ∷ [], (ap (λ l. l ++ (48 + n % 10) ∷ []) h.1.1.0, h.1.1.1))))

not-le : (a b : ℕ) → b < a → nat_le a b ≡ false
not-le a b lt = elim (nat_le a b) as (λ x. nat_le a b ≡ x → x ≡ false) [
  | true ↦ λ is. absurd (let h = leb-true a b is in omega (arith, h, lt))
  | false ↦ λ _. refl
] refl

and-false : (a : Bool) → (a && false) ≡ false
and-false true = refl
and-false false = refl

digit-alone : (d : ℕ) → d ≤ 57 → capital d ≡ d
digit-alone d high = let absent = not-le 97 d (omega arith) in λ i. if absent i && nat_le d 122 then d - 32 else d

no-begin : (d : ℕ) → 48 ≤ d → d ≤ 57 → begins_symbol d ≡ false
no-begin d low high =
    let no_letter = not-le 65 d (omega arith) in
    let no_point : (d == 46) ≡ false = ne_eqb d 46 (λ e. omega arith) in
    λ i. no_letter i && nat_le d 90 || (no_point i || false)

no-symbol : (c : ℕ) (rest : List ℕ) → begins_symbol c ≡ false → is_symbol (c ∷ rest) ≡ false
no-symbol c rest absent =
    let long = nat_lt 0 (length (c ∷ rest)) && nat_le (length (c ∷ rest)) 8 in
    (λ i. long && (absent i && (list_all continues_symbol (c ∷ rest) && not (is_register (c ∷ rest))))) ∙ and-false long

no-generated : (c : ℕ) (rest : List ℕ) → (c == 126) ≡ false → is_generated (c ∷ rest) ≡ false
no-generated c rest absent = ap (λ b. (b || false) && (nat_eq (length rest) 7 && (list_all (is_digit 10) rest && not (list_all (among (codes "0")) rest)))) absent

no-name : (d : ℕ) (rest : List ℕ) → 48 ≤ d → d ≤ 57 → name_of (d ∷ rest) ≡ None
no-name d rest low high =
    let alone = digit-alone d high in
    let begins : begins_symbol (capital d) ≡ false = ap begins_symbol alone ∙ no-begin d low high in
    let mark : (capital d == 126) ≡ false = ap (λ c. c == 126) alone ∙ ne_eqb d 126 (λ e. omega arith) in
    let absent : is_name (capitals (d ∷ rest)) ≡ false = λ i. no-symbol (capital d) (capitals rest) begins i || no-generated (capital d) (capitals rest) mark i in
    λ i. if absent i then Some (record { bytes = padded (capitals (d ∷ rest)) }) else None

number-no-name : (n : ℕ) (name : Name) → n < 2 ^ 64 → name_of (name_text name) ≡ Some name → decimal n ≡ name_text name → ⊥
number-no-name n name small written same =
    let begins = number-begins n small in
    let none = sym written ∙ ap name_of (sym same ∙ begins.1.1.0) ∙ no-name begins.0 begins.1.0 begins.1.1.1.0 begins.1.1.1.1 in
    true≢false (ap is_some none)

-- ---- sections

number-no-section : (n : ℕ) (section : PageSection) → n < 2 ^ 64 → decimal n ≡ section_name section → ⊥
number-no-section n page.Memory small same = let b = number-begins n small in let e : b.0 ≡ 109 = ap (λ t. get_or t 0 0) (sym b.1.1.0 ∙ same) in let h = b.1.1.1.1 in omega (arith, e, h)
number-no-section n page.Listing small same = let b = number-begins n small in let e : b.0 ≡ 108 = ap (λ t. get_or t 0 0) (sym b.1.1.0 ∙ same) in let h = b.1.1.1.1 in omega (arith, e, h)
number-no-section n page.Words small same = let b = number-begins n small in let e : b.0 ≡ 119 = ap (λ t. get_or t 0 0) (sym b.1.1.0 ∙ same) in let h = b.1.1.1.1 in omega (arith, e, h)
number-no-section n page.Symbols small same = let b = number-begins n small in let e : b.0 ≡ 115 = ap (λ t. get_or t 0 0) (sym b.1.1.0 ∙ same) in let h = b.1.1.1.1 in omega (arith, e, h)
number-no-section n page.Flags small same = let b = number-begins n small in let e : b.0 ≡ 102 = ap (λ t. get_or t 0 0) (sym b.1.1.0 ∙ same) in let h = b.1.1.1.1 in omega (arith, e, h)
number-no-section n page.Instructions small same = let b = number-begins n small in let e : b.0 ≡ 105 = ap (λ t. get_or t 0 0) (sym b.1.1.0 ∙ same) in let h = b.1.1.1.1 in omega (arith, e, h)

symbol-no-section : (name : Name) (section : PageSection) → name_of (name_text name) ≡ Some name → name_text name ≡ section_name section → ⊥
symbol-no-section name page.Memory written same =
    let is = same_Some name (record { bytes = padded (codes "MEMORY") }) (sym written ∙ ap name_of same) in
    let e : 109 ≡ 77 = ap (λ t. get_or t 0 0) (sym same) ∙ ap (λ (n : Name). get_or (name_text n) 0 0) is in
    omega (arith, e)
symbol-no-section name page.Listing written same =
    let is = same_Some name (record { bytes = padded (codes "LISTING") }) (sym written ∙ ap name_of same) in
    let e : 108 ≡ 76 = ap (λ t. get_or t 0 0) (sym same) ∙ ap (λ (n : Name). get_or (name_text n) 0 0) is in
    omega (arith, e)
symbol-no-section name page.Words written same =
    let is = same_Some name (record { bytes = padded (codes "WORDS") }) (sym written ∙ ap name_of same) in
    let e : 119 ≡ 87 = ap (λ t. get_or t 0 0) (sym same) ∙ ap (λ (n : Name). get_or (name_text n) 0 0) is in
    omega (arith, e)
symbol-no-section name page.Symbols written same =
    let is = same_Some name (record { bytes = padded (codes "SYMBOLS") }) (sym written ∙ ap name_of same) in
    let e : 115 ≡ 83 = ap (λ t. get_or t 0 0) (sym same) ∙ ap (λ (n : Name). get_or (name_text n) 0 0) is in
    omega (arith, e)
symbol-no-section name page.Flags written same =
    let is = same_Some name (record { bytes = padded (codes "FLAGS") }) (sym written ∙ ap name_of same) in
    let e : 102 ≡ 70 = ap (λ t. get_or t 0 0) (sym same) ∙ ap (λ (n : Name). get_or (name_text n) 0 0) is in
    omega (arith, e)
symbol-no-section name page.Instructions written same = let e : None ≡ Some name = sym (ap name_of same) ∙ written in true≢false (sym (ap is_some e))

-- the section whose name begins with a letter
section_with : ℕ → PageSection
section_with letter =
    if letter == 109 then page.Memory else if letter == 108 then page.Listing else if letter == 119 then page.Words else if letter == 115 then page.Symbols
    else if letter == 102 then page.Flags else page.Instructions

section-with : (section : PageSection) → section_with (get_or (section_name section) 0 0) ≡ section
unfolding section_with
section-with page.Memory = refl
section-with page.Listing = refl
section-with page.Words = refl
section-with page.Symbols = refl
section-with page.Flags = refl
section-with page.Instructions = refl

same-section : (a b : PageSection) → section_name a ≡ section_name b → a ≡ b
same-section a b same = sym (section-with a) ∙ ap (λ text. section_with (get_or text 0 0)) same ∙ section-with b

-- ---- words

-- a name has no small letter
named-is : (text : List ℕ) (name : Name) → name_of text ≡ Some name → name ≡ record { bytes = padded (capitals text) }
named-is text name is =
    elim (is_name (capitals text)) as (λ b. (if b then Some (record { bytes = padded (capitals text) }) else None) ≡ Some name → name ≡ record { bytes = padded (capitals text) }) [
      | true ↦ λ e. same_Some name (record { bytes = padded (capitals text) }) (sym e)
      | false ↦ λ e. absurd (true≢false (sym (ap is_some e)))
    ] is

head-taken : (k : ℕ) (text : List ℕ) (c : ℕ) (rest : List ℕ) → take k text ≡ c ∷ rest → get_or text 0 0 ≡ c
head-taken zero text c rest same = absurd (let long = ap length same in omega (arith, long))
head-taken (suc k) [] c rest same = absurd (let long = ap length same in omega (arith, long))
head-taken (suc k) (d ∷ text) c rest same = ap (λ t. get_or t 0 0) same

word-no-symbol : (n : ℕ) (name : Name) → name_of (name_text name) ≡ Some name → codes "w" ++ decimal n ≡ name_text name → ⊥
word-no-symbol n name written same =
    let is = named-is (name_text name) name written in
    let small : get_or name.bytes 0 0 ≡ 119 = head-taken _ name.bytes 119 (decimal n) (sym same) in
    let large : get_or name.bytes 0 0 ≡ 87 = ap (λ (m : Name). get_or m.bytes 0 0) is ∙ ap (λ t. get_or (padded (capitals t)) 0 0) (sym same) in
    omega (arith, small, large)

word-no-line : (n m : ℕ) → m < 2 ^ 64 → codes "w" ++ decimal n ≡ decimal m → ⊥
word-no-line n m small same = let b = number-begins m small in let e : b.0 ≡ 119 = ap (λ t. get_or t 0 0) (sym b.1.1.0 ∙ sym same) in let h = b.1.1.1.1 in omega (arith, e, h)

word-no-section : (n : ℕ) (section : PageSection) → n < 2 ^ 64 → codes "w" ++ decimal n ≡ section_name section → ⊥
word-no-section n page.Memory small same = let e : 119 ≡ 109 = ap (λ t. get_or t 0 0) same in omega (arith, e)
word-no-section n page.Listing small same = let e : 119 ≡ 108 = ap (λ t. get_or t 0 0) same in omega (arith, e)
word-no-section n page.Words small same =
    let b = number-begins n small in
    let e : b.0 ≡ 111 = ap (λ t. get_or t 0 0) (sym b.1.1.0) ∙ ap (λ t. get_or (drop 1 t) 0 0) same in
    let h = b.1.1.1.1 in
    omega (arith, e, h)
word-no-section n page.Symbols small same = let e : 119 ≡ 115 = ap (λ t. get_or t 0 0) same in omega (arith, e)
word-no-section n page.Flags small same = let e : 119 ≡ 102 = ap (λ t. get_or t 0 0) same in omega (arith, e)
word-no-section n page.Instructions small same = let e : 119 ≡ 105 = ap (λ t. get_or t 0 0) same in omega (arith, e)

-- ---- blocks

block-no-symbol : (text : List ℕ) (name : Name) → name_of (name_text name) ≡ Some name → codes "b-" ++ text ≡ name_text name → ⊥
block-no-symbol text name written same =
    let is = named-is (name_text name) name written in
    let small : get_or name.bytes 0 0 ≡ 98 = head-taken _ name.bytes 98 (codes "-" ++ text) (sym same) in
    let large : get_or name.bytes 0 0 ≡ 66 = ap (λ (m : Name). get_or m.bytes 0 0) is ∙ ap (λ t. get_or (padded (capitals t)) 0 0) (sym same) in
    omega (arith, small, large)

block-no-line : (text : List ℕ) (m : ℕ) → m < 2 ^ 64 → codes "b-" ++ text ≡ decimal m → ⊥
block-no-line text m small same = let b = number-begins m small in let e : b.0 ≡ 98 = ap (λ t. get_or t 0 0) (sym b.1.1.0 ∙ sym same) in let h = b.1.1.1.1 in omega (arith, e, h)

block-no-word : (text : List ℕ) (n : ℕ) → codes "b-" ++ text ≡ codes "w" ++ decimal n → ⊥
block-no-word text n same = let e : 98 ≡ 119 = ap (λ t. get_or t 0 0) same in omega (arith, e)

block-no-section : (text : List ℕ) (section : PageSection) → codes "b-" ++ text ≡ section_name section → ⊥
block-no-section text page.Memory same = let e : 98 ≡ 109 = ap (λ t. get_or t 0 0) same in omega (arith, e)
block-no-section text page.Listing same = let e : 98 ≡ 108 = ap (λ t. get_or t 0 0) same in omega (arith, e)
block-no-section text page.Words same = let e : 98 ≡ 119 = ap (λ t. get_or t 0 0) same in omega (arith, e)
block-no-section text page.Symbols same = let e : 98 ≡ 115 = ap (λ t. get_or t 0 0) same in omega (arith, e)
block-no-section text page.Flags same = let e : 98 ≡ 102 = ap (λ t. get_or t 0 0) same in omega (arith, e)
block-no-section text page.Instructions same = let e : 98 ≡ 105 = ap (λ t. get_or t 0 0) same in omega (arith, e)

-- ---- places

small : (n : ℕ) → n < 2 ^ 32 → n < 2 ^ 64
small n below = omega arith

same-number : (a b : ℕ) → a < 2 ^ 32 → b < 2 ^ 32 → decimal a ≡ decimal b → a ≡ b
same-number a b low high same = sym (decimal_is_IsNumeral a (small a low)).1 ∙ ap (digits_value 10) same ∙ (decimal_is_IsNumeral b (small b high)).1

pub identifiers-differ : IdentifiersDiffer
identifiers-differ (Line a) (Line b) wa wb same = ap Line (same-number a b wa wb same)
identifiers-differ (Line a) (Symbol b) wa wb same = absurd (number-no-name a b (small a wa) wb same)
identifiers-differ (Line a) (Word b) wa wb same = absurd (word-no-line b a (small a wa) (sym same))
identifiers-differ (Line a) (Section b) wa wb same = absurd (number-no-section a b (small a wa) same)
identifiers-differ (Symbol a) (Line b) wa wb same = absurd (number-no-name b a (small b wb) wa (sym same))
identifiers-differ (Symbol a) (Symbol b) wa wb same = ap Symbol (same_Some a b (sym wa ∙ ap name_of same ∙ wb))
identifiers-differ (Symbol a) (Word b) wa wb same = absurd (word-no-symbol b a wa (sym same))
identifiers-differ (Word a) (Line b) wa wb same = absurd (word-no-line a b (small b wb) same)
identifiers-differ (Word a) (Symbol b) wa wb same = absurd (word-no-symbol a b wb same)
identifiers-differ (Word a) (Word b) wa wb same = ap Word (same-number a b wa wb (ap (drop 1) same))
identifiers-differ (Word a) (Section b) wa wb same = absurd (word-no-section a b (small a wa) same)
identifiers-differ (Symbol a) (Section b) wa wb same = absurd (symbol-no-section a b wa same)
identifiers-differ (Section a) (Line b) wa wb same = absurd (number-no-section b a (small b wb) (sym same))
identifiers-differ (Section a) (Symbol b) wa wb same = absurd (symbol-no-section b a wb (sym same))
identifiers-differ (Section a) (Word b) wa wb same = absurd (word-no-section b a (small b wb) (sym same))
identifiers-differ (Section a) (Section b) wa wb same = ap Section (same-section a b same)
identifiers-differ (Line a) (Block b) wa wb same = absurd (block-no-line (name_text b) a (small a wa) (sym same))
identifiers-differ (Symbol a) (Block b) wa wb same = absurd (block-no-symbol (name_text b) a wa (sym same))
identifiers-differ (Word a) (Block b) wa wb same = absurd (block-no-word (name_text b) a (sym same))
identifiers-differ (Section a) (Block b) wa wb same = absurd (block-no-section (name_text b) a (sym same))
identifiers-differ (Block a) (Line b) wa wb same = absurd (block-no-line (name_text a) b (small b wb) same)
identifiers-differ (Block a) (Symbol b) wa wb same = absurd (block-no-symbol (name_text a) b wb same)
identifiers-differ (Block a) (Word b) wa wb same = absurd (block-no-word (name_text a) b same)
identifiers-differ (Block a) (Section b) wa wb same = absurd (block-no-section (name_text a) b same)
identifiers-differ (Block a) (Block b) wa wb same = ap Block (same_Some a b (sym wa ∙ ap (λ t. name_of (drop 2 t)) same ∙ wb))
