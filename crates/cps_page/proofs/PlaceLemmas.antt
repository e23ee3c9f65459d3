-- The places of a page: none comes twice, and those that links may lead to are there.
use Rattle.std.proofs.Common.{◌≡◌, ℕ, suc, ◌+◌, ◌≤◌, ◌<◌, ◌^◌, Bool, true, false, true≢false, cond, ◌||◌, ◌==◌, refl, sym, ap, ◌∙◌, List, [], ◌∷◌, ◌++◌, length, zero-add, arith}
use Rattle.std.specs.Prelude.{All, count_by}
use Rattle.std.specs.List.{list_any}
use Rattle.std.proofs.lemmas.Bool.{eqb-false, eqb-true, ne_eqb}
use Rattle.std.proofs.lemmas.List.Elements.{All-append}
use Rattle.std.proofs.lemmas.List.Folds.{list_any-append}
use Rattle.std.proofs.lemmas.List.Sums.{sum_by-append}
use Rattle.cps_text.specs.declared.name.Name.{Name}
use Rattle.cps_expr.specs.Value.{same_name}
use Rattle.cps_markup.specs.declared.place.Place.{Place}
use Rattle.cps_markup.specs.declared.place.Place.TheVariants.{Line, Symbol, Word, Block, Section}
use Rattle.cps_markup.specs.declared.place.PageSection.{PageSection}
use Rattle.cps_markup.specs.declared.place.PageSection.TheVariants as page
use Rattle.cps_markup.specs.declared.targets.Entry.{Entry}
use Rattle.cps_markup.specs.declared.targets.Targets.{Targets}
use Rattle.cps_markup.specs.declared.targets.WordEntry.{WordEntry}
use Rattle.cps_markup.specs.Links.{is_at, is_of, HasPlace}
use Rattle.cps_markup.specs.PlaceLaws.{IsWritten}
use Rattle.cps_markup.specs.Places.{same_place}
use Rattle.cps_markup.proofs.AddsLemmas.{all-none, all-one}
use Rattle.cps_page.specs.Code.Making.{AreBlocks, AreWords, blocks_among, lines_from, symbols_among, words_among, all_places}

-- ---- counts

abbrev one_if : Bool → ℕ
one_if b = cond b 1 0

count-append : {T : Type 0} (p : T → Bool) (xs ys : List T) → count_by p (xs ++ ys) ≡ count_by p xs + count_by p ys
count-append p xs ys = sum_by-append (λ x. cond (p x) 1 0) xs ys

count-one : {T : Type 0} (p : T → Bool) (x : T) → count_by p (x ∷ []) ≡ cond (p x) 1 0
count-one p x = zero-add (cond (p x) 1 0)

count-cons : {T : Type 0} (p : T → Bool) (x : T) (xs : List T) → count_by p (x ∷ xs) ≡ cond (p x) 1 0 + count_by p xs
count-cons p x xs = count-append p (x ∷ []) xs ∙ ap (λ n. n + count_by p xs) (count-one p x)

-- ---- lines

count-below : (k n : ℕ) (lines : List (List ℕ)) → k < n → count_by (same_place (Line k)) (lines_from n lines) ≡ 0
count-below k n [] below = refl
count-below k n (line ∷ lines) below =
    let other : (k == n) ≡ false = ne_eqb k n (λ e. omega arith) in
    let no : one_if (k == n) ≡ 0 = ap one_if other in
    let count = count-cons (same_place (Line k)) (Line n) (lines_from (n + 1) lines) in
    let later = count-below k (n + 1) lines (omega arith) in
    omega (arith, no, count, later)

lines-once : (k n : ℕ) (lines : List (List ℕ)) → count_by (same_place (Line k)) (lines_from n lines) ≤ 1
lines-once k n [] = omega arith
lines-once k n (line ∷ lines) =
    let count = count-cons (same_place (Line k)) (Line n) (lines_from (n + 1) lines) in
    elim (k == n) as (λ b. (k == n) ≡ b → count_by (same_place (Line k)) (lines_from n (line ∷ lines)) ≤ 1) [
      | true ↦ λ same.
          let is = eqb-true k n same in
          let one : one_if (k == n) ≡ 1 = ap one_if same in
          let none = count-below k (n + 1) lines (omega (arith, is)) in
          omega (arith, count, one, none)
      | false ↦ λ other.
          let no : one_if (k == n) ≡ 0 = ap one_if other in
          let later = lines-once k (n + 1) lines in
          omega (arith, count, no, later)
    ] refl

lines-there : (k n : ℕ) (lines : List (List ℕ)) → n ≤ k → k < n + length lines → list_any (same_place (Line k)) (lines_from n lines) ≡ true
lines-there k n [] from below = absurd (omega arith)
lines-there k n (line ∷ lines) from below =
    elim (k == n) as (λ b. (k == n) ≡ b → (b || list_any (same_place (Line k)) (lines_from (n + 1) lines)) ≡ true) [
      | true ↦ λ same. refl
      | false ↦ λ other. let apart = eqb-false k n other in lines-there k (n + 1) lines (omega (arith, apart)) (omega arith)
    ] refl

no-lines-symbol : (name : Name) (n : ℕ) (lines : List (List ℕ)) → count_by (same_place (Symbol name)) (lines_from n lines) ≡ 0
no-lines-symbol name n [] = refl
no-lines-symbol name n (line ∷ lines) =
    let count = count-cons (same_place (Symbol name)) (Line n) (lines_from (n + 1) lines) in
    let later = no-lines-symbol name (n + 1) lines in
    omega (arith, count, later)

no-lines-section : (section : PageSection) (n : ℕ) (lines : List (List ℕ)) → count_by (same_place (Section section)) (lines_from n lines) ≡ 0
no-lines-section section n [] = refl
no-lines-section section n (line ∷ lines) =
    let count = count-cons (same_place (Section section)) (Line n) (lines_from (n + 1) lines) in
    let later = no-lines-section section (n + 1) lines in
    omega (arith, count, later)

-- ---- symbols

symbols-count : (name : Name) (entries : List Entry) → count_by (same_place (Symbol name)) (symbols_among entries) ≡ count_by (is_of name) entries
symbols-count name [] = refl
symbols-count name (entry ∷ entries) =
    count-cons (same_place (Symbol name)) (Symbol entry.name) (symbols_among entries)
    ∙ ap (λ n. cond (same_name name entry.name) 1 0 + n) (symbols-count name entries)
    ∙ sym (count-cons (is_of name) entry entries)

symbols-there : (name : Name) (entries : List Entry) → list_any (same_place (Symbol name)) (symbols_among entries) ≡ list_any (is_of name) entries
symbols-there name [] = refl
symbols-there name (entry ∷ entries) = ap (λ b. same_name name entry.name || b) (symbols-there name entries)

no-symbols-line : (k : ℕ) (entries : List Entry) → count_by (same_place (Line k)) (symbols_among entries) ≡ 0
no-symbols-line k [] = refl
no-symbols-line k (entry ∷ entries) =
    let count = count-cons (same_place (Line k)) (Symbol entry.name) (symbols_among entries) in
    let later = no-symbols-line k entries in
    omega (arith, count, later)

no-symbols-section : (section : PageSection) (entries : List Entry) → count_by (same_place (Section section)) (symbols_among entries) ≡ 0
no-symbols-section section [] = refl
no-symbols-section section (entry ∷ entries) =
    let count = count-cons (same_place (Section section)) (Symbol entry.name) (symbols_among entries) in
    let later = no-symbols-section section entries in
    omega (arith, count, later)

-- ---- words

words-count : (digits : ℕ) (words : List WordEntry) → count_by (same_place (Word digits)) (words_among words) ≡ count_by (is_at digits) words
words-count digits [] = refl
words-count digits (word ∷ words) =
    count-cons (same_place (Word digits)) (Word word.digits) (words_among words)
    ∙ ap (λ n. cond (digits == word.digits) 1 0 + n) (words-count digits words)
    ∙ sym (count-cons (is_at digits) word words)

words-there : (digits : ℕ) (words : List WordEntry) → list_any (same_place (Word digits)) (words_among words) ≡ list_any (is_at digits) words
words-there digits [] = refl
words-there digits (word ∷ words) = ap (λ b. (digits == word.digits) || b) (words-there digits words)

no-words-line : (k : ℕ) (words : List WordEntry) → count_by (same_place (Line k)) (words_among words) ≡ 0
no-words-line k [] = refl
no-words-line k (word ∷ words) =
    let count = count-cons (same_place (Line k)) (Word word.digits) (words_among words) in
    let later = no-words-line k words in
    omega (arith, count, later)

no-words-symbol : (name : Name) (words : List WordEntry) → count_by (same_place (Symbol name)) (words_among words) ≡ 0
no-words-symbol name [] = refl
no-words-symbol name (word ∷ words) =
    let count = count-cons (same_place (Symbol name)) (Word word.digits) (words_among words) in
    let later = no-words-symbol name words in
    omega (arith, count, later)

no-words-section : (section : PageSection) (words : List WordEntry) → count_by (same_place (Section section)) (words_among words) ≡ 0
no-words-section section [] = refl
no-words-section section (word ∷ words) =
    let count = count-cons (same_place (Section section)) (Word word.digits) (words_among words) in
    let later = no-words-section section words in
    omega (arith, count, later)

no-lines-word : (digits n : ℕ) (lines : List (List ℕ)) → count_by (same_place (Word digits)) (lines_from n lines) ≡ 0
no-lines-word digits n [] = refl
no-lines-word digits n (line ∷ lines) =
    let count = count-cons (same_place (Word digits)) (Line n) (lines_from (n + 1) lines) in
    let later = no-lines-word digits (n + 1) lines in
    omega (arith, count, later)

no-symbols-word : (digits : ℕ) (entries : List Entry) → count_by (same_place (Word digits)) (symbols_among entries) ≡ 0
no-symbols-word digits [] = refl
no-symbols-word digits (entry ∷ entries) =
    let count = count-cons (same_place (Word digits)) (Symbol entry.name) (symbols_among entries) in
    let later = no-symbols-word digits entries in
    omega (arith, count, later)

-- ---- blocks

blocks-count : (name : Name) (blocks : List Name) → count_by (same_place (Block name)) (blocks_among blocks) ≡ count_by (same_name name) blocks
blocks-count name [] = refl
blocks-count name (block ∷ blocks) =
    count-cons (same_place (Block name)) (Block block) (blocks_among blocks)
    ∙ ap (λ n. cond (same_name name block) 1 0 + n) (blocks-count name blocks)
    ∙ sym (count-cons (same_name name) block blocks)

blocks-there : (name : Name) (blocks : List Name) → list_any (same_place (Block name)) (blocks_among blocks) ≡ list_any (same_name name) blocks
blocks-there name [] = refl
blocks-there name (block ∷ blocks) = ap (λ b. same_name name block || b) (blocks-there name blocks)

no-lines-block : (name : Name) (n : ℕ) (lines : List (List ℕ)) → count_by (same_place (Block name)) (lines_from n lines) ≡ 0
no-lines-block name n [] = refl
no-lines-block name n (line ∷ lines) =
    let count = count-cons (same_place (Block name)) (Line n) (lines_from (n + 1) lines) in
    let later = no-lines-block name (n + 1) lines in
    omega (arith, count, later)

no-symbols-block : (name : Name) (symbols : List Entry) → count_by (same_place (Block name)) (symbols_among symbols) ≡ 0
no-symbols-block name [] = refl
no-symbols-block name (entry ∷ symbols) =
    let count = count-cons (same_place (Block name)) (Symbol entry.name) (symbols_among symbols) in
    let later = no-symbols-block name symbols in
    omega (arith, count, later)

no-words-block : (name : Name) (words : List WordEntry) → count_by (same_place (Block name)) (words_among words) ≡ 0
no-words-block name [] = refl
no-words-block name (word ∷ words) =
    let count = count-cons (same_place (Block name)) (Word word.digits) (words_among words) in
    let later = no-words-block name words in
    omega (arith, count, later)

no-blocks-line : (k : ℕ) (blocks : List Name) → count_by (same_place (Line k)) (blocks_among blocks) ≡ 0
no-blocks-line k [] = refl
no-blocks-line k (block ∷ blocks) =
    let count = count-cons (same_place (Line k)) (Block block) (blocks_among blocks) in
    let later = no-blocks-line k blocks in
    omega (arith, count, later)

no-blocks-symbol : (name : Name) (blocks : List Name) → count_by (same_place (Symbol name)) (blocks_among blocks) ≡ 0
no-blocks-symbol name [] = refl
no-blocks-symbol name (block ∷ blocks) =
    let count = count-cons (same_place (Symbol name)) (Block block) (blocks_among blocks) in
    let later = no-blocks-symbol name blocks in
    omega (arith, count, later)

no-blocks-word : (digits : ℕ) (blocks : List Name) → count_by (same_place (Word digits)) (blocks_among blocks) ≡ 0
no-blocks-word digits [] = refl
no-blocks-word digits (block ∷ blocks) =
    let count = count-cons (same_place (Word digits)) (Block block) (blocks_among blocks) in
    let later = no-blocks-word digits blocks in
    omega (arith, count, later)

no-blocks-section : (section : PageSection) (blocks : List Name) → count_by (same_place (Section section)) (blocks_among blocks) ≡ 0
no-blocks-section section [] = refl
no-blocks-section section (block ∷ blocks) =
    let count = count-cons (same_place (Section section)) (Block block) (blocks_among blocks) in
    let later = no-blocks-section section blocks in
    omega (arith, count, later)

-- ---- all

abbrev at : Place → PageSection → ℕ
at place section = cond (same_place place (Section section)) 1 0

abbrev parts : Place → List (List ℕ) → Targets → ℕ
parts place lines targets =
    at place page.Memory + (count_by (same_place place) (blocks_among targets.blocks.items) + (at place page.Listing + (count_by (same_place place) (lines_from 1 lines)
    + (at place page.Words + (count_by (same_place place) (words_among targets.words.items)
    + (at place page.Symbols + (count_by (same_place place) (symbols_among targets.entries.items) + (at place page.Flags + at place page.Instructions))))))))

all-count : (place : Place) (lines : List (List ℕ)) (targets : Targets) → count_by (same_place place) (all_places lines targets) ≡ parts place lines targets
all-count place lines targets =
    let p = same_place place in
    let instructions = Section page.Instructions ∷ [] in
    let flags = Section page.Flags ∷ instructions in
    let symbols = Section page.Symbols ∷ (symbols_among targets.entries.items ++ flags) in
    let words = Section page.Words ∷ (words_among targets.words.items ++ symbols) in
    let listing = Section page.Listing ∷ (lines_from 1 lines ++ words) in
    count-cons p (Section page.Memory) (blocks_among targets.blocks.items ++ listing)
    ∙ ap (λ n. at place page.Memory + n) (count-append p (blocks_among targets.blocks.items) listing
    ∙ ap (λ n. count_by p (blocks_among targets.blocks.items) + n) (count-cons p (Section page.Listing) (lines_from 1 lines ++ words)
    ∙ ap (λ n. at place page.Listing + n) (count-append p (lines_from 1 lines) words
    ∙ ap (λ n. count_by p (lines_from 1 lines) + n) (count-cons p (Section page.Words) (words_among targets.words.items ++ symbols)
    ∙ ap (λ n. at place page.Words + n) (count-append p (words_among targets.words.items) symbols
    ∙ ap (λ n. count_by p (words_among targets.words.items) + n) (count-cons p (Section page.Symbols) (symbols_among targets.entries.items ++ flags)
    ∙ ap (λ n. at place page.Symbols + n) (count-append p (symbols_among targets.entries.items) flags
    ∙ ap (λ n. count_by p (symbols_among targets.entries.items) + n) (count-cons p (Section page.Flags) instructions
    ∙ ap (λ n. at place page.Flags + n) (count-one p (Section page.Instructions))))))))))

pub all-once : (lines : List (List ℕ)) (targets : Targets) → ((name : Name) → count_by (is_of name) targets.entries.items ≤ 1) → AreWords targets.words.items
    → AreBlocks targets.blocks.items → (place : Place) → count_by (same_place place) (all_places lines targets) ≤ 1
all-once lines targets once words blocks (Line k) =
    let count = all-count (Line k) lines targets in
    let here = lines-once k 1 lines in
    let none = no-symbols-line k targets.entries.items in
    let no_word = no-words-line k targets.words.items in
    let no_block = no-blocks-line k targets.blocks.items in
    omega (arith, count, here, none, no_word, no_block)
all-once lines targets once words blocks (Symbol name) =
    let count = all-count (Symbol name) lines targets in
    let none = no-lines-symbol name 1 lines in
    let same = symbols-count name targets.entries.items in
    let here = once name in
    let no_word = no-words-symbol name targets.words.items in
    let no_block = no-blocks-symbol name targets.blocks.items in
    omega (arith, count, none, same, here, no_word, no_block)
all-once lines targets once words blocks (Word digits) =
    let count = all-count (Word digits) lines targets in
    let none = no-lines-word digits 1 lines in
    let same = words-count digits targets.words.items in
    let here = words.once digits in
    let no_symbol = no-symbols-word digits targets.entries.items in
    let no_block = no-blocks-word digits targets.blocks.items in
    omega (arith, count, none, same, here, no_symbol, no_block)
all-once lines targets once words blocks (Block name) =
    let count = all-count (Block name) lines targets in
    let none = no-lines-block name 1 lines in
    let same = blocks-count name targets.blocks.items in
    let here = blocks.once name in
    let no_symbol = no-symbols-block name targets.entries.items in
    let no_word = no-words-block name targets.words.items in
    omega (arith, count, none, same, here, no_symbol, no_word)
all-once lines targets once words blocks (Section page.Memory) =
    let count = all-count (Section page.Memory) lines targets in
    let none = no-lines-section page.Memory 1 lines in
    let no_symbol = no-symbols-section page.Memory targets.entries.items in
    let no_word = no-words-section page.Memory targets.words.items in
    let no_block = no-blocks-section page.Memory targets.blocks.items in
    omega (arith, count, none, no_symbol, no_word, no_block)
all-once lines targets once words blocks (Section page.Listing) =
    let count = all-count (Section page.Listing) lines targets in
    let none = no-lines-section page.Listing 1 lines in
    let no_symbol = no-symbols-section page.Listing targets.entries.items in
    let no_word = no-words-section page.Listing targets.words.items in
    let no_block = no-blocks-section page.Listing targets.blocks.items in
    omega (arith, count, none, no_symbol, no_word, no_block)
all-once lines targets once words blocks (Section page.Words) =
    let count = all-count (Section page.Words) lines targets in
    let none = no-lines-section page.Words 1 lines in
    let no_symbol = no-symbols-section page.Words targets.entries.items in
    let no_word = no-words-section page.Words targets.words.items in
    let no_block = no-blocks-section page.Words targets.blocks.items in
    omega (arith, count, none, no_symbol, no_word, no_block)
all-once lines targets once words blocks (Section page.Symbols) =
    let count = all-count (Section page.Symbols) lines targets in
    let none = no-lines-section page.Symbols 1 lines in
    let no_symbol = no-symbols-section page.Symbols targets.entries.items in
    let no_word = no-words-section page.Symbols targets.words.items in
    let no_block = no-blocks-section page.Symbols targets.blocks.items in
    omega (arith, count, none, no_symbol, no_word, no_block)
all-once lines targets once words blocks (Section page.Flags) =
    let count = all-count (Section page.Flags) lines targets in
    let none = no-lines-section page.Flags 1 lines in
    let no_symbol = no-symbols-section page.Flags targets.entries.items in
    let no_word = no-words-section page.Flags targets.words.items in
    let no_block = no-blocks-section page.Flags targets.blocks.items in
    omega (arith, count, none, no_symbol, no_word, no_block)
all-once lines targets once words blocks (Section page.Instructions) =
    let count = all-count (Section page.Instructions) lines targets in
    let none = no-lines-section page.Instructions 1 lines in
    let no_symbol = no-symbols-section page.Instructions targets.entries.items in
    let no_word = no-words-section page.Instructions targets.words.items in
    let no_block = no-blocks-section page.Instructions targets.blocks.items in
    omega (arith, count, none, no_symbol, no_word, no_block)

-- ---- what links may lead to is there

or-right : (a b : Bool) → b ≡ true → (a || b) ≡ true
or-right true b h = refl
or-right false b h = h

or-left : (a b : Bool) → a ≡ true → (a || b) ≡ true
or-left true b h = refl
or-left false b h = absurd (true≢false (sym h))

any-left : {T : Type 0} (p : T → Bool) (xs ys : List T) → list_any p xs ≡ true → list_any p (xs ++ ys) ≡ true
any-left p xs ys h = list_any-append p xs ys ∙ or-left _ _ h

any-right : {T : Type 0} (p : T → Bool) (xs ys : List T) → list_any p ys ≡ true → list_any p (xs ++ ys) ≡ true
any-right p xs ys h = list_any-append p xs ys ∙ or-right _ _ h

pub all-there : (lines : List (List ℕ)) (targets : Targets) → targets.count ≡ length lines → (place : Place) → HasPlace targets place
    → list_any (same_place place) (all_places lines targets) ≡ true
all-there lines targets same (Line k) has =
    any-right (same_place (Line k)) (blocks_among targets.blocks.items) _ (any-left (same_place (Line k)) (lines_from 1 lines) _ (lines-there k 1 lines has.0 (let below = has.1 in omega (arith, below, same))))
all-there lines targets same (Symbol name) has =
    any-right (same_place (Symbol name)) (blocks_among targets.blocks.items) _ (any-right (same_place (Symbol name)) (lines_from 1 lines) _ (any-right (same_place (Symbol name)) (words_among targets.words.items) _ (any-left (same_place (Symbol name)) (symbols_among targets.entries.items) _ (symbols-there name targets.entries.items ∙ has))))
all-there lines targets same (Word digits) has =
    any-right (same_place (Word digits)) (blocks_among targets.blocks.items) _ (any-right (same_place (Word digits)) (lines_from 1 lines) _ (any-left (same_place (Word digits)) (words_among targets.words.items) _ (words-there digits targets.words.items ∙ has)))
all-there lines targets same (Block name) has =
    any-left (same_place (Block name)) (blocks_among targets.blocks.items) _ (blocks-there name targets.blocks.items ∙ has)
all-there lines targets same (Section page.Memory) has = refl
all-there lines targets same (Section page.Listing) has =
    any-right (same_place (Section page.Listing)) (blocks_among targets.blocks.items) _ (refl)
all-there lines targets same (Section page.Words) has =
    any-right (same_place (Section page.Words)) (blocks_among targets.blocks.items) _ (any-right (same_place (Section page.Words)) (lines_from 1 lines) _ (refl))
all-there lines targets same (Section page.Symbols) has =
    any-right (same_place (Section page.Symbols)) (blocks_among targets.blocks.items) _ (any-right (same_place (Section page.Symbols)) (lines_from 1 lines) _ (any-right (same_place (Section page.Symbols)) (words_among targets.words.items) _ (refl)))
all-there lines targets same (Section page.Flags) has =
    any-right (same_place (Section page.Flags)) (blocks_among targets.blocks.items) _ (any-right (same_place (Section page.Flags)) (lines_from 1 lines) _ (any-right (same_place (Section page.Flags)) (words_among targets.words.items) _ (any-right (same_place (Section page.Flags)) (symbols_among targets.entries.items) _ (refl))))
all-there lines targets same (Section page.Instructions) has =
    any-right (same_place (Section page.Instructions)) (blocks_among targets.blocks.items) _ (any-right (same_place (Section page.Instructions)) (lines_from 1 lines) _ (any-right (same_place (Section page.Instructions)) (words_among targets.words.items) _ (any-right (same_place (Section page.Instructions)) (symbols_among targets.entries.items) _ (refl))))

-- ---- places are written

lines-written : (n : ℕ) (lines : List (List ℕ)) → n + length lines ≤ 2 ^ 32 → All IsWritten (lines_from n lines)
lines-written n [] few = all-none IsWritten
lines-written n (line ∷ lines) few =
    All-append IsWritten (Line n ∷ []) (lines_from (n + 1) lines) (all-one IsWritten (Line n) (omega arith)) (lines-written (n + 1) lines (omega arith))

symbols-written : (entries : List Entry) → All (λ (entry : Entry). IsWritten (Symbol entry.name)) entries → All IsWritten (symbols_among entries)
symbols-written [] all = all-none IsWritten
symbols-written (entry ∷ entries) all =
    All-append IsWritten (Symbol entry.name ∷ []) (symbols_among entries) (all-one IsWritten (Symbol entry.name) (all 0 entry (omega arith)))
    (symbols-written entries (λ k d lt. all (suc k) d (omega arith)))

section-written : (section : PageSection) → All IsWritten (Section section ∷ [])
section-written section = all-one IsWritten (Section section) tt

words-written : (words : List WordEntry) → All (λ (word : WordEntry). IsWritten (Word word.digits)) words → All IsWritten (words_among words)
words-written [] all = all-none IsWritten
words-written (word ∷ words) all =
    All-append IsWritten (Word word.digits ∷ []) (words_among words) (all-one IsWritten (Word word.digits) (all 0 word (omega arith)))
    (words-written words (λ k d lt. all (suc k) d (omega arith)))

blocks-written : (blocks : List Name) → All (λ (name : Name). IsWritten (Block name)) blocks → All IsWritten (blocks_among blocks)
blocks-written [] all = all-none IsWritten
blocks-written (block ∷ blocks) all =
    All-append IsWritten (Block block ∷ []) (blocks_among blocks) (all-one IsWritten (Block block) (all 0 block (omega arith)))
    (blocks-written blocks (λ k d lt. all (suc k) d (omega arith)))

pub all-written : (lines : List (List ℕ)) (targets : Targets) → length lines < 2 ^ 32 → All (λ (entry : Entry). IsWritten (Symbol entry.name)) targets.entries.items
    → AreWords targets.words.items → AreBlocks targets.blocks.items → All IsWritten (all_places lines targets)
all-written lines targets few written known blocks =
    let instructions = Section page.Instructions ∷ [] in
    let flags = Section page.Flags ∷ instructions in
    let symbols = Section page.Symbols ∷ (symbols_among targets.entries.items ++ flags) in
    let words = Section page.Words ∷ (words_among targets.words.items ++ symbols) in
    let listing = Section page.Listing ∷ (lines_from 1 lines ++ words) in
    All-append IsWritten (Section page.Memory ∷ []) (blocks_among targets.blocks.items ++ listing) (section-written page.Memory)
    (All-append IsWritten (blocks_among targets.blocks.items) listing (blocks-written targets.blocks.items blocks.written)
    (All-append IsWritten (Section page.Listing ∷ []) (lines_from 1 lines ++ words) (section-written page.Listing)
    (All-append IsWritten (lines_from 1 lines) words (lines-written 1 lines (omega arith))
    (All-append IsWritten (Section page.Words ∷ []) (words_among targets.words.items ++ symbols) (section-written page.Words)
    (All-append IsWritten (words_among targets.words.items) symbols (words-written targets.words.items known.written)
    (All-append IsWritten (Section page.Symbols ∷ []) (symbols_among targets.entries.items ++ flags) (section-written page.Symbols)
    (All-append IsWritten (symbols_among targets.entries.items) flags (symbols-written targets.entries.items written)
    (All-append IsWritten (Section page.Flags ∷ []) instructions (section-written page.Flags) (section-written page.Instructions)))))))))
