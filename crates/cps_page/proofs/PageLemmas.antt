-- A page from its sections, and sections from their rows.
use Rattle.std.proofs.Common.{◌≡◌, ℕ, suc, ◌+◌, ◌-◌, ◌≤◌, ◌<◌, refl, sym, ap, subst, ◌∙◌, List, [], ◌∷◌, ◌++◌, append-nil, append_assoc, get_or, take, drop, length, arith}
use Rattle.std.specs.Prelude.{All, Some, slice_get, count_by}
use Rattle.std.specs.List.{list_any}
use Rattle.std.proofs.lemmas.List.{at_drop_more, drop_all, take-append-drop}
use Rattle.std.proofs.lemmas.List.Elements.{All-append}
use Rattle.cps_text.specs.declared.name.Name.{Name}
use Rattle.cps_final.specs.Outcome.{Outcome}
use Rattle.cps_final.specs.declared.row.Row.{Row}
use Rattle.cps_list.specs.Assembly.{Assembly}
use Rattle.cps_list.specs.Binary.{binary_text}
use Rattle.cps_list.specs.Flagged.{flags_text}
use Rattle.cps_list.specs.ListingText.{line_rows, listing_from, listing_text}
use Rattle.cps_list.specs.Symbols.{mentions_from, symbols_text}
use Rattle.cps_list.proofs.ViewLemmas.{drop-next}
use Rattle.cps_markup.specs.declared.place.Place.{Place}
use Rattle.cps_markup.specs.declared.place.Place.TheVariants.{Line, Symbol, Word, Block, Section}
use Rattle.cps_markup.specs.declared.place.PageSection.{PageSection}
use Rattle.cps_markup.specs.declared.place.PageSection.TheVariants as page
use Rattle.cps_markup.specs.declared.style.Style.{Style}
use Rattle.cps_markup.specs.declared.tag.Tag.TheVariants as tag
use Rattle.cps_markup.specs.declared.targets.Entry.{Entry}
use Rattle.cps_markup.specs.declared.targets.Targets.{Targets}
use Rattle.cps_markup.specs.declared.targets.WordEntry.{WordEntry}
use Rattle.cps_markup.specs.Links.{Leads}
use Rattle.cps_markup.specs.Markup.{counted, identifier, styled, Link, escaped, written, places, links, opening, closing}
use Rattle.cps_markup.specs.PlaceLaws.{IsWritten}
use Rattle.cps_markup.specs.Places.{same_place}
use Rattle.cps_markup.specs.Code.Adding.{Adds}
use Rattle.cps_markup.proofs.AddsLemmas.{adds-element, adds-joined, adds-nothing, all-none}
use Rattle.cps_page.specs.Page.{body, title_text, IsPage}
use Rattle.cps_page.specs.Code.Making.{blocks_among, lines_from, symbols_among, words_among, all_places, AddsLines, AddsSection, AddsSections, AreTargets}
use Rattle.cps_page.proofs.EntryLemmas.{found-defined}
use Rattle.cps_page.proofs.PlaceLemmas.{all-once, all-there, all-written}

-- ---- the lines of the listing

module _ (P : Link → Type 0) where
  pub adds-same : (s t : List ℕ) (p q : List Place) (old new : List ℕ) → s ≡ t → p ≡ q → Adds P s p old new → Adds P t q old new
  adds-same s t p q old new words here a = subst (λ l. Adds P l q old new) words (subst (λ l. Adds P s l old new) here a)

  next : (i : ℕ) → i + 1 ≡ suc i
  next i = omega arith

  same-place : (i : ℕ) → i + 1 - 1 ≡ i
  same-place i = omega arith

  behind-next : {T : Type 0} (xs : List T) (i : ℕ) (x : T) → slice_get xs (i + 1 - 1) ≡ Some x → drop i xs ≡ x ∷ drop (i + 1) xs
  behind-next xs i x is = drop-next xs i x (ap (slice_get xs) (sym (same-place i)) ∙ is) ∙ ap (λ n. x ∷ drop n xs) (sym (next i))

  -- the rows of the next line, in front of those of the lines after it
  line-next : (lines : List (List ℕ)) (outcomes : List Outcome) (i : ℕ) (line bytes : List ℕ) (outcome : Outcome) (shown : List Row) (rows : List ℕ)
      → slice_get lines (i + 1 - 1) ≡ Some line → slice_get outcomes (i + 1 - 1) ≡ Some outcome → bytes ≡ line → shown ≡ outcome.rows → rows ≡ line_rows (i + 1) bytes shown
      → listing_from (i + 1) (drop i lines) (drop i outcomes) ≡ rows ++ listing_from (i + 1 + 1) (drop (i + 1) lines) (drop (i + 1) outcomes)
  line-next lines outcomes i line bytes outcome shown rows line-is outcome-is same shown-is rows-are =
      let lines-are = behind-next lines i line line-is in
      let outcomes-are = behind-next outcomes i outcome outcome-is in
      let more = listing_from (i + 1 + 1) (drop (i + 1) lines) (drop (i + 1) outcomes) in
      (λ j. listing_from (i + 1) (lines-are j) (outcomes-are j)) ∙ sym (λ j. (rows-are ∙ (λ k. line_rows (i + 1) (same k) (shown-is k))) j ++ more)

  -- the row of the next symbol, and those of the symbols after it
  pub adds-symbol : (entries : List Entry) (i n : ℕ) (d : Entry) (rest row behind old new last : List ℕ) → i < length entries → row ≡ take n rest → behind ≡ drop n rest
      → Adds P row (Symbol (get_or entries i d).name ∷ []) old new → Adds P behind (symbols_among (drop (i + 1) entries)) new last
      → Adds P rest (symbols_among (drop i entries)) old last
  adds-symbol entries i n d rest row behind old new last lt front back a later =
      adds-same _ rest _ _ old last
      ((λ j. front j ++ back j) ∙ take-append-drop n rest)
      (sym (at_drop_more symbols_among entries i d lt))
      (adds-joined P row behind (Symbol (get_or entries i d).name ∷ []) (symbols_among (drop (i + 1) entries)) old new last a later)

  -- the row of the next word, and those of the words after it
  pub adds-word : (words : List WordEntry) (i n : ℕ) (d : WordEntry) (rest row behind old new last : List ℕ) → i < length words → row ≡ take n rest → behind ≡ drop n rest
      → Adds P row (Word (get_or words i d).digits ∷ []) old new → Adds P behind (words_among (drop (i + 1) words)) new last
      → Adds P rest (words_among (drop i words)) old last
  adds-word words i n d rest row behind old new last lt front back a later =
      adds-same _ rest _ _ old last
      ((λ j. front j ++ back j) ∙ take-append-drop n rest)
      (sym (at_drop_more words_among words i d lt))
      (adds-joined P row behind (Word (get_or words i d).digits ∷ []) (words_among (drop (i + 1) words)) old new last a later)

  -- the next block, and those after it: nothing of them is said
  pub adds-block : (blocks : List Name) (i : ℕ) (d : Name) (begun old new last : List ℕ) → i < length blocks → Adds P [] [] begun old
      → Adds P [] (Block (get_or blocks i d) ∷ []) old new → Adds P [] (blocks_among (drop (i + 1) blocks)) new last → Adds P [] (blocks_among (drop i blocks)) begun last
  adds-block blocks i d begun old new last lt front a later =
      adds-same [] [] _ _ begun last refl
      (sym (at_drop_more blocks_among blocks i d lt))
      (adds-joined P [] [] [] _ begun old last front
      (adds-joined P [] [] (Block (get_or blocks i d) ∷ []) (blocks_among (drop (i + 1) blocks)) old new last a later))

  -- rows without a place, and those behind them
  pub adds-front : (n : ℕ) (rest front behind : List ℕ) (p : List Place) (old middle last : List ℕ) → front ≡ take n rest → behind ≡ drop n rest → Adds P front [] old middle
      → Adds P behind p middle last → Adds P rest p old last
  adds-front n rest front behind p old middle last f b a later =
      subst (λ l. Adds P l p old last) ((λ i. f i ++ b i) ∙ take-append-drop n rest) (adds-joined P front behind [] p old middle last a later)

-- ---- runs of lines

module _ (targets : Targets) (assembly : Assembly) where
  pub lines-none : (i : ℕ) (page : List ℕ) → AddsLines targets assembly i i page page
  lines-none i page = record { words = []; here = []; added = adds-nothing (Leads targets) page; same_words = refl; same_places = refl }

  pub lines-joined : (i j k : ℕ) (old middle new : List ℕ) → AddsLines targets assembly i j old middle → AddsLines targets assembly j k middle new → AddsLines targets assembly i k old new
  lines-joined i j k old middle new a b = record {
    words = a.words ++ b.words;
    here = a.here ++ b.here;
    added = adds-joined (Leads targets) a.words b.words a.here b.here old middle new a.added b.added;
    same_words = a.same_words ∙ ap (λ t. a.words ++ t) b.same_words ∙ sym (append_assoc a.words b.words _);
    same_places = a.same_places ∙ ap (λ ps. a.here ++ ps) b.same_places ∙ sym (append_assoc a.here b.here _);
  }

  pub lines-one : (i : ℕ) (line bytes : List ℕ) (outcome : Outcome) (shown : List Row) (rows old new : List ℕ)
      → slice_get assembly.lines (i + 1 - 1) ≡ Some line → slice_get assembly.outcomes (i + 1 - 1) ≡ Some outcome → bytes ≡ line → shown ≡ outcome.rows → rows ≡ line_rows (i + 1) bytes shown
      → Adds (Leads targets) rows (Line (i + 1) ∷ []) old new → AddsLines targets assembly i (i + 1) old new
  lines-one i line bytes outcome shown rows old new line-is outcome-is same shown-is rows-are a = record {
    words = rows;
    here = Line (i + 1) ∷ [];
    added = a;
    same_words = line-next (Leads targets) assembly.lines assembly.outcomes i line bytes outcome shown rows line-is outcome-is same shown-is rows-are;
    same_places = ap (lines_from (i + 1)) (behind-next (Leads targets) assembly.lines i line line-is);
  }

  -- a run, whatever its style is, and however many rows it has
  pub lines-run : (i j : ℕ) (style : Style) (rows : ℕ) (old middle later new : List ℕ) → middle ≡ old ++ opening tag.Row (styled style ∷ counted rows ∷ [])
      → AddsLines targets assembly i j middle later → new ≡ later ++ closing tag.Row → AddsLines targets assembly i j old new
  lines-run i j style rows old middle later new begun a ended = record {
    words = a.words;
    here = a.here;
    added = adds-element (Leads targets) tag.Row (styled style ∷ counted rows ∷ []) a.words a.here old middle later new begun a.added ended (all-none (Leads targets));
    same_words = a.same_words;
    same_places = a.same_places;
  }

  pub lines-all : (j : ℕ) (old new : List ℕ) → length assembly.lines ≤ j → AddsLines targets assembly 0 j old new
      → Adds (Leads targets) (listing_from 1 assembly.lines assembly.outcomes) (lines_from 1 assembly.lines) old new
  lines-all j old new all a =
      let none = drop_all j assembly.lines all in
      adds-same (Leads targets) a.words _ a.here _ old new
      (sym (append-nil a.words) ∙ ap (λ t. a.words ++ t) (sym (ap (λ ls. listing_from (j + 1) ls (drop j assembly.outcomes)) none)) ∙ sym a.same_words)
      (sym (append-nil a.here) ∙ ap (λ ps. a.here ++ ps) (sym (ap (lines_from (j + 1)) none)) ∙ sym a.same_places)
      a.added

-- ---- a section

regroup : (a o i c : List ℕ) → a ++ o ++ i ++ c ≡ a ++ (o ++ i ++ c ++ [])
regroup a o i c = simp (append_assoc, append-nil)

module _ (targets : Targets) where
  pub adds-section : (which : PageSection) (words : List ℕ) (here : List Place) (old begun headed later new : List ℕ)
      → begun ≡ old ++ opening tag.Section (identifier (Section which) ∷ []) → Adds (Leads targets) [] [] begun headed → Adds (Leads targets) words here headed later
      → new ≡ later ++ closing tag.Section → AddsSection targets which words here old new
  adds-section which words here old begun headed later new opened heading inside ended =
      let all = adds-joined (Leads targets) [] words [] here begun headed later heading inside in
      record {
        inside = all.markup;
        whole = ended ∙ ap (λ l. l ++ closing tag.Section) (all.whole ∙ ap (λ l. l ++ written all.markup) opened)
            ∙ regroup old (opening tag.Section (identifier (Section which) ∷ [])) (written all.markup) (closing tag.Section);
        same_words = all.same_words;
        same_places = all.same_places;
        good = all.good;
      }

  six : (old m a b c d e : List ℕ) → old ++ (m ++ []) ++ (a ++ []) ++ (b ++ []) ++ (c ++ []) ++ (d ++ []) ++ (e ++ []) ≡ old ++ (m ++ (a ++ (b ++ (c ++ (d ++ (e ++ []))))))
  six old m a b c d e = simp (append_assoc, append-nil)

  pub adds-sections : (assembly : Assembly) (old begun listed worded symboled flagged new : List ℕ)
      → AddsSection targets page.Memory [] (blocks_among targets.blocks.items) old begun
      → AddsSection targets page.Listing (listing_text assembly) (lines_from 1 assembly.lines) begun listed
      → AddsSection targets page.Words (binary_text assembly) (words_among targets.words.items) listed worded
      → AddsSection targets page.Symbols (symbols_text assembly) (symbols_among targets.entries.items) worded symboled
      → AddsSection targets page.Flags (flags_text assembly) [] symboled flagged
      → AddsSection targets page.Instructions [] [] flagged new
      → AddsSections targets assembly old new
  adds-sections assembly old begun listed worded symboled flagged new m l w s f i =
      let M = opening tag.Section (identifier (Section page.Memory) ∷ []) ++ written m.inside ++ closing tag.Section in
      let A = opening tag.Section (identifier (Section page.Listing) ∷ []) ++ written l.inside ++ closing tag.Section in
      let B = opening tag.Section (identifier (Section page.Words) ∷ []) ++ written w.inside ++ closing tag.Section in
      let C = opening tag.Section (identifier (Section page.Symbols) ∷ []) ++ written s.inside ++ closing tag.Section in
      let D = opening tag.Section (identifier (Section page.Flags) ∷ []) ++ written f.inside ++ closing tag.Section in
      let E = opening tag.Section (identifier (Section page.Instructions) ∷ []) ++ written i.inside ++ closing tag.Section in
      record {
        sections = record { memory = m.inside; listing = l.inside; words = w.inside; symbols = s.inside; flags = f.inside; instructions = i.inside };
        whole = i.whole ∙ ap (λ t. t ++ (E ++ [])) (f.whole ∙ ap (λ t. t ++ (D ++ [])) (s.whole ∙ ap (λ t. t ++ (C ++ []))
            (w.whole ∙ ap (λ t. t ++ (B ++ [])) (l.whole ∙ ap (λ t. t ++ (A ++ [])) m.whole)))) ∙ six old M A B C D E;
        memory = m.same_words;
        listing = l.same_words;
        words = w.same_words;
        symbols = s.same_words;
        flags = f.same_words;
        instructions = i.same_words;
        same_places = λ t. Section page.Memory ∷ (m.same_places t ++ Section page.Listing ∷ (l.same_places t ++ Section page.Words ∷ (w.same_places t
            ++ Section page.Symbols ∷ (s.same_places t ++ Section page.Flags ∷ (f.same_places t ++ Section page.Instructions ∷ (i.same_places t ++ []))))));
        good = All-append (Leads targets) _ _ m.good (All-append (Leads targets) _ _ l.good (All-append (Leads targets) _ _ w.good
            (All-append (Leads targets) _ _ s.good (All-append (Leads targets) _ _ f.good (All-append (Leads targets) _ _ i.good (all-none (Leads targets)))))));
      }

-- ---- the page

pub page-of : (assembly : Assembly) (targets : Targets) (front middle back begun made new : List ℕ) → AreTargets assembly targets
    → begun ≡ front ++ escaped (title_text assembly.finals.program) ++ middle → AddsSections targets assembly begun made
    → new ≡ made ++ back → IsPage front middle back assembly new
page-of assembly targets front middle back begun made new are fronted a backed =
    let there : (place : Place) → list_any (same_place place) (all_places assembly.lines targets) ≡ list_any (same_place place) (places (body a.sections)) =
    λ place. sym (ap (list_any (same_place place)) a.same_places) in
    record {
      sections = a.sections;
      whole = backed ∙ ap (λ t. t ++ back) (a.whole ∙ ap (λ t. t ++ written (body a.sections)) fronted);
      memory = a.memory;
      instructions = a.instructions;
      listing = a.listing;
      words = a.words;
      symbols = a.symbols;
      flags = a.flags;
      once = λ place. subst (λ (ps : List Place). count_by (same_place place) ps ≤ 1) (sym a.same_places) (all-once assembly.lines targets are.symbols.once are.words are.blocks place);
      differ = subst (All IsWritten) (sym a.same_places) (all-written assembly.lines targets are.few are.symbols.written are.words are.blocks);
      alive = λ k d lt. let place = (get_or (links (body a.sections)) k d).place in sym (there place) ∙ all-there assembly.lines targets are.lines place (a.good k d lt).there;
      home = λ k d lt. λ name number words leads.
          found-defined (mentions_from 1 assembly.outcomes) name number targets.entries.items are.symbols.defined ((a.good k d lt).home number leads name words);
    }
