-- A printout, one line more, and the whole.
use Rattle.std.proofs.Common.{◌≡◌, ℕ, ◌+◌, suc, Bool, true, false, refl, sym, ap, subst, ◌∙◌, List, [], ◌∷◌, ◌++◌, append_assoc, append-nil, length, arith}
use Rattle.std.specs.Prelude.{Option}
use Rattle.std.proofs.lemmas.Grind.{flat_map-append}
use Rattle.cps_code.specs.Image.{Piece, ArePacked}
use Rattle.cps_state.specs.Flags.{has_flag}
use Rattle.cps_state.specs.Machines.{limit}
use Rattle.cps_final.specs.declared.row.Row.{Row}
use Rattle.cps_final.specs.Finals.{machine_of}
use Rattle.cps_final.specs.Outcome.{Outcome, flags_of}
use Rattle.cps_list.specs.declared.mention.Mention.{Mention}
use Rattle.cps_list.specs.declared.part.Part.{Part}
use Rattle.cps_list.specs.declared.part.Part.TheVariants.{Listing, Binary, Symbols, Flags, All}
use Rattle.cps_list.specs.Assembly.{Assembly}
use Rattle.cps_list.specs.ListingText.{listing_from, line_rows, open_row}
use Rattle.cps_list.specs.Binary.{pieces_in, first_row, rows_below, pool_pieces}
use Rattle.cps_list.specs.Symbols.{mentions_from, mentions_on, symbol_rows}
use Rattle.cps_list.specs.Flagged.{flag_rows_from, flag_row, flagged_in, flagged_with, count_if, end_row, count_row}
use Rattle.cps_list.specs.Code.Making.{Adds, Printout, IsPrintoutOf, shown, shows_listing, shows_binary, shows_symbols, shows_flags}
use Rattle.cps_list.specs.Texts.{text_of}

pub shown-more : {T : Type 0} (is_shown : Bool) (xs ys : List T) → shown is_shown xs ++ shown is_shown ys ≡ shown is_shown (xs ++ ys)
shown-more true xs ys = refl
shown-more false xs ys = refl

-- ---- one line more

pub mentions-more : (n : ℕ) (outcomes : List Outcome) (outcome : Outcome)
    → mentions_from n (outcomes ++ outcome ∷ []) ≡ mentions_from n outcomes ++ mentions_on (n + length outcomes) outcome.defined outcome.read
mentions-more n [] outcome =
    let same : n ≡ n + 0 = omega arith in
    append-nil (mentions_on n outcome.defined outcome.read) ∙ ap (λ k. mentions_on k outcome.defined outcome.read) same
mentions-more n (o ∷ outcomes) outcome =
    let same : n + 1 + length outcomes ≡ n + suc (length outcomes) = omega arith in
    ap (λ mentions. mentions_on n o.defined o.read ++ mentions) (mentions-more (n + 1) outcomes outcome ∙ ap (λ k. mentions_from (n + 1) outcomes ++ mentions_on k outcome.defined outcome.read) same)
    ∙ sym (append_assoc (mentions_on n o.defined o.read) (mentions_from (n + 1) outcomes) (mentions_on (n + suc (length outcomes)) outcome.defined outcome.read))

listing-more : (n : ℕ) (lines : List (List ℕ)) (outcomes : List Outcome) (line : List ℕ) (outcome : Outcome) → length outcomes ≡ length lines
    → listing_from n (lines ++ line ∷ []) (outcomes ++ outcome ∷ []) ≡ listing_from n lines outcomes ++ line_rows (n + length lines) line outcome.rows
listing-more n [] [] line outcome each =
    let same : n ≡ n + 0 = omega arith in
    append-nil (line_rows n line outcome.rows) ∙ ap (λ k. line_rows k line outcome.rows) same
listing-more n [] (o ∷ outcomes) line outcome each = cc
listing-more n (l ∷ lines) [] line outcome each = cc
listing-more n (l ∷ lines) (o ∷ outcomes) line outcome each =
    let same : n + 1 + length lines ≡ n + suc (length lines) = omega arith in
    let fewer : length outcomes ≡ length lines = omega (arith, each) in
    ap (λ text. line_rows n l o.rows ++ text) (listing-more (n + 1) lines outcomes line outcome fewer ∙ ap (λ k. listing_from (n + 1) lines outcomes ++ line_rows k line outcome.rows) same)
    ∙ sym (append_assoc (line_rows n l o.rows) (listing_from (n + 1) lines outcomes) (line_rows (n + suc (length lines)) line outcome.rows))

flags-more : (n : ℕ) (outcomes : List Outcome) (outcome : Outcome)
    → flag_rows_from n (outcomes ++ outcome ∷ []) ≡ flag_rows_from n outcomes ++ flag_row (n + length outcomes) (flags_of outcome.rows)
flags-more n [] outcome =
    let same : n ≡ n + 0 = omega arith in
    append-nil (flag_row n (flags_of outcome.rows)) ∙ ap (λ k. flag_row k (flags_of outcome.rows)) same
flags-more n (o ∷ outcomes) outcome =
    let same : n + 1 + length outcomes ≡ n + suc (length outcomes) = omega arith in
    ap (λ text. flag_row n (flags_of o.rows) ++ text) (flags-more (n + 1) outcomes outcome ∙ ap (λ k. flag_rows_from (n + 1) outcomes ++ flag_row k (flags_of outcome.rows)) same)
    ∙ sym (append_assoc (flag_row n (flags_of o.rows)) (flag_rows_from (n + 1) outcomes) (flag_row (n + suc (length outcomes)) (flags_of outcome.rows)))

pub count-more : (outcomes : List Outcome) (outcome : Outcome) → flagged_in (outcomes ++ outcome ∷ []) ≡ flagged_in outcomes + count_if (has_flag (flags_of outcome.rows))
count-more [] outcome = omega arith
count-more (o ∷ outcomes) outcome = omega (arith, count-more outcomes outcome)

pieces-more : (outcomes : List Outcome) (outcome : Outcome) → pieces_in outcomes ++ outcome.pieces ≡ pieces_in (outcomes ++ outcome ∷ [])
pieces-more outcomes outcome =
    ap (λ (l : List Piece). pieces_in outcomes ++ l) (sym (append-nil outcome.pieces))
    ∙ sym (flat_map-append (λ (o : Outcome). o.pieces) outcomes (outcome ∷ []))

each-more : {X Y : Type 0} (xs : List X) (ys : List Y) (x : X) (y : Y) → length xs ≡ length ys → length (xs ++ x ∷ []) ≡ length (ys ++ y ∷ [])
each-more [] [] x y each = refl
each-more [] (b ∷ ys) x y each = cc
each-more (a ∷ xs) [] x y each = cc
each-more (a ∷ xs) (b ∷ ys) x y each =
    let fewer : length xs ≡ length ys = omega (arith, each) in
    ap suc (each-more xs ys x y fewer)

pub line-more : (old : Printout) (listing flags : List ℕ) (words : List (Option ℕ)) (flagged number : ℕ) (lines : List (List ℕ)) (outcomes : List Outcome) (line : List ℕ) (outcome : Outcome)
    (rows : List Row) (pieces : List Piece) → IsPrintoutOf lines outcomes old → number ≡ length lines + 1 → rows ≡ outcome.rows → pieces ≡ outcome.pieces
    → listing ≡ old.listing ++ shown (shows_listing old.part) (line_rows number line rows) → Adds (shown (shows_binary old.part) pieces) old.words words
    → flags ≡ old.flags ++ shown (shows_flags old.part) (flag_row number (flags_of rows)) → flagged ≡ old.flagged + count_if (has_flag (flags_of rows))
    → IsPrintoutOf (lines ++ line ∷ []) (outcomes ++ outcome ∷ []) (record { part = old.part; listing = listing; words = words; flags = flags; flagged = flagged })
line-more old listing flags words flagged number lines outcomes line outcome rows pieces so is-number are_rows are_pieces lists adds flag counts =
    let at : number ≡ 1 + length lines = is-number ∙ omega arith in
    let at-outcome : number ≡ 1 + length outcomes = at ∙ ap (λ n. 1 + n) (sym so.each) in
    record {
      each = each-more outcomes lines outcome line so.each;
      listing =
          lists ∙ (λ i. so.listing i ++ shown (shows_listing old.part) (line_rows (at i) line (are_rows i)))
          ∙ shown-more (shows_listing old.part) (listing_from 1 lines outcomes) (line_rows (1 + length lines) line outcome.rows)
          ∙ ap (shown (shows_listing old.part)) (sym (listing-more 1 lines outcomes line outcome so.each));
      words = subst (λ (ps : List Piece). ArePacked ps words)
          (ap (λ (l : List Piece). shown (shows_binary old.part) (pieces_in outcomes) ++ shown (shows_binary old.part) l) are_pieces
          ∙ shown-more (shows_binary old.part) (pieces_in outcomes) outcome.pieces ∙ ap (shown (shows_binary old.part)) (pieces-more outcomes outcome))
          (adds (shown (shows_binary old.part) (pieces_in outcomes)) so.words);
      flags =
          flag ∙ (λ i. so.flags i ++ shown (shows_flags old.part) (flag_row (at-outcome i) (flags_of (are_rows i))))
          ∙ shown-more (shows_flags old.part) (flag_rows_from 1 outcomes) (flag_row (1 + length outcomes) (flags_of outcome.rows))
          ∙ ap (shown (shows_flags old.part)) (sym (flags-more 1 outcomes outcome));
      flagged = counts ∙ (λ i. so.flagged i + count_if (has_flag (flags_of (are_rows i)))) ∙ sym (count-more outcomes outcome);
    }

-- ---- the whole

-- the texts that a part shows, one after another
text-parts : (part : Part) (a : Assembly) → (((shown (shows_listing part) (listing_from 1 a.lines a.outcomes) ++ shown (shows_listing part) (open_row a.is_open))
    ++ shown (shows_binary part) (first_row a.finals.program ++ rows_below (limit (machine_of a.finals)) (machine_of a.finals) (shown (shows_binary part) (pieces_in a.outcomes) ++ pool_pieces a.finals)))
    ++ shown (shows_symbols part) (symbol_rows a.finals (shown (shows_symbols part) (mentions_from 1 a.outcomes))))
    ++ shown (shows_flags part) (shown (shows_flags part) (flag_rows_from 1 a.outcomes) ++ end_row a.is_open ++ count_row (flagged_with a.is_open a.outcomes)) ≡ text_of part a
text-parts Listing a = append-nil _ ∙ append-nil _ ∙ append-nil _
text-parts Binary a = append-nil _ ∙ append-nil _
text-parts Symbols a = append-nil _
text-parts Flags a = refl
text-parts All a = refl

pub text-whole : (a : Assembly) (printout : Printout) (mentions : List Mention) (count : ℕ) (one two three four : List ℕ) → IsPrintoutOf a.lines a.outcomes printout
    → mentions ≡ shown (shows_symbols printout.part) (mentions_from 1 a.outcomes) → count ≡ flagged_with a.is_open a.outcomes
    → one ≡ printout.listing ++ shown (shows_listing printout.part) (open_row a.is_open)
    → ((pieces : List Piece) → ArePacked pieces printout.words
    → two ≡ one ++ shown (shows_binary printout.part) (first_row a.finals.program ++ rows_below (limit (machine_of a.finals)) (machine_of a.finals) (pieces ++ pool_pieces a.finals)))
    → three ≡ two ++ shown (shows_symbols printout.part) (symbol_rows a.finals mentions)
    → four ≡ three ++ shown (shows_flags printout.part) (printout.flags ++ end_row a.is_open ++ count_row count) → four ≡ text_of printout.part a
text-whole a printout mentions count one two three four so are_mentions counts lists packs names flag =
    let part = printout.part in
    let first = lists ∙ ap (λ l. l ++ shown (shows_listing part) (open_row a.is_open)) so.listing in
    let second = packs (shown (shows_binary part) (pieces_in a.outcomes)) so.words in
    let binary = shown (shows_binary part) (first_row a.finals.program ++ rows_below (limit (machine_of a.finals)) (machine_of a.finals) (shown (shows_binary part) (pieces_in a.outcomes) ++ pool_pieces a.finals)) in
    let third = names ∙ (λ i. (second ∙ ap (λ l. l ++ binary) first) i ++ shown (shows_symbols part) (symbol_rows a.finals (are_mentions i))) in
    flag ∙ (λ i. third i ++ shown (shows_flags part) (so.flags i ++ end_row a.is_open ++ count_row (counts i))) ∙ text-parts part a
