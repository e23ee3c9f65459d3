-- What is given of a word, as it is kept.
use Rattle.std.proofs.Common.{◌≡◌, ℕ, Bool, List, Option, None, Some, refl, sym, subst, ◌∙◌}
use Rattle.std.proofs.Math.Path.{fun_ext}
use Rattle.std.specs.Prelude.{option_map, is_some}
use Rattle.std.specs.Option.{option_map_or}
use Rattle.std.specs.Borrow.{Bor}
use Rattle.cps_expr.specs.declared.machine.Machine.{Machine}
use Rattle.cps_code.specs.Image.{Piece, ArePacked}
use Rattle.cps_final.specs.Finals.{machine_of}
use Rattle.cps_list.specs.Assembly.{Assembly}
use Rattle.cps_list.specs.Binary.{pieces_of}
use Rattle.cps_claims.specs.declared.layout.OctalFormat.{OctalFormat}
use Rattle.cps_claims.specs.declared.layout.OctalLayout.{OctalLayout}
use Rattle.cps_claims.specs.declared.reading.OctalReading.{OctalReading}
use Rattle.cps_claims.specs.Rows.{rows_in}
use Rattle.cps_claims.specs.Reading.{IsReading}
use Rattle.cps_claims.specs.Code.Held.{Holds}
use Rattle.cps_claims.specs.declared.claimed_word.ClaimedWord.{ClaimedWord}
use Rattle.cps_claims.specs.Claims.{Claimed, claims_in}
use Rattle.cps_claims.specs.Shown.{Shows, kept_digit}
use Rattle.cps_compare.specs.declared.compare_options.CompareOptions.{CompareOptions}
use Rattle.cps_compare.specs.declared.deck_words.DeckWords.{DeckWords}
use Rattle.cps_compare.specs.Makers.{signed_of}
use Rattle.cps_compare.specs.Differences.{digits_in}
use Rattle.cps_compare.specs.Comparison.{form_of, layout_of, sides_of}
use Rattle.cps_compare.specs.Code.Deck.{IsDeck}
use Rattle.cps_compare.proofs.DeckLemmas.{pieces-of}
use Rattle.cps_compare.specs.Given.{given_at}
use Rattle.cps_compare.specs.Told.{rows_for}
use Rattle.cps_compare.specs.Code.Kept.{AreWords, kept_rows}

pub kept-given : (claims : List Claimed) (address : ℕ) (word : ClaimedWord) → Shows claims address word → kept_digit word ≡ given_at claims address
kept-given claims address word shows = fun_ext (λ place. (λ i. record { shown = shows.digits place i; again = shows.contrary place i }))

pub kept-rows : (claims : List Claimed) (address : ℕ) (word : ClaimedWord) → Shows claims address word → kept_rows word ≡ rows_for claims address
kept-rows claims address word shows = (λ i. record { first = shows.first i; last = shows.last i; again = shows.again i })

-- a word of the source
pub stands-same : (word : Option (Bor (List ℕ))) → is_some word ≡ is_some (option_map (λ w. w.now) word)
stands-same None = refl
stands-same (Some word) = refl

pub word-same : (f : List ℕ → Bool) (word : Option (Bor (List ℕ))) (b : Bool) → option_map_or (λ w. f w.now) word b ≡ option_map_or f (option_map (λ w. w.now) word) b
word-same f None b = refl
word-same f (Some word) b = refl

-- ---- both sides

-- the octal text as it is read, and the words of a source
pub are-words : (options : CompareOptions) (format : OctalFormat) (octal : List ℕ) (assembly : Assembly) (machine : Machine) (layout : OctalLayout) (reading : OctalReading) (deck : DeckWords)
    → machine ≡ machine_of assembly.finals
    → layout ≡ record { form = form_of machine; format = format; columns = options.columns; offset = options.offset }
    → IsReading (rows_in layout octal) reading.rows → Holds reading.words (claims_in layout octal) → IsDeck (signed_of assembly) deck.words deck.makers
    → AreWords (record { machine = machine; reading = reading; deck = deck; whole = options.whole }) assembly (sides_of options format octal assembly)
are-words options format octal assembly machine layout reading deck same is rows claims made =
    let laid : layout ≡ layout_of options format assembly =
    is ∙ (λ i. record { form = form_of (same i); format = format; columns = options.columns; offset = options.offset }) in
    record {
      rows = subst (λ (layout : OctalLayout). IsReading (rows_in layout octal) reading.rows) laid rows;
      claims = subst (λ (layout : OctalLayout). Holds reading.words (claims_in layout octal)) laid claims;
      pieces = pieces_of assembly;
      packed = subst (λ (l : List Piece). ArePacked l deck.words) (pieces-of assembly) made.packed;
      words = (λ i. digits_in (sym same i) (pieces_of assembly));
      maker = fun_ext (λ address. fun_ext (λ digit. sym (made.made address digit)));
      lines = refl;
      statements = refl;
      whole = refl;
    }
