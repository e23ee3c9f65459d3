-- A change of a text, by its lines.
use Rattle.std.proofs.Common.{◌≡◌, ℕ, ◌+◌, ◌<◌, max, List, [], ◌∷◌, ◌++◌, length, get_or, take, drop, sym, ap, subst, ◌∙◌, arith, append_assoc, length-append}
use Rattle.std.specs.Prelude.{Some}
use Rattle.std.specs.List.{list_all, splice}
use Rattle.std.proofs.Math.Seq.{take-append-add, drop-append-add}
use Rattle.std.proofs.lemmas.List.{take-append-le, drop-append-le, take-append-drop, drop_more}
use Rattle.std.specs.declared.vec.Vec.{Vec}
use Rattle.cps_input.specs.Lines.{has_no_newline}
use Rattle.cps_rpc.specs.declared.encoding.Encoding.{Encoding}
use Rattle.cps_rpc.specs.declared.position.Range.{Range}
use Rattle.cps_rpc.specs.declared.spot.Spot.{Spot}
use Rattle.cps_rpc.specs.Changes.{changed, first_touched, end_touched}
use Rattle.cps_rpc.specs.Lines.{AreLines, text_lines, text_of}
use Rattle.cps_rpc.specs.Positions.{place_of, line_of}
use Rattle.cps_rpc.specs.Code.Spots.{IsSpot, IsSpotOf, IsBehindBoth, text_place, between}
use Rattle.cps_rpc.proofs.LineLemmas.{texts, texts-splice}
use Rattle.cps_rpc.proofs.TextLemmas.{ended, begun, text_of-front, text_of-back, text_of-middle, text_lines-text_of, all-front, all-back, all-both}

-- ---- a text at one of its lines

line-of : (lines : List (List ℕ)) (at : ℕ) → at < length lines → lines ≡ take at lines ++ get_or lines at [] ∷ drop (at + 1) lines
line-of lines at within = sym (take-append-drop at lines) ∙ ap (λ l. take at lines ++ l) (drop_more lines at [] within)

text_of-at : (lines : List (List ℕ)) (at : ℕ) → at < length lines
    → text_of lines ≡ ended (take at lines) ++ (get_or lines at [] ++ begun (drop (at + 1) lines))
text_of-at lines at within =
    ap text_of (line-of lines at within)
    ∙ text_of-front (take at lines) (get_or lines at []) (drop (at + 1) lines)
    ∙ ap (λ t. ended (take at lines) ++ t) (text_of-back (get_or lines at []) (drop (at + 1) lines))

take-text : (lines : List (List ℕ)) (spot : Spot) → IsSpot lines spot
    → take (text_place lines spot) (text_of lines) ≡ ended (take spot.line lines) ++ take spot.byte (get_or lines spot.line [])
take-text lines spot is =
    let front = ended (take spot.line lines) in
    let line = get_or lines spot.line [] in
    let back = begun (drop (spot.line + 1) lines) in
    ap (λ t. take (length front + spot.byte) t) (text_of-at lines spot.line is.line)
    ∙ take-append-add front (line ++ back) spot.byte
    ∙ ap (λ t. front ++ t) (take-append-le spot.byte line back is.byte)

drop-text : (lines : List (List ℕ)) (spot : Spot) → IsSpot lines spot
    → drop (text_place lines spot) (text_of lines) ≡ drop spot.byte (get_or lines spot.line []) ++ begun (drop (spot.line + 1) lines)
drop-text lines spot is =
    let front = ended (take spot.line lines) in
    let line = get_or lines spot.line [] in
    let back = begun (drop (spot.line + 1) lines) in
    ap (λ t. drop (length front + spot.byte) t) (text_of-at lines spot.line is.line)
    ∙ drop-append-add front (line ++ back) spot.byte
    ∙ drop-append-le spot.byte line back is.byte

regroup : (front start new end back : List ℕ) → front ++ ((start ++ (new ++ end)) ++ back) ≡ (front ++ start) ++ (new ++ (end ++ back))
regroup front start new end back = simp append_assoc

-- ---- new text between two places

-- new lines, for those from one place's to another's
pub record ArePut (lines : List (List ℕ)) (start end : Spot) (new : List ℕ) (news : List (List ℕ)) : Type 0 where
  pub are : AreLines lines
  pub start_is : IsSpot lines start
  pub end_is : IsSpot lines end
  pub news_are : AreLines news
  pub made : text_of news ≡ between lines start new end

text_of-put : (lines : List (List ℕ)) (start end : Spot) (new : List ℕ) (news : List (List ℕ)) → ArePut lines start end new news
    → text_of (splice lines start.line (end.line + 1) news) ≡ splice (text_of lines) (text_place lines start) (text_place lines end) new
text_of-put lines start end new [] put = let none = put.news_are.some in absurd (omega arith)
text_of-put lines start end new (line ∷ news) put =
    let front = ended (take start.line lines) in
    let back = begun (drop (end.line + 1) lines) in
    text_of-middle (take start.line lines) line news (drop (end.line + 1) lines)
    ∙ ap (λ t. front ++ (t ++ back)) put.made
    ∙ regroup front (take start.byte (get_or lines start.line [])) new (drop end.byte (get_or lines end.line [])) back
    ∙ ap (λ t. t ++ (new ++ (drop end.byte (get_or lines end.line []) ++ back))) (sym (take-text lines start put.start_is))
    ∙ ap (λ t. take (text_place lines start) (text_of lines) ++ (new ++ t)) (sym (drop-text lines end put.end_is))

AreLines-put : (lines : List (List ℕ)) (start end : Spot) (new : List ℕ) (news : List (List ℕ)) → ArePut lines start end new news
    → AreLines (splice lines start.line (end.line + 1) news)
AreLines-put lines start end new news put =
    let front = take start.line lines in
    let back = drop (end.line + 1) lines in
    let first = all-front front (drop start.line lines) (ap (λ l. list_all has_no_newline l) (take-append-drop start.line lines) ∙ put.are.each) in
    let last = all-back (take (end.line + 1) lines) back (ap (λ l. list_all has_no_newline l) (take-append-drop (end.line + 1) lines) ∙ put.are.each) in
    record {
      some = omega (arith, put.news_are.some, length-append front (news ++ back), length-append news back);
      each = all-both front (news ++ back) first (all-both news back put.news_are.each last);
    }

-- ---- a change

-- lines are what a change of a range makes of a text, where new ones came for those from one place's to another's
pub record AreChanged (encoding : Encoding) (old : List ℕ) (range : Range) (new : List ℕ) (lines : List (List ℕ)) (first end : ℕ) (news : List (List ℕ)) : Type 0 where
  pub are : AreLines lines
  pub text : text_of lines ≡ changed encoding old (Some range) new
  pub first_is : first ≡ first_touched (text_lines old) (Some range)
  pub end_is : end ≡ end_touched (text_lines old) (Some range)
  pub spliced_is : text_lines (text_of lines) ≡ splice (text_lines old) first end news

change-made : (encoding : Encoding) (old : List ℕ) (range : Range) (new : List ℕ) (lines : List (List ℕ)) (start other end : Spot) (news : List (List ℕ))
    → text_of lines ≡ old → AreLines lines → IsSpotOf encoding lines range.start start → IsSpotOf encoding lines range.end other → IsBehindBoth lines start other end
    → AreLines news → text_of news ≡ between lines start new end
    → AreChanged encoding old range new (splice lines start.line (end.line + 1) news) start.line (end.line + 1) news
change-made encoding old range new lines start other end news is are start_is other_is end_is news_are made =
    let put : ArePut lines start end new news = record { are = are; start_is = start_is.is_spot; end_is = end_is.is_spot; news_are = news_are; made = made } in
    let after = AreLines-put lines start end new news put in
    let cut : lines ≡ text_lines old = sym (text_lines-text_of lines are) ∙ ap text_lines is in
    let from = start_is.place ∙ ap (λ l. place_of encoding l range.start) cut in
    let to = end_is.place ∙ ap (λ n. max n (text_place lines other)) from
    ∙ ap (λ n. max (place_of encoding (text_lines old) range.start) n) (other_is.place ∙ ap (λ l. place_of encoding l range.end) cut) in
    record {
      are = after;
      text =
          text_of-put lines start end new news put
          ∙ ap (λ t. splice t (text_place lines start) (text_place lines end) new) is
          ∙ ap (λ n. splice old n (text_place lines end) new) from
          ∙ ap (λ n. splice old (place_of encoding (text_lines old) range.start) n new) to;
      first_is = start_is.line ∙ ap (λ l. line_of l range.start) cut;
      end_is = ap (λ n. n + 1) (end_is.line ∙ ap (λ n. max n other.line) start_is.line ∙ ap (λ n. max (line_of lines range.start) n) other_is.line
          ∙ ap (λ l. max (line_of l range.start) (line_of l range.end)) cut);
      spliced_is = text_lines-text_of (splice lines start.line (end.line + 1) news) after ∙ ap (λ l. splice l start.line (end.line + 1) news) cut;
    }

-- the same of the lines that the code keeps, of which it read those places
pub change-kept : {Z : Type 0} (encoding : Encoding) (old : List ℕ) (range : Range) (new : List ℕ) (kept read now news : List (Vec ℕ Z)) (start other end : Spot)
    → text_of (texts kept) ≡ old → AreLines (texts kept) → read ≡ kept → IsSpotOf encoding (texts read) range.start start → IsSpotOf encoding (texts read) range.end other
    → ((lines : List (List ℕ)) → IsSpot lines start → IsSpot lines other → IsBehindBoth lines start other end) → AreLines (texts news)
    → text_of (texts news) ≡ between (texts read) start new end → now ≡ splice kept start.line (end.line + 1) news
    → AreChanged encoding old range new (texts now) start.line (end.line + 1) (texts news)
change-kept encoding old range new kept read now news start other end is are same start_is other_is behind news_are made put =
    let from = subst (λ l. IsSpotOf encoding (texts l) range.start start) same start_is in
    let to = subst (λ l. IsSpotOf encoding (texts l) range.end other) same other_is in
    subst (λ l. AreChanged encoding old range new l start.line (end.line + 1) (texts news)) (sym (ap texts put ∙ texts-splice kept news start.line (end.line + 1)))
    (change-made encoding old range new (texts kept) start other end (texts news) is are from to (behind (texts kept) from.is_spot to.is_spot) news_are
    (made ∙ ap (λ l. between (texts l) start new end) same))
