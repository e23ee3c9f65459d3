-- Marks that are kept by line, as lines come and go.
use Rattle.std.proofs.Common.{◌≡◌, ℕ, zero, suc, ◌+◌, ◌-◌, ◌<◌, ◌≤◌, inl, inr, Bool, true, false, refl, sym, ap, subst, ◌∙◌, List, [], ◌∷◌, ◌++◌, length, set, take, drop, min, map, arith}
use Rattle.std.specs.Prelude.{nat_lt, if◌then◌else◌, All, None, Some, is_some, slice_get, unwrap_or}
use Rattle.std.specs.List.{splice}
use Rattle.std.proofs.lemmas.Bool.Decides.{nat_tests}
use Rattle.std.proofs.lemmas.List.{drop_min, length-append, length-drop, length-map, length-set, length-take-le}
use Rattle.std.proofs.lemmas.List.Elements.{All-cons, All-nil}
use Rattle.std.proofs.lemmas.Option.{slice_get_within}
use Rattle.cps_text.specs.declared.limits.TheConstants.{MOST_LINES}
use Rattle.cps_input.specs.Card.{card_of}
use Rattle.cps_rpc.specs.Lines.{source_lines}
use Rattle.cps_rpc.specs.declared.replacement.Replacement.{Replacement}
use Rattle.cps_rpc.specs.TextLaws.{IsInSource}
use Rattle.cps_edit.specs.Assembly.{outcomes_of}
use Rattle.cps_edit.specs.Splice.{splice_at}
use Rattle.cps_live.specs.Edits.{AreRedone, IsLeft, place_before}
use Rattle.cps_live.proofs.RedoneLemmas.{slice_get-back, slice_get-front, slice_get-left, slice_get-new}
use Rattle.cps_server.specs.Document.{source_of_text}
use Rattle.cps_server.proofs.FlagLemmas.{true-false}
use Rattle.cps_server.proofs.SourceLemmas.{length-cards}
use Rattle.cps_server.specs.declared.line_marks.LineMarks.{LineMarks}
use Rattle.cps_server.specs.declared.touched_lines.TouchedLines.{TouchedLines}
use Rattle.cps_server.specs.Code.Keeping.{AreKept, AreKeptBut, AreTouched, AreTouchedBy, IsTold, KeepsFrom, KeepsLine}

-- ---- numbers

less : (a b : ℕ) → nat_lt a b ≡ true → a < b
less a b test = grind (arith, nat_tests)

not-less : (a b : ℕ) → nat_lt a b ≡ false → b ≤ a
not-less a b test = grind (arith, nat_tests)

-- ---- one line after another

some-is : {X : Type 0} (x y : X) → Some x ≡ Some y → x ≡ y
some-is x y is = ap (λ o. unwrap_or o x) is

none-some : {X : Type 0} (x : X) → None ≡ Some x → ⊥
none-some x is = true-false (sym (ap is_some is))

pub KeepsFrom-none : (text : List ℕ) (first : ℕ) (kept : List LineMarks) → kept ≡ [] → KeepsFrom text first kept
KeepsFrom-none text first kept none at line there = absurd (none-some line (sym (ap (λ (ks : List LineMarks). slice_get ks at) none) ∙ there))

-- one line more
pub KeepsFrom-next : (text : List ℕ) (first : ℕ) (kept now : List LineMarks) (line : LineMarks) → now ≡ kept ++ line ∷ [] → KeepsFrom text first kept
    → KeepsLine text (first + length kept) line → KeepsFrom text first now
KeepsFrom-next text first kept now line is before here at one there = by_test (nat_lt at (length kept)) refl
  where
    read : slice_get (kept ++ line ∷ []) at ≡ Some one
    read = ap (λ (ks : List LineMarks). slice_get ks at) (sym is) ∙ there

    by_test : (b : Bool) → nat_lt at (length kept) ≡ b → KeepsLine text (first + at) one
    by_test true test =
        let lt = less at (length kept) test in
        before at one (sym (slice_get-front kept (line ∷ []) at lt) ∙ read)
    by_test false test =
        let le = not-less at (length kept) test in
        last (at - length kept) (omega (arith, le))
      where
        last : (k : ℕ) → at ≡ length kept + k → KeepsLine text (first + at) one
        last zero same =
            let same_at : length kept ≡ at = omega (arith, same) in
            let same_line : line ≡ one = some-is line one (sym (slice_get-back kept (line ∷ []) at zero same) ∙ read) in
            subst (λ n. KeepsLine text (first + n) one) same_at (subst (λ (l : LineMarks). KeepsLine text (first + length kept) l) same_line here)
        last (suc k) same = absurd (none-some one (sym (slice_get-back kept (line ∷ []) at (suc k) same) ∙ read))

-- ---- stale lines

pub AreKept-all : (text : List ℕ) (kept : List LineMarks) → length kept ≡ length (source_of_text text) → KeepsFrom text 0 kept → AreKept text kept
AreKept-all text kept count each = record {
  count = count;
  each = λ at line there fresh. let same : 0 + at ≡ at = omega arith in subst (λ n. KeepsLine text n line) same (each at line there);
}

pub AreKept-line : (text : List ℕ) (kept : List LineMarks) (at : ℕ) (line : LineMarks) → AreKept text kept → slice_get kept at ≡ Some line → KeepsLine text at line
AreKept-line text kept at line are there = are.each at line there (All-nil (λ place. place ≡ at → ⊥))

-- more may be stale
pub AreKept-stale : (text : List ℕ) (stale : List ℕ) (kept : List LineMarks) → AreKept text kept → AreKeptBut text stale kept
AreKept-stale text stale kept are = record { count = are.count; each = λ at line there fresh. AreKept-line text kept at line are there }

slice_get-set-same : {X : Type 0} (xs : List X) (i : ℕ) (x : X) → i < length xs → slice_get (set xs i x) i ≡ Some x
slice_get-set-same [] i x within = absurd (omega (arith, within))
slice_get-set-same (y ∷ xs) zero x within = refl
slice_get-set-same (y ∷ xs) (suc i) x within = slice_get-set-same xs i x (omega (arith, within))

slice_get-set-other : {X : Type 0} (xs : List X) (i j : ℕ) (x : X) → (i ≡ j → ⊥) → slice_get (set xs i x) j ≡ slice_get xs j
slice_get-set-other [] i j x other = refl
slice_get-set-other (y ∷ xs) zero zero x other = absurd (other refl)
slice_get-set-other (y ∷ xs) zero (suc j) x other = refl
slice_get-set-other (y ∷ xs) (suc i) zero x other = refl
slice_get-set-other (y ∷ xs) (suc i) (suc j) x other = slice_get-set-other xs i j x (λ same. other (ap suc same))

-- a line that is made anew
pub AreKeptBut-set : (text : List ℕ) (place : ℕ) (stale : List ℕ) (kept : List LineMarks) (line : LineMarks) → place < length kept → KeepsLine text place line
    → AreKeptBut text (place ∷ stale) kept → AreKeptBut text stale (set kept place line)
AreKeptBut-set text place stale kept line within here are = record {
  count = length-set kept place line ∙ are.count;
  each = λ at one there fresh. by_place at one there fresh (nat_lt at place) refl (nat_lt place at) refl;
}
  where
    other : (at : ℕ) (one : LineMarks) → slice_get (set kept place line) at ≡ Some one → All (λ p. p ≡ at → ⊥) stale → (place ≡ at → ⊥) → KeepsLine text at one
    other at one there fresh apart =
        are.each at one (sym (slice_get-set-other kept place at line apart) ∙ there) (All-cons (λ p. p ≡ at → ⊥) place stale apart fresh)

    by_place : (at : ℕ) (one : LineMarks) → slice_get (set kept place line) at ≡ Some one → All (λ p. p ≡ at → ⊥) stale
        → (b : Bool) → nat_lt at place ≡ b → (d : Bool) → nat_lt place at ≡ d → KeepsLine text at one
    by_place at one there fresh true before d behind =
        let lt = less at place before in
        other at one there fresh (λ same. absurd (omega (arith, lt, same)))
    by_place at one there fresh false before true behind =
        let lt = less place at behind in
        other at one there fresh (λ same. absurd (omega (arith, lt, same)))
    by_place at one there fresh false before false behind =
        let same : place ≡ at = omega (arith, not-less at place before, not-less place at behind) in
        let read : Some line ≡ Some one = sym (slice_get-set-same kept place line within) ∙ ap (slice_get (set kept place line)) same ∙ there in
        subst (λ n. KeepsLine text n one) same (subst (λ (l : LineMarks). KeepsLine text place l) (some-is line one read) here)

-- there is no such line
pub AreKeptBut-past : (text : List ℕ) (place : ℕ) (stale : List ℕ) (kept : List LineMarks) → length kept ≤ place
    → AreKeptBut text (place ∷ stale) kept → AreKeptBut text stale kept
AreKeptBut-past text place stale kept past are = record {
  count = are.count;
  each = λ at line there fresh.
      let lt = slice_get_within kept at line there in
      are.each at line there (All-cons (λ p. p ≡ at → ⊥) place stale (λ same. absurd (omega (arith, past, lt, same))) fresh);
}

-- ---- lines in the place of others

length-spliced : {X : Type 0} (xs ys : List X) (first end : ℕ) → first ≤ end → end ≤ length xs → length (splice xs first end ys) ≡ first + length ys + (length xs - end)
length-spliced xs ys first end ordered within =
    let front = length-take-le first xs (omega (arith, ordered, within)) in
    let back = length-drop end xs in
    length-append (take first xs) (ys ++ drop end xs) ∙ ap (λ n. length (take first xs) + n) (length-append ys (drop end xs)) ∙ omega (arith, front, back)

-- a line that is left has the marks that it had
line-left : (old text : List ℕ) (kept : List LineMarks) (touched : TouchedLines) (at : ℕ) (line : LineMarks) → AreKept old kept → AreTouched old text touched
    → IsLeft touched.first touched.count at → All (λ place. place ≡ at → ⊥) touched.redone.places.items
    → slice_get kept (place_before touched.first touched.end touched.count at) ≡ Some line → KeepsLine text at line
line-left old text kept touched at line were is left fresh there =
    let was = place_before touched.first touched.end touched.count at in
    let had = AreKept-line old kept was line were there in
    record {
      line = had.line;
      outcome = had.outcome;
      line_is = is.lines at left ∙ had.line_is;
      outcome_is = is.outcomes at left fresh ∙ had.outcome_is;
      shows = had.shows;
    }

pub kept-put : (old text : List ℕ) (kept come : List LineMarks) (touched : TouchedLines) → AreKept old kept → AreTouched old text touched
    → length come ≡ touched.count → KeepsFrom text touched.first come
    → AreKeptBut text touched.redone.places.items (splice kept touched.first touched.end come)
kept-put old text kept come touched were is count each = record {
  count = length-spliced kept come touched.first touched.end is.ordered within
      ∙ (λ i. touched.first + count i + (were.count i - touched.end)) ∙ sym is.count;
  each = λ at line there fresh. by_place at line there fresh (nat_lt at touched.first) refl (nat_lt at (touched.first + touched.count)) refl;
}
  where
    within : touched.end ≤ length kept
    within = omega (arith, were.count, is.within)

    front : touched.first ≤ length kept
    front = omega (arith, within, is.ordered)

    left : (at : ℕ) (line : LineMarks) → slice_get (splice kept touched.first touched.end come) at ≡ Some line → All (λ p. p ≡ at → ⊥) touched.redone.places.items
        → IsLeft touched.first touched.count at → KeepsLine text at line
    left at line there fresh stays =
        line-left old text kept touched at line were is stays fresh
        (sym (slice_get-left touched.first touched.end kept come touched.count at is.ordered within count stays) ∙ there)

    by_place : (at : ℕ) (line : LineMarks) → slice_get (splice kept touched.first touched.end come) at ≡ Some line
        → All (λ p. p ≡ at → ⊥) touched.redone.places.items → (b : Bool) → nat_lt at touched.first ≡ b
        → (d : Bool) → nat_lt at (touched.first + touched.count) ≡ d → KeepsLine text at line
    by_place at line there fresh true before d behind =
        let lt = less at touched.first before in
        left at line there fresh (inl lt)
    by_place at line there fresh false before false behind =
        let le = not-less at (touched.first + touched.count) behind in
        left at line there fresh (inr le)
    by_place at line there fresh false before true behind =
        let le = not-less at touched.first before in
        let lt = less at (touched.first + touched.count) behind in
        let k = at - touched.first in
        let same : at ≡ touched.first + k = omega (arith, le) in
        let few : k < length come = omega (arith, le, lt, count) in
        subst (λ n. KeepsLine text n line) (sym same)
        (each k line (sym (slice_get-new touched.first touched.end kept come at k front few same) ∙ there))

-- ---- a change of a text

place-same : (first count at : ℕ) → count ≡ 0 → place_before first first count at ≡ at
place-same first count at none = by_test (nat_lt at first) refl
  where
    by_test : (b : Bool) → nat_lt at first ≡ b → (if b then at else at - (first + count) + first) ≡ at
    by_test true test = refl
    by_test false test = let le = not-less at first test in omega (arith, le, none)

-- what a change touches of a text, by what it touches of the session's lines
touched-by : (old new : List ℕ) (source now cards : List (List ℕ)) (r : Replacement) (last : ℕ) (places : List ℕ) → IsInSource old new r
    → source ≡ source_of_text old → now ≡ source_of_text new → length (source_lines old) ≤ MOST_LINES
    → cards ≡ map card_of (take r.count (drop r.first (source_lines new))) → last ≡ min r.end (length (source_lines old)) → r.first ≤ r.end
    → now ≡ splice source r.first last cards → AreRedone (outcomes_of source) (splice_at r.first last cards) (outcomes_of now) places
    → AreTouchedBy old new r.first last (length cards) places
touched-by old new source now cards r last places within was is few come behind ordered put redone = record {
  ordered = first_last;
  within = omega (arith, long, last_within);
  count = ap length (sym is ∙ put) ∙ length-spliced source cards r.first last first_last (omega (arith, same_long, long, last_within))
      ∙ (λ i. r.first + length cards + (length (was i) - last));
  lines = λ at left.
      ap (λ (ls : List (List ℕ)). slice_get ls at) lines_are
      ∙ slice_get-left r.first last (source_lines old) news (length cards) at first_last last_within (sym (length-map news card_of) ∙ sym (ap length come)) left;
  outcomes = λ at left fresh.
      ap (λ (ls : List (List ℕ)). slice_get (outcomes_of ls) at) (sym is)
      ∙ redone at left fresh
      ∙ ap (λ (ls : List (List ℕ)). slice_get (outcomes_of ls) (place_before r.first last (length cards) at)) was;
}
  where
    news : List (List ℕ)
    news = take r.count (drop r.first (source_lines new))

    first_last : r.first ≤ last
    first_last = omega (arith, ordered, within.in_old, behind)

    last_within : last ≤ length (source_lines old)
    last_within = omega (arith, behind)

    long : length (source_of_text old) ≡ length (source_lines old)
    long = omega (arith, length-cards (source_lines old), few)

    same_long : length source ≡ length (source_of_text old)
    same_long = ap length was

    lines_are : source_lines new ≡ splice (source_lines old) r.first last news
    lines_are =
        within.lines
        ∙ ap (λ (back : List (List ℕ)). take r.first (source_lines old) ++ (news ++ back))
        (sym (drop_min r.end (source_lines old)) ∙ ap (λ n. drop n (source_lines old)) (sym behind))

pub touched-told : (old new : List ℕ) (source now cards : List (List ℕ)) (r : Replacement) (last : ℕ) (touched : TouchedLines) → IsInSource old new r
    → source ≡ source_of_text old → now ≡ source_of_text new → length (source_lines old) ≤ MOST_LINES
    → cards ≡ map card_of (take r.count (drop r.first (source_lines new))) → last ≡ min r.end (length (source_lines old)) → r.first ≤ r.end
    → now ≡ splice source r.first last cards → IsTold source r.first last cards now touched → AreTouched old new touched
touched-told old new source now cards r last touched within was is few come behind ordered put told =
    let places = touched.redone.places.items in
    subst (λ n. AreTouchedBy old new n touched.end touched.count places) (sym told.first)
    (subst (λ n. AreTouchedBy old new r.first n touched.count places) (sym told.end)
    (subst (λ n. AreTouchedBy old new r.first last n places) (sym told.count)
    (touched-by old new source now cards r last places within was is few come behind ordered put told.redone)))
