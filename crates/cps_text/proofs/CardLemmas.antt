-- The fields that `Card.antt` computes are those of the rule.
use Rattle.std.proofs.Common.{◌≡◌, ◌⊎◌, ⊎_elim, ℕ, zero, suc, ◌+◌, ◌-◌, ◌<◌, ◌≤◌, max, Bool, true, false, not, cond, ltb, List, [], length, get_or, drop, inl, inr, refl, sym, ap, arith, length-drop, length-take}
use Rattle.std.specs.List.{position_or_len}
use Rattle.std.proofs.lemmas.Bool.{cases_lt}
use Rattle.std.proofs.lemmas.Bool.Decides.{nat_tests}
use Rattle.std.proofs.lemmas.List.{drop-take, drop_all, get_or-drop, get_or_past, take_all}
use Rattle.std.proofs.lemmas.List.Sums.{fails_before_first, passes_at_first, prefix_len-le-length}
use Rattle.cps_text.specs.Text.{is_blank, is_filled}
use Rattle.cps_text.specs.Card.{card, filled_from, blank_from, field_at, has_location, location_of, location_end, behind_operation, statement_of, is_comment, is_continued, StatementFields, StatementLine}
use Rattle.cps_text.specs.Columns.{columns, IsField, IsNext, IsRest, AreFields, IsCard}

-- ---- places, from 0

not_filled : (b : Bool) → not b ≡ false → b ≡ true
not_filled true is = refl
not_filled false is = sym is

not_blank : (b : Bool) → not b ≡ true → b ≡ false
not_blank true is = sym is
not_blank false is = refl

blank_before : (card : List ℕ) (from at : ℕ) → from ≤ at → at < filled_from card from → is_blank (get_or card at 32) ≡ true
blank_before card from at behind before =
    let here : from + (at - from) ≡ at = omega arith in
    let fails = fails_before_first is_filled (drop from card) (at - from) 32 (omega arith) in
    not_filled (is_blank (get_or card at 32)) (rw (get_or-drop from card (at - from) 32, here) at fails)

filled_there : (card : List ℕ) (from : ℕ) → filled_from card from < length card → is_blank (get_or card (filled_from card from) 32) ≡ false
filled_there card from within =
    let passes = passes_at_first is_filled (drop from card) 32 (omega (arith, length-drop from card)) in
    not_blank (is_blank (get_or card (filled_from card from) 32)) (rw (get_or-drop from card (position_or_len is_filled (drop from card)) 32) at passes)

filled_before : (card : List ℕ) (from at : ℕ) → from ≤ at → at < blank_from card from → is_blank (get_or card at 32) ≡ false
filled_before card from at behind before =
    let here : from + (at - from) ≡ at = omega arith in
    let fails = fails_before_first is_blank (drop from card) (at - from) 32 (omega arith) in
    rw (get_or-drop from card (at - from) 32, here) at fails

past_end : (card : List ℕ) (at : ℕ) → length card ≤ at → is_blank (get_or card at 32) ≡ true
past_end card at past = rw (get_or_past card at 32 past) refl

blank_behind : (card : List ℕ) (from : ℕ) (at : ℕ) → at ≡ position_or_len is_blank (drop from card) → (at < length (drop from card)) ⊎ (length (drop from card) ≤ at) → is_blank (get_or card (from + at) 32) ≡ true
blank_behind card from at here (inl within) =
    let passes = passes_at_first is_blank (drop from card) 32 (rw (← here) within) in
    rw (← here, get_or-drop from card at 32) at passes
blank_behind card from at here (inr past) = past_end card (from + at) (omega (arith, length-drop from card))

blank_at_end : (card : List ℕ) (from : ℕ) → is_blank (get_or card (blank_from card from) 32) ≡ true
blank_at_end card from = blank_behind card from (position_or_len is_blank (drop from card)) refl (cases_lt _ _)

different : (b : Bool) → b ≡ true → b ≡ false → ⊥
different b is other = cc

positive : (n : ℕ) → (n ≡ 0 → ⊥) → 0 < n
positive zero none = absurd (none refl)
positive (suc n) none = omega arith

some_filled : (card : List ℕ) (from : ℕ) → is_blank (get_or card from 32) ≡ false → 0 < position_or_len is_blank (drop from card)
some_filled card from filled = positive _ (λ none.
    let stays : from + position_or_len is_blank (drop from card) ≡ from = omega arith in
    different _ (rw stays at (blank_at_end card from)) filled)

-- ---- the next field

-- column `at`, if there is one, is blank where a field begins right behind it
abbrev pub IsApart : List ℕ → ℕ → Type 0
IsApart text at = 0 < at → is_blank (get_or text at 32) ≡ false → is_blank (get_or text (at - 1) 32) ≡ true

blank_left : (text : List ℕ) (at first : ℕ) → IsApart text at → at ≤ first → 0 < first → first ≡ filled_from text at → is_blank (get_or text first 32) ≡ false → is_blank (get_or text (first - 1) 32) ≡ true
blank_left text at first apart late some is filled = ⊎_elim
    (λ (before : at < first). blank_before text at (first - 1) (omega arith) (omega arith))
    (λ (same : first ≤ at).
    let here : at ≡ first = omega arith in
    rw here at apart some filled)
    (cases_lt at first)

is_field : (text : List ℕ) (at : ℕ) → IsApart text at → filled_from text at < length text
    → IsField text (filled_from text at + 1) (blank_from text (filled_from text at)) (field_at text (filled_from text at))
is_field text at apart within =
    let first : ℕ = filled_from text at in
    let filled = filled_there text at within in
    let one : first + 1 - 1 ≡ first = omega arith in
    record {
      characters = rw one (sym (drop-take first (position_or_len is_blank (drop first text)) text));
      some = let more = some_filled text first filled in omega arith;
      filled = λ column low high. filled_before text first (column - 1) (omega arith) (omega arith);
      left = λ late. rw one (blank_left text at first apart (omega arith) (omega arith) refl filled);
      right = let end : blank_from text first + 1 - 1 ≡ blank_from text first = omega arith in rw end (blank_at_end text first);
    }

pub next_there : (text : List ℕ) (at greatest : ℕ) → IsApart text at → filled_from text at < length text → filled_from text at < greatest
    → IsNext text (at + 1) greatest (field_at text (filled_from text at)) (blank_from text (filled_from text at))
next_there text at greatest apart within early = inl (record {
  first = filled_from text at + 1;
  late = omega arith;
  early = omega arith;
  blanks = λ column low high. blank_before text at (column - 1) (omega arith) (omega arith);
  is = is_field text at apart within;
})

pub next_absent : (text : List ℕ) (at greatest : ℕ) → (greatest ≤ filled_from text at) ⊎ (length text ≤ filled_from text at) → IsNext text (at + 1) greatest [] at
next_absent text at greatest late = inr (record {
  blanks = λ column low high. ⊎_elim
      (λ (before : column - 1 < filled_from text at). blank_before text at (column - 1) (omega arith) before)
      (λ (past : filled_from text at ≤ column - 1). past_end text (column - 1) (⊎_elim (λ (l : greatest ≤ filled_from text at). omega arith) (λ (l : length text ≤ filled_from text at). omega arith) late))
      (cases_lt (column - 1) (filled_from text at));
  empty = refl;
  nothing = refl;
})

-- past the end nothing more comes
field_past : (text : List ℕ) (at : ℕ) → length text ≤ at → field_at text at ≡ []
field_past text at past = rw (drop_all at text past) refl

blank_past : (text : List ℕ) (at : ℕ) → length text ≤ at → blank_from text at ≡ at
blank_past text at past = rw (drop_all at text past) (omega arith)

filled_past : (text : List ℕ) (at : ℕ) → length text ≤ at → filled_from text at ≡ at
filled_past text at past = rw (drop_all at text past) (omega arith)

-- ---- the location field

-- where it ends, and what the operation field is looked for behind
Location : List ℕ → List ℕ → ℕ → Type 0
Location text field behind = (last : ℕ) × IsNext text 1 2 field last × (max 2 last ≡ behind) × IsApart text behind

apart_behind : (text : List ℕ) (last : ℕ) → 1 ≤ last → is_blank (get_or text last 32) ≡ true → IsApart text (max 2 last)
apart_behind text last some blank = λ later filled. ⊎_elim
    (λ (short : last < 2).
    let one : max 2 last - 1 ≡ last = omega arith in
    rw one blank)
    (λ (long : 2 ≤ last).
    let same : max 2 last ≡ last = omega arith in
    absurd (different _ blank (rw same at filled)))
    (cases_lt last 2)

location_there : (text : List ℕ) → filled_from text 0 < 2 → filled_from text 0 < length text → Location text (field_at text (filled_from text 0)) (max 2 (blank_from text (filled_from text 0)))
unfolding Location
location_there text early within =
    let more = some_filled text (filled_from text 0) (filled_there text 0 within) in (
      blank_from text (filled_from text 0),
      next_there text 0 2 (λ some. absurd (omega arith)) within early,
      refl,
      apart_behind text (blank_from text (filled_from text 0)) (omega arith) (blank_at_end text (filled_from text 0)),
    )

location_past : (text : List ℕ) → filled_from text 0 < 2 → length text ≤ filled_from text 0 → Location text (field_at text (filled_from text 0)) (max 2 (blank_from text (filled_from text 0)))
unfolding Location
location_past text early past =
    let none : field_at text (filled_from text 0) ≡ [] = field_past text (filled_from text 0) past in
    let end : blank_from text (filled_from text 0) ≡ filled_from text 0 = blank_past text (filled_from text 0) past in
    let two : 2 ≡ max 2 (filled_from text 0) = omega arith in
    rw (none, end) (0, next_absent text 0 2 (inr past), two, λ later filled. absurd (different _ (past_end text (max 2 (filled_from text 0)) (omega arith)) filled))

location_absent : (text : List ℕ) → 2 ≤ filled_from text 0 → Location text [] 2
unfolding Location
location_absent text late = (0, next_absent text 0 2 (inl late), refl, λ later filled. blank_before text 0 1 (omega arith) (omega arith))

location_with : (text : List ℕ) (has : Bool) → has_location text ≡ has
    → Location text (cond has (field_at text (filled_from text 0)) []) (max 2 (cond has (blank_from text (filled_from text 0)) 0))
location_with text true is = ⊎_elim
    (λ (within : filled_from text 0 < length text). location_there text (grind (arith, nat_tests)) within)
    (λ (past : length text ≤ filled_from text 0). location_past text (grind (arith, nat_tests)) past)
    (cases_lt (filled_from text 0) (length text))
location_with text false is = location_absent text (grind (arith, nat_tests))

location_is : (text : List ℕ) → Location text (location_of text) (max 2 (location_end text))
location_is text = location_with text (has_location text) refl

-- ---- the operation field

Operation : List ℕ → ℕ → Type 0
Operation text at = (last : ℕ) × IsNext text (at + 1) 72 (field_at text (filled_from text at)) last
    × (filled_from text last ≡ filled_from text (blank_from text (filled_from text at))) × IsApart text last

operation_is : (text : List ℕ) (at : ℕ) → length text ≤ 72 → IsApart text at → Operation text at
unfolding Operation
operation_is text at short apart = ⊎_elim
    (λ (within : filled_from text at < length text). (
      blank_from text (filled_from text at),
      next_there text at 72 apart within (omega arith),
      refl,
      λ some filled. absurd (different _ (blank_at_end text (filled_from text at)) filled),
    ))
    (λ (past : length text ≤ filled_from text at).
    let none : field_at text (filled_from text at) ≡ [] = field_past text (filled_from text at) past in
    let end : blank_from text (filled_from text at) ≡ filled_from text at = blank_past text (filled_from text at) past in
    let stays : filled_from text (filled_from text at) ≡ filled_from text at = filled_past text (filled_from text at) past in
    rw (none, end, stays) (at, next_absent text at 72 (inr past), refl, apart))
    (cases_lt (filled_from text at) (length text))

-- ---- the rest

rest_is : (text : List ℕ) (at : ℕ) → length text ≤ 72 → IsRest text (at + 1) (drop (filled_from text at) text)
rest_is text at short =
    let one : filled_from text at + 1 - 1 ≡ filled_from text at = omega arith in
    record {
      first = filled_from text at + 1;
      late = omega arith;
      blanks = λ column low high. blank_before text at (column - 1) (omega arith) (omega arith);
      begins = λ within. rw one (filled_there text at (omega arith));
      characters = rw (one, take_all 72 text short) refl;
    }

-- ---- the variable field, the comment and the tail

record Ending (text : List ℕ) (at : ℕ) (variable comment behind : List ℕ) : Type 0 where
  last : ℕ
  next : IsNext text (at + 1) 29 variable last
  rest : IsRest text (last + 1) comment
  no_tail : variable ≡ [] → behind ≡ []
  tail : 0 < length variable → behind ≡ columns text (last + 1 - length variable) 72

ending_there : (text : List ℕ) (at : ℕ) → length text ≤ 72 → IsApart text at → filled_from text at < 29 → filled_from text at < length text
    → Ending text at (field_at text (filled_from text at)) (drop (filled_from text (blank_from text (filled_from text at))) text) (drop (filled_from text at) text)
ending_there text at short apart early within =
    let first : ℕ = filled_from text at in
    let more = some_filled text first (filled_there text at within) in
    let fits = prefix_len-le-length (λ c. not (is_blank c)) (drop first text) in
    let many : length (field_at text first) ≡ position_or_len is_blank (drop first text) = omega (arith, length-take (position_or_len is_blank (drop first text)) (drop first text)) in
    let back : blank_from text first + 1 - length (field_at text first) - 1 ≡ first = omega arith in
    record {
      last = blank_from text first;
      next = next_there text at 29 apart within early;
      rest = rest_is text (blank_from text first) short;
      no_tail = λ none. let zero : length (field_at text first) ≡ 0 = ap length none in absurd (omega arith);
      tail = λ some. rw (back, take_all 72 text short) refl;
    }

ending_past : (text : List ℕ) (at : ℕ) → length text ≤ 72 → length text ≤ filled_from text at
    → Ending text at (field_at text (filled_from text at)) (drop (filled_from text (blank_from text (filled_from text at))) text) (drop (filled_from text at) text)
ending_past text at short past =
    let none : field_at text (filled_from text at) ≡ [] = field_past text (filled_from text at) past in
    let end : blank_from text (filled_from text at) ≡ filled_from text at = blank_past text (filled_from text at) past in
    let stays : filled_from text (filled_from text at) ≡ filled_from text at = filled_past text (filled_from text at) past in
    rw (none, end, stays) (record {
      last = at;
      next = next_absent text at 29 (inr past);
      rest = rest_is text at short;
      no_tail = λ is. drop_all (filled_from text at) text past;
      tail = λ some. absurd (omega arith);
    })

ending_absent : (text : List ℕ) (at : ℕ) → length text ≤ 72 → 29 ≤ filled_from text at → Ending text at [] (drop (filled_from text at) text) []
ending_absent text at short late = record {
  last = at;
  next = next_absent text at 29 (inl late);
  rest = rest_is text at short;
  no_tail = λ is. refl;
  tail = λ some. absurd (omega arith);
}

ending_with : (text : List ℕ) (at : ℕ) (has : Bool) → length text ≤ 72 → IsApart text at → ltb (filled_from text at) 29 ≡ has
    → Ending text at (cond has (field_at text (filled_from text at)) [])
    (drop (cond has (filled_from text (blank_from text (filled_from text at))) (filled_from text at)) text) (cond has (drop (filled_from text at) text) [])
ending_with text at true short apart is = ⊎_elim
    (λ (within : filled_from text at < length text). ending_there text at short apart (grind (arith, nat_tests)) within)
    (λ (past : length text ≤ filled_from text at). ending_past text at short past)
    (cases_lt (filled_from text at) (length text))
ending_with text at false short apart is = ending_absent text at short (grind (arith, nat_tests))

ending_is : (text : List ℕ) (at : ℕ) → length text ≤ 72 → IsApart text at → filled_from text at ≡ behind_operation text
    → Ending text at (statement_of text).variable (statement_of text).comment (statement_of text).tail
ending_is text at short apart same = rw same at (ending_with text at (ltb (filled_from text at) 29) short apart refl)

pub are_fields : (text : List ℕ) → length text ≤ 72 → AreFields text (statement_of text)
unfolding Location Operation
are_fields text short =
    let location : Location text (location_of text) (max 2 (location_end text)) = location_is text in
    let operation : Operation text (max 2 (location_end text)) = operation_is text (max 2 (location_end text)) short location.3 in
    let ending = ending_is text operation.0 short operation.3 operation.2 in
    record {
      location_end = location.0;
      location = location.1;
      operation_end = operation.0;
      operation = rw location.2 operation.1;
      variable_end = ending.last;
      variable = ending.next;
      comment = ending.rest;
      no_tail = ending.no_tail;
      tail = ending.tail;
    }

pub statement_is_card : (line text : List ℕ) (fields : StatementFields) → text ≡ card line → is_comment text ≡ false → is_continued text ≡ false → fields ≡ statement_of text → IsCard line (StatementLine fields)
statement_is_card line text fields columns no_comment not_continued is =
    rw is
    (rw columns
    (rw columns at no_comment, rw columns at not_continued, are_fields (card line) (omega (arith, length-take 72 line))))
