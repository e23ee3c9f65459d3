-- What wrote the characters that a call puts in.
use Rattle.std.proofs.Common.{◌≡◌, ℕ, zero, suc, ◌+◌, ◌<◌, Bool, true, false, not, cond, List, [], ◌∷◌, ◌++◌, Option, None, Some, map, length, replicate, drop, get_or, append_assoc, refl, sym, ap, ◌∙◌, arith}
use Rattle.std.specs.Prelude.{option_map, option_and_then, slice_get, unwrap_or, if◌then◌else◌}
use Rattle.std.specs.List.{find, flat_map, position_from}
use Rattle.std.proofs.lemmas.List.{drop_more, map-append}
use Rattle.cps_text.specs.declared.name.Name.{Name}
use Rattle.cps_text.specs.Card.{card, is_comment}
use Rattle.cps_text.specs.Insertion as plain
use Rattle.cps_text.specs.Insertion.{is_of_run, is_mark}
use Rattle.cps_text.specs.Name.{is_one, name_of}
use Rattle.cps_text.specs.Runs.{runs}
use Rattle.cps_mention.specs.declared.macro_names.MacroName.{MacroName}
use Rattle.cps_mention.specs.declared.stretch.Stretch.{Stretch}
use Rattle.cps_mention.specs.CallLines.{ArePut, Substitute, Substitutes, Written, argument, columns, generated, generated_len, origins_of, pairs_of, put_for, put_in, put_or_kept, put_run, put_runs, standing_for, substitute_at, substitute_text, substitutes_from, text_of, without_marks, written_on}
use Rattle.cps_mention.specs.Code.MacroNames.{kept_origins, origins_at, origins_for, origins_from, place_in, run_origins}

-- ---- law: the text

kept-if : (b : Bool) (c : ℕ × Stretch) (rest : Written) → text_of (if b then c ∷ rest else rest) ≡ (if b then c.0 ∷ text_of rest else text_of rest)
kept-if true c rest = refl
kept-if false c rest = refl

text-without_marks : (written : Written) → text_of (without_marks written) ≡ plain.without_marks (text_of written)
text-without_marks [] = refl
text-without_marks (c ∷ written) =
    kept-if (not (is_mark c.0)) c (without_marks written)
    ∙ ap (λ rest. if not (is_mark c.0) then c.0 ∷ rest else rest) (text-without_marks written)

text-on : (line before : ℕ) (text : List ℕ) → text_of (written_on line before text) ≡ text
text-on line before [] = refl
text-on line before (character ∷ text) = ap (λ rest. character ∷ rest) (text-on line (before + 1) text)

text-all : (stretch : Stretch) (text : List ℕ) → text_of (map (λ character. (character, stretch)) text) ≡ text
text-all stretch [] = refl
text-all stretch (character ∷ text) = ap (λ rest. character ∷ rest) (text-all stretch text)

text-put : (run : Stretch) (substitute : Substitute) → text_of (put_for run substitute) ≡ substitute_text substitute
text-put run (argument written) = refl
text-put run (generated text) = text-all run text

text-kept : (run : Stretch) (kept : Written) (found : Option Substitute)
    → text_of (put_or_kept run kept found) ≡ unwrap_or (option_map substitute_text found) (plain.without_marks (text_of kept))
text-kept run kept None = text-without_marks kept
text-kept run kept (Some substitute) = text-put run substitute

found-if : (b : Bool) (pair : Name × Substitute) (other : Option (Name × Substitute)) (two : Option (Name × List ℕ))
    → option_map substitute_text (option_map (λ p. p.1) other) ≡ option_map (λ p. p.1) two
    → option_map substitute_text (option_map (λ p. p.1) (cond b (Some pair) other)) ≡ option_map (λ p. p.1) (cond b (Some (pair.0, substitute_text pair.1)) two)
found-if true pair other two same = refl
found-if false pair other two same = same

text-standing : (named : Substitutes) (name : Name) → option_map substitute_text (standing_for named name) ≡ plain.text_of (pairs_of named) name
text-standing [] name = refl
text-standing (pair ∷ named) name =
    found-if (is_one pair.0 name) pair (find (λ p. is_one p.0 name) named) (find (λ p. is_one p.0 name) (pairs_of named)) (text-standing named name)

text-for : (named : Substitutes) (name : Option Name)
    → option_map substitute_text (option_and_then (standing_for named) name) ≡ option_and_then (plain.text_of (pairs_of named)) name
text-for named None = refl
text-for named (Some name) = text-standing named name

text-run : (named : Substitutes) (line before : ℕ) (run : List ℕ) → text_of (put_run named line before run) ≡ plain.replaced (pairs_of named) run
text-run named line before run =
    text-kept (columns line before (length run)) (written_on line before run) (option_and_then (standing_for named) (name_of run))
    ∙ ap (λ found. unwrap_or found (plain.without_marks (text_of (written_on line before run)))) (text-for named (name_of run))
    ∙ ap (λ text. unwrap_or (plain.text_for (pairs_of named) run) (plain.without_marks text)) (text-on line before run)

text-runs : (named : Substitutes) (line before : ℕ) (later : List (List ℕ)) → text_of (put_runs named line before later) ≡ flat_map (plain.replaced (pairs_of named)) later
text-runs named line before [] = refl
text-runs named line before (run ∷ later) =
    map-append (λ c. c.0) (put_run named line before run) (put_runs named line (before + length run) later)
    ∙ ap (λ front. front ++ text_of (put_runs named line (before + length run) later)) (text-run named line before run)
    ∙ ap (λ rest. plain.replaced (pairs_of named) run ++ rest) (text-runs named line (before + length run) later)

put-if : (b : Bool) (whole other : Written) (body text : List ℕ) → text_of whole ≡ body → text_of other ≡ text
    → text_of (if b then whole else other) ≡ (if b then body else text)
put-if true whole other body text one two = one
put-if false whole other body text one two = two

pub text-put_in : (named : Substitutes) (line : ℕ) (body : List ℕ) → text_of (put_in named line body) ≡ plain.inserted (pairs_of named) body
text-put_in named line body =
    put-if (is_comment (card body)) (written_on line 0 body) (put_runs named line 0 (runs is_of_run body)) body
    (flat_map (plain.replaced (pairs_of named)) (runs is_of_run body))
    (text-on line 0 body)
    (text-runs named line 0 (runs is_of_run body))

-- ---- what wrote it

all-by : (run : Stretch) (text : List ℕ) → origins_of (map (λ character. (character, run)) text) ≡ replicate (length text) run
all-by run [] = refl
all-by run (character ∷ text) = ap (λ rest. run ∷ rest) (all-by run text)

got-mapped : (written : List Written) (at : ℕ) → unwrap_or (slice_get (map origins_of written) at) [] ≡ origins_of (unwrap_or (slice_get written at) [])
got-mapped [] at = refl
got-mapped (one ∷ written) zero = refl
got-mapped (one ∷ written) (suc at) = got-mapped written at

for-one : (written : List Written) (made : Name → List ℕ) (run : Stretch) (at : ℕ) (name : MacroName) (is : Bool) → length (made name.name) ≡ generated_len
    → (if is then replicate generated_len run else unwrap_or (slice_get (map origins_of written) at) [])
    ≡ origins_of (put_for run (if is then generated (made name.name) else argument (unwrap_or (slice_get written at) [])))
for-one written made run at name true len = ap (λ n. replicate n run) (sym len) ∙ sym (all-by run (made name.name))
for-one written made run at name false len = got-mapped written at

-- names from one of all on
got-by : (b : Bool) (all : List MacroName) (arguments : List (List Stretch)) (line before : ℕ) (run : List ℕ) (from : ℕ) (one : MacroName) (later : Option ℕ)
    (substitute : Substitute) (others : Option Substitute) → slice_get all from ≡ Some one
    → origins_for arguments (columns line before (length run)) from (Some one) ≡ origins_of (put_for (columns line before (length run)) substitute)
    → origins_at all arguments line before run later ≡ origins_of (put_or_kept (columns line before (length run)) (written_on line before run) others)
    → origins_at all arguments line before run (cond b (Some from) later)
    ≡ origins_of (put_or_kept (columns line before (length run)) (written_on line before run) (cond b (Some substitute) others))
got-by true all arguments line before run from one later substitute others here first rest =
    ap (origins_for arguments (columns line before (length run)) from) here ∙ first
got-by false all arguments line before run from one later substitute others here first rest = rest

second-of : (b : Bool) (pair : Name × Substitute) (others : Option (Name × Substitute))
    → cond b (Some pair.1) (option_map (λ p. p.1) others) ≡ option_map (λ p. p.1) (cond b (Some pair) others)
second-of true pair others = refl
second-of false pair others = refl

next-where : (all : List MacroName) (one : MacroName) (names : List MacroName) (from : ℕ) → ((k : ℕ) → slice_get (one ∷ names) k ≡ slice_get all (from + k))
    → (k : ℕ) → slice_get names k ≡ slice_get all (from + 1 + k)
next-where all one names from places k =
    let shift : from + suc k ≡ from + 1 + k = omega arith in
    places (suc k) ∙ ap (slice_get all) shift

stands-from : (all names : List MacroName) (written : List Written) (made : Name → List ℕ) (line before : ℕ) (run : List ℕ) (name : Name) (from : ℕ)
    → ((k : ℕ) → slice_get names k ≡ slice_get all (from + k)) → ((n : Name) → length (made n) ≡ generated_len)
    → origins_at all (map origins_of written) line before run (position_from (λ n. is_one n.name name) from names)
    ≡ origins_of (put_or_kept (columns line before (length run)) (written_on line before run) (standing_for (substitutes_from written made from names) name))
stands-from all [] written made line before run name from places lens = refl
stands-from all (one ∷ names) written made line before run name from places lens =
    let zeroth : from + 0 ≡ from = omega arith in
    let here : slice_get all from ≡ Some one = ap (slice_get all) (sym zeroth) ∙ sym (places 0) in
    got-by (is_one one.name name) all (map origins_of written) line before run from one _ (substitute_at written made from one)
    (standing_for (substitutes_from written made (from + 1) names) name) here
    (for-one written made (columns line before (length run)) from one one.is_local (lens one.name))
    (stands-from all names written made line before run name (from + 1) (next-where all one names from places) lens)
    ∙ ap (λ found. origins_of (put_or_kept (columns line before (length run)) (written_on line before run) found))
    (second-of (is_one one.name name) (one.name, substitute_at written made from one) (find (λ p. is_one p.0 name) (substitutes_from written made (from + 1) names)))

from-first : (names : List MacroName) (k : ℕ) → slice_get names k ≡ slice_get names (0 + k)
from-first names k =
    let same : k ≡ 0 + k = omega arith in
    ap (slice_get names) same

run-put-by : (names : List MacroName) (written : List Written) (made : Name → List ℕ) (line before : ℕ) (run : List ℕ) (name : Option Name)
    → ((n : Name) → length (made n) ≡ generated_len)
    → origins_at names (map origins_of written) line before run (option_and_then (place_in names) name)
    ≡ origins_of (put_or_kept (columns line before (length run)) (written_on line before run) (option_and_then (standing_for (substitutes_from written made 0 names)) name))
run-put-by names written made line before run None lens = refl
run-put-by names written made line before run (Some name) lens =
    stands-from names names written made line before run name 0 (from-first names) lens

runs-origins : (names : List MacroName) (written : List Written) (made : Name → List ℕ) (line before : ℕ) (later : List (List ℕ))
    → ((n : Name) → length (made n) ≡ generated_len)
    → origins_from names (map origins_of written) line before later ≡ origins_of (put_runs (substitutes_from written made 0 names) line before later)
runs-origins names written made line before [] lens = refl
runs-origins names written made line before (run ∷ later) lens =
    let named = substitutes_from written made 0 names in
    ap (λ front. front ++ origins_from names (map origins_of written) line (before + length run) later) (run-put-by names written made line before run (name_of run) lens)
    ∙ ap (λ rest. origins_of (put_run named line before run) ++ rest) (runs-origins names written made line (before + length run) later lens)
    ∙ sym (map-append (λ c. c.1) (put_run named line before run) (put_runs named line (before + length run) later))

chosen : (b c : Bool) (whole other : Written) → b ≡ c → (if b then whole else other) ≡ (if c then whole else other)
chosen b c whole other is = ap (λ x. if x then whole else other) is

pub comment-put : (names : List MacroName) (arguments : List (List Stretch)) (line : ℕ) (body : List ℕ) (origins : List Stretch)
    → is_comment (card body) ≡ true → origins ≡ origins_of (written_on line 0 body) → ArePut names arguments line body origins
comment-put names arguments line body origins is so = λ written made lists lens.
    so ∙ ap origins_of (sym (chosen (is_comment (card body)) true (written_on line 0 body) (put_runs (substitutes_from written made 0 names) line 0 (runs is_of_run body)) is))

pub runs-put : (names : List MacroName) (arguments : List (List Stretch)) (line : ℕ) (body : List ℕ) (origins : List Stretch)
    → is_comment (card body) ≡ false → origins ≡ origins_from names arguments line 0 (runs is_of_run body) → ArePut names arguments line body origins
runs-put names arguments line body origins is so = λ written made lists lens.
    let named = substitutes_from written made 0 names in
    so
    ∙ ap (λ a. origins_from names a line 0 (runs is_of_run body)) (sym lists)
    ∙ runs-origins names written made line 0 (runs is_of_run body) lens
    ∙ ap origins_of (sym (chosen (is_comment (card body)) false (written_on line 0 body) (put_runs named line 0 (runs is_of_run body)) is))

-- ---- one character more

pub origins-more : (line before at : ℕ) (text : List ℕ) (items new whole : List Stretch) → at < length text → new ≡ items ++ columns line before 1 ∷ []
    → items ++ origins_of (written_on line before (drop at text)) ≡ whole → new ++ origins_of (written_on line (before + 1) (drop (at + 1) text)) ≡ whole
origins-more line before at text items new whole within is was =
    let rest = origins_of (written_on line (before + 1) (drop (at + 1) text)) in
    ap (λ n. n ++ rest) is
    ∙ append_assoc items (columns line before 1 ∷ []) rest
    ∙ ap (λ t. items ++ origins_of (written_on line before t)) (sym (drop_more text at 0 within))
    ∙ was

kept-by : (b : Bool) (c : ℕ × Stretch) (rest : Written) → not (is_mark c.0) ≡ b
    → origins_of (without_marks (c ∷ rest)) ≡ (if b then c.1 ∷ origins_of (without_marks rest) else origins_of (without_marks rest))
kept-by true c rest is = rw is refl
kept-by false c rest is = rw is refl

pub kept-more : (line before at : ℕ) (text : List ℕ) (items new whole : List Stretch) → at < length text → is_mark (get_or text at 0) ≡ false
    → new ≡ items ++ columns line before 1 ∷ [] → items ++ kept_origins line before (drop at text) ≡ whole
    → new ++ kept_origins line (before + 1) (drop (at + 1) text) ≡ whole
kept-more line before at text items new whole within other is was =
    let rest = kept_origins line (before + 1) (drop (at + 1) text) in
    let one : ℕ × Stretch = (get_or text at 0, columns line before 1) in
    ap (λ n. n ++ rest) is
    ∙ append_assoc items (columns line before 1 ∷ []) rest
    ∙ ap (λ t. items ++ t) (sym (kept-by true one (written_on line (before + 1) (drop (at + 1) text)) (ap not other)))
    ∙ ap (λ t. items ++ kept_origins line before t) (sym (drop_more text at 0 within))
    ∙ was

-- ---- one run more

pub name-put : (names : List MacroName) (arguments : List (List Stretch)) (line before : ℕ) (run : List ℕ) (at : ℕ) (stretch : Stretch) (name : Option MacroName)
    → option_and_then (place_in names) (name_of run) ≡ Some at → stretch ≡ columns line before (length run) → name ≡ slice_get names at
    → origins_for arguments stretch at name ≡ run_origins names arguments line before run
name-put names arguments line before run at stretch name placed columned named =
    ap (λ s. origins_for arguments s at name) columned
    ∙ ap (origins_for arguments (columns line before (length run)) at) named
    ∙ ap (origins_at names arguments line before run) (sym placed)

pub runs-more : (names : List MacroName) (arguments : List (List Stretch)) (line before behind : ℕ) (run : List ℕ) (all later : List (List ℕ))
    (old new whole : List Stretch) → all ≡ run ∷ later → behind ≡ before + length run → new ≡ old ++ run_origins names arguments line before run
    → old ++ origins_from names arguments line before all ≡ whole → new ++ origins_from names arguments line behind later ≡ whole
runs-more names arguments line before behind run all later old new whole next place is was =
    let rest = origins_from names arguments line (before + length run) later in
    ap (λ n. new ++ origins_from names arguments line n later) place
    ∙ ap (λ n. n ++ rest) is
    ∙ append_assoc old (run_origins names arguments line before run) rest
    ∙ ap (λ rs. old ++ origins_from names arguments line before rs) (sym next)
    ∙ was
