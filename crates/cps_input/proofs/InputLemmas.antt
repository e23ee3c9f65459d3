-- Lines of a source that come one after another, by their bytes.
use Rattle.std.proofs.Common.{◌≡◌, ℕ, ◌+◌, ◌≤◌, List, [], ◌∷◌, ◌++◌, map, length, refl, sym, ap, subst, ◌∙◌, arith, append_assoc, append-nil, length-append, true}
use Rattle.std.proofs.lemmas.List.{map-append}
use Rattle.std.proofs.lemmas.List.Elements.{All-nil, All-push}
use Rattle.std.specs.Prelude.{Option, Result, Ok, Err, MatchResult}
use Rattle.cps_text.specs.declared.counted.Counted.{Counted}
use Rattle.cps_text.specs.Line.{IsLine}
use Rattle.cps_input.specs.declared.input_fault.InputFault.{InputFault}
use Rattle.cps_input.specs.declared.input_fault.InputFault.TheVariants as faults
use Rattle.cps_input.specs.declared.intake.Intake.{Intake}
use Rattle.cps_input.specs.declared.intake.Intake.TheVariants as intakes
use Rattle.cps_input.specs.declared.input.Input.{Input}
use Rattle.cps_text.specs.declared.limits.TheConstants.{MOST_LINES}
use Rattle.cps_input.specs.Sources.{IsSource, IsFirstWrong, IsReadWhole, Refuses, ReadsLines}
use Rattle.cps_input.specs.Reads.{IsAllRead}
use Rattle.cps_input.specs.Code.BegunLine.{IsBegun}
use Rattle.cps_input.specs.Code.Input.{IsIntake, HasCome}
use Rattle.cps_input.specs.Lines.{HasText, Splits, has_no_newline, newline, without_return, last_line, lines_of}
use Rattle.cps_input.proofs.SplitLemmas.{splits-none, splits-line, splits-piece}

-- ---- lines

pub source-none : IsSource []
source-none = record { each = All-nil IsLine; few = omega arith }

pub source-more : (lines : List (List ℕ)) (line : List ℕ) → IsSource lines → IsLine line → length lines + 1 ≤ MOST_LINES → IsSource (lines ++ line ∷ [])
source-more lines line source is_line few = record {
  each = All-push IsLine lines line source.each is_line;
  few = omega (arith, length-append lines (line ∷ []));
}

-- what comes after it doesn't matter
pub wrong-before : (lines : List (List ℕ)) (line : List ℕ) (fault : InputFault) → IsFirstWrong lines fault → IsFirstWrong (lines ++ line ∷ []) fault
wrong-before lines line fault first = record {
  front = first.front;
  line = first.line;
  back = first.back ++ line ∷ [];
  whole = ap (λ ls. ls ++ line ∷ []) first.whole ∙ append_assoc first.front (first.line ∷ first.back) (line ∷ []);
  before = first.before;
  wrong = first.wrong;
}

pub wrong-kept : (intake : Intake) (fault : InputFault) (lines : List (List ℕ)) (line : List ℕ) → intake ≡ intakes.Faulty fault → IsIntake intake lines → IsIntake intake (lines ++ line ∷ [])
wrong-kept intake fault lines line is come =
    subst (λ i. IsIntake i (lines ++ line ∷ [])) (sym is) (wrong-before lines line fault (subst (λ i. IsIntake i lines) is come))

-- ---- bytes

pub come-none : (input : Input) → IsIntake input.intake [] → IsBegun input.begun [] → HasCome input []
come-none input intake begun = record { lines = []; rest = []; splits = splits-none; begun = begun; intake = intake }

pub come-piece : (old new : Input) (taken piece : List ℕ) → HasCome old taken → has_no_newline piece ≡ true → new.intake ≡ old.intake
    → ((begun : List ℕ) → IsBegun old.begun begun → IsBegun new.begun (begun ++ piece)) → HasCome new (taken ++ piece)
come-piece old new taken piece so_far other same push = record {
  lines = so_far.lines;
  rest = so_far.rest ++ piece;
  splits = splits-piece taken so_far.lines so_far.rest piece so_far.splits other;
  begun = push so_far.rest so_far.begun;
  intake = subst (λ i. IsIntake i (map without_return so_far.lines)) (sym same) so_far.intake;
}

pub come-line : (old new : Input) (taken : List ℕ) → HasCome old taken
    → ((lines : List (List ℕ)) (line : List ℕ) → IsIntake old.intake lines → IsBegun old.begun line → IsIntake new.intake (lines ++ without_return line ∷ []))
    → IsBegun new.begun [] → HasCome new (taken ++ newline ∷ [])
come-line old new taken so_far with_line empty = record {
  lines = so_far.lines ++ so_far.rest ∷ [];
  rest = [];
  splits = splits-line taken [] so_far.lines [] so_far.rest [] so_far.splits splits-none;
  begun = empty;
  intake = subst (λ ls. IsIntake new.intake ls) (sym (map-append without_return so_far.lines (so_far.rest ∷ [])))
      (with_line (map without_return so_far.lines) so_far.rest so_far.intake so_far.begun);
}

-- a line comes whole where none had begun
pub come-whole : (old new : Input) (taken line : List ℕ) → HasCome old taken
    → ((begun : List ℕ) → IsBegun old.begun begun → begun ≡ []) → has_no_newline line ≡ true → new.begun ≡ old.begun
    → ((lines : List (List ℕ)) → IsIntake old.intake lines → IsIntake new.intake (lines ++ without_return line ∷ [])) → HasCome new (taken ++ line ++ newline ∷ [])
come-whole old new taken line so_far empty one same with_line =
    let none = empty so_far.rest so_far.begun in record {
      lines = so_far.lines ++ line ∷ [];
      rest = [];
      splits = subst (λ l. Splits (taken ++ line ++ newline ∷ []) (so_far.lines ++ l ∷ []) []) (ap (λ r. r ++ line) none)
          (splits-line (taken ++ line) [] so_far.lines [] (so_far.rest ++ line) [] (splits-piece taken so_far.lines so_far.rest line so_far.splits one) splits-none);
      begun = subst (λ b. IsBegun b []) (sym same) (subst (λ r. IsBegun old.begun r) none so_far.begun);
      intake = subst (λ ls. IsIntake new.intake ls) (sym (map-append without_return so_far.lines (line ∷ []))) (with_line (map without_return so_far.lines) so_far.intake);
    }

-- ---- the end of the bytes

last_line-some : (rest : List ℕ) → (rest ≡ [] → ⊥) → last_line rest ≡ without_return rest ∷ []
last_line-some [] some = absurd (some refl)
last_line-some (b ∷ bytes) some = refl

-- no line has begun
pub text-whole : (input : Input) (taken : List ℕ) → (come : HasCome input taken) → come.rest ≡ [] → HasText taken (map without_return come.lines)
text-whole input taken come none = record {
  lines = come.lines;
  rest = come.rest;
  splits = come.splits;
  all = sym (ap (λ r. lines_of come.lines r) none ∙ append-nil (map without_return come.lines));
}

-- a line has begun
pub text-unended : (input : Input) (taken : List ℕ) → (come : HasCome input taken) → (come.rest ≡ [] → ⊥)
    → HasText taken (map without_return come.lines ++ without_return come.rest ∷ [])
text-unended input taken come some = record {
  lines = come.lines;
  rest = come.rest;
  splits = come.splits;
  all = sym (ap (λ ls. map without_return come.lines ++ ls) (last_line-some come.rest some));
}

-- ---- what was read

-- an input that was read to its end, by what became of its lines
pub lines-read : {R X : Type 0} (lines_in : X → List (List ℕ)) (remaining : R → Option (List ℕ)) (result : Result X InputFault) (old new : Counted R) (bytes : List ℕ)
    (source : List (List ℕ)) → IsAllRead remaining old new bytes → HasText bytes source
    → MatchResult result (λ made. (lines_in made ≡ source) × IsSource source) (λ fault. Refuses fault source) → ReadsLines lines_in remaining result old new
lines-read lines_in remaining (Ok made) old new bytes source read text came =
    let same = sym came.0 in
    (record { bytes = bytes; read = read; text = subst (λ ls. HasText bytes ls) same text }, subst IsSource same came.1)
lines-read lines_in remaining (Err (faults.LineTooLong at)) old new bytes source read text came = (source, record { bytes = bytes; read = read; text = text }, came)
lines-read lines_in remaining (Err (faults.BadCharacter at column)) old new bytes source read text came = (source, record { bytes = bytes; read = read; text = text }, came)
lines-read lines_in remaining (Err faults.TooManyLines) old new bytes source read text came = (source, record { bytes = bytes; read = read; text = text }, came)
lines-read lines_in remaining (Err faults.Memory) old new bytes source read text came = (source, record { bytes = bytes; read = read; text = text }, came)
lines-read lines_in remaining (Err faults.ReadFault) old new bytes source read text came = absurd came

-- a fault is the same whatever the lines are in
pub fault-read : {R X Y : Type 0} (lines_in : X → List (List ℕ)) (parted_in : Y → List (List ℕ)) (remaining : R → Option (List ℕ)) (fault : InputFault) (old new : Counted R)
    → ReadsLines lines_in remaining (Err fault) old new → ReadsLines parted_in remaining (Err fault) old new
fault-read lines_in parted_in remaining (faults.LineTooLong at) old new read = read
fault-read lines_in parted_in remaining (faults.BadCharacter at column) old new read = read
fault-read lines_in parted_in remaining faults.TooManyLines old new read = read
fault-read lines_in parted_in remaining faults.Memory old new read = read
fault-read lines_in parted_in remaining faults.ReadFault old new read = read

-- lines that were read, where each is kept by itself or there is no memory for them
pub lines-parted : {R Y : Type 0} (parted_in : Y → List (List ℕ)) (remaining : R → Option (List ℕ)) (result : Result Y InputFault) (old new : Counted R) (source : List (List ℕ))
    → IsReadWhole remaining old new source × IsSource source → MatchResult result (λ made. parted_in made ≡ source) (λ fault. fault ≡ faults.Memory)
    → ReadsLines parted_in remaining result old new
lines-parted parted_in remaining (Ok made) old new source read is =
    let same = sym is in
    (subst (λ ls. IsReadWhole remaining old new ls) same read.0, subst IsSource same read.1)
lines-parted parted_in remaining (Err fault) old new source read is =
    subst (λ f. ReadsLines parted_in remaining (Err f) old new) (sym is) (source, read.0, read.1)

-- ---- how many lines have come

pub kept-few : (kept lines : List (List ℕ)) → (kept ≡ lines) × IsSource lines → length kept ≤ MOST_LINES
kept-few kept lines come =
    let same = ap length come.0 in
    let few = come.1.few in
    omega arith

pub refused-few : (count : ℕ) (lines : List (List ℕ)) → (count ≡ length lines) × IsSource lines → count ≤ MOST_LINES
refused-few count lines come =
    let same = come.0 in
    let few = come.1.few in
    omega arith
