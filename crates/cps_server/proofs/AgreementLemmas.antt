-- A text is marked nowhere exactly where a source may have its lines and none is flagged.
use Rattle.std.proofs.Common.{◌≡◌, ℕ, suc, ◌+◌, ◌≤◌, min, Bool, true, false, List, [], ◌∷◌, ◌++◌, length, map, refl, sym, ap, subst, ◌∙◌, arith}
use Rattle.std.specs.Prelude.{◌↔◌, All}
use Rattle.std.proofs.lemmas.List.{take_all}
use Rattle.std.proofs.lemmas.List.Elements.{All-nil, All-cons, All-head, All-tail}
use Rattle.cps_text.specs.declared.limits.TheConstants.{MOST_LINES}
use Rattle.cps_text.specs.Line.{IsLine}
use Rattle.cps_state.specs.Flags.{has_flag}
use Rattle.cps_list.specs.Flagged.{count_if, flagged_in}
use Rattle.cps_final.specs.Outcome.{Outcome, flags_of}
use Rattle.cps_edit.specs.Assembly.{ends_open, outcomes_of}
use Rattle.cps_edit.specs.Flagged.{flagged_lines}
use Rattle.cps_cause.specs.Explaining.{flags_told}
use Rattle.cps_cause.specs.declared.diagnostic.Diagnostic.{Diagnostic}
use Rattle.cps_input.specs.Sources.{IsSource}
use Rattle.cps_input.specs.Card.{card_of, cards_of}
use Rattle.cps_input.proofs.CardLemmas.{card_of-line}
use Rattle.cps_rpc.specs.Lines.{source_lines}
use Rattle.cps_rpc.proofs.SourceLemmas.{source-read}
use Rattle.cps_server.proofs.SourceLemmas.{length-cards}
use Rattle.cps_server.specs.Laws.{AgreesWithBatch}
use Rattle.cps_server.specs.Marks.{Mark, Marks, MarksEnd, MarksLine, MarksLines, flag_mark}
use Rattle.cps_server.proofs.FlagLemmas.{none-told}
use Rattle.cps_server.proofs.LineLemmas.{length-outcomes, no-shown}

-- ---- no marks

more-than-none : (mark : Mark) (marks : List Mark) → mark ∷ marks ≡ [] → ⊥
more-than-none mark marks is = let long : suc (length marks) ≡ 0 = ap length is in absurd (omega (arith, long))

none-front : (here back : List Mark) → here ++ back ≡ [] → here ≡ []
none-front [] back is = refl
none-front (mark ∷ here) back is = absurd (more-than-none mark (here ++ back) is)

none-back : (here back : List Mark) → here ++ back ≡ [] → back ≡ []
none-back here back is = sym (ap (λ (ms : List Mark). ms ++ back) (none-front here back is)) ∙ is

none-both : (here back : List Mark) → here ≡ [] → back ≡ [] → here ++ back ≡ []
none-both here back first last = ap (λ (ms : List Mark). ms ++ back) first ∙ last

-- ---- counts

uncounted : (flag : Bool) (more : ℕ) → count_if flag + more ≡ 0 → (flag ≡ false) × (more ≡ 0)
uncounted false more is = (refl, omega arith)
uncounted true more is = absurd (omega arith)

uncounted_end : (flag : Bool) (before : ℕ) → before + count_if flag ≡ 0 → (flag ≡ false) × (before ≡ 0)
uncounted_end false before is = (refl, omega arith)
uncounted_end true before is = absurd (omega arith)

-- ---- lines

-- lines that aren't marked: each is a line without a flag
pub record AreClean (lines : List (List ℕ)) (outcomes : List Outcome) : Type 0 where
  pub each : All IsLine lines
  pub same : length lines ≡ length outcomes
  pub none : flagged_in outcomes ≡ 0

line-clean : (number : ℕ) (line : List ℕ) (outcome : Outcome) (marks : List Mark) → MarksLine number line outcome marks → marks ≡ []
    → IsLine line × (has_flag (flags_of outcome.rows) ≡ false)
line-clean number line outcome marks told is =
    let is_line = told.some is in
    let causes = told.flags is_line in
    let none : causes.0 ≡ [] = no-shown (flag_mark number) causes.0 (sym causes.2 ∙ is) in
    (is_line, ap has_flag (sym causes.1.letters ∙ ap flags_told none))

lines-clean : (number : ℕ) (lines : List (List ℕ)) (outcomes : List Outcome) (marks : List Mark) → MarksLines number lines outcomes marks → marks ≡ []
    → length outcomes ≤ length lines → AreClean lines outcomes
lines-clean number [] [] marks told is few = record { each = All-nil IsLine; same = refl; none = refl }
lines-clean number [] (o ∷ outcomes) marks told is few = absurd (omega arith)
lines-clean number (line ∷ lines) [] marks told is few = absurd (more-than-none _ _ (sym told ∙ is))
lines-clean number (line ∷ lines) (o ∷ outcomes) marks (here, back, all, told, others) is few =
    let none : here ++ back ≡ [] = sym all ∙ is in
    let this = line-clean number line o here told (none-front here back none) in
    let rest = lines-clean (number + 1) lines outcomes back others (none-back here back none) (omega arith) in
    let uncounted_here : count_if (has_flag (flags_of o.rows)) ≡ 0 = ap count_if this.1 in
    record {
      each = All-cons IsLine line lines this.0 rest.each;
      same = ap suc rest.same;
      none = let others_none = rest.none in omega arith;
    }

line-unmarked : (number : ℕ) (line : List ℕ) (outcome : Outcome) (marks : List Mark) → MarksLine number line outcome marks → IsLine line
    → has_flag (flags_of outcome.rows) ≡ false → marks ≡ []
line-unmarked number line outcome marks told is_line unflagged =
    let causes = told.flags is_line in
    let none : causes.0 ≡ [] = none-told causes.0 (ap has_flag causes.1.letters ∙ unflagged) in
    causes.2 ∙ ap (λ (ds : List Diagnostic). map (flag_mark number) ds) none

lines-unmarked : (number : ℕ) (lines : List (List ℕ)) (outcomes : List Outcome) (marks : List Mark) → MarksLines number lines outcomes marks
    → All IsLine lines → length lines ≡ length outcomes → flagged_in outcomes ≡ 0 → marks ≡ []
lines-unmarked number [] outcomes marks told each same none = told
lines-unmarked number (line ∷ lines) [] marks told each same none = absurd (let e : suc (length lines) ≡ 0 = same in omega arith)
lines-unmarked number (line ∷ lines) (o ∷ outcomes) marks (here, back, all, told, others) each same none =
    let is_line = All-head IsLine line lines each in
    let unflagged = uncounted (has_flag (flags_of o.rows)) (flagged_in outcomes) none in
    let this = line-unmarked number line o here told is_line unflagged.0 in
    let rest = lines-unmarked (number + 1) lines outcomes back others (All-tail IsLine line lines each) (omega arith) unflagged.1 in
    all ∙ none-both here back this rest

-- ---- cards

cards-same : (lines : List (List ℕ)) → All IsLine lines → map card_of lines ≡ lines
cards-same [] each = refl
cards-same (line ∷ lines) each =
    ap (λ (l : List ℕ). l ∷ map card_of lines) (card_of-line line (All-head IsLine line lines each))
    ∙ ap (λ (ls : List (List ℕ)). line ∷ ls) (cards-same lines (All-tail IsLine line lines each))

cards_of-source : (lines : List (List ℕ)) → IsSource lines → cards_of lines ≡ lines
cards_of-source lines source = ap (map card_of) (take_all MOST_LINES lines source.few) ∙ cards-same lines source.each

-- ---- the end

end-clean : (is_open : Bool) (last : ℕ) (marks : List Mark) → MarksEnd is_open last marks → marks ≡ [] → is_open ≡ false
end-clean false last marks told is = refl
end-clean true last marks told is = absurd (more-than-none told.0 [] (sym told.1 ∙ is))

end-unmarked : (is_open : Bool) (last : ℕ) (marks : List Mark) → MarksEnd is_open last marks → is_open ≡ false → marks ≡ []
end-unmarked is_open last marks told closed = subst (λ b. MarksEnd b last marks) closed told

-- ---- a text

clean : (text : List ℕ) (marks : List Mark) → Marks text marks → marks ≡ [] → IsSource (source_lines text) × (flagged_lines (source_lines text) ≡ 0)
clean text marks told is =
    let lines = source_lines text in
    let outcomes = outcomes_of (cards_of lines) in
    let nothing : told.of_lines ++ told.of_end ≡ [] = sym told.all ∙ is in
    let count : length outcomes ≡ min MOST_LINES (length lines) = length-outcomes (cards_of lines) ∙ length-cards lines in
    let all = lines-clean 0 lines outcomes told.of_lines told.each (none-front told.of_lines told.of_end nothing) (omega (arith, count)) in
    let source : IsSource lines = record { each = all.each; few = let same = all.same in omega (arith, count, same) } in
    let closed = end-clean (ends_open (cards_of lines)) _ told.of_end told.end (none-back told.of_lines told.of_end nothing) in
    let none : flagged_lines (cards_of lines) ≡ 0 = ap (λ b. flagged_in outcomes + count_if b) closed ∙ ap (λ n. n + 0) all.none in
    (source, subst (λ (ls : List (List ℕ)). flagged_lines ls ≡ 0) (cards_of-source lines source) none)

unmarked : (text : List ℕ) (marks : List Mark) → Marks text marks → IsSource (source_lines text) × (flagged_lines (source_lines text) ≡ 0) → marks ≡ []
unmarked text marks told (source, none) =
    let lines = source_lines text in
    let same = cards_of-source lines source in
    let none_here : flagged_lines (cards_of lines) ≡ 0 = subst (λ (ls : List (List ℕ)). flagged_lines ls ≡ 0) (sym same) none in
    let both = uncounted_end (ends_open (cards_of lines)) (flagged_in (outcomes_of (cards_of lines))) none_here in
    let long : length lines ≡ length (outcomes_of (cards_of lines)) = ap length (sym same) ∙ sym (length-outcomes (cards_of lines)) in
    let front = lines-unmarked 0 lines (outcomes_of (cards_of lines)) told.of_lines told.each source.each long both.1 in
    let back = end-unmarked (ends_open (cards_of lines)) _ told.of_end told.end both.0 in
    told.all ∙ none-both told.of_lines told.of_end front back

pub agrees : AgreesWithBatch
agrees text lines marks read told =
    let same : source_lines text ≡ lines = sym (source-read text lines read) in
    subst (λ (ls : List (List ℕ)). (marks ≡ []) ↔ (IsSource ls × (flagged_lines ls ≡ 0))) same (clean text marks told, unmarked text marks told)
