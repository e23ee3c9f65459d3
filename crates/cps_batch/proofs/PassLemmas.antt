-- The two passes of batch assembly, one line more, and the whole.
use Rattle.std.proofs.Common.{◌≡◌, ℕ, Bool, true, false, ◌+◌, ◌<◌, ◌≤◌, refl, sym, ap, subst, ◌∙◌, List, [], ◌∷◌, ◌++◌, length, get_or, take, arith}
use Rattle.std.proofs.lemmas.List.{length-map, take_more, take_all}
use Rattle.cps_state.specs.declared.item.Item.{Item}
use Rattle.cps_state.specs.Keys.{State, first_state, overwritten}
use Rattle.std.specs.Prelude.{Option, None, Some, flat_map, nat_eq}
use Rattle.std.specs.Option.{option_or}
use Rattle.cps_state.specs.declared.key.Put.{Put}
use Rattle.cps_state.specs.Course.{Trace, unasked}
use Rattle.cps_state.specs.Code.Scratch.{Scratch}
use Rattle.cps_pass.specs.Expansion.{trace_of}
use Rattle.cps_final.specs.Distinct.{distinct}
use Rattle.cps_final.specs.Layout.{layout_of, puts_of}
use Rattle.cps_final.specs.Pool.{literals_in}
use Rattle.cps_final.specs.Finals.{Finals, finals_of, first_program, program_of, Gathers, final_value}
use Rattle.cps_final.specs.LineNames.{names_defined, names_read}
use Rattle.cps_final.specs.Outcome.{outcome_of}
use Rattle.cps_list.specs.declared.mention.Mention.{Mention}
use Rattle.cps_list.specs.Code.Making.{Printout, IsPrintoutOf, shown}
use Rattle.cps_list.specs.Symbols.{mentions_from, mentions_on}
use Rattle.cps_list.proofs.PrintoutLemmas.{mentions-more, shown-more}
use Rattle.cps_edit.specs.Assembly.{after, state_after, traces_from, traces_of, outcomes_under}
use Rattle.cps_batch.specs.declared.kept_lines.KeptStatements.{KeptStatements}
use Rattle.cps_batch.specs.declared.passes.BatchPassOne.{BatchPassOne}
use Rattle.cps_batch.specs.declared.passes.PassTwo.{PassTwo}
use Rattle.cps_final.specs.contracts.finals.FinalsGathered.TheImpl.{gathered-value}
use Rattle.cps_batch.specs.Code.Passes.{statements_of, AreBegun, IsAnyKept, IsNext, IsPassed, IsShown}
use Rattle.cps_edit.proofs.SpliceLemmas.{traces_from-append, length-traces_from, puts-state}

-- the trace of the line after those that were gathered
pub step-next : (finals : Finals) (before : List (List ℕ)) (line : List ℕ) (trace : Trace) (state : State) → Gathers finals (traces_of before) → state ≡ finals.state
    → trace ≡ trace_of line state → traces_of (before ++ line ∷ []) ≡ traces_of before ++ trace ∷ []
step-next finals before line trace state gathers same stepped =
    let now : trace ≡ trace_of line (state_after first_state before) =
    stepped ∙ ap (trace_of line) (same ∙ ap (λ (f : Finals). f.state) gathers ∙ puts-state first_state before) in
    traces_from-append first_state before (line ∷ []) ∙ ap (λ (t : Trace). traces_of before ++ t ∷ []) (sym now)

-- ---- final values don't depend on what lines ask

puts-unasked : (traces : List Trace) (trace : Trace) → puts_of (traces ++ unasked trace ∷ []) ≡ puts_of (traces ++ trace ∷ [])
puts-unasked [] trace = refl
puts-unasked (t ∷ traces) trace = ap (λ (puts : List Put). t.puts ++ puts) (puts-unasked traces trace)

literals-unasked : (traces : List Trace) (trace : Trace) → flat_map literals_in (traces ++ unasked trace ∷ []) ≡ flat_map literals_in (traces ++ trace ∷ [])
literals-unasked [] trace = refl
literals-unasked (t ∷ traces) trace = ap (λ (words : List ℕ). literals_in t ++ words) (literals-unasked traces trace)

program-unasked : (traces : List Trace) (trace : Trace) → program_of (traces ++ unasked trace ∷ []) ≡ program_of (traces ++ trace ∷ [])
program-unasked [] trace = refl
program-unasked (t ∷ traces) trace = ap (option_or (first_program t.items)) (program-unasked traces trace)

pub finals-unasked : (traces : List Trace) (did trace : Trace) → did ≡ unasked trace → finals_of (traces ++ did ∷ []) ≡ finals_of (traces ++ trace ∷ [])
finals-unasked traces did trace is =
    ap (λ (t : Trace). finals_of (traces ++ t ∷ [])) is
    ∙ (λ i. record {
      state = overwritten first_state (puts-unasked traces trace i);
      layout = layout_of (puts-unasked traces trace i);
      pool = distinct nat_eq (literals-unasked traces trace i);
      program = program-unasked traces trace i;
    })

pub gathered-next : (finals : Finals) (before : List (List ℕ)) (line : List ℕ) (front : List Item) (scratch : Scratch) → IsNext before line front scratch
    → finals ≡ finals_of (traces_of before ++ scratch.line ∷ []) → Gathers finals (traces_of (before ++ line ∷ []))
gathered-next finals before line front scratch next gathered =
    gathered ∙ finals-unasked (traces_of before) scratch.line next.trace next.stands.line ∙ ap finals_of (sym next.traces)

-- ---- the statements of lines that are kept

pub begun-kept : (kept : Option KeptStatements) (items : List Item) (statements : List (List Item)) → IsAnyKept kept items statements → AreBegun kept items
begun-kept None items statements so = so
begun-kept (Some kept) items statements so = so.rise

-- ---- one line more

outcomes-more : (finals : Finals) (traces : List Trace) (trace : Trace)
    → outcomes_under finals (traces ++ trace ∷ []) ≡ outcomes_under finals traces ++ outcome_of (final_value finals) trace ∷ []
outcomes-more finals [] trace = refl
outcomes-more finals (t ∷ traces) trace = ap (λ outcomes. outcome_of (final_value finals) t ∷ outcomes) (outcomes-more finals traces trace)

statements-more : (traces : List Trace) (trace : Trace) → statements_of (traces ++ trace ∷ []) ≡ statements_of traces ++ trace.items ∷ []
statements-more [] trace = refl
statements-more (t ∷ traces) trace = ap (λ statements. t.items ∷ statements) (statements-more traces trace)

-- as many outcomes as lines
outcomes-length : (finals : Finals) (lines : List (List ℕ)) → length (outcomes_under finals (traces_of lines)) ≡ length lines
outcomes-length finals lines = length-map (traces_of lines) (outcome_of (final_value finals)) ∙ length-traces_from first_state lines

-- the statements that are kept, one line more
pub kept-more : (lines : List (List ℕ)) (line : List ℕ) (trace : Trace) → traces_of (lines ++ line ∷ []) ≡ traces_of lines ++ trace ∷ []
    → statements_of (traces_of lines) ++ trace.items ∷ [] ≡ statements_of (traces_of (lines ++ line ∷ []))
kept-more lines line trace more = sym (statements-more (traces_of lines) trace) ∙ ap statements_of (sym more)

pub none-noted : (is_shown : Bool) → ◌≡◌ {A = List Mention} [] (shown is_shown [])
none-noted true = refl
none-noted false = refl

-- the symbols that are noted, one line more
pub noted-more : (is_shown : Bool) (old new : List Mention) (lines : List (List ℕ)) (line : List ℕ) (number : ℕ) (trace : Trace) → number ≡ length lines + 1
    → traces_of (lines ++ line ∷ []) ≡ traces_of lines ++ trace ∷ [] → ((finals : Finals) → old ≡ shown is_shown (mentions_from 1 (outcomes_under finals (traces_of lines))))
    → new ≡ old ++ shown is_shown (mentions_on number (names_defined trace) (names_read trace))
    → (finals : Finals) → new ≡ shown is_shown (mentions_from 1 (outcomes_under finals (traces_of (lines ++ line ∷ []))))
noted-more is_shown old new lines line number trace is-number more so noted finals =
    let outcomes = outcomes_under finals (traces_of lines) in
    let at : number ≡ 1 + length outcomes = is-number ∙ omega (arith, outcomes-length finals lines) in
    noted ∙ (λ i. so finals i ++ shown is_shown (mentions_on (at i) (names_defined trace) (names_read trace)))
    ∙ shown-more is_shown (mentions_from 1 outcomes) (mentions_on (1 + length outcomes) (names_defined trace) (names_read trace))
    ∙ ap (shown is_shown) (sym (mentions-more 1 outcomes (outcome_of (final_value finals) trace)))
    ∙ ap (λ os. shown is_shown (mentions_from 1 os)) (sym (outcomes-more finals (traces_of lines) trace) ∙ ap (outcomes_under finals) (sym more))

pub passed-all : (one : BatchPassOne) (lines : List (List ℕ)) (i : ℕ) → length lines ≤ i → IsPassed (take i lines) one → IsPassed lines one
passed-all one lines i past so = subst (λ ls. IsPassed ls one) (take_all i lines past) so

pub passed-more : (one : BatchPassOne) (lines : List (List ℕ)) (i : ℕ) (line : List ℕ) → i < length lines → line ≡ get_or lines i line → IsPassed (take i lines ++ line ∷ []) one
    → IsPassed (take (i + 1) lines) one
passed-more one lines i line lt is so = subst (λ ls. IsPassed ls one) (ap (λ l. take i lines ++ l ∷ []) is ∙ sym (take_more lines i line lt)) so

-- pass two, one line more
pub shown-next : (finals : Finals) (printout : Printout) (lines : List (List ℕ)) (line : List ℕ) (trace : Trace) → traces_of (lines ++ line ∷ []) ≡ traces_of lines ++ trace ∷ []
    → IsPrintoutOf (lines ++ line ∷ []) (outcomes_under finals (traces_of lines) ++ outcome_of (final_value finals) trace ∷ []) printout
    → IsPrintoutOf (lines ++ line ∷ []) (outcomes_under finals (traces_of (lines ++ line ∷ []))) printout
shown-next finals printout lines line trace more so =
    subst (λ os. IsPrintoutOf (lines ++ line ∷ []) os printout) (sym (outcomes-more finals (traces_of lines) trace) ∙ ap (outcomes_under finals) (sym more)) so

pub two-more : (two : PassTwo) (lines : List (List ℕ)) (i : ℕ) (line : List ℕ) → i < length lines → line ≡ get_or lines i line → IsShown (take i lines ++ line ∷ []) two
    → IsShown (take (i + 1) lines) two
two-more two lines i line lt is so = subst (λ ls. IsShown ls two) (ap (λ l. take i lines ++ l ∷ []) is ∙ sym (take_more lines i line lt)) so

pub gathers-more : (finals : Finals) (lines : List (List ℕ)) (i : ℕ) (line : List ℕ) → i < length lines → line ≡ get_or lines i line → Gathers finals (traces_of (take i lines ++ line ∷ []))
    → Gathers finals (traces_of (take (i + 1) lines))
gathers-more finals lines i line lt is so = so ∙ ap (λ ls. finals_of (traces_of ls)) (ap (λ l. take i lines ++ l ∷ []) is ∙ sym (take_more lines i line lt))

-- of all lines
pub two-all : (finals : Finals) (two : PassTwo) (printout : Printout) (lines : List (List ℕ)) (i : ℕ) → length lines ≤ i → gathered-value.it two.finals.now ≡ finals → printout ≡ two.printout
    → IsShown (take i lines) two → IsPrintoutOf lines (outcomes_under finals (traces_of lines)) printout
two-all finals two printout lines i past same is so =
    let all = take_all i lines past in
    subst (λ p. IsPrintoutOf lines (outcomes_under finals (traces_of lines)) p) (sym is)
    (subst (λ fs. IsPrintoutOf lines (outcomes_under fs (traces_of lines)) two.printout) same (subst (λ ls. IsShown ls two) all so))

-- each line has its statements
pub statements-length : (lines : List (List ℕ)) → length (statements_of (traces_of lines)) ≡ length lines
statements-length lines = length-map (traces_of lines) (λ (trace : Trace). trace.items) ∙ length-traces_from first_state lines

-- the number of the line after the first so many
pub number-taken : (lines : List (List ℕ)) (i : ℕ) → i < length lines → i + 1 ≡ length (take i lines) + 1
number-taken [] i lt = absurd (omega (arith, lt))
number-taken (l ∷ lines) ℕ.zero lt = refl
number-taken (l ∷ lines) (ℕ.suc i) lt = omega (arith, number-taken lines i (omega (arith, lt)))

-- the trace of that line, and its statements among those that were kept
statements-at : (s : State) (lines : List (List ℕ)) (i : ℕ) (line : List ℕ) (items : List Item) → i < length lines → line ≡ get_or lines i line
    → items ≡ get_or (statements_of (traces_from s lines)) i items → items ≡ (trace_of line (state_after s (take i lines))).items
statements-at s [] i line items lt is has = absurd (omega (arith, lt))
statements-at s (l ∷ lines) ℕ.zero line items lt is has = has ∙ ap (λ x. (trace_of x s).items) (sym is)
statements-at s (l ∷ lines) (ℕ.suc i) line items lt is has = statements-at (after s l) lines i line items (omega (arith, lt)) is has

pub trace-at : (lines : List (List ℕ)) (i : ℕ) (line : List ℕ) (kept : List (List Item)) (items : List Item) → i < length lines → line ≡ get_or lines i line
    → kept ≡ statements_of (traces_of lines) → items ≡ get_or kept i items
    → (trace : Trace) × (traces_of (take i lines ++ line ∷ []) ≡ traces_of (take i lines) ++ trace ∷ []) × (items ≡ trace.items)
trace-at lines i line kept items lt is are has = (
  trace_of line (state_after first_state (take i lines)),
  traces_from-append first_state (take i lines) (line ∷ []),
  statements-at first_state lines i line items lt is (has ∙ ap (λ k. get_or k i items) are),
)
