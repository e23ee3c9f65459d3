-- How much is open behind lines, and which of them opened it.
use Rattle.std.proofs.Common.{◌≡◌, ℕ, ◌+◌, ◌<◌, ◌≤◌, Bool, true, false, not, ◌||◌, List, [], ◌∷◌, ◌++◌, length, get_or, take, Option, None, Some, refl, sym, ap, subst, ◌∙◌, arith, append-nil, ⊎_elim}
use Rattle.std.specs.Prelude.{if◌then◌else◌, IfSome, is_some, nat_lt}
use Rattle.std.proofs.lemmas.Bool.{cases_lt}
use Rattle.std.proofs.lemmas.Bool.Decides.{nat_tests}
use Rattle.std.proofs.lemmas.List.{take_all, take_more}
use Rattle.std.proofs.lemmas.List.Concat.{flat_map-append}
use Rattle.cps_state.specs.Course.{Trace}
use Rattle.cps_state.specs.declared.key.Key.TheVariants as key
use Rattle.cps_state.specs.declared.key.Put.{Put}
use Rattle.cps_state.specs.declared.key.OpenRange.{OpenRange}
use Rattle.cps_state.specs.Keys.{State, first_state, is_no_range, is_normal, is_open, mode_of, overwritten, ranges_of, with_put}
use Rattle.cps_final.specs.Layout.{puts_of}
use Rattle.cps_cause.specs.declared.open_now.OpenNow.{OpenNow}
use Rattle.cps_cause.specs.Opener.{IsOpener, open_behind, open_count}
use Rattle.cps_cause.specs.Code.OpenNow.{IsLast, IsOpenNow, count_of}

-- ---- states behind puts

overwritten-append : (state : State) (puts more : List Put) → overwritten state (puts ++ more) ≡ overwritten (overwritten state puts) more
overwritten-append state [] more = refl
overwritten-append state (p ∷ puts) more = overwritten-append (with_put state p) puts more

-- one put more
pub put-behind : (state : State) (puts : List Put) (at : ℕ) (d : Put) → at < length puts
    → with_put (overwritten state (take at puts)) (get_or puts at d) ≡ overwritten state (take (at + 1) puts)
put-behind state puts at d within =
    sym (ap (overwritten state) (take_more puts at d within) ∙ overwritten-append state (take at puts) (get_or puts at d ∷ []))

puts-more : (traces : List Trace) (trace : Trace) → puts_of (traces ++ trace ∷ []) ≡ puts_of traces ++ trace.puts
puts-more traces trace = flat_map-append (λ (t : Trace). t.puts) traces (trace ∷ []) ∙ ap (λ (l : List Put). puts_of traces ++ l) (append-nil trace.puts)

-- one line more
pub line-behind : (traces : List Trace) (at : ℕ) (d : Trace) → at < length traces
    → overwritten (overwritten first_state (puts_of (take at traces))) (get_or traces at d).puts ≡ overwritten first_state (puts_of (take (at + 1) traces))
line-behind traces at d within =
    sym (ap (λ (ts : List Trace). overwritten first_state (puts_of ts)) (take_more traces at d within)
    ∙ ap (overwritten first_state) (puts-more (take at traces) (get_or traces at d))
    ∙ overwritten-append first_state (puts_of (take at traces)) (get_or traces at d).puts)

-- ---- how much is open

held-count : (held normal : Bool) → held ≡ not normal → ◌≡◌ {A = ℕ} (if held then 1 else 0) (if normal then 0 else 1)
held-count held true is = ap (λ (b : Bool). if b then 1 else 0) is
held-count held false is = ap (λ (b : Bool). if b then 1 else 0) is

pub count-is : (state : State) (opened : OpenNow) → IsOpenNow state opened → count_of opened ≡ open_count state
count-is state opened is =
    ap (λ (n : ℕ). n + (if opened.is_held then 1 else 0)) is.ranges
    ∙ ap (λ (n : ℕ). length (ranges_of (state key.Ifs)) + n) (held-count opened.is_held (is_normal (mode_of (state key.Control))) is.held)

some-open : (normal : Bool) (ranges : List OpenRange)
    → nat_lt 0 (length ranges + (if normal then 0 else 1)) ≡ (not normal || not (is_no_range ranges))
some-open true [] = refl
some-open true (range ∷ ranges) = grind (arith, nat_tests)
some-open false [] = refl
some-open false (range ∷ ranges) = grind (arith, nat_tests)

-- something is open where a state is
open-is : (state : State) → nat_lt 0 (open_count state) ≡ is_open state
open-is state = some-open (is_normal (mode_of (state key.Control))) (ranges_of (state key.Ifs))

-- ---- the last line before which less is open

-- up to a line, if it is so before it and there
up-to : (traces : List Trace) (much at count : ℕ) → (count < at → much ≤ open_behind traces count) → much ≤ open_behind traces at → count < at + 1
    → much ≤ open_behind traces count
up-to traces much at count before here below =
    ⊎_elim before
    (λ past. let same : at ≡ count = omega arith in subst (λ (n : ℕ). much ≤ open_behind traces n) same here)
    (cases_lt count at)

pub last-more : (traces : List Trace) (much at : ℕ) (opener : Option ℕ) (is_less : Bool) → is_less ≡ nat_lt (open_behind traces at) much
    → IsLast traces much at opener → IsLast traces much (at + 1) (if is_less then Some at else opener)
last-more traces much at opener true is before =
    let less : open_behind traces at < much = grind (arith, nat_tests) in
    (omega arith, less, λ count above below. absurd (omega arith))
last-more traces much at None false is before =
    let enough : much ≤ open_behind traces at = grind (arith, nat_tests) in
    λ count below. up-to traces much at count (before count) enough below
last-more traces much at (Some above) false is (within, less, last) =
    let enough : much ≤ open_behind traces at = grind (arith, nat_tests) in
    (omega arith, less, λ count behind below. up-to traces much at count (last count behind) enough below)

-- ---- behind all lines

all-behind : (traces : List Trace) → open_behind traces (length traces) ≡ open_count (overwritten first_state (puts_of traces))
all-behind traces = ap (λ (ts : List Trace). open_count (overwritten first_state (puts_of ts))) (take_all (length traces) traces (omega arith))

pub much-is : (traces : List Trace) (opened : OpenNow) → IsOpenNow (overwritten first_state (puts_of traces)) opened
    → count_of opened ≡ open_behind traces (length traces)
much-is traces opened is = count-is (overwritten first_state (puts_of traces)) opened is ∙ sym (all-behind traces)

pub opener-found : (traces : List Trace) (opener : Option ℕ) → IsLast traces (open_behind traces (length traces)) (length traces) opener
    → IfSome opener (IsOpener traces)
opener-found traces None last = tt
opener-found traces (Some above) (within, less, last) = record {
  within = within;
  less = less;
  last = λ count behind below.
      up-to traces (open_behind traces (length traces)) (length traces) count (last count behind) (omega arith) (omega arith);
}

none-open : (traces : List Trace) → ((count : ℕ) → count < length traces → open_behind traces (length traces) ≤ open_behind traces count)
    → open_behind traces (length traces) ≡ 0
none-open [] last = refl
none-open (trace ∷ traces) last = let least = last 0 (omega arith) in omega arith

pub open-found : (traces : List Trace) (opener : Option ℕ) → IsLast traces (open_behind traces (length traces)) (length traces) opener
    → is_some opener ≡ is_open (overwritten first_state (puts_of traces))
open-found traces None last =
    sym (sym (open-is (overwritten first_state (puts_of traces))) ∙ ap (nat_lt 0) (sym (all-behind traces)) ∙ ap (nat_lt 0) (none-open traces last))
open-found traces (Some above) (within, less, last) =
    let much : 0 < open_count (overwritten first_state (puts_of traces)) = let all = all-behind traces in omega arith in
    let test : nat_lt 0 (open_count (overwritten first_state (puts_of traces))) ≡ true = grind (arith, nat_tests) in
    sym (sym (open-is (overwritten first_state (puts_of traces))) ∙ test)
