-- Lines whose run asks what holds do the same.
use Rattle.std.proofs.Common.{◌≡◌, ℕ, ◌+◌, refl, sym, ap, subst, ◌∙◌, Bool, true, false, List, [], ◌∷◌, arith}
use Rattle.std.specs.Prelude.{not, fold, if◌then◌else◌}
use Rattle.cps_state.specs.Course.{Trace, Holds}
use Rattle.cps_state.specs.Keys.{State, overwritten}
use Rattle.cps_pass.specs.Expansion.{trace_of}
use Rattle.cps_edit.specs.Passes.{after, state_after, traces_from}
use Rattle.cps_final.specs.Holds.{holds}
use Rattle.cps_edit.specs.Disturbed.{kept, disturbed_from}
use Rattle.cps_final.proofs.AnswerLemmas.{asks-decide}
use Rattle.cps_edit.proofs.AskedLemmas.{asked-here, meant-here}
use Rattle.cps_edit.proofs.SpliceLemmas.{overwritten-append}
use Rattle.cps_final.specs.Run.{Run, empty_run, joined, run_of}
use Rattle.cps_chunk.specs.RunLaws.{RunLaw, RunAsksNoMore}
use Rattle.cps_final.proofs.AskLemmas.{asks-before, asks-hold, asks-there}

-- what was asked before is among the asks at the end
before-all : (run : Run) (ts : List Trace) (g : State) → Holds (fold joined run ts).asks g → Holds run.asks g
before-all run [] g held = held
before-all run (t ∷ ts) g held = asks-before run.puts run.asks t.asks g (before-all (joined run t) ts g held)

-- the state behind one line more
behind-line : (f a : State) (run : Run) (t : Trace) → a ≡ overwritten f run.puts → overwritten a t.puts ≡ overwritten f (joined run t).puts
behind-line f a run t is = ap (λ (s : State). overwritten s t.puts) is ∙ sym (overwritten-append f run.puts t.puts)

-- what lines did behind a run that was in one state, seen from behind the same run in another
abbrev AreSame : State → Run → State → List (List ℕ) → List Trace → Type 0
AreSame g run b ls ts =
    (traces_from b ls ≡ ts) × (disturbed_from b (kept ls ts) ≡ 0) × (state_after b ls ≡ overwritten g (fold joined run ts).puts)

module _ (f g : State) where
  same-lines : (run : Run) (a b : State) → a ≡ overwritten f run.puts → b ≡ overwritten g run.puts → Holds run.asks f → (ls : List (List ℕ))
      → Holds (fold joined run (traces_from a ls)).asks g → AreSame g run b ls (traces_from a ls)
  same-lines run a b in_f in_g held [] there = (refl, refl, in_g)
  same-lines run a b in_f in_g held (l ∷ ls) there =
      let t = trace_of l a in
      let asked : Holds t.asks (overwritten f run.puts) = subst (λ (s : State). Holds t.asks s) in_f (asked-here l a) in
      let still : Holds t.asks b =
      subst (λ (s : State). Holds t.asks s) (sym in_g)
      (asks-there run.puts run.asks t.asks f g held asked (before-all (joined run t) (traces_from (after a l) ls) g there)) in
      let same : trace_of l b ≡ t = sym (meant-here l t b (a, refl) still) in
      let next : after b l ≡ overwritten g (joined run t).puts = ap (λ (u : Trace). overwritten b u.puts) same ∙ behind-line g b run t in_g in
      let rest = same-lines (joined run t) (after a l) (after b l) (behind-line f a run t in_f) next (asks-hold run.puts run.asks t.asks f held asked) ls there in
      let true_there : holds t.asks b ≡ true = (asks-decide t.asks b).1 still in
      (λ i. same i ∷ rest.0 i, λ i. (if not (true_there i) then 1 else 0) + rest.1 i, rest.2)

pub run-law : RunLaw
run-law f g ls there =
    let ts = traces_from f ls in
    let same = same-lines f g empty_run f g refl refl tt ls ((asks-decide (run_of ts).asks g).0 there) in
    record { same = same.0; undisturbed = same.1; behind = same.2 }

none-disturbed : (same : Bool) (rest : ℕ) → (if not same then 1 else 0) + rest ≡ 0 → (same ≡ true) × (rest ≡ 0)
none-disturbed true rest none = (refl, omega (arith, none))
none-disturbed false rest none = absurd (omega (arith, none))

-- where no line is disturbed, all asks hold
all-held : (g : State) (run : Run) (a b : State) → b ≡ overwritten g run.puts → Holds run.asks g → (ls : List (List ℕ))
    → disturbed_from b (kept ls (traces_from a ls)) ≡ 0 → Holds (fold joined run (traces_from a ls)).asks g
all-held g run a b in_g held [] none = held
all-held g run a b in_g held (l ∷ ls) none =
    let t = trace_of l a in
    let parts = none-disturbed (holds t.asks b) (disturbed_from (after b l) (kept ls (traces_from (after a l) ls))) none in
    let still : Holds t.asks b = (asks-decide t.asks b).0 parts.0 in
    let same : trace_of l b ≡ t = sym (meant-here l t b (a, refl) still) in
    let next : after b l ≡ overwritten g (joined run t).puts = ap (λ (u : Trace). overwritten b u.puts) same ∙ behind-line g b run t in_g in
    all-held g (joined run t) (after a l) (after b l) next (asks-hold run.puts run.asks t.asks g held (subst (λ (s : State). Holds t.asks s) in_g still)) ls parts.1

pub asks-no-more : RunAsksNoMore
asks-no-more f g ls none =
    let ts = traces_from f ls in
    (asks-decide (run_of ts).asks g).1 (all-held g empty_run f g refl tt ls none)
