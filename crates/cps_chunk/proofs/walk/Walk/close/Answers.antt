use Rattle.std.proofs.Common.{◌≡◌, arith, List, subst, sym}
use Rattle.std.specs.Prelude.{OnOk}
use Rattle.cps_state.specs.Keys.{State}
use Rattle.cps_state.specs.Course.{Trace}
use Rattle.cps_state.specs.declared.key.Put.{Put}
use Rattle.cps_final.specs.Code.Kept.{changes_in}
use Rattle.cps_final.specs.Layout.{puts_of}
use Rattle.cps_chunk.specs.contracts.state_before.StateBeforeLookup.TheImpl.{answer-value}
use Rattle.cps_chunk.specs.Noted.{AreHeld, last_puts, noted}
use Rattle.cps_chunk.specs.Code.Walk.{state_at, stretch}
use Rattle.cps_chunk.proofs.WalkLemmas.{as-long, stretch-held}
use Rattle.cps_chunk.proofs.walk.Walk.close.Goals as goal

pub part-requires-clause-within : goal.part-requires-clause-within
part-requires-clause-within c = omega (arith, as-long c.args.self.now.base.lines.now c.args.self.now.base.traces.now c.requires.walk.base.did, c.requires.within)

pub close-requires : goal.close-requires
close-requires c =
    let base = c.args.self.now.base in
    let held = subst (λ (s : State). AreHeld s (stretch c.args.keep c.args.from base.traces.now)) (sym c.past_of-past.ensures)
    (stretch-held base.lines.now base.traces.now c.requires.walk.base.did c.args.keep c.args.from c.requires.ordered) in
    record { held = subst (λ (ts : List Trace). AreHeld (answer-value.it c.past_of-past.result) ts) (sym c.part.ensures) held }

pub returns-clause-changes : goal.returns-clause-changes
returns-clause-changes c =
    let old = c.args.self.now.replay.log in
    let new = c.close.new.self.log in
    let says : State → List Trace → Type 0 = λ s ts. OnOk c.close.result ((news : List Put) → changes_in old.present ≡ last_puts news
    → changes_in new.changes ≡ noted (changes_in old.changes) s (puts_of ts) news) in
    subst (λ (ts : List Trace). says (state_at c.args.self.now c.args.keep) ts) c.part.ensures
    (subst (λ (s : State). says s c.part.result.now) c.past_of-past.ensures c.close.ensures.changes)
