use Rattle.std.proofs.Common.{rules, arith, ◌≡◌, ◌≤◌, List, [], length, take, sym, ap, subst, ◌∙◌}
use Rattle.std.specs.Prelude.{sum}
use Rattle.std.proofs.lemmas.List.{take_all}
use Rattle.cps_state.specs.Keys.{first_state}
use Rattle.cps_state.specs.Course.{Trace}
use Rattle.cps_final.specs.contracts.finals.FinalsGathered.TheImpl.{gathered-value as gathered-finals}
use Rattle.cps_final.specs.Finals.{finals_of}
use Rattle.cps_chunk.specs.Division.{AreChunks}
use Rattle.cps_final.specs.Outcome.{Outcome}
use Rattle.cps_edit.specs.Passes.{traces_of}
use Rattle.cps_edit.specs.Assembly.{outcomes_under}
use Rattle.cps_edit.proofs.SpliceLemmas.{length-traces_from}
use Rattle.cps_chunk.specs.Code.Chunk.{AreChunksOf}
use Rattle.cps_live.specs.Code.NamesRead.{HasRead}
use Rattle.cps_live.specs.Entering.{full_chunks}
use Rattle.cps_live.proofs.EnteringLemmas.{divides}
use Rattle.cps_live.proofs.entering.kept_of.Goals as goal

pub chunks_of-chunks-requires-clause-within : goal.chunks_of-chunks-requires-clause-within
chunks_of-chunks-requires-clause-within c =
    let lines = c.args.lines.items in
    let count : c.len.result ≡ length lines = omega (arith, c.len.ensures, c.args.lines.ok.0) in
    let sizes = c.deref-3.ensures.value ∙ c.in_ok-lengths.ensures ∙ ap full_chunks count in
    let all = ap length (c.deref-4.ensures.value ∙ c.into_parts-traces.ensures.traces ∙ c.in_ok-one.ensures.one) ∙ length-traces_from _ _ ∙ ap length c.deref.ensures.value in
    omega (arith, ap sum sizes, (divides (length lines)).total, all)

pub returns-clause-kept : goal.returns-clause-kept
returns-clause-kept c =
    let lines = c.args.lines.items in
    let one : c.in_ok-one.one ≡ traces_of lines = c.in_ok-one.ensures.one ∙ ap traces_of c.deref.ensures.value in
    let traces = c.into_parts-traces.result.0 in
    let did : traces.items ≡ traces_of lines = c.into_parts-traces.ensures.traces ∙ one in
    let finals : gathered-finals.it c.into_parts-traces.result.1 ≡ finals_of (traces_of lines) = c.into_parts-traces.ensures.gather ∙ ap finals_of one in
    let count : c.len.result ≡ length lines = omega (arith, c.len.ensures, c.args.lines.ok.0) in
    let lengths = c.deref-3.ensures.value ∙ c.in_ok-lengths.ensures ∙ ap full_chunks count in
    let division = divides (length lines) in
    let many : length traces.items ≤ sum c.deref-3.result.now =
    omega (arith, ap length did ∙ length-traces_from first_state lines, ap sum lengths, division.total) in
    let whole = ap (take (sum c.deref-3.result.now)) c.deref-4.ensures.value ∙ take_all (sum c.deref-3.result.now) traces.items many in
    record {
      lines = record {
        first = c.first.ensures;
        did = did;
        made = c.in_ok-outcomes.ensures.outcomes ∙ ap (λ (ts : List Trace). outcomes_under (finals_of ts) ts) one;
        chunks = subst (λ (ts : List Trace). AreChunksOf c.args.hashing c.chunks_of-chunks.result.items ts) whole c.chunks_of-chunks.ensures.chunks;
        divided = subst AreChunks (sym (c.chunks_of-chunks.ensures.lengths ∙ lengths)) division.chunks;
        read = subst (λ (os : List Outcome). HasRead c.add_all.new.self os) c.deref-2.ensures.value c.in_ok-add_all.ensures.read;
      };
      finals = finals;
    }

-- ---- steps

pub returns-clause-steps : goal.returns-clause-steps
returns-clause-steps c =
    let first = c.in_ok-one.ensures in
    let second = c.in_ok-outcomes.ensures.steps in
    let lines = ap length c.deref.ensures.value in
    let traces = ap length first.one ∙ length-traces_from _ _ ∙ lines in
    record {
      ones = omega (arith, first.steps.ones, second.ones, lines);
      twos = omega (arith, first.steps.twos, second.twos, traces);
      ones_least = omega (arith, first.steps.ones, second.ones);
      twos_least = omega (arith, first.steps.twos, second.twos);
      ones_most = omega (arith, first.steps.ones, second.ones, lines);
      twos_most = omega (arith, first.steps.twos, second.twos, traces);
    }

pub returns-in_err-outcomes-clause-steps : goal.returns-in_err-outcomes-clause-steps
returns-in_err-outcomes-clause-steps c =
    let first = c.in_ok-one.ensures in
    let second = c.in_err-outcomes.ensures.steps in
    let lines = ap length c.deref.ensures.value in
    let traces = ap length first.one ∙ length-traces_from _ _ ∙ lines in
    record {
      ones = search (rules, c.from_residual-in_err-outcomes.ensures);
      twos = search (rules, c.from_residual-in_err-outcomes.ensures);
      ones_least = omega (arith, first.steps.ones, second.ones_least);
      twos_least = omega (arith, first.steps.twos, second.twos_least);
      ones_most = omega (arith, first.steps.ones, second.ones_most, lines);
      twos_most = omega (arith, first.steps.twos, second.twos_most, traces);
    }

pub returns-in_err-add_all-clause-steps : goal.returns-in_err-add_all-clause-steps
returns-in_err-add_all-clause-steps c =
    let first = c.in_ok-one.ensures in
    let second = c.in_ok-outcomes.ensures.steps in
    let lines = ap length c.deref.ensures.value in
    let traces = ap length first.one ∙ length-traces_from _ _ ∙ lines in
    record {
      ones = search (rules, c.from_residual-in_err-add_all.ensures);
      twos = search (rules, c.from_residual-in_err-add_all.ensures);
      ones_least = omega (arith, first.steps.ones, second.ones_least);
      twos_least = omega (arith, first.steps.twos, second.twos_least);
      ones_most = omega (arith, first.steps.ones, second.ones_most, lines);
      twos_most = omega (arith, first.steps.twos, second.twos_most, traces);
    }
