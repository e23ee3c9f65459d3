use Rattle.std.proofs.Common.{◌≡◌, ◌∙◌, ◌∷◌, ◌++◌, [], length, ap, sym}
use Rattle.cps_state.specs.Keys.{first_state}
use Rattle.cps_final.specs.Code.Kept.{changes_in}
use Rattle.cps_final.specs.Finals.{final_value, finals_of}
use Rattle.cps_final.specs.Outcome.{outcome_of}
use Rattle.cps_pass.specs.Expansion.{trace_of}
use Rattle.cps_final.specs.Code.FinalsPatch.{patched}
use Rattle.cps_final.specs.contracts.finals.FinalsGathered.TheImpl.{gathered-value}
use Rattle.cps_chunk.specs.Division.{IsDivision}
use Rattle.cps_edit.specs.Disturbed.{finals_in}
use Rattle.cps_edit.specs.Passes.{state_after, traces_of}
use Rattle.cps_chunk.specs.Code.Chunk.{lengths_of}
use Rattle.cps_chunk.specs.Replayed.{redone}
use Rattle.cps_live.proofs.BehindLemmas.{both-made, both-refused, changed-behind, is-behind, lent-patch, looks-are, looks-since, one-refused, ones-behind, room-same, twos-are}
use Rattle.cps_live.proofs.ExchangeLemmas.{lines-total}
use Rattle.cps_live.proofs.PatchedLemmas.{may-stand}
use Rattle.cps_live.proofs.kept_source.KeptSource.append.Goals as goal

pub returns-in_err-trace-clause-steps : goal.returns-in_err-trace-clause-steps
returns-in_err-trace-clause-steps c = one-refused _ _ c.from_residual.ensures.0 (ones-behind c.args.self.now.lines.items c.args.line) c.step_behind.ensures.step

pub returns-in_err-kept-clause-steps : goal.returns-in_err-kept-clause-steps
returns-in_err-kept-clause-steps c = one-refused _ _ c.from_residual-in_err-kept.ensures.0 (ones-behind c.args.self.now.lines.items c.args.line) c.step_behind.ensures.step

pub returns-in_err-make_room_for_one-clause-steps : goal.returns-in_err-make_room_for_one-clause-steps
returns-in_err-make_room_for_one-clause-steps c = one-refused _ _ c.from_residual-in_err-make_room_for_one.ensures.0 (ones-behind c.args.self.now.lines.items c.args.line) c.step_behind.ensures.step

-- ---- what stands behind the last line

pub exchange-requires-clause-stands : goal.exchange-requires-clause-stands
exchange-requires-clause-stands c =
    let lines = c.args.self.now.lines.items in
    let line = c.args.line in
    let patch = c.deref_mut-patch.result.now in
    may-stand (changes_in patch.changes) lines (lines ++ line ∷ [])
    (changed-behind lines line patch c.in_ok-trace.trace c.in_ok-trace.ensures.trace (lent-patch _ _ _ _ c.deref_mut-patch.ensures.value c.in_ok-kept.ensures.patch).state)

-- ---- it is put in its place

pub commit_with-requires-clause-made : goal.commit_with-requires-clause-made
commit_with-requires-clause-made c =
    let lines = c.args.self.now.lines.items in
    let line = c.args.line in
    let behind = is-behind c.args.line c.exchange.new.patch c.requires.kept c.step_behind.ensures.still c.patch_for.ensures.still c.make_room_for_one.ensures.still c.make_room_for_one.ensures.kept
    c.in_ok-trace.ensures.trace (lent-patch _ _ _ _ c.deref_mut-patch.ensures.value c.in_ok-kept.ensures.patch) c.exchange.ensures.now c.exchange.ensures.back in
    let still = c.pass_two_with.ensures.still.still in
    let new = c.in-Ok.ensures.made in
    let path : lines ≡ c.pass_two_with.new.self.lines.items = sym (still.lines ∙ behind.source) in
    record {
      own = new.own ∙ (λ i. outcome_of (final_value (behind.behind i)) (c.in_ok-trace.ensures.trace i))
          ∙ (λ i. outcome_of (finals_in (path i ++ line ∷ [])) (trace_of line (state_after first_state (path i))));
      renewed = new.renewed ∙ (λ i. redone (final_value (behind.before i)) (final_value (behind.behind i)) 0 [] (sym still.traces i))
          ∙ (λ i. redone (finals_in (path i)) (finals_in (path i ++ line ∷ [])) 0 [] c.pass_two_with.new.self.traces.items);
    }

pub commit_with-requires-clause-room : goal.commit_with-requires-clause-room
commit_with-requires-clause-room c =
    let room = c.in_ok-make_room_for_one.ensures.room in
    let still = c.pass_two_with.ensures.still in
    room-same _ c.pass_two_with.new.self still.still still.room (record { lines = room.lines; traces = room.traces; outcomes = room.outcomes; chunks = room.chunks })

pub keep_patch-requires : goal.keep_patch-requires
keep_patch-requires c =
    let lines = c.args.self.now.lines.items in
    let line = c.args.line in
    let behind = is-behind c.args.line c.exchange.new.patch c.requires.kept c.step_behind.ensures.still c.patch_for.ensures.still c.make_room_for_one.ensures.still c.make_room_for_one.ensures.kept
    c.in_ok-trace.ensures.trace (lent-patch _ _ _ _ c.deref_mut-patch.ensures.value c.in_ok-kept.ensures.patch) c.exchange.ensures.now c.exchange.ensures.back in
    let still = c.pass_two_with.ensures.still in
    let all : c.commit_with.new.self.lines.items ≡ lines ++ line ∷ [] =
    c.commit_with.ensures.appended.lines ∙ ap (λ ls. ls ++ line ∷ []) (still.still.lines ∙ behind.source) in
    record {
      kept = record {
        lines = c.commit_with.ensures.kept;
        finals = ap (λ finals. gathered-value.it finals) (c.commit_with.ensures.finals ∙ still.finals) ∙ behind.behind ∙ ap (λ ls. finals_of (traces_of ls)) (sym all);
      };
    }

pub returns-in-Ok-clause-steps : goal.returns-in-Ok-clause-steps
returns-in-Ok-clause-steps c =
    let lines = c.args.self.now.lines.items in
    let line = c.args.line in
    let behind = is-behind c.args.line c.exchange.new.patch c.requires.kept c.step_behind.ensures.still c.patch_for.ensures.still c.make_room_for_one.ensures.still c.make_room_for_one.ensures.kept
    c.in_ok-trace.ensures.trace (lent-patch _ _ _ _ c.deref_mut-patch.ensures.value c.in_ok-kept.ensures.patch) c.exchange.ensures.now c.exchange.ensures.back in
    both-made _ _ _ (ones-behind lines line) (twos-are behind) c.step_behind.ensures.step c.in-Ok.ensures.work.steps

pub returns-in-Ok-clause-looked : goal.returns-in-Ok-clause-looked
returns-in-Ok-clause-looked c =
    let lines = c.args.self.now.lines.items in
    let behind = is-behind c.args.line c.exchange.new.patch c.requires.kept c.step_behind.ensures.still c.patch_for.ensures.still c.make_room_for_one.ensures.still c.make_room_for_one.ensures.kept
    c.in_ok-trace.ensures.trace (lent-patch _ _ _ _ c.deref_mut-patch.ensures.value c.in_ok-kept.ensures.patch) c.exchange.ensures.now c.exchange.ensures.back in
    let olds = lengths_of c.args.self.now.chunks.items in
    let lengths = c.make_room_for_one.ensures.still.lengths ∙ c.patch_for.ensures.still.lengths ∙ c.step_behind.ensures.still.lengths in
    let division : IsDivision (length lines) olds = record { chunks = c.requires.kept.lines.divided; total = lines-total c.requires.kept.lines } in
    let again = c.an_insertion_divides_again.ensures (length lines) (length lines) olds division in
    let le = looks-are behind olds lengths division again.0.chunks in
    looks-since _ _ le c.step_behind.ensures.step c.in-Ok.ensures.work.looked

-- ---- there was no memory for pass two

pub returns-in-Err-clause-kept : goal.returns-in-Err-clause-kept
returns-in-Err-clause-kept c =
    let behind = is-behind c.args.line c.exchange.new.patch c.requires.kept c.step_behind.ensures.still c.patch_for.ensures.still c.make_room_for_one.ensures.still c.make_room_for_one.ensures.kept
    c.in_ok-trace.ensures.trace (lent-patch _ _ _ _ c.deref_mut-patch.ensures.value c.in_ok-kept.ensures.patch) c.exchange.ensures.now c.exchange.ensures.back in
    let still = c.pass_two_with.ensures.still in
    let all = c.pass_two_with.ensures.kept in
    record {
      lines = record { first = all.first; did = all.did; made = all.made; chunks = all.chunks; divided = all.divided; read = all.read };
      finals = c.exchange-in-Err.ensures.now ∙ ap (λ finals. patched c.exchange.new.patch (gathered-value.it finals)) still.finals ∙ behind.before
          ∙ ap (λ ls. finals_of (traces_of ls)) (sym (still.still.lines ∙ behind.source));
    }

pub returns-in-Err-clause-steps : goal.returns-in-Err-clause-steps
returns-in-Err-clause-steps c =
    let lines = c.args.self.now.lines.items in
    let line = c.args.line in
    let behind = is-behind c.args.line c.exchange.new.patch c.requires.kept c.step_behind.ensures.still c.patch_for.ensures.still c.make_room_for_one.ensures.still c.make_room_for_one.ensures.kept
    c.in_ok-trace.ensures.trace (lent-patch _ _ _ _ c.deref_mut-patch.ensures.value c.in_ok-kept.ensures.patch) c.exchange.ensures.now c.exchange.ensures.back in
    both-refused _ _ _ (ones-behind lines line) (twos-are behind) c.step_behind.ensures.step c.pass_two_with.ensures.work.steps

pub returns-in-Err-clause-looked : goal.returns-in-Err-clause-looked
returns-in-Err-clause-looked c =
    let lines = c.args.self.now.lines.items in
    let behind = is-behind c.args.line c.exchange.new.patch c.requires.kept c.step_behind.ensures.still c.patch_for.ensures.still c.make_room_for_one.ensures.still c.make_room_for_one.ensures.kept
    c.in_ok-trace.ensures.trace (lent-patch _ _ _ _ c.deref_mut-patch.ensures.value c.in_ok-kept.ensures.patch) c.exchange.ensures.now c.exchange.ensures.back in
    let olds = lengths_of c.args.self.now.chunks.items in
    let lengths = c.make_room_for_one.ensures.still.lengths ∙ c.patch_for.ensures.still.lengths ∙ c.step_behind.ensures.still.lengths in
    let division : IsDivision (length lines) olds = record { chunks = c.requires.kept.lines.divided; total = lines-total c.requires.kept.lines } in
    let again = c.an_insertion_divides_again.ensures (length lines) (length lines) olds division in
    let le = looks-are behind olds lengths division again.0.chunks in
    looks-since _ _ le c.step_behind.ensures.step c.pass_two_with.ensures.work.looked
