use Rattle.std.proofs.Common.{arith, ◌≡◌, ℕ, List, length, sym, ap, subst, ◌∙◌}
use Rattle.std.specs.Prelude.{sum}
use Rattle.cps_final.specs.Code.Kept.{changes_in}
use Rattle.cps_edit.specs.Exchange.{exchanged}
use Rattle.cps_edit.specs.Numbers.{exchanged_numbers}
use Rattle.cps_final.specs.Finals.{Finals, finals_of}
use Rattle.cps_final.specs.Code.FinalsPatch.{patched}
use Rattle.cps_final.specs.contracts.finals.FinalsGathered.TheImpl.{gathered-value}
use Rattle.cps_chunk.specs.Exchange.{exchanged_at}
use Rattle.cps_chunk.specs.Code.Pieces.{ArePieces}
use Rattle.cps_edit.specs.Passes.{traces_of}
use Rattle.cps_chunk.specs.Code.Chunk.{lengths_of}
use Rattle.cps_chunk.specs.Code.Moved.{replayed_moved}
use Rattle.cps_live.specs.Code.Exchanged.{IsMovedStorage, redone_moved}
use Rattle.cps_live.proofs.ExchangeLemmas.{lines-within, looks-made, made-moved, moved-looked_both, moved-looked_first, news-places, steps-both, steps-refused, still-next, twos-made}
use Rattle.cps_live.proofs.PatchedLemmas.{finals-patched, may-stand}
use Rattle.cps_live.proofs.kept_source.KeptSource.exchange.Goals as goal

pub returns-in_err-pass-clause-looked : goal.returns-in_err-pass-clause-looked
returns-in_err-pass-clause-looked c =
    moved-looked_first c.args.self.now c.args.exchange c.requires.kept.lines c.requires.runs _ _ c.pass_one_moved.ensures.passed.looked

-- ---- where blocks and literals stand

pub storage_of_move-requires-clause-runs : goal.storage_of_move-requires-clause-runs
storage_of_move-requires-clause-runs c =
    let lines = c.pass_one_moved.ensures.still.lines in
    let within = lines-within c.args.self.now c.args.exchange c.requires.runs in
    record {
      first = c.requires.runs.first;
      second = c.requires.runs.second;
      within = omega (arith, ap length lines, within.all, c.pass_one_moved.new.self.lines.ok.0);
    }

pub storage_of_move-requires-clause-traces : goal.storage_of_move-requires-clause-traces
storage_of_move-requires-clause-traces c =
    let lines = c.pass_one_moved.ensures.still.lines in
    c.deref.ensures.value ∙ ap (λ v. v.items) c.into_renewed-traces.ensures ∙ c.in_ok-pass.ensures.pass.renewed ∙ ap (λ ls. replayed_moved ls c.args.exchange) (sym lines)

pub returns-in_err-storage-clause-looked : goal.returns-in_err-storage-clause-looked
returns-in_err-storage-clause-looked c =
    moved-looked_first c.args.self.now c.args.exchange c.requires.kept.lines c.requires.runs _ _ c.pass_one_moved.ensures.passed.looked

pub returns-in_err-make_room_to_patch-clause-looked : goal.returns-in_err-make_room_to_patch-clause-looked
returns-in_err-make_room_to_patch-clause-looked c =
    moved-looked_first c.args.self.now c.args.exchange c.requires.kept.lines c.requires.runs _ _ c.pass_one_moved.ensures.passed.looked

-- ---- what stands behind the last line

pub exchange-requires-clause-stands : goal.exchange-requires-clause-stands
exchange-requires-clause-stands c =
    may-stand (changes_in c.in_ok-pass.pass.changes) c.args.self.now.lines.items (exchanged c.args.exchange c.args.self.now.lines.items) c.in_ok-pass.ensures.pass.state

pub pass_again-requires-clause-news : goal.pass_again-requires-clause-news
pass_again-requires-clause-news c =
    let still = c.make_room_to_patch.ensures.still.lines ∙ c.storage_of_move.ensures.still.still.lines ∙ c.pass_one_moved.ensures.still.lines in
    let here = c.deref-2.ensures.value ∙ ap (λ v. v.items) c.into_renewed-traces.ensures ∙ c.in_ok-pass.ensures.pass.renewed in
    let within = lines-within c.args.self.now c.args.exchange c.requires.runs in
    news-places c.args.self.now.lines.items c.args.exchange within c.deref-2.result.now here _ (omega (arith, ap length still, c.make_room_to_patch.new.self.lines.ok.0))

-- ---- it is put in its place

pub commit_moved-requires-clause-parts : goal.commit_moved-requires-clause-parts
commit_moved-requires-clause-parts c =
    let lines = c.args.self.now.lines.items in
    let e = c.args.exchange in
    let within = lines-within c.args.self.now e c.requires.runs in
    let one = still-next c.pass_one_moved.ensures.still c.storage_of_move.ensures.still.still in
    let pass = c.in_ok-pass.ensures.pass in
    let two = c.make_room_to_patch.ensures.still in
    let kept : gathered-value.it c.make_room_to_patch.new.self.finals ≡ finals_of (traces_of lines) =
    c.make_room_to_patch.ensures.kept.finals ∙ ap (λ ls. finals_of (traces_of ls)) (two.lines ∙ one.lines) in
    let stored = subst (λ ls. IsMovedStorage ls e c.in_ok-storage.storage) c.pass_one_moved.ensures.still.lines c.in_ok-storage.ensures.storage in
    let there : gathered-value.it c.exchange.new.self ≡ finals_of (traces_of (exchanged e lines)) =
    c.exchange.ensures.now ∙ ap (patched (record { changes = c.in_ok-pass.pass.changes; storage = c.in_ok-storage.storage })) kept
    ∙ finals-patched lines (exchanged e lines) c.in_ok-storage.storage (changes_in c.in_ok-pass.pass.changes) stored pass.state in
    let here : c.deref-2.result.now ≡ replayed_moved lines e = c.deref-2.ensures.value ∙ ap (λ v. v.items) c.into_renewed-traces.ensures ∙ pass.renewed in
    let was : Finals = patched c.exchange.new.patch (gathered-value.it c.exchange.new.self) in
    let now : Finals = gathered-value.it c.exchange.new.self in
    let before : was ≡ finals_of (traces_of lines) = c.exchange.ensures.back ∙ kept in
    let traces : c.make_room_to_patch.new.self.traces.items ≡ traces_of lines = two.traces ∙ one.traces ∙ c.requires.kept.lines.did in
    let three = c.pass_again.ensures.still.still in
    let still = three.lines ∙ two.lines ∙ one.lines in
    let lengths : lengths_of c.pass_again.new.self.chunks.items ≡ lengths_of c.args.self.now.chunks.items = three.lengths ∙ two.lengths ∙ one.lengths in
    let recut = c.in_ok-pieces.ensures in
    record {
      traces = ap (λ v. v.items) c.into_renewed-traces.ensures ∙ pass.renewed ∙ ap (λ ls. replayed_moved ls e) (sym still);
      outcomes = c.in-Ok.ensures.made ∙ made-moved lines e within was now c.make_room_to_patch.new.self.traces.items c.deref-2.result.now before there traces here ∙ ap (λ ls. redone_moved ls e) (sym still);
      pieces = record {
        lengths = recut.lengths ∙ ap (exchanged_at e) (sym lengths);
        named = subst (λ (ns : List ℕ). ArePieces ns c.in_ok-pieces.pieces.items (exchanged_numbers (sum ns) e)) (sym lengths) recut.named;
      };
      empty = c.in_ok-chunks.ensures.len;
      room = omega (arith, c.in_ok-chunks.ensures.capacity, c.len.ensures, c.in_ok-pieces.pieces.ok.0);
    }

pub returns-in-Ok-clause-kept : goal.returns-in-Ok-clause-kept
returns-in-Ok-clause-kept c =
    let lines = c.args.self.now.lines.items in
    let e = c.args.exchange in
    let within = lines-within c.args.self.now e c.requires.runs in
    let one = still-next c.pass_one_moved.ensures.still c.storage_of_move.ensures.still.still in
    let pass = c.in_ok-pass.ensures.pass in
    let two = c.make_room_to_patch.ensures.still in
    let kept : gathered-value.it c.make_room_to_patch.new.self.finals ≡ finals_of (traces_of lines) =
    c.make_room_to_patch.ensures.kept.finals ∙ ap (λ ls. finals_of (traces_of ls)) (two.lines ∙ one.lines) in
    let stored = subst (λ ls. IsMovedStorage ls e c.in_ok-storage.storage) c.pass_one_moved.ensures.still.lines c.in_ok-storage.ensures.storage in
    let there : gathered-value.it c.exchange.new.self ≡ finals_of (traces_of (exchanged e lines)) =
    c.exchange.ensures.now ∙ ap (patched (record { changes = c.in_ok-pass.pass.changes; storage = c.in_ok-storage.storage })) kept
    ∙ finals-patched lines (exchanged e lines) c.in_ok-storage.storage (changes_in c.in_ok-pass.pass.changes) stored pass.state in
    let three = c.pass_again.ensures.still in
    let behind = c.commit_moved.ensures.moved.lines ∙ ap (exchanged e) (three.still.lines ∙ two.lines ∙ one.lines) in
    record {
      lines = c.commit_moved.ensures.kept;
      finals = ap (λ finals. gathered-value.it finals) (c.commit_moved.ensures.finals ∙ three.finals) ∙ there ∙ ap (λ ls. finals_of (traces_of ls)) (sym behind);
    }

pub returns-in-Ok-clause-steps : goal.returns-in-Ok-clause-steps
returns-in-Ok-clause-steps c =
    let lines = c.args.self.now.lines.items in
    let e = c.args.exchange in
    let within = lines-within c.args.self.now e c.requires.runs in
    let one = still-next c.pass_one_moved.ensures.still c.storage_of_move.ensures.still.still in
    let pass = c.in_ok-pass.ensures.pass in
    let two = c.make_room_to_patch.ensures.still in
    let kept : gathered-value.it c.make_room_to_patch.new.self.finals ≡ finals_of (traces_of lines) =
    c.make_room_to_patch.ensures.kept.finals ∙ ap (λ ls. finals_of (traces_of ls)) (two.lines ∙ one.lines) in
    let stored = subst (λ ls. IsMovedStorage ls e c.in_ok-storage.storage) c.pass_one_moved.ensures.still.lines c.in_ok-storage.ensures.storage in
    let there : gathered-value.it c.exchange.new.self ≡ finals_of (traces_of (exchanged e lines)) =
    c.exchange.ensures.now ∙ ap (patched (record { changes = c.in_ok-pass.pass.changes; storage = c.in_ok-storage.storage })) kept
    ∙ finals-patched lines (exchanged e lines) c.in_ok-storage.storage (changes_in c.in_ok-pass.pass.changes) stored pass.state in
    let here : c.deref-2.result.now ≡ replayed_moved lines e = c.deref-2.ensures.value ∙ ap (λ v. v.items) c.into_renewed-traces.ensures ∙ pass.renewed in
    let was : Finals = patched c.exchange.new.patch (gathered-value.it c.exchange.new.self) in
    let now : Finals = gathered-value.it c.exchange.new.self in
    let before : was ≡ finals_of (traces_of lines) = c.exchange.ensures.back ∙ kept in
    let traces : c.make_room_to_patch.new.self.traces.items ≡ traces_of lines = two.traces ∙ one.traces ∙ c.requires.kept.lines.did in
    steps-both c.args.work.now c.pass_one_moved.new.work c.pass_again.new.work _ _ _ (twos-made lines e within was now c.make_room_to_patch.new.self.traces.items c.deref-2.result.now before there traces here) c.in_ok-pass.ensures.passed.steps c.in-Ok.ensures.steps

pub returns-in-Ok-clause-looked : goal.returns-in-Ok-clause-looked
returns-in-Ok-clause-looked c =
    let lines = c.args.self.now.lines.items in
    let e = c.args.exchange in
    let within = lines-within c.args.self.now e c.requires.runs in
    let one = still-next c.pass_one_moved.ensures.still c.storage_of_move.ensures.still.still in
    let pass = c.in_ok-pass.ensures.pass in
    let two = c.make_room_to_patch.ensures.still in
    let kept : gathered-value.it c.make_room_to_patch.new.self.finals ≡ finals_of (traces_of lines) =
    c.make_room_to_patch.ensures.kept.finals ∙ ap (λ ls. finals_of (traces_of ls)) (two.lines ∙ one.lines) in
    let stored = subst (λ ls. IsMovedStorage ls e c.in_ok-storage.storage) c.pass_one_moved.ensures.still.lines c.in_ok-storage.ensures.storage in
    let there : gathered-value.it c.exchange.new.self ≡ finals_of (traces_of (exchanged e lines)) =
    c.exchange.ensures.now ∙ ap (patched (record { changes = c.in_ok-pass.pass.changes; storage = c.in_ok-storage.storage })) kept
    ∙ finals-patched lines (exchanged e lines) c.in_ok-storage.storage (changes_in c.in_ok-pass.pass.changes) stored pass.state in
    let here : c.deref-2.result.now ≡ replayed_moved lines e = c.deref-2.ensures.value ∙ ap (λ v. v.items) c.into_renewed-traces.ensures ∙ pass.renewed in
    let was : Finals = patched c.exchange.new.patch (gathered-value.it c.exchange.new.self) in
    let now : Finals = gathered-value.it c.exchange.new.self in
    let before : was ≡ finals_of (traces_of lines) = c.exchange.ensures.back ∙ kept in
    let traces : c.make_room_to_patch.new.self.traces.items ≡ traces_of lines = two.traces ∙ one.traces ∙ c.requires.kept.lines.did in
    let lengths = two.lengths ∙ one.lengths in
    let looks = looks-made lines e within was now c.make_room_to_patch.new.self.traces.items c.deref-2.result.now before there traces here _ _ lengths in
    moved-looked_both c.args.self.now e c.requires.kept.lines c.requires.runs _ _ _ _ looks c.pass_one_moved.ensures.passed.looked c.pass_again.ensures.looked

-- ---- there was no memory for pass two

pub returns-in-Err-clause-kept : goal.returns-in-Err-clause-kept
returns-in-Err-clause-kept c =
    let lines = c.args.self.now.lines.items in
    let one = still-next c.pass_one_moved.ensures.still c.storage_of_move.ensures.still.still in
    let two = c.make_room_to_patch.ensures.still in
    let kept : gathered-value.it c.make_room_to_patch.new.self.finals ≡ finals_of (traces_of lines) =
    c.make_room_to_patch.ensures.kept.finals ∙ ap (λ ls. finals_of (traces_of ls)) (two.lines ∙ one.lines) in
    let all = c.pass_again.ensures.kept in
    let three = c.pass_again.ensures.still in
    record {
      lines = record { first = all.first; did = all.did; made = all.made; chunks = all.chunks; divided = all.divided; read = all.read };
      finals = c.exchange-in-Err.ensures.now ∙ ap (λ finals. patched c.exchange.new.patch (gathered-value.it finals)) three.finals ∙ c.exchange.ensures.back ∙ kept
          ∙ ap (λ ls. finals_of (traces_of ls)) (sym (three.still.lines ∙ two.lines ∙ one.lines));
    }

pub returns-in-Err-clause-steps : goal.returns-in-Err-clause-steps
returns-in-Err-clause-steps c =
    let lines = c.args.self.now.lines.items in
    let e = c.args.exchange in
    let within = lines-within c.args.self.now e c.requires.runs in
    let one = still-next c.pass_one_moved.ensures.still c.storage_of_move.ensures.still.still in
    let pass = c.in_ok-pass.ensures.pass in
    let two = c.make_room_to_patch.ensures.still in
    let kept : gathered-value.it c.make_room_to_patch.new.self.finals ≡ finals_of (traces_of lines) =
    c.make_room_to_patch.ensures.kept.finals ∙ ap (λ ls. finals_of (traces_of ls)) (two.lines ∙ one.lines) in
    let stored = subst (λ ls. IsMovedStorage ls e c.in_ok-storage.storage) c.pass_one_moved.ensures.still.lines c.in_ok-storage.ensures.storage in
    let there : gathered-value.it c.exchange.new.self ≡ finals_of (traces_of (exchanged e lines)) =
    c.exchange.ensures.now ∙ ap (patched (record { changes = c.in_ok-pass.pass.changes; storage = c.in_ok-storage.storage })) kept
    ∙ finals-patched lines (exchanged e lines) c.in_ok-storage.storage (changes_in c.in_ok-pass.pass.changes) stored pass.state in
    let here : c.deref-2.result.now ≡ replayed_moved lines e = c.deref-2.ensures.value ∙ ap (λ v. v.items) c.into_renewed-traces.ensures ∙ pass.renewed in
    let was : Finals = patched c.exchange.new.patch (gathered-value.it c.exchange.new.self) in
    let now : Finals = gathered-value.it c.exchange.new.self in
    let before : was ≡ finals_of (traces_of lines) = c.exchange.ensures.back ∙ kept in
    let traces : c.make_room_to_patch.new.self.traces.items ≡ traces_of lines = two.traces ∙ one.traces ∙ c.requires.kept.lines.did in
    steps-refused c.args.work.now c.pass_one_moved.new.work c.pass_again.new.work _ _ _ (twos-made lines e within was now c.make_room_to_patch.new.self.traces.items c.deref-2.result.now before there traces here) c.in_ok-pass.ensures.passed.steps c.pass_again.ensures.steps

pub returns-in-Err-clause-looked : goal.returns-in-Err-clause-looked
returns-in-Err-clause-looked c =
    let lines = c.args.self.now.lines.items in
    let e = c.args.exchange in
    let within = lines-within c.args.self.now e c.requires.runs in
    let one = still-next c.pass_one_moved.ensures.still c.storage_of_move.ensures.still.still in
    let pass = c.in_ok-pass.ensures.pass in
    let two = c.make_room_to_patch.ensures.still in
    let kept : gathered-value.it c.make_room_to_patch.new.self.finals ≡ finals_of (traces_of lines) =
    c.make_room_to_patch.ensures.kept.finals ∙ ap (λ ls. finals_of (traces_of ls)) (two.lines ∙ one.lines) in
    let stored = subst (λ ls. IsMovedStorage ls e c.in_ok-storage.storage) c.pass_one_moved.ensures.still.lines c.in_ok-storage.ensures.storage in
    let there : gathered-value.it c.exchange.new.self ≡ finals_of (traces_of (exchanged e lines)) =
    c.exchange.ensures.now ∙ ap (patched (record { changes = c.in_ok-pass.pass.changes; storage = c.in_ok-storage.storage })) kept
    ∙ finals-patched lines (exchanged e lines) c.in_ok-storage.storage (changes_in c.in_ok-pass.pass.changes) stored pass.state in
    let here : c.deref-2.result.now ≡ replayed_moved lines e = c.deref-2.ensures.value ∙ ap (λ v. v.items) c.into_renewed-traces.ensures ∙ pass.renewed in
    let was : Finals = patched c.exchange.new.patch (gathered-value.it c.exchange.new.self) in
    let now : Finals = gathered-value.it c.exchange.new.self in
    let before : was ≡ finals_of (traces_of lines) = c.exchange.ensures.back ∙ kept in
    let traces : c.make_room_to_patch.new.self.traces.items ≡ traces_of lines = two.traces ∙ one.traces ∙ c.requires.kept.lines.did in
    let lengths = two.lengths ∙ one.lengths in
    let looks = looks-made lines e within was now c.make_room_to_patch.new.self.traces.items c.deref-2.result.now before there traces here _ _ lengths in
    moved-looked_both c.args.self.now e c.requires.kept.lines c.requires.runs _ _ _ _ looks c.pass_one_moved.ensures.passed.looked c.pass_again.ensures.looked
