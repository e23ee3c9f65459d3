use Rattle.std.proofs.Common.{arith, rules, ◌≡◌, ◌≤◌, ℕ, List, Ok, length, sym, ap, subst, ◌∙◌}
use Rattle.std.specs.Prelude.{All, slice_get, vec_len}
use Rattle.cps_final.specs.Code.Kept.{changes_in}
use Rattle.cps_final.specs.Finals.{final_value, finals_of}
use Rattle.cps_final.specs.Code.FinalsPatch.{patched}
use Rattle.cps_final.specs.contracts.finals.FinalsGathered.TheImpl.{gathered-value}
use Rattle.cps_edit.specs.Disturbed.{finals_in}
use Rattle.cps_edit.specs.Passes.{traces_of}
use Rattle.cps_edit.specs.Splice.{spliced}
use Rattle.cps_chunk.specs.Code.Chunk.{lengths_of}
use Rattle.cps_chunk.specs.Sparse.{renewed}
use Rattle.cps_live.specs.Code.Editing.{AreEnds, AreNewOutcomes, LooksOfSecond, StepsOfSecond, put_between, splice_of}
use Rattle.cps_live.specs.Code.Redone.{places_behind}
use Rattle.cps_live.specs.declared.news.News.{News}
use Rattle.cps_live.specs.declared.redone.Redone.{Redone}
use Rattle.cps_final.specs.Outcome.{Outcome}
use Rattle.std.specs.declared.alloc.AllocError.{AllocError}
use Rattle.cps_live.specs.Code.Storing.{IsStorageOf}
use Rattle.cps_live.proofs.EditLemmas.{looked-both, looked-first, room-still}
use Rattle.cps_live.proofs.KeptLemmas.{entered-outcomes, outcomes-long}
use Rattle.cps_live.proofs.PatchedLemmas.{are-ends, finals-patched, may-stand}
use Rattle.cps_live.proofs.RedoneLemmas.{left}
use Rattle.cps_live.proofs.kept_source.KeptSource.splice.Goals as goal

pub returns-in_err-pass-clause-looked : goal.returns-in_err-pass-clause-looked
returns-in_err-pass-clause-looked c = looked-first c.args.self.now.lines.items (lengths_of c.args.self.now.chunks.items) c.args.cut c.requires.cut _ _ c.pass_one.ensures.looked

-- ---- where blocks and literals stand

pub returns-in_err-storage-clause-looked : goal.returns-in_err-storage-clause-looked
returns-in_err-storage-clause-looked c = looked-first c.args.self.now.lines.items (lengths_of c.args.self.now.chunks.items) c.args.cut c.requires.cut _ _ c.pass_one.ensures.looked

pub returns-in_err-chunks-clause-looked : goal.returns-in_err-chunks-clause-looked
returns-in_err-chunks-clause-looked c = looked-first c.args.self.now.lines.items (lengths_of c.args.self.now.chunks.items) c.args.cut c.requires.cut _ _ c.pass_one.ensures.looked

-- ---- what stands behind the last line

pub exchange-requires-clause-stands : goal.exchange-requires-clause-stands
exchange-requires-clause-stands c =
    may-stand (changes_in c.in_ok-pass.pass.changes) c.args.self.now.lines.items (spliced c.args.self.now.lines.items (splice_of c.args.cut)) c.in_ok-pass.ensures.pass.state

pub redo-requires-clause-ends : goal.redo-requires-clause-ends
redo-requires-clause-ends c =
    let lines = c.args.self.now.lines.items in
    let cut = c.args.cut in
    let pass = c.in_ok-pass.ensures.pass in
    let one = c.pass_one.ensures.still in
    let mid = c.storage_of.ensures.still.still in
    let two = c.make_room.ensures.still in
    let kept : gathered-value.it c.make_room.new.self.finals ≡ finals_of (traces_of lines) =
    c.make_room.ensures.kept.finals ∙ ap (λ ls. finals_of (traces_of ls)) (two.lines ∙ mid.lines ∙ one.lines) in
    let stored = subst (λ (ls : List (List ℕ)). IsStorageOf ls (splice_of cut) c.in_ok-storage.storage) one.lines c.in_ok-storage.ensures.storage in
    let there : gathered-value.it c.exchange.new.self ≡ finals_of (traces_of (spliced lines (splice_of cut))) =
    c.exchange.ensures.now ∙ ap (patched (record { changes = c.in_ok-pass.pass.changes; storage = c.in_ok-storage.storage })) kept
    ∙ finals-patched lines (spliced lines (splice_of cut)) c.in_ok-storage.storage (changes_in c.in_ok-pass.pass.changes) stored pass.state in
    subst (λ (ls : List (List ℕ)). AreEnds ls (splice_of cut) (final_value (patched c.exchange.new.patch (gathered-value.it c.exchange.new.self))) (final_value (gathered-value.it c.exchange.new.self))) (sym (two.lines ∙ mid.lines ∙ one.lines))
    (are-ends lines (splice_of cut) (patched c.exchange.new.patch (gathered-value.it c.exchange.new.self)) (gathered-value.it c.exchange.new.self) (gathered-value.it c.make_room.new.self.finals)
    c.exchange.ensures.back kept there)

-- ---- it is put in its place

pub commit-requires-clause-outcomes : goal.commit-requires-clause-outcomes
commit-requires-clause-outcomes c =
    subst (λ (ls : List (List ℕ)). AreNewOutcomes (finals_in ls) (finals_in (spliced ls (splice_of c.args.cut))) ls (splice_of c.args.cut) c.in-Ok.made.0)
    (sym c.redo.ensures.still.still.lines) c.in-Ok.ensures.made

pub commit-requires-clause-room : goal.commit-requires-clause-room
commit-requires-clause-room c =
    let room = c.in_ok-chunks.ensures.room in
    room-still _ _ c.args.cut c.in_ok-chunks.chunks c.redo.ensures.still.still c.redo.ensures.still.room
    (record { lines = room.lines; traces = room.traces; outcomes = room.outcomes; chunks = room.chunks; empty = room.empty; list = room.list })

pub returns-in-Ok-clause-kept : goal.returns-in-Ok-clause-kept
returns-in-Ok-clause-kept c =
    let lines = c.args.self.now.lines.items in
    let cut = c.args.cut in
    let pass = c.in_ok-pass.ensures.pass in
    let one = c.pass_one.ensures.still in
    let mid = c.storage_of.ensures.still.still in
    let two = c.make_room.ensures.still in
    let kept : gathered-value.it c.make_room.new.self.finals ≡ finals_of (traces_of lines) =
    c.make_room.ensures.kept.finals ∙ ap (λ ls. finals_of (traces_of ls)) (two.lines ∙ mid.lines ∙ one.lines) in
    let stored = subst (λ (ls : List (List ℕ)). IsStorageOf ls (splice_of cut) c.in_ok-storage.storage) one.lines c.in_ok-storage.ensures.storage in
    let there : gathered-value.it c.exchange.new.self ≡ finals_of (traces_of (spliced lines (splice_of cut))) =
    c.exchange.ensures.now ∙ ap (patched (record { changes = c.in_ok-pass.pass.changes; storage = c.in_ok-storage.storage })) kept
    ∙ finals-patched lines (spliced lines (splice_of cut)) c.in_ok-storage.storage (changes_in c.in_ok-pass.pass.changes) stored pass.state in
    let three = c.redo.ensures.still in
    let behind = c.commit.ensures.edited.lines ∙ ap (λ ls. spliced ls (splice_of cut)) (three.still.lines ∙ two.lines ∙ mid.lines ∙ one.lines) in
    record {
      lines = c.commit.ensures.kept;
      finals = ap (λ finals. gathered-value.it finals) (c.commit.ensures.finals ∙ three.finals) ∙ there ∙ ap (λ ls. finals_of (traces_of ls)) (sym behind);
    }

pub returns-in-Ok-clause-redone : goal.returns-in-Ok-clause-redone
returns-in-Ok-clause-redone c =
    let h = c.requires in
    let cut = c.args.cut in
    let one = c.pass_one.ensures.still in
    let mid = c.storage_of.ensures.still.still in
    let two = c.make_room.ensures.still in
    let olds : List Outcome = c.args.self.now.outcomes.items in
    let made : News Outcome = c.in-Ok.made.0 in
    let new = subst (λ (ls : List (List ℕ)). AreNewOutcomes (finals_in ls) (finals_in (spliced ls (splice_of cut))) ls (splice_of cut) made) (two.lines ∙ mid.lines ∙ one.lines) c.in-Ok.ensures.made in
    let long : length made.entered.items ≡ length cut.lines.items = entered-outcomes h.kept.lines h.cut new in
    let count : vec_len made.entered ≡ length cut.lines.items = omega (arith, made.entered.ok.0, long) in
    let places = c.in-Ok.ensures.places ∙ ap (λ n. places_behind cut.keep cut.from n made.renewed.items) count in
    let put = c.commit.ensures.outcomes
    ∙ ap (λ (os : List Outcome). put_between cut.keep cut.from made.entered.items (renewed 0 made.renewed.items os)) (c.redo.ensures.still.still.outcomes ∙ two.outcomes ∙ mid.outcomes ∙ one.outcomes) in
    let within : cut.from ≤ length olds = omega (arith, h.cut.recuts.within, outcomes-long h.kept.lines h.cut) in
    λ at is none.
    ap (λ (os : List Outcome). slice_get os at) put
    ∙ left cut.keep cut.from (length cut.lines.items) olds made.entered.items made.renewed.items at h.cut.recuts.order within long is
    (subst (λ (ps : List ℕ). All (λ place. place ≡ at → ⊥) ps) places none)

pub returns-in-Ok-clause-steps : goal.returns-in-Ok-clause-steps
returns-in-Ok-clause-steps c =
    let lines = c.args.self.now.lines.items in
    let one = c.pass_one.ensures.still in
    let mid = c.storage_of.ensures.still.still in
    let two = c.make_room.ensures.still in
    let s = c.in_ok-pass.ensures.steps in
    let t = subst (λ (ls : List (List ℕ)). StepsOfSecond c.redo.result ls c.args.cut c.pass_one.new.work c.redo.new.work) (two.lines ∙ mid.lines ∙ one.lines) c.redo.ensures.work.steps in
    let exact = (subst (λ (ls : List (List ℕ)). StepsOfSecond {T = News Outcome × Redone} {E = AllocError} (Ok c.in-Ok.made) ls c.args.cut c.pass_one.new.work c.redo.new.work) (two.lines ∙ mid.lines ∙ one.lines) c.in-Ok.ensures.work.steps).twos in
    record {
      ones = omega (arith, s.ones, t.ones_least, t.ones_most);
      twos = omega (arith, s.twos, exact);
      ones_least = omega (arith, s.ones_least, t.ones_least);
      twos_least = omega (arith, s.twos_least, t.twos_least);
      ones_most = omega (arith, s.ones_most, t.ones_most);
      twos_most = omega (arith, s.twos_most, t.twos_most);
    }

pub returns-in-Ok-clause-looked : goal.returns-in-Ok-clause-looked
returns-in-Ok-clause-looked c =
    let one = c.pass_one.ensures.still in
    let mid = c.storage_of.ensures.still.still in
    let two = c.make_room.ensures.still in
    let t = subst (λ (ls : List (List ℕ)). LooksOfSecond ls (lengths_of c.make_room.new.self.chunks.items) c.args.cut c.pass_one.new.work c.redo.new.work) (two.lines ∙ mid.lines ∙ one.lines) c.redo.ensures.work.looked in
    let u = subst (λ (ns : List ℕ). LooksOfSecond c.args.self.now.lines.items ns c.args.cut c.pass_one.new.work c.redo.new.work) (two.lengths ∙ mid.lengths ∙ one.lengths) t in
    looked-both c.args.self.now.lines.items (lengths_of c.args.self.now.chunks.items) c.args.cut c.requires.cut _ _ _ c.pass_one.ensures.looked u

-- ---- there was no memory for pass two

pub returns-in-Err-clause-kept : goal.returns-in-Err-clause-kept
returns-in-Err-clause-kept c =
    let lines = c.args.self.now.lines.items in
    let cut = c.args.cut in
    let pass = c.in_ok-pass.ensures.pass in
    let one = c.pass_one.ensures.still in
    let mid = c.storage_of.ensures.still.still in
    let two = c.make_room.ensures.still in
    let kept : gathered-value.it c.make_room.new.self.finals ≡ finals_of (traces_of lines) =
    c.make_room.ensures.kept.finals ∙ ap (λ ls. finals_of (traces_of ls)) (two.lines ∙ mid.lines ∙ one.lines) in
    let stored = subst (λ (ls : List (List ℕ)). IsStorageOf ls (splice_of cut) c.in_ok-storage.storage) one.lines c.in_ok-storage.ensures.storage in
    let there : gathered-value.it c.exchange.new.self ≡ finals_of (traces_of (spliced lines (splice_of cut))) =
    c.exchange.ensures.now ∙ ap (patched (record { changes = c.in_ok-pass.pass.changes; storage = c.in_ok-storage.storage })) kept
    ∙ finals-patched lines (spliced lines (splice_of cut)) c.in_ok-storage.storage (changes_in c.in_ok-pass.pass.changes) stored pass.state in
    let all = c.redo.ensures.kept in
    record {
      lines = record { first = all.first; did = all.did; made = all.made; chunks = all.chunks; divided = all.divided; read = all.read };
      finals = c.exchange-in-Err.ensures.now ∙ ap (λ finals. patched c.exchange.new.patch (gathered-value.it finals)) c.redo.ensures.still.finals ∙ c.exchange.ensures.back ∙ kept
          ∙ ap (λ ls. finals_of (traces_of ls)) (sym (c.redo.ensures.still.still.lines ∙ two.lines ∙ mid.lines ∙ one.lines));
    }

pub returns-in-Err-clause-steps : goal.returns-in-Err-clause-steps
returns-in-Err-clause-steps c =
    let lines = c.args.self.now.lines.items in
    let one = c.pass_one.ensures.still in
    let mid = c.storage_of.ensures.still.still in
    let two = c.make_room.ensures.still in
    let s = c.in_ok-pass.ensures.steps in
    let t = subst (λ (ls : List (List ℕ)). StepsOfSecond c.redo.result ls c.args.cut c.pass_one.new.work c.redo.new.work) (two.lines ∙ mid.lines ∙ one.lines) c.redo.ensures.work.steps in
    record {
      ones = search rules;
      twos = search rules;
      ones_least = omega (arith, s.ones_least, t.ones_least);
      twos_least = omega (arith, s.twos_least, t.twos_least);
      ones_most = omega (arith, s.ones_most, t.ones_most);
      twos_most = omega (arith, s.twos_most, t.twos_most);
    }

pub returns-in-Err-clause-looked : goal.returns-in-Err-clause-looked
returns-in-Err-clause-looked c =
    let one = c.pass_one.ensures.still in
    let mid = c.storage_of.ensures.still.still in
    let two = c.make_room.ensures.still in
    let t = subst (λ (ls : List (List ℕ)). LooksOfSecond ls (lengths_of c.make_room.new.self.chunks.items) c.args.cut c.pass_one.new.work c.redo.new.work) (two.lines ∙ mid.lines ∙ one.lines) c.redo.ensures.work.looked in
    let u = subst (λ (ns : List ℕ). LooksOfSecond c.args.self.now.lines.items ns c.args.cut c.pass_one.new.work c.redo.new.work) (two.lengths ∙ mid.lengths ∙ one.lengths) t in
    looked-both c.args.self.now.lines.items (lengths_of c.args.self.now.chunks.items) c.args.cut c.requires.cut _ _ _ c.pass_one.ensures.looked u
