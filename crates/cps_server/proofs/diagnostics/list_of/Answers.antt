use Rattle.std.proofs.Common.{◌≡◌, arith, ℕ, not, length, List, ◌++◌, drop, map, take, ap, subst, ◌∙◌}
use Rattle.std.specs.Prelude.{codes, nat_lt, ◌==◌}
use Rattle.std.proofs.lemmas.Bool.Decides.{nat_tests}
use Rattle.std.proofs.lemmas.List.{drop_min, take_min}
use Rattle.cps_rpc.specs.Lines.{source_lines}
use Rattle.cps_server.specs.Marks.{place_of}
use Rattle.cps_server.specs.Diagnostics.{Listener, most_told}
use Rattle.cps_server.specs.Code.Writing.{AddsAllBeside, AddsMarks, counted_text}
use Rattle.cps_server.proofs.WritingLemmas.{beside-both, list-made}
use Rattle.cps_server.proofs.diagnostics.list_of.Goals as goal

some-of : (n : ℕ) → not (n == 0) ≡ nat_lt 0 n
some-of n = grind (arith, nat_tests)

pub returns : goal.returns
returns c =
    let marks = c.in_ok-marks.marks.first.items in
    let to : Listener = record { encoding = c.args.encoding; client = c.args.client; uri = c.args.uri.now } in
    let all = c.as_slice-all.result.now in
    let is_all : all ≡ marks = c.as_slice-all.ensures.value in
    let front = c.split_at.ensures.front ∙ ap (λ n. take n all) c.min.ensures ∙ take_min most_told all ∙ ap (take most_told) is_all in
    let back = c.split_at.ensures.back ∙ ap (λ n. drop n all) c.min.ensures ∙ drop_min most_told all ∙ ap (drop most_told) is_all in
    let opened = c.in_ok-push.ensures.items ∙ ap (λ list. list ++ codes "[") c.in_ok-list.ensures.items in
    let same = c.document.ensures in
    let lists = subst (λ (t : List ℕ). AddsMarks to (source_lines t) (map place_of c.split_at.result.0.now) c.push.new.self.items c.push_marks.new.list.items)
    same c.in_ok-push_marks.ensures in
    let counts = c.in_ok-push_more.ensures ∙ ap (λ (t : List ℕ). c.push_marks.new.list.items ++ counted_text c.args.encoding (source_lines t)
    (map place_of c.split_at.result.1.now) c.saturating_sub.result) same in
    let beside = subst (λ (t : List ℕ). AddsAllBeside to t (not c.is_empty.result) c.push_more.new.list.items c.push_all_notes.new.list.items) same
    (beside-both to c.document.result.now (not c.is_empty.result) c.in_ok-later.later c.in_ok-push_all_notes.field-0 c.push_more.new.list.items
    c.push_all_idle.new.list.items c.push_all_notes.new.list.items c.in_ok-later.ensures c.in_ok-push_all_notes.ensures) in
    list-made to c.args.marked.now c.in_ok-marks.marks _ _ c.saturating_sub.result c.push.new.self.items c.push_marks.new.list.items c.push_more.new.list.items
    c.push_all_notes.new.list.items c.push-2.new.self.items (not c.is_empty.result) c.in_ok-marks.ensures front back c.saturating_sub.ensures
    (ap not c.is_empty.ensures ∙ some-of (length c.split_at.result.0.now)) opened lists counts beside
    c.in_ok-push-2.ensures.items
