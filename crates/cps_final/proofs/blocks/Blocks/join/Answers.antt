use Rattle.std.proofs.Common.{arith, ◌≡◌, ◌+◌, ◌<◌, ℕ, Option, None, Some, length, ap, sym, ◌∙◌}
use Rattle.std.specs.Prelude.{unwrap_or}
use Rattle.std.proofs.lemmas.List.{length-drop, length-map}
use Rattle.cps_text.specs.declared.name.Name.{Name}
use Rattle.std.proofs.lemmas.Option.{slice_get_within, get_or_from_slice_get}
use Rattle.indexmap.specs.IndexMap.{keys}
use Rattle.cps_final.specs.Code.Gathering.{grown_to, grown_as, layout_kept}
use Rattle.cps_final.proofs.BlockLemmas.{key-at}
use Rattle.cps_final.proofs.JoinLemmas.{as-next, same-kept}
use Rattle.cps_final.proofs.blocks.Blocks.join.Goals as goal

pub loop-index-init : goal.loop-index-init
loop-index-init c =
    let other = layout_kept c.args.other.now.nominal c.args.other.now.named in
    record {
      room = omega (arith, c.in_ok-reserve.ensures.ok, c.put_words.ensures.room, c.len-count.ensures.len, length-map c.args.other.now.named.entries (λ (e : Name × ℕ). e.0));
      left = ap (grown_as other other.named) (c.put_words.ensures.layout
          ∙ ap (λ layout. grown_to layout None c.args.other.now.nominal) (same-kept c.args.self.now.nominal c.reserve.new.self c.args.self.now.named c.in_ok-reserve.ensures.entries));
    }

pub loop-index-preserved : goal.loop-index-preserved
loop-index-preserved c =
    let other = layout_kept c.args.other.now.nominal c.args.other.now.named in
    let names = keys c.args.other.now.named in
    let i = c.loop-index.index in
    let name = c.in-Some.name.now in
    let at = key-at c.args.other.now.named i name c.in-Some.words.now c.in-Some.ensures.entry in
    let within : i < length names = slice_get_within names i name at in
    let here = get_or_from_slice_get names i name name at in
    let size : c.in-Some.words.now ≡ other.size (Some name) = sym (ap (λ (o : Option ℕ). unwrap_or o 0) c.in-Some.ensures.value) in
    let before = c.loop-index.invariant in
    record {
      room = omega (arith, before.room, c.put_words-in-loop-index.ensures.room, within, length-drop i names, length-drop (i + 1) names);
      left = as-next other _ _ _ names i name within (sym here) (c.put_words-in-loop-index.ensures.layout ∙ ap (grown_to _ (Some name)) size) before.left;
    }
