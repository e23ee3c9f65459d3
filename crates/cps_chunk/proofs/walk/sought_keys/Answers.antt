use Rattle.std.proofs.Common.{arith, rules, ◌≤◌, ◌++◌, ◌∷◌, [], map, take, ap, sym, ◌∙◌}
use Rattle.std.proofs.lemmas.Bool.Decides.{nat_tests}
use Rattle.std.proofs.lemmas.List.{map_more, take_all}
use Rattle.std.proofs.lemmas.Option.{slice_get_within, get_or_from_slice_get}
use Rattle.cps_final.specs.Code.Kept.{count_of, keys_in}
use Rattle.cps_chunk.specs.KeyFilter.{mark_of}
use Rattle.cps_chunk.proofs.KeysLemmas.{all-keys}
use Rattle.cps_chunk.proofs.walk.sought_keys.Goals as goal

pub loop-i-preserved : goal.loop-i-preserved
loop-i-preserved c =
    let keys = keys_in c.args.changes.now in
    let f = mark_of c.args.hashing in
    let i = c.loop-i.i in
    let got = c.key.ensures.key in
    c.in_ok-seek.ensures ∙ ap (λ ns. ns ++ f c.key.result ∷ []) c.loop-i.invariant
    ∙ ap (λ k. map f (take i keys) ++ f k ∷ []) (sym (get_or_from_slice_get keys i c.key.result c.key.result got))
    ∙ sym (map_more f keys i c.key.result (slice_get_within keys i c.key.result got))

pub returns : goal.returns
returns c =
    let keys = keys_in c.args.changes.now in
    let past : count_of c.args.changes.now ≤ c.loop-i.i = first_of (omega arith, search rules, grind (arith, nat_tests)) in
    c.loop-i.invariant ∙ ap (map (mark_of c.args.hashing)) (take_all c.loop-i.i keys (all-keys c.args.changes.now c.loop-i.i past))
