use Rattle.std.proofs.Common.{arith, ◌-◌, ◌<◌, List, Some, get_or, sym, ◌∙◌, ap, length, length-drop, take}
use Rattle.std.proofs.lemmas.List.{get_or_default}
use Rattle.std.specs.Prelude.{slice_get}
use Rattle.cps_input.specs.Code.Parts.{parts_at}
use Rattle.cps_input.proofs.PartLemmas.{end-within, end-behind, first-part, later-part, place-behind}
use Rattle.cps_input.proofs.parts.part_at.Goals as goal

pub split_at-requires : goal.split_at-requires
split_at-requires g c =
    let ends = c.args.ends.now in
    let first : 0 < length ends = omega (arith, c.requires.within) in
    end-within 0 (length c.args.items.now) ends 0 (get_or ends 0 0) c.requires.rises first (get_or_default ends 0 0 _ first)

pub split_at-requires-2 : goal.split_at-requires-2
split_at-requires-2 g c =
    let ends = c.args.ends.now in
    let within : c.args.before - 1 < length ends = omega (arith, c.requires.within) in
    end-within 0 (length c.args.items.now) ends (c.args.before - 1) (get_or ends (c.args.before - 1) 0) c.requires.rises within (get_or_default ends (c.args.before - 1) 0 _ within)

pub overflow_sub-ends : goal.overflow_sub-ends
overflow_sub-ends g c =
    let ends = c.args.ends.now in
    let before = c.args.before in
    let place = place-behind before c.if-before-eq0.false in
    let within : before - 1 < length ends = omega (arith, c.requires.within) in
    end-behind 0 (length c.args.items.now) ends (before - 1) (get_or ends (before - 1) 0) (get_or ends before 0) c.requires.rises (omega (arith, c.requires.within, place))
    (get_or_default ends (before - 1) 0 _ within) (get_or_default ends before 0 _ c.requires.within ∙ ap (λ n. get_or ends n (get_or ends before 0)) place)

pub split_at-requires-3 : goal.split_at-requires-3
split_at-requires-3 g c =
    let ends = c.args.ends.now in
    let items = c.args.items.now in
    let begin = get_or ends (c.args.before - 1) 0 in
    let back = ap (λ (rest : List g.row.T.Denot). length rest) c.split_at-2.ensures.back in
    let rest = length-drop begin items in
    let within = end-within 0 (length items) ends c.args.before (get_or ends c.args.before 0) c.requires.rises c.requires.within (get_or_default ends c.args.before 0 _ c.requires.within) in
    omega (arith, within, back, rest)

pub returns-then-before-eq0 : goal.returns-then-before-eq0
returns-then-before-eq0 g c =
    let ends = c.args.ends.now in
    let first : 0 < length ends = omega (arith, c.requires.within) in
    ap (slice_get (parts_at 0 ends c.args.items.now)) c.if-before-eq0.true
    ∙ first-part ends c.args.items.now (get_or ends 0 0) first (get_or_default ends 0 0 _ first) ∙ ap (λ (part : List g.row.T.Denot). Some part) (sym c.split_at.ensures.front)

pub returns : goal.returns
returns g c =
    let ends = c.args.ends.now in
    let items = c.args.items.now in
    let before = c.args.before in
    let a = get_or ends (before - 1) 0 in
    let b = get_or ends before 0 in
    let place = place-behind before c.if-before-eq0.false in
    let within : before - 1 < length ends = omega (arith, c.requires.within) in
    let made = c.split_at-3.ensures.front ∙ ap (take (b - a)) c.split_at-2.ensures.back in
    ap (slice_get (parts_at 0 ends items)) place
    ∙ later-part 0 ends items (before - 1) a b (omega (arith, c.requires.within, place)) (get_or_default ends (before - 1) 0 _ within)
    (get_or_default ends before 0 _ c.requires.within ∙ ap (λ n. get_or ends n b) place)
    ∙ ap (λ (part : List g.row.T.Denot). Some part) (sym made)
