use Rattle.std.proofs.Common.{◌++◌, sym, ap, ◌∙◌, take, arith}
use Rattle.std.proofs.lemmas.List.{length-take-le}
use Rattle.cps_text.specs.Name.{name_text}
use Rattle.cps_list.specs.Code.Front.{with_text}
use Rattle.cps_list.specs.Symbols.{value_text}
use Rattle.cps_list.proofs.FrontLemmas.{front-long, front-taken}
use Rattle.cps_list.proofs.symbols.push_front.Goals as goal

pub slice_bounds-extend_from_slice-end : goal.slice_bounds-extend_from_slice-end
slice_bounds-extend_from_slice-end c =
    let front = c.write_symbol.new.front in
    let wide = front-long front _ 29 c.write_symbol.ensures (omega arith) in
    sym (length-take-le 30 front (omega (arith, wide)))

pub returns : goal.returns
returns c =
    let text = c.args.text.now.items in
    let begun = with_text (name_text c.args.name) 10 (value_text c.args.value) in
    let is = c.write_symbol.ensures in
    let within = is.within in
    c.in_ok-extend_from_slice.ensures.items
    ∙ ap (λ t. text ++ t) (ap (take 30) is.filled ∙ front-taken begun 30 44 (omega (arith, within)) (omega arith))
