use Rattle.std.proofs.Common.{[], ◌∷◌, ◌++◌, map, refl}
use Rattle.cps_input.specs.Lines.{without_return}
use Rattle.cps_input.proofs.InputLemmas.{text-whole, text-unended}
use Rattle.cps_input.proofs.input.Input.finish.Goals as goal

pub returns-then-is_empty : goal.returns-then-is_empty
returns-then-is_empty c = λ taken come.
    let empty = c.if-is_empty.ensures come.rest come.begun in
    (map without_return come.lines, text-whole c.args.self taken come (empty.0 refl), c.into_lines.ensures (map without_return come.lines) come.intake)

pub take_line-requires : goal.take_line-requires
take_line-requires c = (map without_return c.requires.1.lines, c.requires.1.intake)

pub returns : goal.returns
returns c = λ taken come.
    let empty = c.if-is_empty.ensures come.rest come.begun in
    let source = map without_return come.lines ++ without_return come.rest ∷ [] in (
      source,
      text-unended c.args.self taken come (λ none. let bad = empty.1 none in cc),
      c.into_lines-2.ensures source (c.take_line.ensures (map without_return come.lines) (without_return come.rest) come.intake (c.text.ensures come.rest come.begun)),
    )
