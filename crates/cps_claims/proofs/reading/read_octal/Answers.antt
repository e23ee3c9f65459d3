use Rattle.std.proofs.Common.{[], ap, ◌∙◌}
use Rattle.std.specs.List.{slice_split}
use Rattle.std.specs.Option.{option_map_or}
use Rattle.cps_claims.specs.Rows.{rows_in, is_newline}
use Rattle.cps_claims.proofs.ReadingLemmas.{is-reading, holds-claims, at-end}
use Rattle.cps_claims.proofs.reading.read_octal.Goals as goal

pub returns-clause-reading : goal.returns-clause-reading
returns-clause-reading c =
    let layout = c.args.layout in
    let left = option_map_or (λ text. slice_split is_newline text.now) c.loop-rest.rest [] in
    is-reading layout (rows_in layout c.args.text.now) c.loop-rest.reader.reading
    (at-end layout c.loop-rest.reader left (ap (λ rest. option_map_or (λ text. slice_split is_newline text.now) rest []) c.in_default.is)
    ∙ c.loop-rest.invariant.state)

pub returns-clause-words : goal.returns-clause-words
returns-clause-words c =
    let layout = c.args.layout in
    let left = option_map_or (λ text. slice_split is_newline text.now) c.loop-rest.rest [] in
    holds-claims layout (rows_in layout c.args.text.now) c.loop-rest.reader.reading
    (at-end layout c.loop-rest.reader left (ap (λ rest. option_map_or (λ text. slice_split is_newline text.now) rest []) c.in_default.is)
    ∙ c.loop-rest.invariant.state)
