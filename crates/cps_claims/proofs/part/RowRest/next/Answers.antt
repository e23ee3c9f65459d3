use Rattle.std.proofs.Common.{◌+◌, ◌<◌, [], ◌∷◌, length, subst, sym, ◌∙◌, arith}
use Rattle.cps_claims.specs.Parts.{parts_from}
use Rattle.cps_claims.proofs.PartLemmas.{next-part, some-part}
use Rattle.cps_claims.proofs.part.RowRest.next.Goals as goal

pub returns-clause-parts : goal.returns-clause-parts
returns-clause-parts c =
    let rest = c.behind_blanks-rest.result in
    let bytes = rest.bytes.now in
    let len = c.part_len-len.result in
    let some : 0 < length bytes = grind arith in
    let one : 0 < len = subst (λ n. 0 < n) (sym c.part_len-len.ensures.len) (some-part bytes some (c.behind_blanks-rest.ensures.filled some)) in
    sym c.behind_blanks-rest.ensures.parts
    ∙ next-part rest.column bytes len c.part_len-len.ensures.len c.part_len-len.ensures.within one
    ∙ (λ i. record { column = rest.column; text = sym c.split_at.ensures.front i } ∷ parts_from (rest.column + len) [] (sym c.split_at.ensures.back i))
