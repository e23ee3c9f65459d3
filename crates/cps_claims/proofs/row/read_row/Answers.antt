use Rattle.std.proofs.Common.{◌≡◌, ℕ, ◌&&◌, Bool, true, false, cond, ◌∷◌, Option, None, List, refl, sym, ap, ◌∙◌}
use Rattle.std.specs.Option.{option_map_or}
use Rattle.cps_claims.specs.declared.layout.OctalLayout.{OctalLayout}
use Rattle.cps_claims.specs.declared.stand.RowStand.{RowStand}
use Rattle.cps_claims.specs.Words.{is_dump}
use Rattle.cps_claims.specs.Parts.{Part, address_in}
use Rattle.cps_claims.specs.Rows.{goes_on, digit_row, behind_address, text_row, is_repetition, repetition, row_among, first_address}
use Rattle.cps_claims.specs.Code.Walk.{part_shown, parts_left}
use Rattle.cps_claims.specs.Code.Found.{rows_left}
use Rattle.cps_claims.proofs.row.read_row.Goals as goal
use Rattle.cps_claims.proofs.row.read_row.Goals.{else-is_dump-via-then-is_dump+else-is_repetition, else-is_dump-via-else-is_dump}

second-false : (a b : Bool) → b ≡ false → (a && b) ≡ false
second-false true b none = none
second-false false b none = refl

-- a row that says nothing of others, and begins with neither digits that go on nor an address
row-of-text : (layout : OctalLayout) (stand : RowStand) (digits : List ℕ) (part : Part) (parts : List Part) (end : Option ℕ)
    → (is_dump layout.format && is_repetition (part ∷ parts)) ≡ false → goes_on stand part ≡ false → address_in part.text ≡ None
    → row_among layout stand digits (part ∷ parts) end ≡ text_row stand part
row-of-text layout stand digits part parts end once stays none = λ i.
    cond (once i) (repetition layout stand digits end)
    (cond (stays i) (digit_row layout stand (part ∷ parts)) (option_map_or (λ address. behind_address layout stand address parts) (none i) (text_row stand part)))

pub returns-in-None-clause-row : goal.returns-in-None-clause-row
returns-in-None-clause-row c =
    let layout = c.args.layout in
    let part = part_shown c.in-Some.part in
    let parts = parts_left c.in-Some.rest in
    let end = first_address layout (rows_left c.args.behind) in
    let once : (is_dump layout.format && is_repetition (part ∷ parts)) ≡ false = elim c.else-is_dump.branch [
      | else-is_dump-via-then-is_dump+else-is_repetition w ↦
          second-false (is_dump layout.format) (is_repetition (part ∷ parts)) (sym w.is_repetition.ensures ∙ w.if-is_repetition.false)
      | else-is_dump-via-else-is_dump w ↦
          ap (λ b. b && is_repetition (part ∷ parts)) (sym c.is_dump.ensures ∙ w.if-is_dump.false)
    ] in
    c.text_row.ensures.row part.column c.args.digits.now.items
    ∙ sym (row-of-text layout c.args.stand c.args.digits.now.items part parts end once (sym c.goes_on.ensures ∙ c.if-goes_on.false) (sym c.in-None.ensures.address))
    ∙ ap (λ row. row_among layout c.args.stand c.args.digits.now.items row end) (sym c.in-Some.ensures.parts ∙ c.of-whole.ensures)

pub returns-in-None-clause-within : goal.returns-in-None-clause-within
returns-in-None-clause-within c = c.text_row.ensures.within c.args.layout.form c.args.digits.now.items
