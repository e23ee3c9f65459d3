use Rattle.std.proofs.Common.{◌≡◌, ◌∷◌, Some, cond, true, subst, sym, ap, ◌∙◌}
use Rattle.cps_claims.specs.declared.reason.UnreadReason.TheVariants.{DamagedDigits}
use Rattle.cps_claims.specs.Parts.{are_digits, looks_like_digits}
use Rattle.cps_claims.specs.Rows.{other, unread_at, begun_at, address_row, behind_address}
use Rattle.cps_claims.specs.Code.Walk.{part_shown, parts_left}
use Rattle.cps_claims.specs.Code.Found.{Finds}
use Rattle.cps_claims.proofs.row.read_behind_address.Goals as goal

pub returns-then-looks_like_digits-clause-within : goal.returns-then-looks_like_digits-clause-within
returns-then-looks_like_digits-clause-within c = c.unread_at.ensures.within c.args.layout.form c.args.digits.now.items

pub returns-then-are_digits-clause-row : goal.returns-then-are_digits-clause-row
returns-then-are_digits-clause-row c =
    let layout = c.args.layout in
    let address = c.args.address in
    let part = part_shown c.in-Some.part in
    let parts = parts_left c.in-Some.field-0-1 in
    let begun = begun_at c.args.stand part.column in
    let test : are_digits part.text ≡ true = sym c.are_digits.ensures ∙ c.if-are_digits.true in
    let same : address_row layout c.begun_at-begun.result address (parts_left c.args.rest) ≡ behind_address layout c.args.stand address (parts_left c.args.rest) =
    (λ i. address_row layout (c.begun_at-begun.ensures i) address (c.in-Some.ensures.parts i))
    ∙ ap (λ b. cond b (address_row layout begun address (part ∷ parts)) (cond (looks_like_digits part.text) (unread_at begun (Some address) DamagedDigits) (other, c.args.stand))) (sym test)
    ∙ ap (behind_address layout c.args.stand address) (sym c.in-Some.ensures.parts) in
    subst (Finds c.read_address_row.result c.read_address_row.new.digits.items) same c.read_address_row.ensures.row
