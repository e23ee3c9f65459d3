use Rattle.std.proofs.Common.{◌≡◌, None, Option, sym, ap, ◌∙◌, arith}
use Rattle.std.specs.Prelude.{ℤ, pos, ◌+ℤ◌}
use Rattle.std.proofs.lemmas.Int.{ints}
use Rattle.cps_text.specs.declared.name.Name.{Name}
use Rattle.cps_expr.specs.declared.value.Value.{Value}
use Rattle.cps_expr.specs.Value.{plain, limited}
use Rattle.cps_final.specs.Finals.{Finals, address_of, first_word, at_base}
use Rattle.cps_final.specs.Code.Storage.{stored}
use Rattle.cps_final.proofs.storage.Storage.final_of.Goals as goal

plain-same : (value : Value) → value.block ≡ None → plain value.offset ≡ value
plain-same value nominal = ap (λ (b : Option Name). record { block = b; offset = value.offset }) (sym nominal)

-- the nominal block stands at 0
nominal-final : (finals : Finals) (value : Value) → value.block ≡ None → limited value ≡ at_base (first_word finals) value
nominal-final finals value nominal =
    let zero : value.offset +ℤ pos 0 ≡ value.offset = omega (arith, ints) in
    let base = ap (λ (b : Option Name). value.offset +ℤ pos (address_of (first_word finals b))) nominal ∙ zero in
    ap limited (sym (plain-same value nominal)) ∙ sym (ap (λ (z : ℤ). limited (plain z)) base)

pub returns-in-None : goal.returns-in-None
returns-in-None c = c.limited.ensures.value ∙ nominal-final (stored c.args.self.now) c.args.value c.in-None.is
