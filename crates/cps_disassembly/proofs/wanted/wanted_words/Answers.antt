use Rattle.std.proofs.Common.{arith, [], ◌∷◌, ◌++◌, cond, sym, ap, ◌∙◌, append-nil}
use Rattle.std.specs.Prelude.{map}
use Rattle.std.specs.List.{filter}
use Rattle.std.proofs.lemmas.List.{map_push}
use Rattle.cps_disassembly.specs.Makes.{is_wanted}
use Rattle.cps_disassembly.specs.Code.Kept.{address_in}
use Rattle.cps_disassembly.specs.Certificate.{addresses_below}
use Rattle.cps_disassembly.proofs.CertificateLemmas.{below-more}
use Rattle.cps_disassembly.proofs.SpanLemmas.{none-behind, none-in-front, none-wanted-outside}
use Rattle.cps_disassembly.proofs.wanted.wanted_words.Goals as goal
use Rattle.cps_disassembly.proofs.wanted.wanted_words.Goals.{then-is_wanted+in_ok-push, else-is_wanted}

pub loop-address-preserved : goal.loop-address-preserved
loop-address-preserved c = λ given holds.
    let at = c.loop-address.address in
    let test = is_wanted c.args.selection given in
    let before = filter test (addresses_below at) in
    let was = c.loop-address.invariant given holds in
    let is = c.is_wanted.ensures given holds in
    elim c.if-is_wanted.branch [
      | then-is_wanted+in_ok-push w ↦
          ap (map address_in) ((λ i. (w.words-is i).items) ∙ w.in_ok-push.ensures.items)
          ∙ map_push address_in _ w.given_word.result
          ∙ (λ i. was i ++ w.given_word.ensures i ∷ [])
          ∙ ap (λ b. before ++ cond b (at ∷ []) []) (sym (sym is ∙ w.if-is_wanted.true))
          ∙ sym (below-more test at)
      | else-is_wanted w ↦
          ap (map address_in) (λ i. (w.words-is i).items) ∙ was ∙ sym (append-nil before)
          ∙ ap (λ b. before ++ cond b (at ∷ []) []) (sym (sym is ∙ w.if-is_wanted.false))
          ∙ sym (below-more test at)
    ]

pub loop-address-init : goal.loop-address-init
loop-address-init c = λ given holds.
    ap (map address_in) c.new-words.ensures.items
    ∙ none-in-front c.of_claims-span.result (is_wanted c.args.selection given)
    (none-wanted-outside c.of_claims-span.result c.args.selection given (c.of_claims-span.ensures.outside given holds))

pub returns : goal.returns
returns c = λ given holds.
    c.loop-address.invariant given holds
    ∙ none-behind c.of_claims-span.result (is_wanted c.args.selection given) c.loop-address.address 262144
    (none-wanted-outside c.of_claims-span.result c.args.selection given (c.of_claims-span.ensures.outside given holds))
    (omega arith) (omega arith)
