use Rattle.std.proofs.Common.{arith, [], ◌∷◌, ◌++◌, cond, sym, ap, ◌∙◌, append-nil}
use Rattle.std.specs.List.{filter}
use Rattle.std.specs.Prelude.{is_some}
use Rattle.cps_claims.specs.Counts.{is_given}
use Rattle.cps_compare.specs.Differences.{digits_in, word_of}
use Rattle.cps_disassembly.specs.Makes.{is_wrong}
use Rattle.cps_disassembly.specs.Certificate.{addresses_below}
use Rattle.cps_disassembly.proofs.CertificateLemmas.{below-more}
use Rattle.cps_disassembly.proofs.SpanLemmas.{none-behind, none-in-front, none-wrong-outside}
use Rattle.cps_disassembly.proofs.certificate.wrong_in.Goals as goal
use Rattle.cps_disassembly.proofs.certificate.wrong_in.Goals.{then-wrong+in_ok-push, else-wrong}

pub loop-address-preserved : goal.loop-address-preserved
loop-address-preserved c = λ given pieces holds packed.
    let at = c.loop-address.address in
    let selection = c.args.selection in
    let test = is_wrong selection given (digits_in selection.machine pieces) in
    let before = filter test (addresses_below at) in
    let was = c.loop-address.invariant given pieces holds packed in
    let is = c.in_ok-wrong.ensures given pieces holds packed in
    elim c.if-wrong.branch [
      | then-wrong+in_ok-push w ↦
          (λ i. (w.words-is i).items) ∙ w.in_ok-push.ensures.items ∙ ap (λ l. l ++ at ∷ []) was
          ∙ ap (λ b. before ++ cond b (at ∷ []) []) (sym (sym is ∙ w.if-wrong.true))
          ∙ sym (below-more test at)
      | else-wrong w ↦
          (λ i. (w.words-is i).items) ∙ was ∙ sym (append-nil before)
          ∙ ap (λ b. before ++ cond b (at ∷ []) []) (sym (sym is ∙ w.if-wrong.false))
          ∙ sym (below-more test at)
    ]

pub loop-address-init : goal.loop-address-init
loop-address-init c = λ given pieces holds packed.
    c.new-words.ensures.items
    ∙ none-in-front c.joined-span.result (is_wrong c.args.selection given (digits_in c.args.selection.machine pieces))
    (none-wrong-outside c.joined-span.result c.args.selection given pieces
    (c.joined-span.ensures.outside (is_given given) (c.of_claims.ensures.outside given holds))
    (c.joined-span.ensures.outside_other (λ address. is_some (word_of c.args.selection.machine pieces address)) (c.of_deck.ensures.outside pieces packed)))

pub returns : goal.returns
returns c = λ given pieces holds packed.
    c.loop-address.invariant given pieces holds packed
    ∙ none-behind c.joined-span.result (is_wrong c.args.selection given (digits_in c.args.selection.machine pieces)) c.loop-address.address 262144
    (none-wrong-outside c.joined-span.result c.args.selection given pieces
    (c.joined-span.ensures.outside (is_given given) (c.of_claims.ensures.outside given holds))
    (c.joined-span.ensures.outside_other (λ address. is_some (word_of c.args.selection.machine pieces address)) (c.of_deck.ensures.outside pieces packed)))
    (omega arith) (omega arith)
