use Rattle.std.proofs.Common.{◌≡◌, ◌+◌, ◌-◌, ◌++◌, sym, ap, ◌∙◌, append-nil, append_assoc, arith}
use Rattle.cps_code.specs.Image.{packed_word}
use Rattle.cps_state.specs.Machines.{limit}
use Rattle.cps_list.specs.Binary.{word_row, rows_below}
use Rattle.cps_list.proofs.RowLemmas.{rows_below-none, rows_below-more, rows_below-past, packed-past}
use Rattle.cps_list.proofs.binary.push_rows.Goals as goal

pub loop-address-init : goal.loop-address-init
loop-address-init c = λ pieces packed. sym (ap (λ rows. c.args.text.now.items ++ rows) (rows_below-none c.args.machine pieces) ∙ append-nil c.args.text.now.items)

pub loop-address-preserved : goal.loop-address-preserved
loop-address-preserved c = λ pieces packed.
    let address = c.loop-address.address in
    let machine = c.args.machine in
    let before = c.args.text.now.items in
    c.in_ok-push_row.ensures
    ∙ ap (λ word. c.loop-address.text.items ++ word_row machine address word) (c.get.ensures.packed pieces packed)
    ∙ ap (λ text. text ++ word_row machine address (packed_word pieces address)) (c.loop-address.invariant pieces packed)
    ∙ append_assoc before (rows_below address machine pieces) (word_row machine address (packed_word pieces address))
    ∙ sym (ap (λ rows. before ++ rows) (rows_below-more address machine pieces))

pub returns : goal.returns
returns c = λ pieces packed.
    let end = c.loop-address.address in
    let machine = c.args.machine in
    let all : end + (limit machine - end) ≡ limit machine = omega arith in
    c.loop-address.invariant pieces packed
    ∙ ap (λ rows. c.args.text.now.items ++ rows)
    (sym (rows_below-past end (limit machine - end) machine pieces (λ address from below. packed-past pieces c.args.words.now address packed (omega (arith, from, below, all))))
    ∙ ap (λ n. rows_below n machine pieces) all)
