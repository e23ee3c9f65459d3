use Rattle.std.proofs.Common.{◌≤◌, ◌++◌, arith, refl, sym, ap, subst, ◌∙◌, append_assoc, append-nil, length, length-drop, drop, take}
use Rattle.cps_final.specs.contracts.finals.FinalsGathered.TheImpl.{gathered-value}
use Rattle.cps_list.specs.Symbols.{row_of, symbol_rows}
use Rattle.cps_list.proofs.OrderLemmas.{Rising, rising-sorted}
use Rattle.cps_list.proofs.SymbolLemmas.{group-some, group-within, group-first, rising-drop, rows-none, all-cut}
use Rattle.cps_list.proofs.symbols.push_rows.Goals as goal

pub loop-first-init : goal.loop-first-init
loop-first-init c = record { rising = rising-sorted c.args.mentions.now c.requires; text = refl }

pub split_at-requires : goal.split_at-requires
split_at-requires c =
    let rest = c.loop-first.rest.now in
    subst (λ n. n ≤ length rest) (sym c.group_length.ensures) (group-within rest c.in-Some.first.now.name)

pub loop-first-smaller : goal.loop-first-smaller
loop-first-smaller c =
    let rest = c.loop-first.rest.now in
    let some = group-some rest c.in-Some.first.now c.in-Some.ensures.value in
    let within = group-within rest c.in-Some.first.now.name in
    let cut = c.group_length.ensures in
    let later = ap length c.split_at.ensures.back ∙ length-drop c.group_length.result rest in
    omega (arith, some, within, cut, later)

pub loop-first-preserved : goal.loop-first-preserved
loop-first-preserved c =
    let rest = c.loop-first.rest.now in
    let finals = gathered-value.it c.args.finals.now in
    let first = c.in-Some.first.now in
    let front = c.split_at.ensures.front ∙ ap (λ n. take n rest) c.group_length.ensures in
    let back = c.split_at.ensures.back ∙ ap (λ n. drop n rest) c.group_length.ensures in
    record {
      rising = subst Rising (sym back) (rising-drop rest first.name c.loop-first.invariant.rising);
      text =
          (λ i. (c.in_ok-push_symbol.ensures ∙ ap (λ group. c.loop-first.text.items ++ row_of finals first.name group) front) i ++ symbol_rows finals (back i))
          ∙ append_assoc c.loop-first.text.items _ _
          ∙ ap (λ rows. c.loop-first.text.items ++ rows) (sym (group-first finals rest first c.in-Some.ensures.value c.loop-first.invariant.rising))
          ∙ c.loop-first.invariant.text;
    }

pub returns : goal.returns
returns c =
    let text = c.loop-first.text.items in
    let finals = gathered-value.it c.args.finals.now in
    let none = ap (symbol_rows finals) (all-cut c.loop-first.rest.now c.in_default.ensures.value) ∙ rows-none finals in
    sym (append-nil text) ∙ ap (λ rows. text ++ rows) (sym none) ∙ c.loop-first.invariant.text
