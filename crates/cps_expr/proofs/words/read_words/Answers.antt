use Rattle.std.proofs.Common.{sym, ap, ◌∙◌, arith, option_map, ◌∷◌}
use Rattle.std.specs.Prelude.{is_some}
use Rattle.cps_expr.specs.Row.{words_up_to, words_of}
use Rattle.cps_expr.proofs.ReadsLemmas.{whole_of_left}
use Rattle.cps_expr.proofs.WordsLemmas.{added_word, no_word, first_word, shorter_behind}
use Rattle.cps_expr.proofs.words.read_words.Goals as goal

pub returns-in_default : goal.returns-in_default
returns-in_default c =
    let none = no_word c.args.radix c.args.machine c.items.invariant.0 c.items.rest.now c.in_default.ensures.item in
    sym (whole_of_left (option_map (λ list. list.items) c.items.kept) (words_up_to c.args.radix c.args.machine c.items.invariant.0 c.items.rest.now)
    (words_of c.args.radix c.args.machine c.args.tail.now) c.items.invariant.2) ∙ ap is_some none

pub returns-in-None : goal.returns-in-None
returns-in-None c =
    let first = first_word c.args.radix c.args.machine c.items.invariant.0 c.items.rest.now c.split_at.result.1.now c.in-Some.word c.in-Some.extent c.in-Some.ensures.item
    c.items.invariant.1 c.in-Some.ensures.some c.in-Some.ensures.within c.split_at.ensures.back in
    let none = first.2 ∙ ap (option_map (λ words. c.in-Some.word ∷ words)) (c.in-None.ensures.words (words_up_to c.args.radix c.args.machine first.0)) in
    sym (whole_of_left (option_map (λ list. list.items) c.items.kept) (words_up_to c.args.radix c.args.machine c.items.invariant.0 c.items.rest.now)
    (words_of c.args.radix c.args.machine c.args.tail.now) c.items.invariant.2) ∙ ap is_some none

pub returns-in-Some-None : goal.returns-in-Some-None
returns-in-Some-None c =
    let first = first_word c.args.radix c.args.machine c.items.invariant.0 c.items.rest.now c.split_at.result.1.now c.in-Some.word c.in-Some.extent c.in-Some.ensures.item
    c.items.invariant.1 c.in-Some.ensures.some c.in-Some.ensures.within c.split_at.ensures.back in
    let last = first.2 ∙ ap (option_map (λ words. c.in-Some.word ∷ words)) ((rw c.in-Some-None.field-0-is at c.in-Some-None.ensures.words) (words_up_to c.args.radix c.args.machine first.0)) in
    c.kept_items.ensures (words_of c.args.radix c.args.machine c.args.tail.now)
    (added_word (option_map (λ list. list.items) c.items.kept) (option_map (λ list. list.items) c.keep.new.kept) c.in-Some.word _
    (words_of c.args.radix c.args.machine c.args.tail.now) (rw last at c.items.invariant.2) c.keep.ensures)

pub items-smaller : goal.items-smaller
items-smaller c =
    let left = shorter_behind c.items.rest.now c.split_at.result.1.now c.in-Some.extent c.in-Some.ensures.some c.in-Some.ensures.within c.split_at.ensures.back in
    let shorter = rw c.in-Some-Some.field-0-is at c.in-Some-Some.ensures.shorter in
    omega (arith, left, shorter)

pub items-preserved : goal.items-preserved
items-preserved c =
    let first = first_word c.args.radix c.args.machine c.items.invariant.0 c.items.rest.now c.split_at.result.1.now c.in-Some.word c.in-Some.extent c.in-Some.ensures.item
    c.items.invariant.1 c.in-Some.ensures.some c.in-Some.ensures.within c.split_at.ensures.back in
    let shorter = rw c.in-Some-Some.field-0-is at c.in-Some-Some.ensures.shorter in
    let next = first.2 ∙ ap (option_map (λ words. c.in-Some.word ∷ words)) ((rw c.in-Some-Some.field-0-is at c.in-Some-Some.ensures.words) (words_up_to c.args.radix c.args.machine first.0)) in (
      first.0,
      omega (arith, first.1, shorter),
      added_word (option_map (λ list. list.items) c.items.kept) (option_map (λ list. list.items) c.keep.new.kept) c.in-Some.word
          (words_up_to c.args.radix c.args.machine first.0 c.in-Some-Some.text.now)
          (words_of c.args.radix c.args.machine c.args.tail.now) (rw next at c.items.invariant.2) c.keep.ensures,
    )
