use Rattle.std.proofs.Common.{◌<◌, rules, sym, subst, All}
use Rattle.std.proofs.lemmas.List.Elements.{All-push}
use Rattle.cps_state.specs.declared.made.Content.{Content}
use Rattle.cps_state.specs.declared.made.Content.TheVariants as content
use Rattle.cps_state.specs.Made.{width_of, IsContent}
use Rattle.cps_pass.proofs.WordLemmas.{text-next}
use Rattle.cps_pass.proofs.words.text_words.Goals as goal

pub loop-word-preserved : goal.loop-word-preserved
loop-word-preserved c =
    let before = c.loop-word.contents.items in
    let one : Content = content.Number c.word_bits.result c.text_word-number.result in
    let some : Content → Type 0 = λ content. 0 < width_of content in
    record {
      made = text-next c.args.machine c.args.fill c.loop-word.word c.word_bits.result c.text_word-number.result c.args.text.now before c.push.new.self.items
          c.word_bits.ensures c.text_word-number.ensures.word c.in_ok-push.ensures.items c.loop-word.invariant.made;
      each = subst (All IsContent) (sym c.in_ok-push.ensures.items) (All-push IsContent before one c.loop-word.invariant.each (search rules));
      some = subst (All some) (sym c.in_ok-push.ensures.items) (All-push some before one c.loop-word.invariant.some (search rules));
    }
