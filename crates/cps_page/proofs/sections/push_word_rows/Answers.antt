use Rattle.std.proofs.Common.{◌<◌, List, [], ◌∷◌, ap, subst, get_or, length, arith}
use Rattle.cps_markup.specs.declared.place.Place.TheVariants.{Word}
use Rattle.cps_markup.specs.declared.targets.WordEntry.{WordEntry}
use Rattle.cps_markup.specs.Links.{Leads}
use Rattle.cps_markup.specs.Code.Adding.{Adds}
use Rattle.cps_page.proofs.PageLemmas.{adds-word}
use Rattle.cps_page.proofs.sections.push_word_rows.Goals as goal

pub loop-word-preserved : goal.loop-word-preserved
loop-word-preserved g c = λ last later.
    let P = Leads c.args.targets.now in
    let d : WordEntry = record { digits = 0; line = 0 } in
    let words = c.args.targets.now.words.items in
    let i = c.loop-word.word-index in
    let row = c.split_at.result.0.now in
    let old = c.loop-word.page.items in
    let new = c.push_word.new.page.items in
    let same = c.deref-word-items.ensures.value in
    let within : i < length words = omega (arith, ap length same, c.loop-word-test.true) in
    let pushed = subst (λ (es : List WordEntry). Adds P row (Word (get_or es i d).digits ∷ []) old new) same c.in_ok-push_word.ensures in
    c.loop-word.invariant last
    (adds-word P words i c.row_length.result d c.loop-word.rest.now row c.split_at.result.1.now old new last within c.split_at.ensures.front c.split_at.ensures.back pushed later)
