use Rattle.std.proofs.Common.{ℕ, ◌<◌, ◌^◌, List, arith, subst, sym}
use Rattle.std.specs.Prelude.{Some}
use Rattle.cps_markup.specs.declared.targets.WordEntry.{WordEntry}
use Rattle.cps_page.specs.Code.Making.{AreWordsTo}
use Rattle.cps_page.proofs.WordLemmas.{word-more}
use Rattle.cps_page.proofs.words.push_word.Goals as goal

pub returns : goal.returns
returns c = λ last are past.
    let word : WordEntry = record { digits = c.args.digits; line = c.args.line } in
    let small : c.args.digits < 2 ^ 32 = omega (arith, c.ranges.digits) in
    subst (λ (words : List WordEntry). AreWordsTo (Some c.args.digits) words) (sym c.in_ok-push.ensures.items) (word-more last c.args.words.now.items word are past small)
