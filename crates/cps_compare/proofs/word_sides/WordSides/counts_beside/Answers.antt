use Rattle.std.proofs.Common.{◌≡◌, false, not, ltb, ◌&&◌, ◌||◌, length, sym, ap, ◌∙◌}
use Rattle.std.specs.Prelude.{is_some}
use Rattle.std.specs.Option.{option_map_or}
use Rattle.cps_compare.specs.Given.{shown_word, known_in, unknown_in, denied_in}
use Rattle.cps_compare.specs.Differences.{lacks}
use Rattle.cps_compare.specs.Told.{given_for, lacks_at}
use Rattle.cps_compare.proofs.KeptLemmas.{kept-given, stands-same, word-same}
use Rattle.cps_compare.proofs.word_sides.WordSides.counts_beside.Goals as goal

pub returns : goal.returns
returns c = λ assembly sides kept word.
    let address = c.args.address in
    let given = given_for sides address in
    let same = kept-given sides.claims address c.word-given.result (c.word-given.ensures.shows sides.claims kept.claims) in
    let counts = c.count_given-counts.ensures in
    let shown : c.count_given-counts.result.shown ≡ length (shown_word given) = counts.shown ∙ ap (λ given. length (shown_word given)) same in
    let stands : c.is_some-stands.result ≡ is_some (sides.words address) = c.is_some-stands.ensures ∙ stands-same c.args.word ∙ ap is_some (sym word) in
    let lacking : c.lacks_in-lacks.result ≡ lacks_at sides address =
    c.lacks_in-lacks.ensures given shown ∙ word-same (λ word. lacks word given) c.args.word false ∙ ap (λ word. option_map_or (λ word. lacks word given) word false) (sym word) in
    let is_shown = ap (λ n. ltb 0 n) shown in
    let gives = c.gives-is_given.ensures sides.claims kept.claims in
    let differing = c.differs-differs.ensures sides.claims sides.words kept.claims word in
    record {
      known = c.from.ensures ∙ counts.known ∙ ap known_in same;
      given = gives;
      unknown = c.from-2.ensures ∙ counts.unknown ∙ ap unknown_in same;
      denied = c.from-3.ensures ∙ counts.denied ∙ ap denied_in same;
      absent = c.both.ensures ∙ (λ i. stands i && not (is_shown i));
      in_part = c.both-2.ensures ∙ (λ i. is_shown i && lacking i);
      compared = c.either.ensures ∙ (λ i. gives i || (c.both-3.ensures ∙ (λ i. sym kept.whole i && stands i)) i);
      differs = c.either-2.ensures ∙ (λ i. differing i || (c.both-4.ensures ∙ (λ i. sym kept.whole i && lacking i)) i);
    }
