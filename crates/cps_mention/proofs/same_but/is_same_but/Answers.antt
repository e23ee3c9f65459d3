use Rattle.cps_mention.proofs.same_but.is_same_but.Goals as goal

pub returns : goal.returns
returns g c = λ same. record {
  binary = c.in_ok-has_words.ensures same;
  flags = c.in_ok-has_same_text.ensures c.if-not-branch-2.false;
  rows = c.has_same_rows.ensures c.if-not-has_same_rows.false;
  mentions = c.in_ok-has_same_symbols.ensures.mentions c.if-not-branch.false;
  values = c.in_ok-has_same_symbols.ensures.values c.if-not-branch.false;
}
