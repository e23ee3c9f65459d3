use Rattle.cps_text.proofs.PairLemmas.{pair-at, drop-pair}
use Rattle.cps_text.proofs.octal.write_pair.Goals as goal

pub returns-clause-digits : goal.returns-clause-digits
returns-clause-digits c =
    let at = pair-at c.args.pair c.requires.low in
    rw at.0 (rw at.1 (drop-pair c.args.text.now c.args.place _ _ c.requires.within))
