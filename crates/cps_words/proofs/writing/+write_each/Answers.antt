use Rattle.cps_words.proofs.PlacingLemmas.{places-rest, all-of-rest}
use Rattle.cps_words.proofs.writing.+write_each.Goals as goal

pub returns-in-Err-write_each-clause-placed : goal.returns-in-Err-write_each-clause-placed
returns-in-Err-write_each-clause-placed g t c =
    rw (← c.write_draft.ensures.placed, c.discard.ensures.placed)
    (places-rest (g.V.View.assembly c.args.view.now) c.args.outputs.now c.in-Err-write_each.fault _ _
    (rw (← all-of-rest c.args.outputs.now) c.in-Err-write_each.ensures.placed))
