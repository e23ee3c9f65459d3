use Rattle.std.proofs.Common.{rules, ◌≡◌, false, ap, sym, ◌∙◌}
use Rattle.std.specs.Prelude.{is_some}
use Rattle.cps_chunk.specs.KeyFilter.{has, mark_of}
use Rattle.cps_chunk.proofs.AbsentLemmas.{not-put}
use Rattle.cps_chunk.proofs.walk.puts_key.Goals as goal

pub returns-then-not-has : goal.returns-then-not-has
returns-then-not-has c =
    let marks = c.args.chunk.now.puts in
    let out : c.has.result ≡ false = search rules in
    let absent : has marks (mark_of c.args.hashing c.args.key) ≡ false = ap (has marks) (sym c.mark_of.ensures.mark) ∙ sym c.has.ensures ∙ out in
    sym (ap is_some (not-put c.args.hashing marks c.args.key absent c.args.traces.now c.requires.puts))
