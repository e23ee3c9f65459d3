use Rattle.std.proofs.Common.{ℕ, List, Option, sym, subst, ◌∙◌}
use Rattle.std.specs.List.{list_any}
use Rattle.cps_chunk.specs.KeyFilter.{has}
use Rattle.cps_chunk.specs.Code.Sought.{AreSought}
use Rattle.cps_chunk.proofs.SoughtLemmas.{none-sought, or-none}
use Rattle.cps_chunk.proofs.walk.may_touch.Goals as goal

pub returns-in-Some : goal.returns-in-Some
returns-in-Some c = λ out hashing changes sought.
    let chunk = c.args.chunk.now in
    let keys = c.in-Some.keys in
    let none = or-none (list_any (has chunk.reads) keys) (list_any (has chunk.puts) keys) (sym c.may_hold.ensures ∙ out) in
    none-sought hashing changes chunk keys (subst (λ (held : Option (List ℕ)). AreSought hashing changes held) c.in-Some.is sought) none.0 none.1
