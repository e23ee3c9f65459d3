use Rattle.std.proofs.Common.{◌≡◌, ◌∙◌, ◌++◌, ◌∷◌, [], ap, append-nil, sym}
use Rattle.cps_chunk.specs.Code.Storing.{left_by}
use Rattle.cps_live.proofs.StoredLemmas.{left-middle, stored-same}
use Rattle.cps_live.proofs.storage.storage_with.Goals as goal

pub returns-then-leave_same : goal.returns-then-leave_same
returns-then-leave_same c olds stored =
    let t = c.args.trace.now in
    let nothing : left_by [] ≡ left_by (t ∷ []) = c.leave_same.ensures c.if-leave_same.true ∙ ap left_by c.from_ref.ensures.value in
    stored-same olds (olds ++ t ∷ []) (ap left_by (sym (append-nil olds)) ∙ left-middle olds [] (t ∷ []) [] nothing)

pub returns : goal.returns
returns c olds stored = c.in_ok-add.ensures.ok olds (c.in_ok-next.ensures ∙ stored)
