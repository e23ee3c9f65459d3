use Rattle.std.proofs.Common.{◌≡◌, drop, map}
use Rattle.cps_rpc.specs.Params as told_params
use Rattle.cps_server.specs.Notices as notices
use Rattle.cps_server.proofs.server.changed_by.Given as goal

-- the changes that are left make of the text so far what all make of the first
abbrev pub invariant-loop-change : goal.invariant-loop-change
invariant-loop-change l =
    notices.changed_by l.encoding (map told_params.value_of (drop l.change-index l.changes)) l.document
    ≡ notices.changed_by l.encoding (map told_params.value_of l.changes) l.fn.document
