use Rattle.std.proofs.Common.{◌≤◌, length, arith, refl}
use Rattle.httparse.specs.Spans.{IsSectionOf}
use Rattle.cps_rpc.specs.Header.{most_fields}
use Rattle.cps_rpc.proofs.FrontLemmas.{message_behind, part_behind, never_behind}
use Rattle.cps_rpc.proofs.front.front_of.Goals.{After-front_behind}
use Rattle.cps_rpc.proofs.front.front_of.Goals as goal

section : (c : After-front_behind) → IsSectionOf c.args.bytes.now 0 c.parse_headers.new.headers (c.in-Ok-Complete.start, c.in-Ok-Complete.count)
section c = rw c.in-Ok-Complete.field-0-is at c.in-Ok-Complete.ensures.complete

few : (c : After-front_behind) → length c.parse_headers.new.headers ≤ most_fields
few c = omega (arith, c.parse_headers.auto.headers)

pub returns-in-Ok-Complete-clause-message : goal.returns-in-Ok-Complete-clause-message
returns-in-Ok-Complete-clause-message c =
    message_behind c.args.bytes.now _ _ _ (section c) (few c) c.front_behind.result c.front_behind.ensures.message

pub returns-in-Ok-Complete-clause-part : goal.returns-in-Ok-Complete-clause-part
returns-in-Ok-Complete-clause-part c is = part_behind c.args.bytes.now _ _ _ (section c) (few c) _ refl (c.front_behind.ensures.part is)

pub returns-in-Ok-Complete-clause-malformed : goal.returns-in-Ok-Complete-clause-malformed
returns-in-Ok-Complete-clause-malformed c is = never_behind c.args.bytes.now _ _ _ (section c) (c.front_behind.ensures.malformed is)
