use Rattle.std.proofs.Common.{rules}
use Rattle.serde_json.specs.View.{view}
use Rattle.cps_server.proofs.WritingLemmas.{version-added}
use Rattle.cps_server.proofs.writing.push_version.Goals as goal

pub returns-in_ok-push_value : goal.returns-in_ok-push_value
returns-in_ok-push_value c =
    version-added c.args.version c.in-Some.version (view c.from.result) c.args.text.now.items c.extend_from_slice.new.self.items c.push_value.new.text.items
    c.in-Some.is (search rules) c.in_ok-extend_from_slice.ensures.items c.in_ok-push_value.ensures
