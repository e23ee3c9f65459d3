use Rattle.cps_server.proofs.WritingLemmas.{published-added}
use Rattle.cps_server.proofs.diagnostics.push_published.Goals as goal

pub returns : goal.returns
returns c =
    published-added c.args.text.uri.now c.args.text.version c.args.list.now c.args.message.now.items c.extend_from_slice.new.self.items
    c.extend_from_slice-2.new.self.items c.push_document.new.message.items c.extend_from_slice-3.new.self.items
    c.in_ok-extend_from_slice.ensures.items c.in_ok-extend_from_slice-2.ensures.items c.in_ok-push_document.ensures c.in_ok-extend_from_slice-3.ensures.items
