use Rattle.std.proofs.Common.{◌++◌, ap, ◌∙◌}
use Rattle.std.proofs.lemmas.Result.{on_ok_weaker}
use Rattle.cps_rpc.specs.Frame.{frame_of}
use Rattle.cps_server.proofs.WritingLemmas.{closed-written}
use Rattle.cps_server.proofs.diagnostics.say_closed.Goals as goal

pub returns : goal.returns
returns c =
    on_ok_weaker c.say_list.result (λ said. said ∙ ap (λ text. c.args.said.now.items ++ frame_of text) (closed-written c.args.uri.now)) c.say_list.ensures
