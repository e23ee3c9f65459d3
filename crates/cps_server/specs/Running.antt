-- What a run of a server does. Our own.
use Rattle.std.specs.Prelude.{◌≡◌, ℕ, Bool, List, Option, Result, Ok, Err}
use Rattle.cps_text.specs.declared.counted.Counted.{Counted}
use Rattle.cps_rpc.specs.declared.fault.ServerFault.{ServerFault}
use Rattle.cps_rpc.specs.Serving.{Serves}
use Rattle.cps_server.specs.Answers.{IsAnswered}
use Rattle.cps_server.specs.ServerState.{ServerState, beginning, is_shut_down}

-- What a server does from its first message on, by the result, which says whether `shutdown` came before the end.
abbrev pub RunsServer : {R W : Type 0} → (R → Option (List ℕ)) → (W → Option (List ℕ)) → Result Bool ServerFault → Counted R → Counted R → Counted W → Counted W → Type 0
RunsServer remaining contents (Ok was_shut_down) reader reader' writer writer' =
    (end : ServerState) × (was_shut_down ≡ is_shut_down end.phase)
    × Serves IsAnswered (λ state. state.has_exited) remaining contents (Ok tt) beginning end reader reader' writer writer'
RunsServer remaining contents (Err fault) reader reader' writer writer' =
    (end : ServerState) × Serves IsAnswered (λ state. state.has_exited) remaining contents (Err fault) beginning end reader reader' writer writer'
