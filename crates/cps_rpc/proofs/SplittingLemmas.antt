-- Bytes that are split into messages.
use Rattle.std.proofs.Common.{[], ◌∷◌, ◌++◌, refl, sym, ap₂, ◌∙◌}
use Rattle.std.proofs.lemmas.List.{append_assoc, append-nil}
use Rattle.std.specs.List.{flat_map}
use Rattle.cps_rpc.specs.StreamLaws.{OneSplitting, SplittingGoesOn, AnyPieces}
use Rattle.cps_rpc.proofs.MessageLemmas.{one_message, message_stays}

pub one_splitting_lem : OneSplitting
one_splitting_lem bytes [] [] rest left a b = (refl, sym a.0 ∙ b.0)
one_splitting_lem bytes [] (other ∷ others) rest left a b = absurd ((rw (sym a.0) at a.1) other b.0 b.1)
one_splitting_lem bytes (message ∷ messages) [] rest left a b = absurd ((rw (sym b.0) at b.1) message a.0 a.1)
one_splitting_lem bytes (message ∷ messages) (other ∷ others) rest left a b =
    let same = one_message bytes message other a.0 b.0 a.1 b.1 in
    let later = one_splitting_lem a.0 messages others rest left a.2 (rw (sym same.1) at b.2) in
    (ap₂ (λ x xs. x ∷ xs) same.0 later.0, later.1)

pub splitting_goes_on : SplittingGoesOn
splitting_goes_on bytes more [] later left rest front behind = rw (sym front.0) at behind
splitting_goes_on bytes more (message ∷ messages) later left rest front behind =
    (front.0 ++ more, message_stays bytes message front.0 more front.1, splitting_goes_on front.0 more messages later left rest front.2 behind)

pub pieces_split : AnyPieces
pieces_split held [] messages rest split = rw append-nil split
pieces_split held (piece ∷ pieces) messages rest split =
    let front = split.0 in
    let later = split.1 in
    let left = split.2 in
    let behind = pieces_split (left ++ piece) pieces later rest split.4 in
    rw split.5 (splitting_goes_on held (flat_map (λ p. p) (piece ∷ pieces)) front later left rest split.3 (rw append_assoc at behind))
