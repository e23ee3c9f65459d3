use Rattle.std.proofs.Common.{◌≡◌, ◌+◌, [], ◌∷◌, ◌++◌, get_or, take, refl, sym, ap, subst, ◌∙◌, append_assoc}
use Rattle.std.proofs.lemmas.List.{take_all, take_more}
use Rattle.cps_input.specs.Code.BegunLine.{IsBegun}
use Rattle.cps_input.proofs.BegunLemmas.{begun-room, of-ok}
use Rattle.cps_input.proofs.begun_line.BegunLine.push_all.Goals as goal

pub returns-then-is_ok : goal.returns-then-is_ok
returns-then-is_ok c = λ begun is.
    let extend = c.try_extend_from_slice.ensures in
    let done = sym c.is_ok.ensures.value ∙ c.if-is_ok.true in
    begun-room c.args.self.now _ begun c.args.bytes.now is (extend.variant.0 done) (of-ok c.try_extend_from_slice.result done extend.ok) refl

pub loop-byte-preserved : goal.loop-byte-preserved
loop-byte-preserved c = λ begun is.
    let bytes = c.args.bytes.now in
    let i = c.loop-byte.byte-index in
    let grown : (begun ++ take i bytes) ++ get_or bytes i 0 ∷ [] ≡ begun ++ take (i + 1) bytes =
    append_assoc begun (take i bytes) (get_or bytes i 0 ∷ []) ∙ ap (λ b. begun ++ b) (sym (take_more bytes i 0 c.loop-byte-test.true)) in
    subst (λ b. IsBegun c.push.new.self b) grown (c.push.ensures (begun ++ take i bytes) (c.loop-byte.invariant begun is))

pub returns : goal.returns
returns c = λ begun is.
    subst (λ b. IsBegun c.loop-byte.self (begun ++ b)) (take_all c.loop-byte.byte-index c.args.bytes.now c.loop-byte-test.false) (c.loop-byte.invariant begun is)
