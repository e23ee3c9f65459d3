use Rattle.std.proofs.Common.{◌≡◌, ℕ, Option, subst}
use Rattle.std.proofs.Math.Path.{fun_ext}
use Rattle.cps_claims.specs.Claims.{digit_at}
use Rattle.cps_claims.specs.Code.Slots.{WordState, AnyPlace, slot_differs, state_at}
use Rattle.cps_claims.specs.Code.Slots.{deck_digit}
use Rattle.cps_claims.proofs.SlotLemmas.{differs-held, deck-digit}
use Rattle.cps_claims.proofs.claimed_words.ClaimedWords.differs.Goals as goal

pub returns : goal.returns
returns c = λ claims words holds is.
    let address = c.args.address in
    let state = state_at c.args.self.now.words.items address in
    let digits : deck_digit c.args.word ≡ digit_at words address = fun_ext (λ place. deck-digit words address place c.args.word is) in
    let here = subst (λ (state : WordState). AnyPlace c.word_differs.result (λ place. slot_differs (deck_digit c.args.word place) (state.slots place))) c.word.ensures.state c.word_differs.ensures in
    differs-held c.args.self.now claims words holds address c.word_differs.result
    (subst (λ (deck : ℕ → Option ℕ). AnyPlace c.word_differs.result (λ place. slot_differs (deck place) (state.slots place))) digits here)
