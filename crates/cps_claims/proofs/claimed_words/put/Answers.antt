use Rattle.std.proofs.Common.{◌≡◌, ◌<◌, length, ap, ◌∙◌, rules}
use Rattle.std.proofs.Math.Path.{fun_ext}
use Rattle.std.proofs.lemmas.List.{get_or_read}
use Rattle.cps_claims.specs.Code.Slots.{empty_word, with_digits, state_at}
use Rattle.cps_claims.proofs.SlotLemmas.{words-put}
use Rattle.cps_claims.proofs.claimed_words.put.Goals as goal

pub returns-clause-state : goal.returns-clause-state
returns-clause-state c =
    let words = c.make_room.new.words.items in
    let address = c.args.address in
    let digits = c.args.digits.now in
    let room = c.in_ok-make_room.ensures.room in
    let within : address < length words = search (rules, room) in
    let old = c.index_mut.result.now in
    let same : state_at words ≡ state_at c.args.words.now.items = fun_ext c.in_ok-make_room.ensures.same in
    words-put words c.args.row address c.args.place digits old c.put_digits.new.self within
    (get_or_read words address old within c.index_mut.ensures.value empty_word)
    c.put_digits.ensures
    ∙ ap (λ states. with_digits states c.args.row address c.args.place digits) same
