use Rattle.std.proofs.Common.{◌≡◌, ◌<◌, length, Some, sym, ap, ◌∙◌, rules}
use Rattle.std.specs.List.{slice_get}
use Rattle.std.proofs.lemmas.List.{get_or_read}
use Rattle.std.proofs.lemmas.Option.{slice_get-get_or}
use Rattle.cps_claims.proofs.ListedLemmas.{listed-put}
use Rattle.cps_claims.proofs.listed_words.ListedWords.add.Goals as goal

pub returns : goal.returns
returns c = λ codes was.
    let words = c.make_room.new.words.items in
    let at = c.args.address in
    let old = c.index_mut.result.now in
    let room = c.in_ok-make_room.ensures.room in
    let within : at < length words = search (rules, room) in
    let read : slice_get words at ≡ Some old =
    slice_get-get_or words at old within ∙ ap Some (sym (get_or_read words at old within c.index_mut.ensures.value old)) in
    listed-put words at c.args.by c.args.digits.now old c.add.new.self codes within read c.in_ok-add.ensures
    (λ address. c.in_ok-make_room.ensures.same address ∙ was address)
