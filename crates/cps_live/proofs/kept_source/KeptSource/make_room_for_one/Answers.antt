use Rattle.std.proofs.Common.{refl}
use Rattle.cps_live.proofs.KeptLemmas.{kept-same}
use Rattle.cps_live.proofs.kept_source.KeptSource.make_room_for_one.Goals as goal

pub returns-in_err-make_room_for-clause-kept : goal.returns-in_err-make_room_for-clause-kept
returns-in_err-make_room_for-clause-kept c = kept-same c.requires.kept refl refl c.make_room_for.ensures.items refl refl refl refl refl

pub returns-in_err-make_room_for-2-clause-kept : goal.returns-in_err-make_room_for-2-clause-kept
returns-in_err-make_room_for-2-clause-kept c = kept-same c.requires.kept refl refl c.make_room_for.ensures.items c.make_room_for-2.ensures.items refl refl refl refl

pub returns-in_err-make_room_for-3-clause-kept : goal.returns-in_err-make_room_for-3-clause-kept
returns-in_err-make_room_for-3-clause-kept c = kept-same c.requires.kept refl refl c.make_room_for.ensures.items c.make_room_for-2.ensures.items c.make_room_for-3.ensures.items refl refl refl

pub returns-in_err-make_room_for-4-clause-kept : goal.returns-in_err-make_room_for-4-clause-kept
returns-in_err-make_room_for-4-clause-kept c = kept-same c.requires.kept refl refl c.make_room_for.ensures.items c.make_room_for-2.ensures.items c.make_room_for-3.ensures.items c.make_room_for-4.ensures.items refl refl

pub returns-clause-kept : goal.returns-clause-kept
returns-clause-kept c = kept-same c.requires.kept refl refl c.make_room_for.ensures.items c.make_room_for-2.ensures.items c.make_room_for-3.ensures.items c.make_room_for-4.ensures.items c.make_room.ensures.same refl
