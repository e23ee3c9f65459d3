use Rattle.cps_input.proofs.character_fault.CharacterFault.push_words.Goals as goal

pub returns-in-ByteOrderMark : goal.returns-in-ByteOrderMark
returns-in-ByteOrderMark c = rw c.in-ByteOrderMark.is c.push_text.ensures

pub returns-in-More : goal.returns-in-More
returns-in-More c = rw c.in-More.is c.push_number.ensures
