use Rattle.std.proofs.Common.{false, List, [], take, subst, sym}
use Rattle.std.specs.Prelude.{None}
use Rattle.cps_list.specs.declared.mention.Mention.{Mention}
use Rattle.cps_markup.specs.declared.targets.Entry.{Entry}
use Rattle.cps_page.specs.Code.Making.{AreEntriesTo}
use Rattle.cps_page.proofs.EntryLemmas.{entries-all, entries-next, entries-none}
use Rattle.cps_page.proofs.entries.entries_of.Goals as goal

pub loop-mention-init : goal.loop-mention-init
loop-mention-init c = subst (λ (entries : List Entry). AreEntriesTo [] None entries) (sym c.new-entries.ensures.items) entries-none

pub loop-mention-preserved : goal.loop-mention-preserved
loop-mention-preserved c =
    let d : Mention = record { name = record { bytes = [] }; line = 0; is_definition = false } in
    let i = c.loop-mention.mention-index in
    entries-next c.args.mentions.now i d _ _ c.loop-mention-test.true (c.in_ok-last.ensures (take i c.args.mentions.now) c.loop-mention.invariant)

pub returns : goal.returns
returns c = entries-all c.args.mentions.now c.loop-mention.mention-index c.loop-mention.last c.loop-mention.entries.items c.loop-mention-test.false c.loop-mention.invariant
