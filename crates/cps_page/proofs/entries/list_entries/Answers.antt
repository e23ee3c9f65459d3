use Rattle.std.proofs.Common.{List, rules, subst, ◌∙◌}
use Rattle.std.proofs.lemmas.List.Sorted.{answers_always}
use Rattle.cps_text.specs.declared.name.Name.{Name}
use Rattle.cps_list.specs.declared.mention.Mention.{Mention}
use Rattle.cps_page.specs.Code.Making.{AreEntries}
use Rattle.cps_page.proofs.EntryLemmas.{entries-sorted}
use Rattle.cps_page.proofs.entries.list_entries.Goals as goal

abbrev name_of : Mention → Name
name_of mention = mention.name

pub returns : goal.returns
returns g c =
    let entries = c.in_ok-entries.entries.items in
    let sorted = c.sort_by_key.new.self.items in
    let stable = c.in_ok-sort_by_key.ensures.stable name_of (answers_always _ _ _ (λ f a r q called. search rules)) in
    let are = subst (λ (ms : List Mention). AreEntries ms entries) c.deref.ensures.value c.in_ok-entries.ensures in
    subst (λ (ms : List Mention). AreEntries ms entries) c.in_ok-mentions.ensures (entries-sorted c.in_ok-mentions.mentions.items sorted entries stable are)
