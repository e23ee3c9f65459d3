use Rattle.std.proofs.Common.{List, refl, subst, sym, ◌++◌, ◌∷◌, []}
use Rattle.std.specs.Prelude.{Some}
use Rattle.cps_markup.specs.declared.targets.Entry.{Entry}
use Rattle.cps_page.specs.Code.Making.{AreEntriesTo}
use Rattle.cps_page.proofs.EntryLemmas.{entry-left, entry-more}
use Rattle.cps_page.proofs.entries.add_first.Goals as goal

pub returns-then-is_written : goal.returns-then-is_written
returns-then-is_written c = λ front last are behind is.
    let m = c.args.mention.now in
    let entry : Entry = record { name = m.name; line = m.line } in
    subst (λ (entries : List Entry). AreEntriesTo (front ++ m ∷ []) (Some m.name) entries) (sym c.in_ok-push.ensures.items)
    (entry-more front last c.args.entries.now.items m are entry refl refl behind is (c.is_written.ensures c.if-is_written.true))

pub returns : goal.returns
returns c = λ front last are behind is. entry-left front last c.args.entries.now.items c.args.mention.now are behind
