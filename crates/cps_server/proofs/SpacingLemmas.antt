-- Texts of which only blanks change.
use Rattle.std.proofs.Common.{◌≡◌, refl, sym, ap, ◌∙◌, ℕ, List, [], ◌∷◌, map}
use Rattle.std.specs.Prelude.{All}
use Rattle.std.proofs.lemmas.List.Elements.{All-nil, All-cons}
use Rattle.cps_list.specs.Assembly.{Assembly}
use Rattle.cps_list.specs.Symbols.{mentions_from}
use Rattle.cps_list.specs.declared.mention.Mention.{Mention}
use Rattle.cps_edit.specs.Assembly.{assembly_of}
use Rattle.cps_mention.specs.declared.calling.Calling.TheVariants.{Same}
use Rattle.cps_mention.specs.SameBut.{SameBut, KeepsValue, recalled}
use Rattle.cps_server.specs.Document.{source_of_text}
use Rattle.cps_server.specs.Formats.{IsSpaced}

called-same : (mentions : List Mention) → mentions ≡ map (recalled Same) mentions
called-same [] = refl
called-same (mention ∷ mentions) = ap (λ rest. mention ∷ rest) (called-same mentions)

all-kept : (assembly : Assembly) (mentions : List Mention) → All (KeepsValue Same assembly assembly) mentions
all-kept assembly [] = All-nil (KeepsValue Same assembly assembly)
all-kept assembly (mention ∷ mentions) = All-cons (KeepsValue Same assembly assembly) mention mentions refl (all-kept assembly mentions)

same-itself : (assembly : Assembly) → SameBut Same assembly assembly
same-itself assembly = record {
  binary = refl;
  flags = refl;
  rows = refl;
  mentions = called-same (mentions_from 1 assembly.outcomes);
  values = all-kept assembly (mentions_from 1 assembly.outcomes);
}

-- a text without a change
pub spaced-itself : (text : List ℕ) → IsSpaced text text
spaced-itself text = record { lines = refl; assembly = same-itself (assembly_of (source_of_text text)) }

-- ---- lines

pub map-both : {A B C : Type 0} (f : B → C) (g : A → B) (list : List A) → map f (map g list) ≡ map (λ a. f (g a)) list
map-both f g [] = refl
map-both f g (a ∷ list) = ap (λ rest. f (g a) ∷ rest) (map-both f g list)

-- the same lines of texts that are kept as lines
pub same-lines : {A B C : Type 0} (f : B → C) (g : A → B) (was now : List A) (before after : List B) → map g was ≡ before → map g now ≡ after
    → map (λ a. f (g a)) now ≡ map (λ a. f (g a)) was → map f after ≡ map f before
same-lines f g was now before after was-is now-is same =
    sym (ap (map f) now-is) ∙ map-both f g now ∙ same ∙ sym (map-both f g was) ∙ ap (map f) was-is
