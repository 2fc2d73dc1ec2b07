-- A head has one of the versions, and a lemma is in range for the kinds.
use Rattle.std.specs.Prelude.{ℕ, ◌≡◌, Bool, true, false, List, Option, Some, None, Result, Ok, Err, IfOk, ◌++◌, codes}
use Rattle.std.proofs.Common.{refl, subst, sym, ◌∙◌}
use Rattle.row_state.specs.declared.kind.Kinds.{Kinds}
use Rattle.row_state.specs.Start.{AreSomeKinds}
use Rattle.log_lines.specs.Words.{is_word, words_in}
use Rattle.bound_log.specs.declared.fault.LogFault.{LogFault}
use Rattle.bound_log.specs.declared.fault.LogFault.TheVariants as fault
use Rattle.bound_log.specs.declared.item.LogItem.{LogItem}
use Rattle.bound_log.specs.declared.item.LogItem.TheVariants as item
use Rattle.bound_log.specs.declared.item.LogPlace.{LogPlace}
use Rattle.bound_log.specs.declared.item.LogPlace.TheVariants as place
use Rattle.bound_log.specs.declared.log.LogStep.{LogStep}
use Rattle.bound_log.specs.declared.log.Entry.{Entry}
use Rattle.bound_log.specs.declared.log.Ending.TheVariants as ending
use Rattle.bound_log.specs.declared.log.Entry.TheVariants as entry
use Rattle.bound_log.specs.declared.said.Said.{Said}
use Rattle.bound_log.specs.declared.log.Lemma.{Lemma}
use Rattle.bound_log.specs.Fits.{LemmaFits}
use Rattle.bound_log.specs.Line.{column_in, entry_in, version_in}
use Rattle.bound_log.specs.Pieces.{ItemFits, PlaceFits, SaidFits, column_says, columns_say, end_said, entry_said, entry_says, line_says, said_if, version_says}
use Rattle.bound_log.proofs.Only.{EntrySpelled, entry_spelled, err-ok, same_Ok}
use Rattle.bound_log.proofs.Versions.{version_spelled}

said_fits : (k : Kinds) (a b : Said) → SaidFits k a → ◌≡◌ {A = Result Said LogFault} (Ok a) (Ok b) → SaidFits k b
said_fits k a b fits same = subst (SaidFits k) (same_Ok a b same) fits

not_said : (k : Kinds) (f : LogFault) (said : Said) → ◌≡◌ {A = Result Said LogFault} (Err f) (Ok said) → SaidFits k said
not_said k f said h = absurd (err-ok f said h)

version_fits : (k : Kinds) (line : List ℕ) (o : Option ℕ) (said : Said) → version_in line ≡ o → version_says o ≡ Ok said → SaidFits k said
version_fits k line None said e h = not_said k fault.Version said h
version_fits k line (Some v) said e h = said_fits k (record { item = item.More; next = place.Cell v }) said (tt, (version_spelled line v e).1) h

if_fits : (k : Kinds) (b : Bool) (i : LogItem) (next : LogPlace) (f : LogFault) (said : Said) → ItemFits k i → PlaceFits next → said_if b i next f ≡ Ok said → SaidFits k said
if_fits k true i next f said fits place h = said_fits k (record { item = i; next = next }) said (fits, place) h
if_fits k false i next f said fits place h = not_said k f said h

lemma_fits : (k : Kinds) (words : List (List ℕ)) (lemma : Lemma) → EntrySpelled k words (entry.Lemma lemma) → LemmaFits k lemma
unfolding EntrySpelled
lemma_fits k words lemma spelled = spelled.1

entry_fits : (k : Kinds) (words : List (List ℕ)) (o : Option Entry) (f : LogFault) (said : Said) → AreSomeKinds k → entry_in k words ≡ o → entry_says o f ≡ Ok said → SaidFits k said
entry_fits k words None f said some e h = not_said k f said h
entry_fits k words (Some (entry.Lemma lemma)) f said some e h =
    said_fits k (entry_said (entry.Lemma lemma)) said (lemma_fits k words lemma (entry_spelled k words (entry.Lemma lemma) some e), tt) h
entry_fits k words (Some (entry.Ending (ending.Gaps gaps))) f said some e h = said_fits k (entry_said (entry.Ending (ending.Gaps gaps))) said (tt, tt) h
entry_fits k words (Some (entry.Ending ending.Open)) f said some e h = said_fits k (entry_said (entry.Ending ending.Open)) said (tt, tt) h

column_fits : (k : Kinds) (o : Option LogStep) (f : LogFault) (said : Said) → column_says o f ≡ Ok said → SaidFits k said
column_fits k None f said h = not_said k f said h
column_fits k (Some column) f said h = said_fits k (record { item = item.Column column; next = place.Columns }) said (tt, tt) h

columns_fit : (k : Kinds) (n : ℕ) (line : List ℕ) (said : Said) → columns_say k n line ≡ Ok said → SaidFits k said
columns_fit k n line said h = by_word (is_word line (codes "end")) refl
  where
    by_word : (end : Bool) → is_word line (codes "end") ≡ end → SaidFits k said
    by_word true e = said_fits k end_said said (tt, tt) (sym (rw e refl) ∙ h)
    by_word false e = column_fits k (column_in k (words_in line)) (fault.Line n) said (sym (rw e refl) ∙ h)

line_fits : (name : List ℕ) (k : Kinds) (p : LogPlace) (n : ℕ) (line : List ℕ) (said : Said) → AreSomeKinds k → PlaceFits p → line_says name k p n line ≡ Ok said → SaidFits k said
line_fits name k place.Version n line said some fits h = version_fits k line (version_in line) said refl h
line_fits name k (place.Cell v) n line said some fits h = if_fits k (is_word line (codes "cell " ++ name)) (item.Head v) place.Lemmas fault.Cell said fits tt h
line_fits name k place.Lemmas n line said some fits h = entry_fits k (words_in line) (entry_in k (words_in line)) (fault.Line n) said some refl h
line_fits name k place.Columns n line said some fits h = columns_fit k n line said h
line_fits name k place.End n line said some fits h = if_fits k (is_word line (codes "end")) item.End place.Behind (fault.Line n) said tt tt h
line_fits name k place.Behind n line said some fits h = not_said k (fault.Line n) said h

-- so does what a line says
pub says_fit : (name : List ℕ) (k : Kinds) (p : LogPlace) (n : ℕ) (line : List ℕ) (result : Result Said LogFault) → AreSomeKinds k → PlaceFits p → IfOk result (λ said. line_says name k p n line ≡ Ok said) → IfOk result (SaidFits k)
says_fit name k p n line (Ok said) some fits h = line_fits name k p n line said some fits h
says_fit name k p n line (Err f) some fits h = tt
