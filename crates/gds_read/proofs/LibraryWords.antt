-- The types of the records of a library are a word of the grammar.
use Rattle.std.proofs.Common.{ℕ, ◌≡◌, ◌+◌, ◌==◌, Bool, true, false, cond, not, List, [], ◌∷◌, length, Option, Some, None, Result, Ok, Err, refl, sym, subst}
use Rattle.gds_record.specs.declared.types.RecordType.{RecordType}
use Rattle.gds_record.specs.declared.types.RecordType.TheVariants as record_type
use Rattle.gds_record.specs.Types.{type_numbered, data_type_of, data_number_of}
use Rattle.gds_record.specs.Records.{Raw, Item, item}
use Rattle.gds_area.specs.declared.fault.GdsFault.{GdsFault}
use Rattle.gds_area.specs.declared.fault.GdsFault.TheVariants as fault
use Rattle.gds_read.specs.declared.grammar.Place.{Place}
use Rattle.gds_read.specs.declared.grammar.Place.TheVariants.{Start, Opened, Library, Naming, Structure, Element, Ended}
use Rattle.gds_read.specs.Real.{picometres_at}
use Rattle.gds_read.specs.Grammar.{is_allowed, follows, has_wrong_length, is_wrong_unit, with_unit, known_step, at_type}
use Rattle.gds_read.specs.Library.{Follows, IsLibrary}
use Rattle.gds_read.specs.Words.{Accepts, with_type, types_of, IsLibraryWord}
use Rattle.gds_read.proofs.Found.{parts_of}
use Rattle.gds_read.proofs.Words.{written_word}

passed_guard : (b : Bool) (f : GdsFault) (rest : Result Place GdsFault) (next : Place) → cond b (Err f) rest ≡ Ok next → (b ≡ false) × (rest ≡ Ok next)
passed_guard true f rest next e = absurd cc
passed_guard false f rest next e = (refl, e)

place_is : (x y : Place) → ◌≡◌ {A = Result Place GdsFault} (Ok x) (Ok y) → x ≡ y
place_is x y e = cc

not_false : (b : Bool) → not b ≡ false → b ≡ true
not_false true e = refl
not_false false e = absurd cc

behind_unit : (kind : RecordType) (i : Item) (place next : Place) → with_unit kind i place ≡ Ok next → place ≡ next
behind_unit record_type.Header i place next e = place_is place next e
behind_unit record_type.BgnLib i place next e = place_is place next e
behind_unit record_type.LibName i place next e = place_is place next e
behind_unit record_type.Units i place next e = place_is place next (passed_guard (is_wrong_unit (picometres_at i.content 8)) (fault.Unit (picometres_at i.content 8)) (Ok place) next e).1
behind_unit record_type.EndLib i place next e = place_is place next e
behind_unit record_type.BgnStr i place next e = place_is place next e
behind_unit record_type.StrName i place next e = place_is place next e
behind_unit record_type.EndStr i place next e = place_is place next e
behind_unit record_type.Boundary i place next e = place_is place next e
behind_unit record_type.Path i place next e = place_is place next e
behind_unit record_type.SRef i place next e = place_is place next e
behind_unit record_type.ARef i place next e = place_is place next e
behind_unit record_type.Text i place next e = place_is place next e
behind_unit record_type.Node i place next e = place_is place next e
behind_unit record_type.Box i place next e = place_is place next e
behind_unit record_type.Layer i place next e = place_is place next e
behind_unit record_type.DataType i place next e = place_is place next e
behind_unit record_type.Width i place next e = place_is place next e
behind_unit record_type.Xy i place next e = place_is place next e
behind_unit record_type.SName i place next e = place_is place next e
behind_unit record_type.ColRow i place next e = place_is place next e
behind_unit record_type.TextType i place next e = place_is place next e
behind_unit record_type.Presentation i place next e = place_is place next e
behind_unit record_type.StringText i place next e = place_is place next e
behind_unit record_type.STrans i place next e = place_is place next e
behind_unit record_type.Mag i place next e = place_is place next e
behind_unit record_type.Angle i place next e = place_is place next e
behind_unit record_type.PathType i place next e = place_is place next e
behind_unit record_type.PropAttr i place next e = place_is place next e
behind_unit record_type.PropValue i place next e = place_is place next e
behind_unit record_type.EndEl i place next e = place_is place next e

known_right : (place : Place) (i : Item) (kind : RecordType) (next : Place) → known_step place i kind ≡ Ok next → (is_allowed place kind ≡ true) × (follows place kind ≡ next)
known_right place i kind next e =
    let a = passed_guard (not (is_allowed place kind)) (fault.Order i.at i.code) _ next e in
    let b = passed_guard (not (i.form == data_number_of (data_type_of kind))) (fault.Kind i.at i.code) _ next a.1 in
    let c = passed_guard (has_wrong_length place kind (length i.content)) (fault.Length i.at) _ next b.1 in
    (not_false (is_allowed place kind) a.0, behind_unit kind i (follows place kind) next c.1)

known_word : (place : Place) (i : Item) (kind : RecordType) (next last : Place) (word : List RecordType) → known_step place i kind ≡ Ok next → Accepts next word last → Accepts place (kind ∷ word) last
known_word place i kind next last word e a = let k = known_right place i kind next e in (k.0, subst (λ (p : Place). Accepts p word last) (sym k.1) a)

one_step : (place : Place) (i : Item) (o : Option RecordType) (next last : Place) (word : List RecordType) → at_type place i o ≡ Ok next → Accepts next word last → Accepts place (with_type o word) last
one_step Start i None next last word e a = absurd cc
one_step Opened i None next last word e a = subst (λ (p : Place). Accepts p word last) (sym (place_is Opened next e)) a
one_step (Library named units structured) i None next last word e a = subst (λ (p : Place). Accepts p word last) (sym (place_is (Library named units structured) next e)) a
one_step Naming i None next last word e a = subst (λ (p : Place). Accepts p word last) (sym (place_is Naming next e)) a
one_step Structure i None next last word e a = subst (λ (p : Place). Accepts p word last) (sym (place_is Structure next e)) a
one_step (Element kind seen) i None next last word e a = subst (λ (p : Place). Accepts p word last) (sym (place_is (Element kind seen) next e)) a
one_step Ended i None next last word e a = subst (λ (p : Place). Accepts p word last) (sym (place_is Ended next e)) a
one_step Start i (Some kind) next last word e a = known_word Start i kind next last word e a
one_step Opened i (Some kind) next last word e a = known_word Opened i kind next last word e a
one_step (Library named units structured) i (Some kind) next last word e a = known_word (Library named units structured) i kind next last word e a
one_step Naming i (Some kind) next last word e a = known_word Naming i kind next last word e a
one_step Structure i (Some kind) next last word e a = known_word Structure i kind next last word e a
one_step (Element sort seen) i (Some kind) next last word e a = known_word (Element sort seen) i kind next last word e a
one_step Ended i (Some kind) next last word e a = known_word Ended i kind next last word e a

follows_word : (rs : List Raw) (at : ℕ) (place last : Place) → Follows at place rs last → Accepts place (types_of rs) last
follows_word [] at place last f = f
follows_word (r ∷ rs) at place last f =
    let p = parts_of at place last r rs f in
    one_step place (item at r) (type_numbered r.code) p.0 last (types_of rs) p.1 (follows_word rs (at + (length r.content + 4)) p.0 last p.2)

pub library_word : (bytes : List ℕ) (end : ℕ) (l : IsLibrary bytes end) → IsLibraryWord (types_of l.records)
library_word bytes end l = written_word (types_of l.records) (follows_word l.records 0 Start Ended l.follows)
