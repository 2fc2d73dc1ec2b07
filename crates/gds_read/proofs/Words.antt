-- The table of places accepts the words of the written grammar, and no others.
use Rattle.std.proofs.Common.{ℕ, suc, ◌≡◌, ◌+◌, ◌≤◌, ◌&&◌, not, Bool, true, false, List, [], ◌∷◌, ◌++◌, Option, Some, refl, sym, ap, subst, ◌∙◌, arith, append_assoc, inl, inr, ◌⊎◌}
use Rattle.std.specs.List.{AllByRecursion}
use Rattle.gds_record.specs.declared.types.RecordType.{RecordType}
use Rattle.gds_record.specs.declared.types.RecordType.TheVariants as record_type
use Rattle.gds_read.specs.declared.grammar.ElementKind.{ElementKind}
use Rattle.gds_read.specs.declared.grammar.ElementKind.TheVariants as element
use Rattle.gds_read.specs.declared.grammar.Seen.{Seen}
use Rattle.gds_read.specs.declared.grammar.Place.{Place}
use Rattle.gds_read.specs.declared.grammar.Place.TheVariants.{Start, Opened, Library, Naming, Structure, Element, Ended}
use Rattle.gds_read.specs.Grammar.{element_begun, nothing_seen, is_complete, is_allowed_inside, seen_with, is_allowed, follows}
use Rattle.gds_read.specs.Words.{is_content, count_of, HasParts, IsElement, in_a_row, IsStructure, IsHead, IsLibraryWord, Accepts}

abbrev one : Bool → ℕ
one true = 1
one false = 0

-- the parts of an element behind a place where some were seen
record ShapeFrom (seen : Seen) (inside : List RecordType) : Type 0 where
  pub layer : one seen.layer + count_of record_type.Layer inside ≡ 1
  pub xy : one seen.xy + count_of record_type.Xy inside ≡ 1
  pub width : one seen.width + count_of record_type.Width inside ≤ 1
  pub path_type : one seen.path_type + count_of record_type.PathType inside ≤ 1

record TextFrom (seen : Seen) (inside : List RecordType) : Type 0 where
  pub layer : one seen.layer + count_of record_type.Layer inside ≡ 1
  pub xy : one seen.xy + count_of record_type.Xy inside ≡ 1
  pub string : one seen.string + count_of record_type.StringText inside ≡ 1

abbrev PartsFrom : ElementKind → Seen → List RecordType → Type 0
PartsFrom element.Boundary seen inside = ShapeFrom seen inside
PartsFrom element.Path seen inside = ShapeFrom seen inside
PartsFrom element.Text seen inside = TextFrom seen inside
PartsFrom element.Other seen inside = Unit {0}

parts_of_all : (kind : ElementKind) (inside : List RecordType) → PartsFrom kind nothing_seen inside → HasParts kind inside
parts_of_all element.Boundary inside p = record { layer = omega (arith, p.layer); xy = omega (arith, p.xy); width = omega (arith, p.width); path_type = omega (arith, p.path_type) }
parts_of_all element.Path inside p = record { layer = omega (arith, p.layer); xy = omega (arith, p.xy); width = omega (arith, p.width); path_type = omega (arith, p.path_type) }
parts_of_all element.Text inside p = record { layer = omega (arith, p.layer); xy = omega (arith, p.xy); string = omega (arith, p.string) }
parts_of_all element.Other inside p = tt

all_of_parts : (kind : ElementKind) (inside : List RecordType) → HasParts kind inside → PartsFrom kind nothing_seen inside
all_of_parts element.Boundary inside p = record { layer = omega (arith, p.layer); xy = omega (arith, p.xy); width = omega (arith, p.width); path_type = omega (arith, p.path_type) }
all_of_parts element.Path inside p = record { layer = omega (arith, p.layer); xy = omega (arith, p.xy); width = omega (arith, p.width); path_type = omega (arith, p.path_type) }
all_of_parts element.Text inside p = record { layer = omega (arith, p.layer); xy = omega (arith, p.xy); string = omega (arith, p.string) }
all_of_parts element.Other inside p = tt

false_true : false ≡ true → ⊥
false_true e = absurd cc

-- a flag that is not set yet, and one that must be
unset : (b : Bool) (n : ℕ) → not b ≡ true → one true + n ≡ 1 → one b + suc n ≡ 1
unset true n e h = absurd (false_true e)
unset false n e h = omega (arith, h)

unset_le : (b : Bool) (n : ℕ) → not b ≡ true → one true + n ≤ 1 → one b + suc n ≤ 1
unset_le true n e h = absurd (false_true e)
unset_le false n e h = omega (arith, h)

set : (b : Bool) (n : ℕ) → one b + suc n ≡ 1 → (not b ≡ true) × (one true + n ≡ 1)
set true n h = absurd (omega (arith, h))
set false n h = (refl, omega (arith, h))

set_le : (b : Bool) (n : ℕ) → one b + suc n ≤ 1 → (not b ≡ true) × (one true + n ≤ 1)
set_le true n h = absurd (omega (arith, h))
set_le false n h = (refl, omega (arith, h))

is_set : (b : Bool) → one b + 0 ≡ 1 → b ≡ true
is_set true h = refl
is_set false h = absurd (omega (arith, h))

one_set : (b : Bool) → b ≡ true → one b + 0 ≡ 1
one_set true e = refl
one_set false e = absurd (false_true e)

one_le : (b : Bool) → one b + 0 ≤ 1
one_le true = omega arith
one_le false = omega arith

both_set : (a b : Bool) → a ≡ true → b ≡ true → (a && b) ≡ true
both_set true b e f = f
both_set false b e f = absurd (false_true e)

set_both : (a b : Bool) → (a && b) ≡ true → (a ≡ true) × (b ≡ true)
set_both true b e = (refl, e)
set_both false b e = absurd (false_true e)

complete_of : (kind : ElementKind) (seen : Seen) → PartsFrom kind seen [] → is_complete kind seen ≡ true
complete_of element.Boundary seen p = both_set seen.layer seen.xy (is_set seen.layer p.layer) (is_set seen.xy p.xy)
complete_of element.Path seen p = both_set seen.layer seen.xy (is_set seen.layer p.layer) (is_set seen.xy p.xy)
complete_of element.Text seen p = both_set seen.layer (seen.xy && seen.string) (is_set seen.layer p.layer) (both_set seen.xy seen.string (is_set seen.xy p.xy) (is_set seen.string p.string))
complete_of element.Other seen p = refl

of_complete : (kind : ElementKind) (seen : Seen) → is_complete kind seen ≡ true → PartsFrom kind seen []
of_complete element.Boundary seen e = let p = set_both seen.layer seen.xy e in record { layer = one_set seen.layer p.0; xy = one_set seen.xy p.1; width = one_le seen.width; path_type = one_le seen.path_type }
of_complete element.Path seen e = let p = set_both seen.layer seen.xy e in record { layer = one_set seen.layer p.0; xy = one_set seen.xy p.1; width = one_le seen.width; path_type = one_le seen.path_type }
of_complete element.Text seen e =
    let p = set_both seen.layer (seen.xy && seen.string) e in
    let q = set_both seen.xy seen.string p.1 in
    record { layer = one_set seen.layer p.0; xy = one_set seen.xy q.0; string = one_set seen.string q.1 }
of_complete element.Other seen e = tt

-- a content in front, and one taken away
more_parts : (kind : ElementKind) (k : RecordType) (seen : Seen) (inside : List RecordType) → is_content k ≡ true → is_allowed_inside kind seen k ≡ true → PartsFrom kind (seen_with seen k) inside → PartsFrom kind seen (k ∷ inside)
more_parts element.Boundary record_type.Header seen inside c e p = absurd (false_true c)
more_parts element.Boundary record_type.BgnLib seen inside c e p = absurd (false_true c)
more_parts element.Boundary record_type.LibName seen inside c e p = absurd (false_true c)
more_parts element.Boundary record_type.Units seen inside c e p = absurd (false_true c)
more_parts element.Boundary record_type.EndLib seen inside c e p = absurd (false_true c)
more_parts element.Boundary record_type.BgnStr seen inside c e p = absurd (false_true c)
more_parts element.Boundary record_type.StrName seen inside c e p = absurd (false_true c)
more_parts element.Boundary record_type.EndStr seen inside c e p = absurd (false_true c)
more_parts element.Boundary record_type.Boundary seen inside c e p = absurd (false_true c)
more_parts element.Boundary record_type.Path seen inside c e p = absurd (false_true c)
more_parts element.Boundary record_type.SRef seen inside c e p = absurd (false_true c)
more_parts element.Boundary record_type.ARef seen inside c e p = absurd (false_true c)
more_parts element.Boundary record_type.Text seen inside c e p = absurd (false_true c)
more_parts element.Boundary record_type.Node seen inside c e p = absurd (false_true c)
more_parts element.Boundary record_type.Box seen inside c e p = absurd (false_true c)
more_parts element.Boundary record_type.Layer seen inside c e p = record { layer = unset seen.layer (count_of record_type.Layer inside) e p.layer; xy = p.xy; width = p.width; path_type = p.path_type }
more_parts element.Boundary record_type.DataType seen inside c e p = record { layer = p.layer; xy = p.xy; width = p.width; path_type = p.path_type }
more_parts element.Boundary record_type.Width seen inside c e p = record { layer = p.layer; xy = p.xy; width = unset_le seen.width (count_of record_type.Width inside) e p.width; path_type = p.path_type }
more_parts element.Boundary record_type.Xy seen inside c e p = record { layer = p.layer; xy = unset seen.xy (count_of record_type.Xy inside) e p.xy; width = p.width; path_type = p.path_type }
more_parts element.Boundary record_type.SName seen inside c e p = record { layer = p.layer; xy = p.xy; width = p.width; path_type = p.path_type }
more_parts element.Boundary record_type.ColRow seen inside c e p = record { layer = p.layer; xy = p.xy; width = p.width; path_type = p.path_type }
more_parts element.Boundary record_type.TextType seen inside c e p = record { layer = p.layer; xy = p.xy; width = p.width; path_type = p.path_type }
more_parts element.Boundary record_type.Presentation seen inside c e p = record { layer = p.layer; xy = p.xy; width = p.width; path_type = p.path_type }
more_parts element.Boundary record_type.StringText seen inside c e p = record { layer = p.layer; xy = p.xy; width = p.width; path_type = p.path_type }
more_parts element.Boundary record_type.STrans seen inside c e p = record { layer = p.layer; xy = p.xy; width = p.width; path_type = p.path_type }
more_parts element.Boundary record_type.Mag seen inside c e p = record { layer = p.layer; xy = p.xy; width = p.width; path_type = p.path_type }
more_parts element.Boundary record_type.Angle seen inside c e p = record { layer = p.layer; xy = p.xy; width = p.width; path_type = p.path_type }
more_parts element.Boundary record_type.PathType seen inside c e p = record { layer = p.layer; xy = p.xy; width = p.width; path_type = unset_le seen.path_type (count_of record_type.PathType inside) e p.path_type }
more_parts element.Boundary record_type.PropAttr seen inside c e p = record { layer = p.layer; xy = p.xy; width = p.width; path_type = p.path_type }
more_parts element.Boundary record_type.PropValue seen inside c e p = record { layer = p.layer; xy = p.xy; width = p.width; path_type = p.path_type }
more_parts element.Boundary record_type.EndEl seen inside c e p = absurd (false_true c)
more_parts element.Path record_type.Header seen inside c e p = absurd (false_true c)
more_parts element.Path record_type.BgnLib seen inside c e p = absurd (false_true c)
more_parts element.Path record_type.LibName seen inside c e p = absurd (false_true c)
more_parts element.Path record_type.Units seen inside c e p = absurd (false_true c)
more_parts element.Path record_type.EndLib seen inside c e p = absurd (false_true c)
more_parts element.Path record_type.BgnStr seen inside c e p = absurd (false_true c)
more_parts element.Path record_type.StrName seen inside c e p = absurd (false_true c)
more_parts element.Path record_type.EndStr seen inside c e p = absurd (false_true c)
more_parts element.Path record_type.Boundary seen inside c e p = absurd (false_true c)
more_parts element.Path record_type.Path seen inside c e p = absurd (false_true c)
more_parts element.Path record_type.SRef seen inside c e p = absurd (false_true c)
more_parts element.Path record_type.ARef seen inside c e p = absurd (false_true c)
more_parts element.Path record_type.Text seen inside c e p = absurd (false_true c)
more_parts element.Path record_type.Node seen inside c e p = absurd (false_true c)
more_parts element.Path record_type.Box seen inside c e p = absurd (false_true c)
more_parts element.Path record_type.Layer seen inside c e p = record { layer = unset seen.layer (count_of record_type.Layer inside) e p.layer; xy = p.xy; width = p.width; path_type = p.path_type }
more_parts element.Path record_type.DataType seen inside c e p = record { layer = p.layer; xy = p.xy; width = p.width; path_type = p.path_type }
more_parts element.Path record_type.Width seen inside c e p = record { layer = p.layer; xy = p.xy; width = unset_le seen.width (count_of record_type.Width inside) e p.width; path_type = p.path_type }
more_parts element.Path record_type.Xy seen inside c e p = record { layer = p.layer; xy = unset seen.xy (count_of record_type.Xy inside) e p.xy; width = p.width; path_type = p.path_type }
more_parts element.Path record_type.SName seen inside c e p = record { layer = p.layer; xy = p.xy; width = p.width; path_type = p.path_type }
more_parts element.Path record_type.ColRow seen inside c e p = record { layer = p.layer; xy = p.xy; width = p.width; path_type = p.path_type }
more_parts element.Path record_type.TextType seen inside c e p = record { layer = p.layer; xy = p.xy; width = p.width; path_type = p.path_type }
more_parts element.Path record_type.Presentation seen inside c e p = record { layer = p.layer; xy = p.xy; width = p.width; path_type = p.path_type }
more_parts element.Path record_type.StringText seen inside c e p = record { layer = p.layer; xy = p.xy; width = p.width; path_type = p.path_type }
more_parts element.Path record_type.STrans seen inside c e p = record { layer = p.layer; xy = p.xy; width = p.width; path_type = p.path_type }
more_parts element.Path record_type.Mag seen inside c e p = record { layer = p.layer; xy = p.xy; width = p.width; path_type = p.path_type }
more_parts element.Path record_type.Angle seen inside c e p = record { layer = p.layer; xy = p.xy; width = p.width; path_type = p.path_type }
more_parts element.Path record_type.PathType seen inside c e p = record { layer = p.layer; xy = p.xy; width = p.width; path_type = unset_le seen.path_type (count_of record_type.PathType inside) e p.path_type }
more_parts element.Path record_type.PropAttr seen inside c e p = record { layer = p.layer; xy = p.xy; width = p.width; path_type = p.path_type }
more_parts element.Path record_type.PropValue seen inside c e p = record { layer = p.layer; xy = p.xy; width = p.width; path_type = p.path_type }
more_parts element.Path record_type.EndEl seen inside c e p = absurd (false_true c)
more_parts element.Text record_type.Header seen inside c e p = absurd (false_true c)
more_parts element.Text record_type.BgnLib seen inside c e p = absurd (false_true c)
more_parts element.Text record_type.LibName seen inside c e p = absurd (false_true c)
more_parts element.Text record_type.Units seen inside c e p = absurd (false_true c)
more_parts element.Text record_type.EndLib seen inside c e p = absurd (false_true c)
more_parts element.Text record_type.BgnStr seen inside c e p = absurd (false_true c)
more_parts element.Text record_type.StrName seen inside c e p = absurd (false_true c)
more_parts element.Text record_type.EndStr seen inside c e p = absurd (false_true c)
more_parts element.Text record_type.Boundary seen inside c e p = absurd (false_true c)
more_parts element.Text record_type.Path seen inside c e p = absurd (false_true c)
more_parts element.Text record_type.SRef seen inside c e p = absurd (false_true c)
more_parts element.Text record_type.ARef seen inside c e p = absurd (false_true c)
more_parts element.Text record_type.Text seen inside c e p = absurd (false_true c)
more_parts element.Text record_type.Node seen inside c e p = absurd (false_true c)
more_parts element.Text record_type.Box seen inside c e p = absurd (false_true c)
more_parts element.Text record_type.Layer seen inside c e p = record { layer = unset seen.layer (count_of record_type.Layer inside) e p.layer; xy = p.xy; string = p.string }
more_parts element.Text record_type.DataType seen inside c e p = record { layer = p.layer; xy = p.xy; string = p.string }
more_parts element.Text record_type.Width seen inside c e p = record { layer = p.layer; xy = p.xy; string = p.string }
more_parts element.Text record_type.Xy seen inside c e p = record { layer = p.layer; xy = unset seen.xy (count_of record_type.Xy inside) e p.xy; string = p.string }
more_parts element.Text record_type.SName seen inside c e p = record { layer = p.layer; xy = p.xy; string = p.string }
more_parts element.Text record_type.ColRow seen inside c e p = record { layer = p.layer; xy = p.xy; string = p.string }
more_parts element.Text record_type.TextType seen inside c e p = record { layer = p.layer; xy = p.xy; string = p.string }
more_parts element.Text record_type.Presentation seen inside c e p = record { layer = p.layer; xy = p.xy; string = p.string }
more_parts element.Text record_type.StringText seen inside c e p = record { layer = p.layer; xy = p.xy; string = unset seen.string (count_of record_type.StringText inside) e p.string }
more_parts element.Text record_type.STrans seen inside c e p = record { layer = p.layer; xy = p.xy; string = p.string }
more_parts element.Text record_type.Mag seen inside c e p = record { layer = p.layer; xy = p.xy; string = p.string }
more_parts element.Text record_type.Angle seen inside c e p = record { layer = p.layer; xy = p.xy; string = p.string }
more_parts element.Text record_type.PathType seen inside c e p = record { layer = p.layer; xy = p.xy; string = p.string }
more_parts element.Text record_type.PropAttr seen inside c e p = record { layer = p.layer; xy = p.xy; string = p.string }
more_parts element.Text record_type.PropValue seen inside c e p = record { layer = p.layer; xy = p.xy; string = p.string }
more_parts element.Text record_type.EndEl seen inside c e p = absurd (false_true c)
more_parts element.Other record_type.Header seen inside c e p = absurd (false_true c)
more_parts element.Other record_type.BgnLib seen inside c e p = absurd (false_true c)
more_parts element.Other record_type.LibName seen inside c e p = absurd (false_true c)
more_parts element.Other record_type.Units seen inside c e p = absurd (false_true c)
more_parts element.Other record_type.EndLib seen inside c e p = absurd (false_true c)
more_parts element.Other record_type.BgnStr seen inside c e p = absurd (false_true c)
more_parts element.Other record_type.StrName seen inside c e p = absurd (false_true c)
more_parts element.Other record_type.EndStr seen inside c e p = absurd (false_true c)
more_parts element.Other record_type.Boundary seen inside c e p = absurd (false_true c)
more_parts element.Other record_type.Path seen inside c e p = absurd (false_true c)
more_parts element.Other record_type.SRef seen inside c e p = absurd (false_true c)
more_parts element.Other record_type.ARef seen inside c e p = absurd (false_true c)
more_parts element.Other record_type.Text seen inside c e p = absurd (false_true c)
more_parts element.Other record_type.Node seen inside c e p = absurd (false_true c)
more_parts element.Other record_type.Box seen inside c e p = absurd (false_true c)
more_parts element.Other record_type.Layer seen inside c e p = tt
more_parts element.Other record_type.DataType seen inside c e p = tt
more_parts element.Other record_type.Width seen inside c e p = tt
more_parts element.Other record_type.Xy seen inside c e p = tt
more_parts element.Other record_type.SName seen inside c e p = tt
more_parts element.Other record_type.ColRow seen inside c e p = tt
more_parts element.Other record_type.TextType seen inside c e p = tt
more_parts element.Other record_type.Presentation seen inside c e p = tt
more_parts element.Other record_type.StringText seen inside c e p = tt
more_parts element.Other record_type.STrans seen inside c e p = tt
more_parts element.Other record_type.Mag seen inside c e p = tt
more_parts element.Other record_type.Angle seen inside c e p = tt
more_parts element.Other record_type.PathType seen inside c e p = tt
more_parts element.Other record_type.PropAttr seen inside c e p = tt
more_parts element.Other record_type.PropValue seen inside c e p = tt
more_parts element.Other record_type.EndEl seen inside c e p = absurd (false_true c)

fewer_parts : (kind : ElementKind) (k : RecordType) (seen : Seen) (inside : List RecordType) → is_content k ≡ true → PartsFrom kind seen (k ∷ inside) → (is_allowed_inside kind seen k ≡ true) × PartsFrom kind (seen_with seen k) inside
fewer_parts element.Boundary record_type.Header seen inside c p = absurd (false_true c)
fewer_parts element.Boundary record_type.BgnLib seen inside c p = absurd (false_true c)
fewer_parts element.Boundary record_type.LibName seen inside c p = absurd (false_true c)
fewer_parts element.Boundary record_type.Units seen inside c p = absurd (false_true c)
fewer_parts element.Boundary record_type.EndLib seen inside c p = absurd (false_true c)
fewer_parts element.Boundary record_type.BgnStr seen inside c p = absurd (false_true c)
fewer_parts element.Boundary record_type.StrName seen inside c p = absurd (false_true c)
fewer_parts element.Boundary record_type.EndStr seen inside c p = absurd (false_true c)
fewer_parts element.Boundary record_type.Boundary seen inside c p = absurd (false_true c)
fewer_parts element.Boundary record_type.Path seen inside c p = absurd (false_true c)
fewer_parts element.Boundary record_type.SRef seen inside c p = absurd (false_true c)
fewer_parts element.Boundary record_type.ARef seen inside c p = absurd (false_true c)
fewer_parts element.Boundary record_type.Text seen inside c p = absurd (false_true c)
fewer_parts element.Boundary record_type.Node seen inside c p = absurd (false_true c)
fewer_parts element.Boundary record_type.Box seen inside c p = absurd (false_true c)
fewer_parts element.Boundary record_type.Layer seen inside c p = ((set seen.layer (count_of record_type.Layer inside) p.layer).0, record { layer = (set seen.layer (count_of record_type.Layer inside) p.layer).1; xy = p.xy; width = p.width; path_type = p.path_type })
fewer_parts element.Boundary record_type.DataType seen inside c p = (refl, record { layer = p.layer; xy = p.xy; width = p.width; path_type = p.path_type })
fewer_parts element.Boundary record_type.Width seen inside c p = ((set_le seen.width (count_of record_type.Width inside) p.width).0, record { layer = p.layer; xy = p.xy; width = (set_le seen.width (count_of record_type.Width inside) p.width).1; path_type = p.path_type })
fewer_parts element.Boundary record_type.Xy seen inside c p = ((set seen.xy (count_of record_type.Xy inside) p.xy).0, record { layer = p.layer; xy = (set seen.xy (count_of record_type.Xy inside) p.xy).1; width = p.width; path_type = p.path_type })
fewer_parts element.Boundary record_type.SName seen inside c p = (refl, record { layer = p.layer; xy = p.xy; width = p.width; path_type = p.path_type })
fewer_parts element.Boundary record_type.ColRow seen inside c p = (refl, record { layer = p.layer; xy = p.xy; width = p.width; path_type = p.path_type })
fewer_parts element.Boundary record_type.TextType seen inside c p = (refl, record { layer = p.layer; xy = p.xy; width = p.width; path_type = p.path_type })
fewer_parts element.Boundary record_type.Presentation seen inside c p = (refl, record { layer = p.layer; xy = p.xy; width = p.width; path_type = p.path_type })
fewer_parts element.Boundary record_type.StringText seen inside c p = (refl, record { layer = p.layer; xy = p.xy; width = p.width; path_type = p.path_type })
fewer_parts element.Boundary record_type.STrans seen inside c p = (refl, record { layer = p.layer; xy = p.xy; width = p.width; path_type = p.path_type })
fewer_parts element.Boundary record_type.Mag seen inside c p = (refl, record { layer = p.layer; xy = p.xy; width = p.width; path_type = p.path_type })
fewer_parts element.Boundary record_type.Angle seen inside c p = (refl, record { layer = p.layer; xy = p.xy; width = p.width; path_type = p.path_type })
fewer_parts element.Boundary record_type.PathType seen inside c p = ((set_le seen.path_type (count_of record_type.PathType inside) p.path_type).0, record { layer = p.layer; xy = p.xy; width = p.width; path_type = (set_le seen.path_type (count_of record_type.PathType inside) p.path_type).1 })
fewer_parts element.Boundary record_type.PropAttr seen inside c p = (refl, record { layer = p.layer; xy = p.xy; width = p.width; path_type = p.path_type })
fewer_parts element.Boundary record_type.PropValue seen inside c p = (refl, record { layer = p.layer; xy = p.xy; width = p.width; path_type = p.path_type })
fewer_parts element.Boundary record_type.EndEl seen inside c p = absurd (false_true c)
fewer_parts element.Path record_type.Header seen inside c p = absurd (false_true c)
fewer_parts element.Path record_type.BgnLib seen inside c p = absurd (false_true c)
fewer_parts element.Path record_type.LibName seen inside c p = absurd (false_true c)
fewer_parts element.Path record_type.Units seen inside c p = absurd (false_true c)
fewer_parts element.Path record_type.EndLib seen inside c p = absurd (false_true c)
fewer_parts element.Path record_type.BgnStr seen inside c p = absurd (false_true c)
fewer_parts element.Path record_type.StrName seen inside c p = absurd (false_true c)
fewer_parts element.Path record_type.EndStr seen inside c p = absurd (false_true c)
fewer_parts element.Path record_type.Boundary seen inside c p = absurd (false_true c)
fewer_parts element.Path record_type.Path seen inside c p = absurd (false_true c)
fewer_parts element.Path record_type.SRef seen inside c p = absurd (false_true c)
fewer_parts element.Path record_type.ARef seen inside c p = absurd (false_true c)
fewer_parts element.Path record_type.Text seen inside c p = absurd (false_true c)
fewer_parts element.Path record_type.Node seen inside c p = absurd (false_true c)
fewer_parts element.Path record_type.Box seen inside c p = absurd (false_true c)
fewer_parts element.Path record_type.Layer seen inside c p = ((set seen.layer (count_of record_type.Layer inside) p.layer).0, record { layer = (set seen.layer (count_of record_type.Layer inside) p.layer).1; xy = p.xy; width = p.width; path_type = p.path_type })
fewer_parts element.Path record_type.DataType seen inside c p = (refl, record { layer = p.layer; xy = p.xy; width = p.width; path_type = p.path_type })
fewer_parts element.Path record_type.Width seen inside c p = ((set_le seen.width (count_of record_type.Width inside) p.width).0, record { layer = p.layer; xy = p.xy; width = (set_le seen.width (count_of record_type.Width inside) p.width).1; path_type = p.path_type })
fewer_parts element.Path record_type.Xy seen inside c p = ((set seen.xy (count_of record_type.Xy inside) p.xy).0, record { layer = p.layer; xy = (set seen.xy (count_of record_type.Xy inside) p.xy).1; width = p.width; path_type = p.path_type })
fewer_parts element.Path record_type.SName seen inside c p = (refl, record { layer = p.layer; xy = p.xy; width = p.width; path_type = p.path_type })
fewer_parts element.Path record_type.ColRow seen inside c p = (refl, record { layer = p.layer; xy = p.xy; width = p.width; path_type = p.path_type })
fewer_parts element.Path record_type.TextType seen inside c p = (refl, record { layer = p.layer; xy = p.xy; width = p.width; path_type = p.path_type })
fewer_parts element.Path record_type.Presentation seen inside c p = (refl, record { layer = p.layer; xy = p.xy; width = p.width; path_type = p.path_type })
fewer_parts element.Path record_type.StringText seen inside c p = (refl, record { layer = p.layer; xy = p.xy; width = p.width; path_type = p.path_type })
fewer_parts element.Path record_type.STrans seen inside c p = (refl, record { layer = p.layer; xy = p.xy; width = p.width; path_type = p.path_type })
fewer_parts element.Path record_type.Mag seen inside c p = (refl, record { layer = p.layer; xy = p.xy; width = p.width; path_type = p.path_type })
fewer_parts element.Path record_type.Angle seen inside c p = (refl, record { layer = p.layer; xy = p.xy; width = p.width; path_type = p.path_type })
fewer_parts element.Path record_type.PathType seen inside c p = ((set_le seen.path_type (count_of record_type.PathType inside) p.path_type).0, record { layer = p.layer; xy = p.xy; width = p.width; path_type = (set_le seen.path_type (count_of record_type.PathType inside) p.path_type).1 })
fewer_parts element.Path record_type.PropAttr seen inside c p = (refl, record { layer = p.layer; xy = p.xy; width = p.width; path_type = p.path_type })
fewer_parts element.Path record_type.PropValue seen inside c p = (refl, record { layer = p.layer; xy = p.xy; width = p.width; path_type = p.path_type })
fewer_parts element.Path record_type.EndEl seen inside c p = absurd (false_true c)
fewer_parts element.Text record_type.Header seen inside c p = absurd (false_true c)
fewer_parts element.Text record_type.BgnLib seen inside c p = absurd (false_true c)
fewer_parts element.Text record_type.LibName seen inside c p = absurd (false_true c)
fewer_parts element.Text record_type.Units seen inside c p = absurd (false_true c)
fewer_parts element.Text record_type.EndLib seen inside c p = absurd (false_true c)
fewer_parts element.Text record_type.BgnStr seen inside c p = absurd (false_true c)
fewer_parts element.Text record_type.StrName seen inside c p = absurd (false_true c)
fewer_parts element.Text record_type.EndStr seen inside c p = absurd (false_true c)
fewer_parts element.Text record_type.Boundary seen inside c p = absurd (false_true c)
fewer_parts element.Text record_type.Path seen inside c p = absurd (false_true c)
fewer_parts element.Text record_type.SRef seen inside c p = absurd (false_true c)
fewer_parts element.Text record_type.ARef seen inside c p = absurd (false_true c)
fewer_parts element.Text record_type.Text seen inside c p = absurd (false_true c)
fewer_parts element.Text record_type.Node seen inside c p = absurd (false_true c)
fewer_parts element.Text record_type.Box seen inside c p = absurd (false_true c)
fewer_parts element.Text record_type.Layer seen inside c p = ((set seen.layer (count_of record_type.Layer inside) p.layer).0, record { layer = (set seen.layer (count_of record_type.Layer inside) p.layer).1; xy = p.xy; string = p.string })
fewer_parts element.Text record_type.DataType seen inside c p = (refl, record { layer = p.layer; xy = p.xy; string = p.string })
fewer_parts element.Text record_type.Width seen inside c p = (refl, record { layer = p.layer; xy = p.xy; string = p.string })
fewer_parts element.Text record_type.Xy seen inside c p = ((set seen.xy (count_of record_type.Xy inside) p.xy).0, record { layer = p.layer; xy = (set seen.xy (count_of record_type.Xy inside) p.xy).1; string = p.string })
fewer_parts element.Text record_type.SName seen inside c p = (refl, record { layer = p.layer; xy = p.xy; string = p.string })
fewer_parts element.Text record_type.ColRow seen inside c p = (refl, record { layer = p.layer; xy = p.xy; string = p.string })
fewer_parts element.Text record_type.TextType seen inside c p = (refl, record { layer = p.layer; xy = p.xy; string = p.string })
fewer_parts element.Text record_type.Presentation seen inside c p = (refl, record { layer = p.layer; xy = p.xy; string = p.string })
fewer_parts element.Text record_type.StringText seen inside c p = ((set seen.string (count_of record_type.StringText inside) p.string).0, record { layer = p.layer; xy = p.xy; string = (set seen.string (count_of record_type.StringText inside) p.string).1 })
fewer_parts element.Text record_type.STrans seen inside c p = (refl, record { layer = p.layer; xy = p.xy; string = p.string })
fewer_parts element.Text record_type.Mag seen inside c p = (refl, record { layer = p.layer; xy = p.xy; string = p.string })
fewer_parts element.Text record_type.Angle seen inside c p = (refl, record { layer = p.layer; xy = p.xy; string = p.string })
fewer_parts element.Text record_type.PathType seen inside c p = (refl, record { layer = p.layer; xy = p.xy; string = p.string })
fewer_parts element.Text record_type.PropAttr seen inside c p = (refl, record { layer = p.layer; xy = p.xy; string = p.string })
fewer_parts element.Text record_type.PropValue seen inside c p = (refl, record { layer = p.layer; xy = p.xy; string = p.string })
fewer_parts element.Text record_type.EndEl seen inside c p = absurd (false_true c)
fewer_parts element.Other record_type.Header seen inside c p = absurd (false_true c)
fewer_parts element.Other record_type.BgnLib seen inside c p = absurd (false_true c)
fewer_parts element.Other record_type.LibName seen inside c p = absurd (false_true c)
fewer_parts element.Other record_type.Units seen inside c p = absurd (false_true c)
fewer_parts element.Other record_type.EndLib seen inside c p = absurd (false_true c)
fewer_parts element.Other record_type.BgnStr seen inside c p = absurd (false_true c)
fewer_parts element.Other record_type.StrName seen inside c p = absurd (false_true c)
fewer_parts element.Other record_type.EndStr seen inside c p = absurd (false_true c)
fewer_parts element.Other record_type.Boundary seen inside c p = absurd (false_true c)
fewer_parts element.Other record_type.Path seen inside c p = absurd (false_true c)
fewer_parts element.Other record_type.SRef seen inside c p = absurd (false_true c)
fewer_parts element.Other record_type.ARef seen inside c p = absurd (false_true c)
fewer_parts element.Other record_type.Text seen inside c p = absurd (false_true c)
fewer_parts element.Other record_type.Node seen inside c p = absurd (false_true c)
fewer_parts element.Other record_type.Box seen inside c p = absurd (false_true c)
fewer_parts element.Other record_type.Layer seen inside c p = (refl, tt)
fewer_parts element.Other record_type.DataType seen inside c p = (refl, tt)
fewer_parts element.Other record_type.Width seen inside c p = (refl, tt)
fewer_parts element.Other record_type.Xy seen inside c p = (refl, tt)
fewer_parts element.Other record_type.SName seen inside c p = (refl, tt)
fewer_parts element.Other record_type.ColRow seen inside c p = (refl, tt)
fewer_parts element.Other record_type.TextType seen inside c p = (refl, tt)
fewer_parts element.Other record_type.Presentation seen inside c p = (refl, tt)
fewer_parts element.Other record_type.StringText seen inside c p = (refl, tt)
fewer_parts element.Other record_type.STrans seen inside c p = (refl, tt)
fewer_parts element.Other record_type.Mag seen inside c p = (refl, tt)
fewer_parts element.Other record_type.Angle seen inside c p = (refl, tt)
fewer_parts element.Other record_type.PathType seen inside c p = (refl, tt)
fewer_parts element.Other record_type.PropAttr seen inside c p = (refl, tt)
fewer_parts element.Other record_type.PropValue seen inside c p = (refl, tt)
fewer_parts element.Other record_type.EndEl seen inside c p = absurd (false_true c)

stays_inside : (kind : ElementKind) (seen : Seen) (k : RecordType) → is_content k ≡ true → follows (Element kind seen) k ≡ Element kind (seen_with seen k)
stays_inside kind seen record_type.Header c = absurd (false_true c)
stays_inside kind seen record_type.BgnLib c = absurd (false_true c)
stays_inside kind seen record_type.LibName c = absurd (false_true c)
stays_inside kind seen record_type.Units c = absurd (false_true c)
stays_inside kind seen record_type.EndLib c = absurd (false_true c)
stays_inside kind seen record_type.BgnStr c = absurd (false_true c)
stays_inside kind seen record_type.StrName c = absurd (false_true c)
stays_inside kind seen record_type.EndStr c = absurd (false_true c)
stays_inside kind seen record_type.Boundary c = absurd (false_true c)
stays_inside kind seen record_type.Path c = absurd (false_true c)
stays_inside kind seen record_type.SRef c = absurd (false_true c)
stays_inside kind seen record_type.ARef c = absurd (false_true c)
stays_inside kind seen record_type.Text c = absurd (false_true c)
stays_inside kind seen record_type.Node c = absurd (false_true c)
stays_inside kind seen record_type.Box c = absurd (false_true c)
stays_inside kind seen record_type.Layer c = refl
stays_inside kind seen record_type.DataType c = refl
stays_inside kind seen record_type.Width c = refl
stays_inside kind seen record_type.Xy c = refl
stays_inside kind seen record_type.SName c = refl
stays_inside kind seen record_type.ColRow c = refl
stays_inside kind seen record_type.TextType c = refl
stays_inside kind seen record_type.Presentation c = refl
stays_inside kind seen record_type.StringText c = refl
stays_inside kind seen record_type.STrans c = refl
stays_inside kind seen record_type.Mag c = refl
stays_inside kind seen record_type.Angle c = refl
stays_inside kind seen record_type.PathType c = refl
stays_inside kind seen record_type.PropAttr c = refl
stays_inside kind seen record_type.PropValue c = refl
stays_inside kind seen record_type.EndEl c = absurd (false_true c)

-- ---- what may stand behind a place

record InStructure (word : List RecordType) : Type 0 where
  pub elements : List (List RecordType)
  pub structures : List (List RecordType)
  pub each : AllByRecursion IsElement elements
  pub others : AllByRecursion IsStructure structures
  pub is : word ≡ in_a_row elements ++ record_type.EndStr ∷ (in_a_row structures ++ record_type.EndLib ∷ [])

record InElement (kind : ElementKind) (seen : Seen) (word : List RecordType) : Type 0 where
  pub inside : List RecordType
  pub rest : List RecordType
  pub contents : AllByRecursion (λ w. is_content w ≡ true) inside
  pub parts : PartsFrom kind seen inside
  pub behind : InStructure rest
  pub is : word ≡ inside ++ record_type.EndEl ∷ rest

abbrev HeadFrom : Bool → Bool → Bool → List RecordType → Type 0
HeadFrom false false false word = IsHead word
HeadFrom true false false word = word ≡ record_type.Units ∷ []
HeadFrom false true false word = (word ≡ []) ⊎ (word ≡ record_type.LibName ∷ [])
HeadFrom true true false word = word ≡ []
HeadFrom false true true word = word ≡ []
HeadFrom true true true word = word ≡ []
HeadFrom false false true word = word ≡ record_type.Units ∷ []
HeadFrom true false true word = word ≡ record_type.Units ∷ []

record InLibrary (named units structured : Bool) (word : List RecordType) : Type 0 where
  pub head : List RecordType
  pub structures : List (List RecordType)
  pub is_head : HeadFrom named units structured head
  pub each : AllByRecursion IsStructure structures
  pub is : word ≡ head ++ (in_a_row structures ++ record_type.EndLib ∷ [])

record BehindName (word : List RecordType) : Type 0 where
  pub rest : List RecordType
  pub behind : InStructure rest
  pub is : word ≡ record_type.StrName ∷ rest

record BehindHeader (word : List RecordType) : Type 0 where
  pub rest : List RecordType
  pub behind : InLibrary false false false rest
  pub is : word ≡ record_type.BgnLib ∷ rest

record BehindNothing (word : List RecordType) : Type 0 where
  pub rest : List RecordType
  pub behind : BehindHeader rest
  pub is : word ≡ record_type.Header ∷ rest

abbrev Behind : Place → List RecordType → Type 0
Behind Start word = BehindNothing word
Behind Opened word = BehindHeader word
Behind (Library named units structured) word = InLibrary named units structured word
Behind Naming word = BehindName word
Behind Structure word = InStructure word
Behind (Element kind seen) word = InElement kind seen word
Behind Ended word = word ≡ []

none_left : (place : Place) → place ≡ Ended → Behind place []
none_left place e = subst (λ (p : Place). Behind p []) (sym e) refl

regroup : (a b c : List RecordType) (m : RecordType) → a ++ m ∷ (b ++ c) ≡ ((a ++ m ∷ []) ++ b) ++ c
regroup a b c m = sym (ap (λ (t : List RecordType). t ++ c) (append_assoc a (m ∷ []) b) ∙ append_assoc a (m ∷ b) c)

element_in_front : (first : RecordType) (kind : ElementKind) (word : List RecordType) → element_begun first ≡ Some kind → InElement kind nothing_seen word → InStructure (first ∷ word)
element_in_front first kind word begins e =
    let s : InStructure e.rest = e.behind in
    let whole = regroup e.inside (in_a_row s.elements) (record_type.EndStr ∷ (in_a_row s.structures ++ record_type.EndLib ∷ [])) record_type.EndEl in
    record {
      elements = (first ∷ (e.inside ++ record_type.EndEl ∷ [])) ∷ s.elements;
      structures = s.structures;
      each = (record { first = first; kind = kind; inside = e.inside; begins = begins; contents = e.contents; parts = parts_of_all kind e.inside e.parts; is = refl }, s.each);
      others = s.others;
      is = ap (λ (t : List RecordType). first ∷ t) (e.is ∙ (ap (λ (t : List RecordType). e.inside ++ record_type.EndEl ∷ t) s.is ∙ whole));
    }

end_of_structure : (word : List RecordType) → InLibrary true true true word → InStructure (record_type.EndStr ∷ word)
end_of_structure word l =
    let is : word ≡ in_a_row l.structures ++ record_type.EndLib ∷ [] = l.is ∙ ap (λ (t : List RecordType). t ++ (in_a_row l.structures ++ record_type.EndLib ∷ [])) l.is_head in
    record { elements = []; structures = l.structures; each = tt; others = l.each; is = ap (λ (t : List RecordType). record_type.EndStr ∷ t) is }

content_in_front : (kind : ElementKind) (k : RecordType) (seen : Seen) (word : List RecordType) → is_content k ≡ true → is_allowed_inside kind seen k ≡ true → InElement kind (seen_with seen k) word → InElement kind seen (k ∷ word)
content_in_front kind k seen word c e b = record {
  inside = k ∷ b.inside;
  rest = b.rest;
  contents = (c, b.contents);
  parts = more_parts kind k seen b.inside c e b.parts;
  behind = b.behind;
  is = ap (λ (t : List RecordType). k ∷ t) b.is;
}

end_of_element : (kind : ElementKind) (seen : Seen) (word : List RecordType) → is_complete kind seen ≡ true → InStructure word → InElement kind seen (record_type.EndEl ∷ word)
end_of_element kind seen word e b = record { inside = []; rest = word; contents = tt; parts = of_complete kind seen e; behind = b; is = refl }

no_head : (named structured : Bool) → HeadFrom named true structured []
no_head true true = refl
no_head true false = refl
no_head false true = refl
no_head false false = inl refl

structure_in_front : (named units structured : Bool) (word : List RecordType) → units ≡ true → BehindName word → InLibrary named units structured (record_type.BgnStr ∷ word)
structure_in_front named false structured word u n = absurd (false_true u)
structure_in_front named true structured word u n =
    let s : InStructure n.rest = n.behind in
    record {
      head = [];
      structures = (record_type.BgnStr ∷ record_type.StrName ∷ (in_a_row s.elements ++ record_type.EndStr ∷ [])) ∷ s.structures;
      is_head = no_head named structured;
      each = (record { elements = s.elements; each = s.each; is = refl }, s.others);
      is = ap (λ (t : List RecordType). record_type.BgnStr ∷ t) (n.is ∙ ap (λ (t : List RecordType). record_type.StrName ∷ t) (s.is ∙ regroup (in_a_row s.elements) (in_a_row s.structures) (record_type.EndLib ∷ []) record_type.EndStr));
    }

end_of_library : (named units structured : Bool) (word : List RecordType) → units ≡ true → word ≡ [] → InLibrary named units structured (record_type.EndLib ∷ word)
end_of_library named false structured word u e = absurd (false_true u)
end_of_library named true structured word u e = record { head = []; structures = []; is_head = no_head named structured; each = tt; is = ap (λ (t : List RecordType). record_type.EndLib ∷ t) e }

with_head : (named units structured : Bool) (k : RecordType) (word : List RecordType) (before_n before_u before_s : Bool) (l : InLibrary named units structured word) → HeadFrom before_n before_u before_s (k ∷ l.head) → InLibrary before_n before_u before_s (k ∷ word)
with_head named units structured k word before_n before_u before_s l h = record { head = k ∷ l.head; structures = l.structures; is_head = h; each = l.each; is = ap (λ (t : List RecordType). k ∷ t) l.is }

name_in_front : (named units structured : Bool) (word : List RecordType) → (not named && not structured) ≡ true → InLibrary true units structured word → InLibrary named units structured (record_type.LibName ∷ word)
name_in_front true units structured word e l = absurd (false_true e)
name_in_front false units true word e l = absurd (false_true e)
name_in_front false false false word e l = with_head true false false record_type.LibName word false false false l (inr (inl (ap (λ (t : List RecordType). record_type.LibName ∷ t) l.is_head)))
name_in_front false true false word e l = with_head true true false record_type.LibName word false true false l (inr (ap (λ (t : List RecordType). record_type.LibName ∷ t) l.is_head))

units_in_front : (named units structured : Bool) (word : List RecordType) → not units ≡ true → InLibrary named true structured word → InLibrary named units structured (record_type.Units ∷ word)
units_in_front named true structured word e l = absurd (false_true e)
units_in_front true false true word e l = with_head true true true record_type.Units word true false true l (ap (λ (t : List RecordType). record_type.Units ∷ t) l.is_head)
units_in_front true false false word e l = with_head true true false record_type.Units word true false false l (ap (λ (t : List RecordType). record_type.Units ∷ t) l.is_head)
units_in_front false false true word e l = with_head false true true record_type.Units word false false true l (ap (λ (t : List RecordType). record_type.Units ∷ t) l.is_head)
units_in_front false false false word e l = with_head false true false record_type.Units word false false false l (go l.head l.is_head)
  where
    go : (head : List RecordType) → (head ≡ []) ⊎ (head ≡ record_type.LibName ∷ []) → IsHead (record_type.Units ∷ head)
    go head (inl none) = inl (ap (λ (t : List RecordType). record_type.Units ∷ t) none)
    go head (inr name) = inr (inr (ap (λ (t : List RecordType). record_type.Units ∷ t) name))

steps : (place : Place) (k : RecordType) (word : List RecordType) → is_allowed place k ≡ true → Behind (follows place k) word → Behind place (k ∷ word)
steps Start record_type.Header word e b = record { rest = word; behind = b; is = refl }
steps Start record_type.BgnLib word e b = absurd (false_true e)
steps Start record_type.LibName word e b = absurd (false_true e)
steps Start record_type.Units word e b = absurd (false_true e)
steps Start record_type.EndLib word e b = absurd (false_true e)
steps Start record_type.BgnStr word e b = absurd (false_true e)
steps Start record_type.StrName word e b = absurd (false_true e)
steps Start record_type.EndStr word e b = absurd (false_true e)
steps Start record_type.Boundary word e b = absurd (false_true e)
steps Start record_type.Path word e b = absurd (false_true e)
steps Start record_type.SRef word e b = absurd (false_true e)
steps Start record_type.ARef word e b = absurd (false_true e)
steps Start record_type.Text word e b = absurd (false_true e)
steps Start record_type.Node word e b = absurd (false_true e)
steps Start record_type.Box word e b = absurd (false_true e)
steps Start record_type.Layer word e b = absurd (false_true e)
steps Start record_type.DataType word e b = absurd (false_true e)
steps Start record_type.Width word e b = absurd (false_true e)
steps Start record_type.Xy word e b = absurd (false_true e)
steps Start record_type.SName word e b = absurd (false_true e)
steps Start record_type.ColRow word e b = absurd (false_true e)
steps Start record_type.TextType word e b = absurd (false_true e)
steps Start record_type.Presentation word e b = absurd (false_true e)
steps Start record_type.StringText word e b = absurd (false_true e)
steps Start record_type.STrans word e b = absurd (false_true e)
steps Start record_type.Mag word e b = absurd (false_true e)
steps Start record_type.Angle word e b = absurd (false_true e)
steps Start record_type.PathType word e b = absurd (false_true e)
steps Start record_type.PropAttr word e b = absurd (false_true e)
steps Start record_type.PropValue word e b = absurd (false_true e)
steps Start record_type.EndEl word e b = absurd (false_true e)
steps Opened record_type.Header word e b = absurd (false_true e)
steps Opened record_type.BgnLib word e b = record { rest = word; behind = b; is = refl }
steps Opened record_type.LibName word e b = absurd (false_true e)
steps Opened record_type.Units word e b = absurd (false_true e)
steps Opened record_type.EndLib word e b = absurd (false_true e)
steps Opened record_type.BgnStr word e b = absurd (false_true e)
steps Opened record_type.StrName word e b = absurd (false_true e)
steps Opened record_type.EndStr word e b = absurd (false_true e)
steps Opened record_type.Boundary word e b = absurd (false_true e)
steps Opened record_type.Path word e b = absurd (false_true e)
steps Opened record_type.SRef word e b = absurd (false_true e)
steps Opened record_type.ARef word e b = absurd (false_true e)
steps Opened record_type.Text word e b = absurd (false_true e)
steps Opened record_type.Node word e b = absurd (false_true e)
steps Opened record_type.Box word e b = absurd (false_true e)
steps Opened record_type.Layer word e b = absurd (false_true e)
steps Opened record_type.DataType word e b = absurd (false_true e)
steps Opened record_type.Width word e b = absurd (false_true e)
steps Opened record_type.Xy word e b = absurd (false_true e)
steps Opened record_type.SName word e b = absurd (false_true e)
steps Opened record_type.ColRow word e b = absurd (false_true e)
steps Opened record_type.TextType word e b = absurd (false_true e)
steps Opened record_type.Presentation word e b = absurd (false_true e)
steps Opened record_type.StringText word e b = absurd (false_true e)
steps Opened record_type.STrans word e b = absurd (false_true e)
steps Opened record_type.Mag word e b = absurd (false_true e)
steps Opened record_type.Angle word e b = absurd (false_true e)
steps Opened record_type.PathType word e b = absurd (false_true e)
steps Opened record_type.PropAttr word e b = absurd (false_true e)
steps Opened record_type.PropValue word e b = absurd (false_true e)
steps Opened record_type.EndEl word e b = absurd (false_true e)
steps (Library named units structured) record_type.Header word e b = absurd (false_true e)
steps (Library named units structured) record_type.BgnLib word e b = absurd (false_true e)
steps (Library named units structured) record_type.LibName word e b = name_in_front named units structured word e b
steps (Library named units structured) record_type.Units word e b = units_in_front named units structured word e b
steps (Library named units structured) record_type.EndLib word e b = end_of_library named units structured word e b
steps (Library named units structured) record_type.BgnStr word e b = structure_in_front named units structured word e b
steps (Library named units structured) record_type.StrName word e b = absurd (false_true e)
steps (Library named units structured) record_type.EndStr word e b = absurd (false_true e)
steps (Library named units structured) record_type.Boundary word e b = absurd (false_true e)
steps (Library named units structured) record_type.Path word e b = absurd (false_true e)
steps (Library named units structured) record_type.SRef word e b = absurd (false_true e)
steps (Library named units structured) record_type.ARef word e b = absurd (false_true e)
steps (Library named units structured) record_type.Text word e b = absurd (false_true e)
steps (Library named units structured) record_type.Node word e b = absurd (false_true e)
steps (Library named units structured) record_type.Box word e b = absurd (false_true e)
steps (Library named units structured) record_type.Layer word e b = absurd (false_true e)
steps (Library named units structured) record_type.DataType word e b = absurd (false_true e)
steps (Library named units structured) record_type.Width word e b = absurd (false_true e)
steps (Library named units structured) record_type.Xy word e b = absurd (false_true e)
steps (Library named units structured) record_type.SName word e b = absurd (false_true e)
steps (Library named units structured) record_type.ColRow word e b = absurd (false_true e)
steps (Library named units structured) record_type.TextType word e b = absurd (false_true e)
steps (Library named units structured) record_type.Presentation word e b = absurd (false_true e)
steps (Library named units structured) record_type.StringText word e b = absurd (false_true e)
steps (Library named units structured) record_type.STrans word e b = absurd (false_true e)
steps (Library named units structured) record_type.Mag word e b = absurd (false_true e)
steps (Library named units structured) record_type.Angle word e b = absurd (false_true e)
steps (Library named units structured) record_type.PathType word e b = absurd (false_true e)
steps (Library named units structured) record_type.PropAttr word e b = absurd (false_true e)
steps (Library named units structured) record_type.PropValue word e b = absurd (false_true e)
steps (Library named units structured) record_type.EndEl word e b = absurd (false_true e)
steps Naming record_type.Header word e b = absurd (false_true e)
steps Naming record_type.BgnLib word e b = absurd (false_true e)
steps Naming record_type.LibName word e b = absurd (false_true e)
steps Naming record_type.Units word e b = absurd (false_true e)
steps Naming record_type.EndLib word e b = absurd (false_true e)
steps Naming record_type.BgnStr word e b = absurd (false_true e)
steps Naming record_type.StrName word e b = record { rest = word; behind = b; is = refl }
steps Naming record_type.EndStr word e b = absurd (false_true e)
steps Naming record_type.Boundary word e b = absurd (false_true e)
steps Naming record_type.Path word e b = absurd (false_true e)
steps Naming record_type.SRef word e b = absurd (false_true e)
steps Naming record_type.ARef word e b = absurd (false_true e)
steps Naming record_type.Text word e b = absurd (false_true e)
steps Naming record_type.Node word e b = absurd (false_true e)
steps Naming record_type.Box word e b = absurd (false_true e)
steps Naming record_type.Layer word e b = absurd (false_true e)
steps Naming record_type.DataType word e b = absurd (false_true e)
steps Naming record_type.Width word e b = absurd (false_true e)
steps Naming record_type.Xy word e b = absurd (false_true e)
steps Naming record_type.SName word e b = absurd (false_true e)
steps Naming record_type.ColRow word e b = absurd (false_true e)
steps Naming record_type.TextType word e b = absurd (false_true e)
steps Naming record_type.Presentation word e b = absurd (false_true e)
steps Naming record_type.StringText word e b = absurd (false_true e)
steps Naming record_type.STrans word e b = absurd (false_true e)
steps Naming record_type.Mag word e b = absurd (false_true e)
steps Naming record_type.Angle word e b = absurd (false_true e)
steps Naming record_type.PathType word e b = absurd (false_true e)
steps Naming record_type.PropAttr word e b = absurd (false_true e)
steps Naming record_type.PropValue word e b = absurd (false_true e)
steps Naming record_type.EndEl word e b = absurd (false_true e)
steps Structure record_type.Header word e b = absurd (false_true e)
steps Structure record_type.BgnLib word e b = absurd (false_true e)
steps Structure record_type.LibName word e b = absurd (false_true e)
steps Structure record_type.Units word e b = absurd (false_true e)
steps Structure record_type.EndLib word e b = absurd (false_true e)
steps Structure record_type.BgnStr word e b = absurd (false_true e)
steps Structure record_type.StrName word e b = absurd (false_true e)
steps Structure record_type.EndStr word e b = end_of_structure word b
steps Structure record_type.Boundary word e b = element_in_front record_type.Boundary element.Boundary word refl b
steps Structure record_type.Path word e b = element_in_front record_type.Path element.Path word refl b
steps Structure record_type.SRef word e b = element_in_front record_type.SRef element.Other word refl b
steps Structure record_type.ARef word e b = element_in_front record_type.ARef element.Other word refl b
steps Structure record_type.Text word e b = element_in_front record_type.Text element.Text word refl b
steps Structure record_type.Node word e b = element_in_front record_type.Node element.Other word refl b
steps Structure record_type.Box word e b = element_in_front record_type.Box element.Other word refl b
steps Structure record_type.Layer word e b = absurd (false_true e)
steps Structure record_type.DataType word e b = absurd (false_true e)
steps Structure record_type.Width word e b = absurd (false_true e)
steps Structure record_type.Xy word e b = absurd (false_true e)
steps Structure record_type.SName word e b = absurd (false_true e)
steps Structure record_type.ColRow word e b = absurd (false_true e)
steps Structure record_type.TextType word e b = absurd (false_true e)
steps Structure record_type.Presentation word e b = absurd (false_true e)
steps Structure record_type.StringText word e b = absurd (false_true e)
steps Structure record_type.STrans word e b = absurd (false_true e)
steps Structure record_type.Mag word e b = absurd (false_true e)
steps Structure record_type.Angle word e b = absurd (false_true e)
steps Structure record_type.PathType word e b = absurd (false_true e)
steps Structure record_type.PropAttr word e b = absurd (false_true e)
steps Structure record_type.PropValue word e b = absurd (false_true e)
steps Structure record_type.EndEl word e b = absurd (false_true e)
steps (Element kind seen) record_type.Header word e b = absurd (false_true e)
steps (Element kind seen) record_type.BgnLib word e b = absurd (false_true e)
steps (Element kind seen) record_type.LibName word e b = absurd (false_true e)
steps (Element kind seen) record_type.Units word e b = absurd (false_true e)
steps (Element kind seen) record_type.EndLib word e b = absurd (false_true e)
steps (Element kind seen) record_type.BgnStr word e b = absurd (false_true e)
steps (Element kind seen) record_type.StrName word e b = absurd (false_true e)
steps (Element kind seen) record_type.EndStr word e b = absurd (false_true e)
steps (Element kind seen) record_type.Boundary word e b = absurd (false_true e)
steps (Element kind seen) record_type.Path word e b = absurd (false_true e)
steps (Element kind seen) record_type.SRef word e b = absurd (false_true e)
steps (Element kind seen) record_type.ARef word e b = absurd (false_true e)
steps (Element kind seen) record_type.Text word e b = absurd (false_true e)
steps (Element kind seen) record_type.Node word e b = absurd (false_true e)
steps (Element kind seen) record_type.Box word e b = absurd (false_true e)
steps (Element kind seen) record_type.Layer word e b = content_in_front kind record_type.Layer seen word refl e b
steps (Element kind seen) record_type.DataType word e b = content_in_front kind record_type.DataType seen word refl e b
steps (Element kind seen) record_type.Width word e b = content_in_front kind record_type.Width seen word refl e b
steps (Element kind seen) record_type.Xy word e b = content_in_front kind record_type.Xy seen word refl e b
steps (Element kind seen) record_type.SName word e b = content_in_front kind record_type.SName seen word refl e b
steps (Element kind seen) record_type.ColRow word e b = content_in_front kind record_type.ColRow seen word refl e b
steps (Element kind seen) record_type.TextType word e b = content_in_front kind record_type.TextType seen word refl e b
steps (Element kind seen) record_type.Presentation word e b = content_in_front kind record_type.Presentation seen word refl e b
steps (Element kind seen) record_type.StringText word e b = content_in_front kind record_type.StringText seen word refl e b
steps (Element kind seen) record_type.STrans word e b = content_in_front kind record_type.STrans seen word refl e b
steps (Element kind seen) record_type.Mag word e b = content_in_front kind record_type.Mag seen word refl e b
steps (Element kind seen) record_type.Angle word e b = content_in_front kind record_type.Angle seen word refl e b
steps (Element kind seen) record_type.PathType word e b = content_in_front kind record_type.PathType seen word refl e b
steps (Element kind seen) record_type.PropAttr word e b = content_in_front kind record_type.PropAttr seen word refl e b
steps (Element kind seen) record_type.PropValue word e b = content_in_front kind record_type.PropValue seen word refl e b
steps (Element kind seen) record_type.EndEl word e b = end_of_element kind seen word e b
steps Ended record_type.Header word e b = absurd (false_true e)
steps Ended record_type.BgnLib word e b = absurd (false_true e)
steps Ended record_type.LibName word e b = absurd (false_true e)
steps Ended record_type.Units word e b = absurd (false_true e)
steps Ended record_type.EndLib word e b = absurd (false_true e)
steps Ended record_type.BgnStr word e b = absurd (false_true e)
steps Ended record_type.StrName word e b = absurd (false_true e)
steps Ended record_type.EndStr word e b = absurd (false_true e)
steps Ended record_type.Boundary word e b = absurd (false_true e)
steps Ended record_type.Path word e b = absurd (false_true e)
steps Ended record_type.SRef word e b = absurd (false_true e)
steps Ended record_type.ARef word e b = absurd (false_true e)
steps Ended record_type.Text word e b = absurd (false_true e)
steps Ended record_type.Node word e b = absurd (false_true e)
steps Ended record_type.Box word e b = absurd (false_true e)
steps Ended record_type.Layer word e b = absurd (false_true e)
steps Ended record_type.DataType word e b = absurd (false_true e)
steps Ended record_type.Width word e b = absurd (false_true e)
steps Ended record_type.Xy word e b = absurd (false_true e)
steps Ended record_type.SName word e b = absurd (false_true e)
steps Ended record_type.ColRow word e b = absurd (false_true e)
steps Ended record_type.TextType word e b = absurd (false_true e)
steps Ended record_type.Presentation word e b = absurd (false_true e)
steps Ended record_type.StringText word e b = absurd (false_true e)
steps Ended record_type.STrans word e b = absurd (false_true e)
steps Ended record_type.Mag word e b = absurd (false_true e)
steps Ended record_type.Angle word e b = absurd (false_true e)
steps Ended record_type.PathType word e b = absurd (false_true e)
steps Ended record_type.PropAttr word e b = absurd (false_true e)
steps Ended record_type.PropValue word e b = absurd (false_true e)
steps Ended record_type.EndEl word e b = absurd (false_true e)

behind_of : (word : List RecordType) (place : Place) → Accepts place word Ended → Behind place word
behind_of [] place a = none_left place a
behind_of (k ∷ ks) place a = steps place k ks a.0 (behind_of ks (follows place k) a.1)

pub written_word : (word : List RecordType) → Accepts Start word Ended → IsLibraryWord word
written_word word a =
    let b : BehindNothing word = behind_of word Start a in
    let h : BehindHeader b.rest = b.behind in
    let l : InLibrary false false false h.rest = h.behind in
    record {
      head = l.head;
      structures = l.structures;
      is_head = l.is_head;
      each = l.each;
      is = b.is ∙ ap (λ (t : List RecordType). record_type.Header ∷ t) (h.is ∙ ap (λ (t : List RecordType). record_type.BgnLib ∷ t) l.is);
    }

-- ---- and back

accept_inside : (kind : ElementKind) (inside : List RecordType) (seen : Seen) (rest : List RecordType) → AllByRecursion (λ w. is_content w ≡ true) inside → PartsFrom kind seen inside → Accepts Structure rest Ended → Accepts (Element kind seen) (inside ++ record_type.EndEl ∷ rest) Ended
accept_inside kind [] seen rest c p a = (complete_of kind seen p, a)
accept_inside kind (k ∷ ks) seen rest c p a =
    let f = fewer_parts kind k seen ks c.0 p in
    (f.0, subst (λ (place : Place). Accepts place (ks ++ record_type.EndEl ∷ rest) Ended) (sym (stays_inside kind seen k c.0)) (accept_inside kind ks (seen_with seen k) rest c.1 f.1 a))

kind_is : (x y : ElementKind) → ◌≡◌ {A = Option ElementKind} (Some x) (Some y) → x ≡ y
kind_is x y e = cc

begins_there : (first : RecordType) (kind : ElementKind) → element_begun first ≡ Some kind → (is_allowed Structure first ≡ true) × (follows Structure first ≡ Element kind nothing_seen)
begins_there record_type.Header kind e = absurd cc
begins_there record_type.BgnLib kind e = absurd cc
begins_there record_type.LibName kind e = absurd cc
begins_there record_type.Units kind e = absurd cc
begins_there record_type.EndLib kind e = absurd cc
begins_there record_type.BgnStr kind e = absurd cc
begins_there record_type.StrName kind e = absurd cc
begins_there record_type.EndStr kind e = absurd cc
begins_there record_type.Boundary kind e = (refl, ap (λ (t : ElementKind). Element t nothing_seen) (kind_is element.Boundary kind e))
begins_there record_type.Path kind e = (refl, ap (λ (t : ElementKind). Element t nothing_seen) (kind_is element.Path kind e))
begins_there record_type.SRef kind e = (refl, ap (λ (t : ElementKind). Element t nothing_seen) (kind_is element.Other kind e))
begins_there record_type.ARef kind e = (refl, ap (λ (t : ElementKind). Element t nothing_seen) (kind_is element.Other kind e))
begins_there record_type.Text kind e = (refl, ap (λ (t : ElementKind). Element t nothing_seen) (kind_is element.Text kind e))
begins_there record_type.Node kind e = (refl, ap (λ (t : ElementKind). Element t nothing_seen) (kind_is element.Other kind e))
begins_there record_type.Box kind e = (refl, ap (λ (t : ElementKind). Element t nothing_seen) (kind_is element.Other kind e))
begins_there record_type.Layer kind e = absurd cc
begins_there record_type.DataType kind e = absurd cc
begins_there record_type.Width kind e = absurd cc
begins_there record_type.Xy kind e = absurd cc
begins_there record_type.SName kind e = absurd cc
begins_there record_type.ColRow kind e = absurd cc
begins_there record_type.TextType kind e = absurd cc
begins_there record_type.Presentation kind e = absurd cc
begins_there record_type.StringText kind e = absurd cc
begins_there record_type.STrans kind e = absurd cc
begins_there record_type.Mag kind e = absurd cc
begins_there record_type.Angle kind e = absurd cc
begins_there record_type.PathType kind e = absurd cc
begins_there record_type.PropAttr kind e = absurd cc
begins_there record_type.PropValue kind e = absurd cc
begins_there record_type.EndEl kind e = absurd cc

accept_elements : (elements : List (List RecordType)) (rest : List RecordType) → AllByRecursion IsElement elements → Accepts (Library true true true) rest Ended → Accepts Structure (in_a_row elements ++ record_type.EndStr ∷ rest) Ended
accept_elements [] rest each a = (refl, a)
accept_elements (w ∷ ws) rest each a = subst (λ (t : List RecordType). Accepts Structure t Ended) (sym whole) (b.0, subst (λ (place : Place). Accepts place (e.inside ++ record_type.EndEl ∷ (in_a_row ws ++ record_type.EndStr ∷ rest)) Ended) (sym b.1) (accept_inside e.kind e.inside nothing_seen (in_a_row ws ++ record_type.EndStr ∷ rest) e.contents (all_of_parts e.kind e.inside e.parts) (accept_elements ws rest each.1 a)))
  where
    e : IsElement w
    e = each.0

    b : (is_allowed Structure e.first ≡ true) × (follows Structure e.first ≡ Element e.kind nothing_seen)
    b = begins_there e.first e.kind e.begins

    whole : (w ++ in_a_row ws) ++ record_type.EndStr ∷ rest ≡ e.first ∷ (e.inside ++ record_type.EndEl ∷ (in_a_row ws ++ record_type.EndStr ∷ rest))
    whole = ap (λ (t : List RecordType). (t ++ in_a_row ws) ++ record_type.EndStr ∷ rest) e.is ∙ ap (λ (t : List RecordType). e.first ∷ t) (sym (regroup e.inside (in_a_row ws) (record_type.EndStr ∷ rest) record_type.EndEl))

accept_structures : (structures : List (List RecordType)) (named structured : Bool) → AllByRecursion IsStructure structures → Accepts (Library named true structured) (in_a_row structures ++ record_type.EndLib ∷ []) Ended
accept_structures [] named structured each = (refl, refl)
accept_structures (w ∷ ws) named structured each = subst (λ (t : List RecordType). Accepts (Library named true structured) t Ended) (sym whole) (refl, (refl, accept_elements s.elements (in_a_row ws ++ record_type.EndLib ∷ []) s.each (accept_structures ws true true each.1)))
  where
    s : IsStructure w
    s = each.0

    whole : (w ++ in_a_row ws) ++ record_type.EndLib ∷ [] ≡ record_type.BgnStr ∷ record_type.StrName ∷ (in_a_row s.elements ++ record_type.EndStr ∷ (in_a_row ws ++ record_type.EndLib ∷ []))
    whole = ap (λ (t : List RecordType). (t ++ in_a_row ws) ++ record_type.EndLib ∷ []) s.is ∙ ap (λ (t : List RecordType). record_type.BgnStr ∷ record_type.StrName ∷ t) (sym (regroup (in_a_row s.elements) (in_a_row ws) (record_type.EndLib ∷ []) record_type.EndStr))

accept_head : (head : List RecordType) (structures : List (List RecordType)) → IsHead head → AllByRecursion IsStructure structures → Accepts (Library false false false) (head ++ (in_a_row structures ++ record_type.EndLib ∷ [])) Ended
accept_head head structures (inl e) each = subst (λ (t : List RecordType). Accepts (Library false false false) (t ++ (in_a_row structures ++ record_type.EndLib ∷ [])) Ended) (sym e) (refl, accept_structures structures false false each)
accept_head head structures (inr (inl e)) each = subst (λ (t : List RecordType). Accepts (Library false false false) (t ++ (in_a_row structures ++ record_type.EndLib ∷ [])) Ended) (sym e) (refl, (refl, accept_structures structures true false each))
accept_head head structures (inr (inr e)) each = subst (λ (t : List RecordType). Accepts (Library false false false) (t ++ (in_a_row structures ++ record_type.EndLib ∷ [])) Ended) (sym e) (refl, (refl, accept_structures structures true false each))

pub accepted_word : (word : List RecordType) → IsLibraryWord word → Accepts Start word Ended
accepted_word word l = subst (λ (t : List RecordType). Accepts Start t Ended) (sym l.is) (refl, (refl, accept_head l.head l.structures l.is_head l.each))
